-- The checks that a verdict doesn't deny are those that every listed policy passes.
use Rattle.std.proofs.Common.{◌≡◌, ℕ, ◌≤◌, ◌-◌, ◌+◌, suc, Bool, true, false, cond, ◌&&◌, List, [], ◌∷◌, ◌++◌, map, take, Option, Some, None, refl, ap, subst, arith}
use Rattle.std.specs.Prelude.{find}
use Rattle.std.specs.List.{AllByRecursion}
use Rattle.mf_errno.specs.declared.errno.Errno.{Errno}
use Rattle.mf_errno.specs.declared.errno.Errno.TheVariants.{Success, Eperm, Edeadlk, Einval, Esrch, Enoent, Eacces}
use Rattle.mf_errno.specs.Same.{is_same}
use Rattle.mf_errno.proofs.Standing.{stands_in}
use Rattle.mf_item.specs.Item.{Item}
use Rattle.mf_compose.specs.Composition.{last_failure, composition}
use Rattle.mf_policy.specs.Registration.{Entry}
use Rattle.mf_list.specs.Asked.{answer_of, answers, asks_privilege, answer_to, composed, has_privilege, privilege_answer}
use Rattle.mf_plan.specs.Planned.{Plan}
use Rattle.mf_perform.specs.declared.verdict.Denial.{Denial}
use Rattle.mf_perform.specs.Verdict.{denial_at, denial_from, verdict_of}

-- All answers are success where their composition is

is_success : (e : Errno) → is_same Success e ≡ true → e ≡ Success
is_success Success same = refl
is_success e same = cc

not_standing : (e : Errno) (b : Bool) (rest : Errno) → (e ≡ Success → ⊥) → cond b e rest ≡ Success → rest ≡ Success
not_standing e true rest fails success = absurd (fails success)
not_standing e false rest fails success = success

none_failed : (answers : List Errno) → last_failure answers ≡ Success → AllByRecursion (λ answer. answer ≡ Success) answers
none_failed [] success = tt
none_failed (answer ∷ later) success = one (is_same Success (last_failure later)) refl (none_failed later) success
  where
    one : (b : Bool) → is_same Success (last_failure later) ≡ b → (last_failure later ≡ Success → AllByRecursion (λ e. e ≡ Success) later)
        → cond b answer (last_failure later) ≡ Success → AllByRecursion (λ e. e ≡ Success) (answer ∷ later)
    one true same rest here = (here, rest (is_success (last_failure later) same))
    one false other rest here =
        let same : is_same Success (last_failure later) ≡ true = ap (is_same Success) here in
        cc

all_succeed : (answers : List Errno) → composition answers ≡ Success → AllByRecursion (λ answer. answer ≡ Success) answers
unfolding composition
all_succeed answers success =
    none_failed answers
    (not_standing Eperm (stands_in Eperm answers) _ (λ same. cc)
    (not_standing Eacces (stands_in Eacces answers) _ (λ same. cc)
    (not_standing Enoent (stands_in Enoent answers) _ (λ same. cc)
    (not_standing Esrch (stands_in Esrch answers) _ (λ same. cc)
    (not_standing Einval (stands_in Einval answers) _ (λ same. cc)
    (not_standing Edeadlk (stands_in Edeadlk answers) _ (λ same. cc) success))))))

-- What a granted check tells of one policy

-- the policies grant the check together
abbrev pub IsGranted : List Entry → Item → Type 0
IsGranted specs item = (answer_to specs item).errno ≡ Success

composition_of : (specs : List Entry) (item : Item) (b : Bool) → (cond b (privilege_answer (composition (answers specs item)) (has_privilege specs item)) (composed specs item)).errno ≡ Success
    → composition (answers specs item) ≡ Success
composition_of specs item true granted =
    is_success (composition (answers specs item)) (one (is_same Success (composition (answers specs item))) (has_privilege specs item) granted)
  where
    one : (a b : Bool) → cond (a && b) Success Eperm ≡ Success → a ≡ true
    one true b success = refl
    one false b success = cc
composition_of specs item false granted = granted

found_answer : (item : Item) (test : Entry → Bool) (specs : List Entry) (entry : Entry) → AllByRecursion (λ answer. answer ≡ Success) (map (answer_of item) specs)
    → find test specs ≡ Some entry → answer_of item entry ≡ Success
found_answer item test [] entry all found = cc
found_answer item test (x ∷ specs) entry all found = one (test x) (found_answer item test specs entry all.1) found
  where
    one : (b : Bool) → (find test specs ≡ Some entry → answer_of item entry ≡ Success) → cond b (Some x) (find test specs) ≡ Some entry → answer_of item entry ≡ Success
    one true rest here =
        let is : x ≡ entry = cc in
        subst (λ (y : Entry). answer_of item y ≡ Success) is all.0
    one false rest later = rest later

-- each listed policy passes what is granted
pub granted_by : (test : Entry → Bool) (specs : List Entry) (entry : Entry) (item : Item) → find test specs ≡ Some entry → IsGranted specs item
    → answer_of item entry ≡ Success
granted_by test specs entry item found granted =
    found_answer item test specs entry (all_succeed (answers specs item) (composition_of specs item (asks_privilege item.op) granted)) found

-- Which checks passed

abbrev number_of : Option Denial → ℕ
number_of None = 0
number_of (Some d) = d.item

-- the number of the denial is at least n
after_start : (specs : List Entry) (n : ℕ) (items : List Item) (d : Denial) → denial_from specs n items ≡ Some d → n ≤ d.item
after_start specs n [] d denied = cc
after_start specs n (i ∷ later) d denied = one (answer_to specs i).errno (after_start specs (n + 1) later d) denied
  where
    here : (e : Errno) → Some (record { item = n; errno = e; by = (answer_to specs i).by }) ≡ Some d → n ≤ d.item
    here e same =
        let number : n ≡ d.item = ap number_of same in
        omega arith

    one : (e : Errno) → (denial_from specs (n + 1) later ≡ Some d → n + 1 ≤ d.item)
        → denial_at n e (answer_to specs i).by (denial_from specs (n + 1) later) ≡ Some d → n ≤ d.item
    one Success rest denied =
        let beyond : n + 1 ≤ d.item = rest denied in
        omega arith
    one e rest same = here e same

-- those before the denial's number, where they count from n, and all where there is no denial
abbrev pub before : ℕ → Option Denial → List Item → List Item
before n None items = items
before n (Some d) items = take (d.item - n) items

pub before_granted : (specs : List Entry) (n : ℕ) (items : List Item) (denied : Option Denial) → denial_from specs n items ≡ denied
    → AllByRecursion (IsGranted specs) (before n denied items)
before_granted specs n [] None none = tt
before_granted specs n [] (Some d) none = cc
before_granted specs n (i ∷ later) denied found = one (answer_to specs i).errno refl denied (before_granted specs (n + 1) later denied) found
  where
    -- the denied check itself isn't among them
    here : (e : Errno) (d : Denial) → Some (record { item = n; errno = e; by = (answer_to specs i).by }) ≡ Some d
        → AllByRecursion (IsGranted specs) (take (d.item - n) (i ∷ later))
    here e d same =
        let number : n ≡ d.item = ap number_of same in
        let first : d.item - n ≡ 0 = omega arith in
        rw first tt

    one : (e : Errno) → (answer_to specs i).errno ≡ e → (denied : Option Denial)
        → (denial_from specs (n + 1) later ≡ denied → AllByRecursion (IsGranted specs) (before (n + 1) denied later))
        → denial_at n e (answer_to specs i).by (denial_from specs (n + 1) later) ≡ denied → AllByRecursion (IsGranted specs) (before n denied (i ∷ later))
    one Success granted None rest found = (granted, rest found)
    one Success granted (Some d) rest found =
        let beyond : n + 1 ≤ d.item = after_start specs (n + 1) later d found in
        let one_more : d.item - n ≡ suc (d.item - (n + 1)) = omega arith in
        rw one_more (granted, rest found)
    one e failed None rest same = cc
    one e failed (Some d) rest same = here e d same

-- where no check is denied, each is granted
pub all_granted : (specs : List Entry) (plan : Plan) → (verdict_of specs plan).denied ≡ None → AllByRecursion (IsGranted specs) plan.items
all_granted specs plan none = before_granted specs 1 plan.items None none

-- so the last one is
pub last_granted : (specs : List Entry) (before : List Item) (item : Item) → AllByRecursion (IsGranted specs) (before ++ item ∷ []) → IsGranted specs item
last_granted specs [] item all = all.0
last_granted specs (i ∷ before) item all = last_granted specs before item all.1
