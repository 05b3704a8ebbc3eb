-- A call goes by the way to what it is about, and then by its row there.
use Rattle.std.proofs.Common.{◌≡◌, ◌||◌, not, ℕ, List, [], ◌∷◌, ◌++◌, Option, Some, None, Result, Ok, Err, map, option_map, refl, ap, sym, ◌∙◌, subst, if◌then◌else◌, Bool, true, false}
use Rattle.std.specs.Option.{ok_or}
use Rattle.std.specs.Prelude.{◌==◌}
use Rattle.std.specs.Result.{IsErrAnd}
use Rattle.mf_text.specs.Results.{and_then}
use Rattle.std.proofs.lemmas.List.Sums.{fold-append}
use Rattle.mf_elem.specs.declared.label.Request.{Request}
use Rattle.mf_errno.specs.declared.errno.Errno.{Errno}
use Rattle.mf_errno.specs.declared.errno.Errno.TheVariants as errno
use Rattle.mf_errno.specs.declared.module.Module.{Module}
use Rattle.mf_item.specs.Item.{Item}
use Rattle.mf_item.specs.declared.operation.CheckOp.TheVariants as op
use Rattle.mf_item.specs.declared.view.Kind.TheVariants as kinds
use Rattle.mf_objects.specs.declared.id.Id.{Id}
use Rattle.mf_objects.specs.Live.{Entities, cred_at}
use Rattle.mf_policy.specs.declared.settings.Change.{Change}
use Rattle.mf_policy.specs.Registration.{is_listed}
use Rattle.mf_calls.specs.declared.script.Call.{Call}
use Rattle.mf_calls.specs.declared.script.Call.TheVariants as call
use Rattle.mf_plan.specs.declared.outline.Check.{Check}
use Rattle.mf_plan.specs.declared.state.State.{State}
use Rattle.mf_plan.specs.Checks.{on}
use Rattle.mf_plan.specs.Effect.{relabelled_by}
use Rattle.mf_plan.specs.Outline.{item_asking, item_of}
use Rattle.mf_plan.specs.Path.{found_at, lookup_along}
use Rattle.mf_plan.specs.Plan.{row_for}
use Rattle.mf_plan.specs.Relabels.{claimed_in}
use Rattle.mf_plan.specs.Row.{Row, ask_if, refuse_if, through}
use Rattle.mf_plan.specs.Rows.{about_of}
use Rattle.mf_plan.specs.Views.{entity_named}
use Rattle.mf_plan.specs.Ways.{At, Way, along, carrying, setting_found, straight, then_way, way_to}
use Rattle.mf_audit.specs.declared.done.Done.{Done}
use Rattle.mf_audit.specs.declared.walk.Walk.{Walk}
use Rattle.mf_audit.specs.Asking.{asking, asking_all}
use Rattle.mf_audit.specs.Changing.{changing_by}
use Rattle.mf_audit.specs.Ends.{EndsBy, Goes, Leads}

-- what a row's effect asks of a label
abbrev pub asked_by : Row → Option Request
asked_by row = option_map (λ asked. asked.1) (relabelled_by row.effect)

map_append : {A B : Type 0} (f : A → B) (xs ys : List A) → map f (xs ++ ys) ≡ map f xs ++ map f ys
map_append f [] ys = refl
map_append {B = B} f (x ∷ xs) ys = ap (λ (rest : List B). f x ∷ rest) (map_append f xs ys)

append_nil : {A : Type 0} (xs : List A) → xs ++ [] ≡ xs
append_nil [] = refl
append_nil {A = A} (x ∷ xs) = ap (λ (rest : List A). x ∷ rest) (append_nil xs)

module _ (s : State) (task : List ℕ) (me : Id) where
  -- a row with these checks before its own
  abbrev behind : List Check → Row → Row
  behind checks row = record row { checks = checks ++ row.checks }

  same_end : (checks : List Check) (row : Row) (end : Result Done Errno) → EndsBy s task me row end → EndsBy s task me (behind checks row) end
  same_end checks row (Ok done) ends = ends
  same_end checks row (Err e) ends = ends

  -- the checks before, which are as they are without what the row asks of a label, and then the row
  pub goes_behind : (checks : List Check) (row : Row) (old mid new : Walk) (end : Result Done Errno)
      → mid ≡ asking_all s.specs me old (map (item_of s.objects) checks)
      → map (item_asking s.objects (asked_by row)) checks ≡ map (item_of s.objects) checks
      → Goes s task me row mid new end → Goes s task me (behind checks row) old new end
  goes_behind checks row old mid new end before same goes =
      let item : Check → Item = item_asking s.objects (asked_by row) in
      let items : List Check → List Item = map item in
      record {
        walk =
            goes.walk
            ∙ ap (λ (w : Walk). asking_all s.specs me w (items row.checks)) (before ∙ ap (asking_all s.specs me old) (sym same))
            ∙ sym (fold-append (asking s.specs me) old (items checks) (items row.checks))
            ∙ ap (asking_all s.specs me old) (sym (map_append item checks row.checks));
        ends = same_end checks row end goes.ends;
        sound = goes.sound;
      }

  -- a way that leads to something, and the row there
  pub goes_there : {A : Type 0} (checks : List Check) (there : Result A Errno) (row : A → Row) (found : A) (old mid new : Walk) (end : Result Done Errno)
      → Leads s me (record { checks = checks; there = there }) old mid (Ok found)
      → map (item_asking s.objects (asked_by (row found))) checks ≡ map (item_of s.objects) checks
      → Goes s task me (row found) mid new end
      → Goes s task me (through (record { checks = checks; there = there }) row) old new end
  goes_there {A = A} checks there row found old mid new end leads same goes =
      subst (λ (t : Result A Errno). Goes s task me (through (record { checks = checks; there = t }) row) old new end) leads.leads
      (goes_behind checks (row found) old mid new end leads.walk same goes)

  -- a way that leads to nothing
  pub goes_nowhere : {A : Type 0} (checks : List Check) (there : Result A Errno) (row : A → Row) (e : Errno) (old new : Walk)
      → Leads s me (record { checks = checks; there = there }) old new (Err e)
      → Goes s task me (through (record { checks = checks; there = there }) row) old new (Err e)
  goes_nowhere {A = A} checks there row e old new leads =
      subst (λ (t : Result A Errno). Goes s task me (through (record { checks = checks; there = t }) row) old new (Err e)) leads.leads
      (record { walk = leads.walk ∙ ap (λ (cs : List Check). asking_all s.specs me old (map (item_of s.objects) cs)) (sym (append_nil checks)); ends = refl; sound = tt })

  -- the same, where the errno is handed on
  pub goes_nowhere_by : {A : Type 0} (checks : List Check) (there : Result A Errno) (row : A → Row) (e : Errno) (old new : Walk) (end : Result Done Errno)
      → Leads s me (record { checks = checks; there = there }) old new (Err e)
      → IsErrAnd end (λ given. given ≡ e)
      → Goes s task me (through (record { checks = checks; there = there }) row) old new end
  goes_nowhere_by checks there row e old new (Ok done) leads err = absurd err
  goes_nowhere_by checks there row e old new (Err given) leads err =
      subst (λ (x : Errno). Goes s task me (through (record { checks = checks; there = there }) row) old new (Err x)) (sym err)
      (goes_nowhere checks there row e old new leads)

  -- a row behind a check that is made where the test holds
  pub asked_if : (test : Bool) (check : Check) (row : Row) (old mid new : Walk) (end : Result Done Errno)
      → asked_by row ≡ None
      → mid ≡ (if test then asking s.specs me old (item_of s.objects check) else old)
      → Goes s task me row mid new end → Goes s task me (ask_if test check row) old new end
  asked_if true check row old mid new end none is goes =
      goes_behind (check ∷ []) row old mid new end is (ap (λ (asked : Option Request). item_asking s.objects asked check ∷ []) none) goes
  asked_if false check row old mid new end none is goes = goes_behind [] row old mid new end is refl goes

  -- a row that isn't refused
  pub not_refused : (test : Bool) (e : Errno) (row : Row) (old new : Walk) (end : Result Done Errno) → test ≡ false
      → Goes s task me row old new end → Goes s task me (refuse_if test e row) old new end
  not_refused false e row old new end is goes = goes_behind [] row old old new end refl refl goes
  not_refused true e row old new end is goes = cc

-- No look-up is a relabel: it is asked for as without a request.

lookups_same : (objects : Entities) (me : Id) (request : Request) (dirs : List Id)
    → map (item_asking objects (Some request)) (map (on me op.VnodeLookup) dirs) ≡ map (item_of objects) (map (on me op.VnodeLookup) dirs)
unfolding item_asking
lookups_same objects me request [] = refl
lookups_same objects me request (dir ∷ dirs) =
    ap (λ (items : List Item). item_asking objects None (on me op.VnodeLookup dir) ∷ items) (lookups_same objects me request dirs)

claim_same : (objects : Entities) (request : Request) (claim : Option Request) (way : Way Id)
    → map (item_asking objects (Some request)) way.checks ≡ map (item_of objects) way.checks
    → map (item_asking objects (Some request)) (then_way (ok_or claim errno.Einval) (λ r. carrying r way)).checks
    ≡ map (item_of objects) (then_way (ok_or claim errno.Einval) (λ r. carrying r way)).checks
claim_same objects request None way same = refl
claim_same objects request (Some r) way same = same

module _ (s : State) (task : List ℕ) (me : Id) where
  -- The table.
  same_items : (c : Call) (found : At (about_of s task me c).place)
      → map (item_asking s.objects (asked_by ((about_of s task me c).row found))) (way_to s me (about_of s task me c).place).checks
      ≡ map (item_of s.objects) (way_to s me (about_of s task me c).place).checks
  same_items (call.Setpmac text) found = claim_same s.objects found.0 (claimed_in s.specs kinds.Process text) (straight (Ok me)) refl
  same_items (call.Setfmac text path) found =
      claim_same s.objects found.0 (claimed_in s.specs kinds.Vnode text) (along me found_at (lookup_along s.objects path))
      (lookups_same s.objects me found.0 (lookup_along s.objects path).lookups)
  same_items (call.Setpipemac text name) found =
      claim_same s.objects found.0 (claimed_in s.specs kinds.Pipe text) (straight (ok_or (entity_named s.objects kinds.Pipe name) errno.Enoent)) refl
  same_items (call.Setsockmac text name) found =
      claim_same s.objects found.0 (claimed_in s.specs kinds.Socket text) (straight (ok_or (entity_named s.objects kinds.Socket name) errno.Enoent)) refl
  same_items other found = refl

  -- A call that has found what it is about, and one that hasn't

  pub found : (c is : Call) (what : At (about_of s task me is).place) (old mid new : Walk) (end : Result Done Errno) → c ≡ is
      → Leads s me (way_to s me (about_of s task me is).place) old mid (Ok what)
      → Goes s task me ((about_of s task me is).row what) mid new end
      → Goes s task me (row_for s task c me) old new end
  found c is what old mid new end same leads goes =
      subst (λ (c : Call). Goes s task me (row_for s task c me) old new end) (sym same)
      (goes_there s task me (way_to s me (about_of s task me is).place).checks (way_to s me (about_of s task me is).place).there (about_of s task me is).row
      what old mid new end leads (same_items is what) goes)

  missed_with : (c is : Call) (e : Errno) (old new : Walk) → c ≡ is
      → Leads s me (way_to s me (about_of s task me is).place) old new (Err e)
      → Goes s task me (row_for s task c me) old new (Err e)
  missed_with c is e old new same leads =
      subst (λ (c : Call). Goes s task me (row_for s task c me) old new (Err e)) (sym same)
      (goes_nowhere s task me (way_to s me (about_of s task me is).place).checks (way_to s me (about_of s task me is).place).there (about_of s task me is).row
      e old new leads)

  pub missed : (c is : Call) (e : Errno) (old new : Walk) (end : Result Done Errno) → c ≡ is
      → Leads s me (way_to s me (about_of s task me is).place) old new (Err e)
      → IsErrAnd end (λ given. given ≡ e)
      → Goes s task me (row_for s task c me) old new end
  missed c is e old new (Ok done) same leads err = absurd err
  missed c is e old new (Err given) same leads err =
      subst (λ (x : Errno). Goes s task me (row_for s task c me) old new (Err x)) (sym err) (missed_with c is e old new same leads)

  -- a call goes as the one that it is
  pub by_row : (c is : Call) (old new : Walk) (end : Result Done Errno) → c ≡ is
      → Goes s task me (row_for s task is me) old new end → Goes s task me (row_for s task c me) old new end
  by_row c is old new end same goes = subst (λ (c : Call). Goes s task me (row_for s task c me) old new end) (sym same) goes

-- Ways

-- no check is on it
pub at_once : {A : Type 0} (s : State) (me : Id) (there end : Result A Errno) (walk : Walk) → end ≡ there → Leads s me (straight there) walk walk end
at_once s me there end walk is = record { walk = refl; leads = is }

pub without_checks : {A : Type 0} (s : State) (me : Id) (way : Way A) (walk : Walk) (end : Result A Errno) → way.checks ≡ [] → end ≡ way.there → Leads s me way walk walk end
without_checks s me way walk end none is =
    record { walk = ap (λ (cs : List Check). asking_all s.specs me walk (map (item_of s.objects) cs)) (sym none); leads = is }

-- what is asked of the caller itself
pub itself : (s : State) (me : Id) (claim : Option Request) (end : Result Request Errno) (walk : Walk) → end ≡ ok_or claim errno.Einval
    → Leads s me (then_way (ok_or claim errno.Einval) (λ r. carrying r (straight (Ok me)))) walk walk (and_then end (λ r. Ok (r, me)))
itself s me claim end walk is =
    subst (λ (e : Result Request Errno). Leads s me (then_way (ok_or claim errno.Einval) (λ r. carrying r (straight (Ok me)))) walk walk (and_then e (λ r. Ok (r, me)))) (sym is)
    (by_claim claim)
  where
    by_claim : (claim : Option Request)
        → Leads s me (then_way (ok_or claim errno.Einval) (λ r. carrying r (straight (Ok me)))) walk walk (and_then (ok_or claim errno.Einval) (λ r. Ok (r, me)))
    by_claim None = record { walk = refl; leads = refl }
    by_claim (Some r) = record { walk = refl; leads = refl }

-- Whose setting is changed, and how

abbrev pub with_change : Option Change → Module → Result (Module × Change) Errno
with_change change m = and_then (ok_or change errno.Einval) (λ change. Ok (m, change))

setting_is : (s : State) (me : Id) (tunable : Bool) (m : Option Module) (change : Option Change)
    → setting_found s me tunable m change ≡ and_then (changing_by s me tunable m) (with_change change)
setting_is s me tunable m change = by_root (not ((cred_at s.objects me).uid == 0) || tunable) m
  where
    by_list : (m : Module) (b : Bool)
        → (if not b then Err errno.Enoent else with_change change m) ≡ and_then (if b then Ok m else Err errno.Enoent) (with_change change)
    by_list m true = refl
    by_list m false = refl

    by_root : (b : Bool) (m : Option Module)
        → (if b then Err errno.Eperm else and_then (ok_or m errno.Enoent) (λ m. if not (is_listed m s.specs) then Err errno.Enoent else with_change change m))
        ≡ and_then (if b then Err errno.Eperm else and_then (ok_or m errno.Enoent) (λ m. if is_listed m s.specs then Ok m else Err errno.Enoent)) (with_change change)
    by_root true m = refl
    by_root false None = refl
    by_root false (Some m) = by_list m (is_listed m s.specs)

-- the way to a setting, which a process may change so, or not
pub setting_there : (s : State) (me : Id) (tunable : Bool) (m : Option Module) (change : Option Change) (may : Result Module Errno) (walk : Walk)
    → may ≡ changing_by s me tunable m → Leads s me (straight (setting_found s me tunable m change)) walk walk (and_then may (with_change change))
setting_there s me tunable m change may walk is =
    at_once s me (setting_found s me tunable m change) (and_then may (with_change change)) walk
    (ap (λ (r : Result Module Errno). and_then r (with_change change)) is ∙ sym (setting_is s me tunable m change))
