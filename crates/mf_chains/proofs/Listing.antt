-- The rows of the table of chains.
use Rattle.std.proofs.Common.{◌≡◌, ℕ, ◌<◌, ◌≤◌, ◌+◌, zero, suc, Bool, true, false, cond, List, [], ◌∷◌, ◌++◌, ◌-◌, length, take, drop, get_or, map, reverse, Option, Some, Result, Ok, Err, inl, inr, refl, ap, sym, ◌∙◌, subst, arith, append-nil}
use Rattle.std.specs.Prelude.{find, IfErr}
use Rattle.std.specs.Result.{IsErrAnd}
use Rattle.std.specs.List.{AllByRecursion, flat_map, sum_by}
use Rattle.std.specs.Option.{option_map_or}
use Rattle.std.proofs.lemmas.List.{map-append, take-append-drop, take_more}
use Rattle.std.proofs.lemmas.List.Sums.{sum_by-append, sum_by-cons, sum_by-take-le}
use Rattle.std.proofs.lemmas.Grind.{flat_map-append}
use Rattle.mf_errno.specs.Same.{same_module}
use Rattle.mf_policy.specs.declared.registration.Registration.{Registration}
use Rattle.mf_calls.specs.declared.script.Script.{Script}
use Rattle.mf_core.specs.declared.history.History.{History}
use Rattle.mf_flow.specs.declared.table.Row.{Row}
use Rattle.mf_flow.specs.Table.{sourced, table_of}
use Rattle.mf_chains.specs.declared.chain.ChainRow.{ChainRow}
use Rattle.mf_chains.specs.declared.happening.Occurrence.{Occurrence}
use Rattle.mf_chains.specs.declared.pasts.Past.{Past}
use Rattle.mf_chains.specs.Happenings.{happenings_of}
use Rattle.mf_chains.specs.declared.table.Keeper.{Keeper}
use Rattle.mf_chains.specs.Histories.{past_of}
use Rattle.mf_chains.specs.Keepers.{HasLinks, IsKeeper, KeepsAll, rows_by, rows_of}
use Rattle.mf_chains.specs.Kept.{additions, kept}
use Rattle.mf_chains.specs.Table.{AreTooMany, all_additions, chain_row, chain_rows, chain_table, steps_in}
use Rattle.mf_chains.specs.declared.chain.Chain.{Chain}
use Rattle.mf_chains.specs.declared.marks.Mark.{Mark}
use Rattle.mf_chains.specs.declared.limits.TheConstants.{CHAIN_LIMIT}
use Rattle.mf_chains.specs.Marks.{kept_in, kept_of}

-- one more of a list that is gone over

taken_more : {A : Type 0} (xs : List A) (n : ℕ) (x d : A) → n < length xs → x ≡ get_or xs n d → take (n + 1) xs ≡ take n xs ++ x ∷ []
taken_more {A} xs n x d within is = take_more xs n d within ∙ ap (λ (y : A). take n xs ++ y ∷ []) (sym is)

pub sum_more : {A : Type 0} (f : A → ℕ) (xs : List A) (n : ℕ) (x d : A) → n < length xs → x ≡ get_or xs n d → sum_by f (take (n + 1) xs) ≡ sum_by f (take n xs) + f x
sum_more f xs n x d within is =
    omega (arith, ap (sum_by f) (taken_more xs n x d within is), sum_by-append f (take n xs) (x ∷ []), sum_by-cons f x [])

-- where one more is too much, all are
pub sum_over : {A : Type 0} (f : A → ℕ) (xs : List A) (n : ℕ) (x d : A) (left all : ℕ) → n < length xs → x ≡ get_or xs n d → left + sum_by f (take n xs) ≡ all → left < f x
    → all < sum_by f xs
sum_over f xs n x d left all within is so_far over = omega (arith, sum_more f xs n x d within is, sum_by-take-le f xs (n + 1), so_far, over)

pub flat_more : {A B : Type 0} (f : A → List B) (xs : List A) (n : ℕ) (x d : A) → n < length xs → x ≡ get_or xs n d → flat_map f (take (n + 1) xs) ≡ flat_map f (take n xs) ++ f x
flat_more {A} {B} f xs n x d within is =
    ap (flat_map f) (taken_more xs n x d within is) ∙ flat_map-append f (take n xs) (x ∷ []) ∙ ap (λ (ys : List B). flat_map f (take n xs) ++ ys) (append-nil (f x))

pub map_more : {A B : Type 0} (f : A → B) (xs : List A) (n : ℕ) (x d : A) → n < length xs → x ≡ get_or xs n d → map f (take (n + 1) xs) ≡ map f (take n xs) ++ f x ∷ []
map_more f xs n x d within is = ap (map f) (taken_more xs n x d within is) ∙ map-append f (take n xs) (x ∷ [])

pub steps_append : (rows others : List ChainRow) → steps_in (rows ++ others) ≡ steps_in rows + steps_in others
steps_append rows others = sum_by-append (λ (row : ChainRow). length row.chain.steps) rows others

-- the steps of the rows of some, and of all
pub steps_of_all : {A : Type 0} (f : A → List ChainRow) (xs : List A) (n : ℕ) → steps_in (flat_map f (take n xs)) ≤ steps_in (flat_map f xs)
steps_of_all {A} f xs n =
    omega (
      arith,
      ap (λ (ys : List A). steps_in (flat_map f ys)) (take-append-drop n xs),
      ap steps_in (flat_map-append f (take n xs) (drop n xs)),
      steps_append (flat_map f (take n xs)) (flat_map f (drop n xs)),
    )

pub all_at : {A : Type 0} (P : A → Type 0) (xs : List A) (n : ℕ) (x d : A) → n < length xs → x ≡ get_or xs n d → AllByRecursion P xs → P x
all_at P [] n x d within is all = absurd (omega (arith, within))
all_at P (y ∷ xs) zero x d within is all = subst P (sym is) all.0
all_at P (y ∷ xs) (suc n) x d within is all = all_at P xs n x d (omega arith) is all.1

pub found_at : {A : Type 0} (P : A → Type 0) (xs : List A) (test : A → Bool) (x : A) → find test xs ≡ Some x → AllByRecursion P xs → P x
found_at P [] test x found all = cc
found_at {A} P (y ∷ xs) test x found all = one (test y) (λ later. found_at P xs test x later all.1) found
  where
    one : (b : Bool) → (find test xs ≡ Some x → P x) → cond b (Some y) (find test xs) ≡ Some x → P x
    one true rest here = let same : y ≡ x = cc in subst P same all.0
    one false rest later = rest later

-- what is kept for a policy gives the rows of the table

module _ (s : Script) (h : History) (row : Row) where
  same_rows : (k : Keeper) → IsKeeper s h k → rows_of row k ≡ map (chain_row row) (kept (past_of s h k.registration) row.id)
  same_rows k is = ap (map (chain_row row)) (is.1 row.id)

  rows_found : (ks : List Keeper) → AllByRecursion (IsKeeper s h) ks
      → rows_by ks row ≡ map (chain_row row) (option_map_or (λ r. kept (past_of s h r) row.id) (find (λ r. same_module row.module r.module) (map (λ (k : Keeper). k.registration) ks)) [])
  rows_found [] all = refl
  rows_found (k ∷ ks) all = one (same_module row.module k.registration.module) (rows_found ks all.1)
    where
      found : Option Keeper
      found = find (λ k. same_module row.module k.registration.module) ks

      other : Option Registration
      other = find (λ r. same_module row.module r.module) (map (λ (k : Keeper). k.registration) ks)

      one : (b : Bool) → option_map_or (rows_of row) found [] ≡ map (chain_row row) (option_map_or (λ r. kept (past_of s h r) row.id) other [])
          → option_map_or (rows_of row) (cond b (Some k) found) [] ≡ map (chain_row row) (option_map_or (λ r. kept (past_of s h r) row.id) (cond b (Some k.registration) other) [])
      one true rest = same_rows k all.0
      one false rest = rest

  pub rows_are : (ks : List Keeper) → map (λ (k : Keeper). k.registration) ks ≡ sourced h.boots → AllByRecursion (IsKeeper s h) ks → rows_by ks row ≡ chain_rows s h row
  rows_are ks are all =
      rows_found ks all
      ∙ ap (λ (rs : List Registration). map (chain_row row) (option_map_or (λ r. kept (past_of s h r) row.id) (find (λ r. same_module row.module r.module) rs) [])) are

pub table_rows : (s : Script) (h : History) (ks : List Keeper) (rows : List Row) → map (λ (k : Keeper). k.registration) ks ≡ sourced h.boots → AllByRecursion (IsKeeper s h) ks
    → flat_map (rows_by ks) rows ≡ flat_map (chain_rows s h) rows
table_rows s h ks [] are all = refl
table_rows s h ks (row ∷ rows) are all =
    ap (λ (xs : List ChainRow). xs ++ flat_map (rows_by ks) rows) (rows_are s h row ks are all) ∙ ap (λ (xs : List ChainRow). chain_rows s h row ++ xs) (table_rows s h ks rows are all)

pub all_linked : (s : Script) (h : History) (ks : List Keeper) → AllByRecursion (IsKeeper s h) ks → AllByRecursion HasLinks ks
all_linked s h [] all = tt
all_linked s h (k ∷ ks) all = (all.0.0, all_linked s h ks all.1)

-- the steps of the rows of a party

steps_marks : (links : List Chain) (row : Row) (marks : List Mark) → steps_in (map (chain_row row) (kept_in links marks)) ≡ sum_by (λ mark. length (kept_of links mark).chain.steps) marks
steps_marks links row [] = refl
steps_marks links row (mark ∷ marks) =
    omega (
      arith,
      steps_marks links row marks,
      sum_by-cons (λ (x : Mark). length (kept_of links x).chain.steps) mark marks,
      sum_by-cons (λ (r : ChainRow). length r.chain.steps) (chain_row row (kept_of links mark)) (map (chain_row row) (kept_in links marks)),
    )

pub over_rows : (links : List Chain) (row : Row) (marks : List Mark) (n : ℕ) (mark d : Mark) (left all : ℕ) → n < length marks → mark ≡ get_or marks n d
    → left + steps_in (map (chain_row row) (kept_in links (take n marks))) ≡ all → left < length (kept_of links mark).chain.steps → all < steps_in (map (chain_row row) (kept_in links marks))
over_rows links row marks n mark d left all within is so_far over =
    let f : Mark → ℕ = λ mark. length (kept_of links mark).chain.steps in
    let here : left + sum_by f (take n marks) ≡ all = omega (arith, so_far, steps_marks links row (take n marks)) in
    omega (arith, sum_over f marks n mark d left all within is here over, steps_marks links row marks)

pub over_table : (ks : List Keeper) (table : List Row) (n : ℕ) (row d : Row) (left all : ℕ) → n < length table → row ≡ get_or table n d
    → left + steps_in (flat_map (rows_by ks) (take n table)) ≡ all → left < steps_in (rows_by ks row) → all < steps_in (flat_map (rows_by ks) table)
over_table ks table n row d left all within is so_far over =
    let first : List ChainRow = flat_map (rows_by ks) (take n table) in
    omega (arith, so_far, over, ap steps_in (flat_more (rows_by ks) table n row d within is), steps_append first (rows_by ks row), steps_of_all (rows_by ks) table (n + 1))

pub fault_also : {X Y : Type 0} (r : Result X Y) (P Q : Y → Type 0) → ((y : Y) → P y → Q y) → IfErr r P → IfErr r Q
fault_also (Ok x) P Q gives one = tt
fault_also (Err y) P Q gives one = gives y one

pub not_both : (s : Script) (h : History) → all_additions s h ≤ CHAIN_LIMIT → steps_in (chain_table s h) ≤ CHAIN_LIMIT → AreTooMany s h → ⊥
not_both s h few some (inl over) = omega (arith, few, over)
not_both s h few some (inr over) = omega (arith, some, over)

-- the whole table

pub whole_rows : (s : Script) (h : History) (booted : List Registration) (ks ks' : List Keeper) (table : List Row) → booted ≡ sourced h.boots → ks' ≡ ks
    → map (λ (k : Keeper). k.registration) ks ≡ booted → AllByRecursion (IsKeeper s h) ks → table ≡ table_of s h → flat_map (rows_by ks') table ≡ chain_table s h
whole_rows s h booted ks ks' table are same registered all is =
    ap (λ (xs : List Keeper). flat_map (rows_by xs) table) same ∙ ap (flat_map (rows_by ks)) is ∙ table_rows s h ks (table_of s h) (registered ∙ are) all

pub few_all : (s : Script) (h : History) (booted : List Registration) (rows : List ChainRow) → booted ≡ sourced h.boots → sum_by (λ r. additions (past_of s h r)) booted ≤ CHAIN_LIMIT
    → rows ≡ chain_table s h → steps_in rows ≤ CHAIN_LIMIT → AreTooMany s h → ⊥
few_all s h booted rows are few is some =
    not_both s h (subst (λ (rs : List Registration). sum_by (λ r. additions (past_of s h r)) rs ≤ CHAIN_LIMIT) are few) (subst (λ (xs : List ChainRow). steps_in xs ≤ CHAIN_LIMIT) is some)

pub many_steps : (s : Script) (h : History) (rows : List ChainRow) → rows ≡ chain_table s h → CHAIN_LIMIT < steps_in rows → AreTooMany s h
many_steps s h rows is over = inr (subst (λ (xs : List ChainRow). CHAIN_LIMIT < steps_in xs) is over)

pub many_additions : (s : Script) (h : History) (booted : List Registration) → booted ≡ sourced h.boots → CHAIN_LIMIT < sum_by (λ r. additions (past_of s h r)) booted → AreTooMany s h
many_additions s h booted are over = inl (subst (λ (rs : List Registration). CHAIN_LIMIT < sum_by (λ r. additions (past_of s h r)) rs) are over)

pub err_and_also : {X Y : Type 0} (r : Result X Y) (P Q : Y → Type 0) → ((y : Y) → P y → Q y) → IsErrAnd r P → IfErr r Q
err_and_also (Ok x) P Q gives one = tt
err_and_also (Err y) P Q gives one = gives y one

-- the keepers of some policies, and of one more

all_append : {A : Type 0} (P : A → Type 0) (xs : List A) (x : A) → AllByRecursion P xs → P x → AllByRecursion P (xs ++ x ∷ [])
all_append P [] x all one = (one, tt)
all_append P (y ∷ xs) x all one = (all.0, all_append P xs x all.1 one)

module _ (s : Script) (h : History) where
  abbrev pub added : Registration → ℕ
  added r = additions (past_of s h r)

  -- so many have their keepers, and so many elements may still come into sets
  pub record HasKeepers (booted : List Registration) (n most : ℕ) (ks : List Keeper) : Type 0 where
    pub registrations : map (λ (k : Keeper). k.registration) ks ≡ take n booted
    pub keepers : AllByRecursion (IsKeeper s h) ks
    pub left : most + sum_by added (take n booted) ≡ CHAIN_LIMIT

  pub keepers_more : (booted : List Registration) (n most count : ℕ) (p : Past) (k : Keeper) (ks more : List Keeper) → n < length booted → p.registration ≡ get_or booted n p.registration
      → p.occurrences ≡ happenings_of s p.registration h.events.list → k.registration ≡ p.registration → KeepsAll (reverse p.occurrences) k
      → length k.links ≡ additions (reverse p.occurrences) → length k.links ≤ most → count ≡ length k.links → more ≡ ks ++ k ∷ [] → HasKeepers booted n most ks
      → HasKeepers booted (n + 1) (most - count) more
  keepers_more booted n most count p k ks more within is past_is of keeps additions_are few count_is more_is so_far =
      let here : p.occurrences ≡ happenings_of s k.registration h.events.list = past_is ∙ ap (λ (r : Registration). happenings_of s r h.events.list) (sym of) in
      record {
        registrations = ap (map (λ (k : Keeper). k.registration)) more_is ∙ map-append (λ (k : Keeper). k.registration) ks (k ∷ [])
            ∙ ap (λ (rs : List Registration). rs ++ k.registration ∷ []) so_far.registrations
            ∙ ap (λ (r : Registration). take n booted ++ r ∷ []) of ∙ sym (taken_more booted n p.registration p.registration within is);
        keepers = subst (AllByRecursion (IsKeeper s h)) (sym more_is) (all_append (IsKeeper s h) ks k so_far.keepers (subst (λ (xs : List Occurrence). KeepsAll (reverse xs) k) here keeps));
        left = omega (
          arith,
          additions_are,
          few,
          count_is,
          so_far.left,
          ap (λ (xs : List Occurrence). additions (reverse xs)) past_is,
          sum_more added booted n p.registration p.registration within is,
        );
      }

  -- where the next has too many, all have
  pub keepers_over : (booted : List Registration) (n most : ℕ) (p : Past) (ks : List Keeper) → n < length booted → p.registration ≡ get_or booted n p.registration
      → p.occurrences ≡ happenings_of s p.registration h.events.list → HasKeepers booted n most ks → most < additions (reverse p.occurrences) → CHAIN_LIMIT < sum_by added booted
  keepers_over booted n most p ks within is past_is so_far over =
      let more : most < added p.registration = omega (arith, over, ap (λ (xs : List Occurrence). additions (reverse xs)) past_is) in
      sum_over added booted n p.registration p.registration most CHAIN_LIMIT within is so_far.left more
