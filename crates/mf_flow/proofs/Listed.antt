-- Rows of live entities, one after another.
use Rattle.std.proofs.Common.{◌≡◌, ℕ, ◌<◌, ◌+◌, zero, suc, Bool, true, false, cond, nat_le, List, [], ◌∷◌, ◌++◌, append_assoc, length, map, take, get_or, slice_get, Option, Some, None, IfSome, IsSome, Result, Ok, Err, refl, ap, sym, ◌∙◌, subst, arith, length-append, ◌⊎◌, inl, inr}
use Rattle.std.specs.Prelude.{find, IfOk}
use Rattle.std.specs.declared.alloc.AllocError.{AllocError}
use Rattle.std.specs.List.{AllByRecursion, flat_map}
use Rattle.std.proofs.lemmas.List.{flat_map_more, map_push}
use Rattle.std.proofs.lemmas.List.Elements.{All-from_recursion}
use Rattle.std.proofs.lemmas.List.Folds.{flat_map-map}
use Rattle.std.proofs.lemmas.Bool.Decides.{nat_tests}
use Rattle.mf_errno.specs.declared.module.Module.{Module}
use Rattle.mf_elem.specs.declared.elem.Elem.{Elem}
use Rattle.mf_elem.specs.Label.{is_equal}
use Rattle.mf_policy.specs.declared.registration.Registration.{Registration}
use Rattle.mf_objects.specs.declared.id.Id.{Id}
use Rattle.mf_objects.specs.Live.{LiveEntity, Entities, has_id, id_of, live_at}
use Rattle.mf_objects.specs.Lives.{is_from}
use Rattle.mf_objects.specs.Population.{IsRising}
use Rattle.mf_objects.specs.Titles.{title_at}
use Rattle.mf_objects.proofs.Rising.{id_differs}
use Rattle.mf_calls.specs.declared.script.Script.{Script}
use Rattle.mf_core.specs.declared.history.History.{History}
use Rattle.mf_core.specs.LegalHistory.{run_state_of}
use Rattle.mf_objects.proofs.Finding.{find_given}
use Rattle.mf_objects.proofs.Walking.{from_less, next_found, got, there, taken_more}
use Rattle.mf_flow.specs.declared.following.Flow.{Flow}
use Rattle.mf_flow.specs.declared.table.Row.{Row}
use Rattle.mf_flow.specs.Order.{union}
use Rattle.mf_flow.specs.Rows.{AreOwnRows, AreRows, IsFlowOf, Rows, set_at, element_of, new_row}
use Rattle.mf_flow.specs.Sources.{Sets, own_source, held_by, sources_of}
use Rattle.mf_flow.specs.Table.{rows_for, rows_in, sourced, table_of}
use Rattle.mf_flow.proofs.RowsKept.{first_from, former_row, last_row}

-- Own elements

-- the first so many rows
pub record AreFirst (slot : ℕ) (o : Entities) (rows : Rows) (n : ℕ) : Type 0 where
  pub count : length rows ≡ n
  pub each : (k : ℕ) → k < n → set_at rows k ≡ new_row slot (find (is_from k) o.live) []

pub first_none : (slot : ℕ) (o : Entities) → AreFirst slot o [] 0
first_none slot o = record { count = refl; each = λ k none. absurd (omega arith) }

pub first_more : (slot : ℕ) (o : Entities) (rows rows' : Rows) (n : ℕ) (set nothing : List Elem) → AreFirst slot o rows n → nothing ≡ []
    → set ≡ new_row slot (find (is_from n) o.live) nothing → rows' ≡ rows ++ set ∷ [] → AreFirst slot o rows' (n + 1)
first_more slot o rows rows' n set nothing first none is more =
    subst (λ (x : Rows). AreFirst slot o x (n + 1)) (sym more)
    (record { count = omega (arith, first.count, length-append rows (set ∷ [])); each = λ k within. one k within (last_or_not k n within) })
  where
    last_or_not : (k n : ℕ) → k < n + 1 → (k ≡ n) ⊎ (k < n)
    last_or_not k n within = grind arith

    one : (k : ℕ) → k < n + 1 → (k ≡ n) ⊎ (k < n) → set_at (rows ++ set ∷ []) k ≡ new_row slot (find (is_from k) o.live) []
    one k within (inl last) =
        let place : k ≡ length rows = last ∙ sym first.count in
        ap (set_at (rows ++ set ∷ [])) place ∙ last_row rows set ∙ is
        ∙ ap (new_row slot (find (is_from n) o.live)) none
        ∙ ap (λ (m : ℕ). new_row slot (find (is_from m) o.live) []) (sym last)
    one k within (inr before) = former_row rows set k (omega (arith, first.count)) ∙ first.each k before

own_alone : (element : Option Elem) → held_by element (union (own_source element) []) ≡ own_source element
own_alone None = refl
own_alone (Some own) = one (is_equal own) refl
  where
    one : (b : Bool) → is_equal own ≡ b → cond b [] (union (cond b [] (own ∷ [])) []) ≡ cond b [] (own ∷ [])
    one true equal = refl
    one false plain = refl

pub own_rows : (slot : ℕ) (o : Entities) (rows : Rows) (n : ℕ) → IsRising 0 o.next o.live → n ≡ o.next → AreFirst slot o rows n → AreOwnRows slot o rows
own_rows slot o rows n rising all first =
    record {
      count = first.count ∙ all;
      each = λ id e live.
          let given : id.0 < o.next = find_given id e 0 o.next o.live live rising in
          first.each id.0 (omega arith)
          ∙ ap (λ (found : Option LiveEntity). new_row slot found []) (first_from id e 0 o.next o.live rising live)
          ∙ own_alone (element_of slot e.label);
    }

-- A row for each

from_itself : (n : ℕ) → nat_le n n ≡ true
from_itself n = grind (arith, nat_tests)

-- the row of a live entity
abbrev sources_row : Module → Entities → Sets → LiveEntity → Row
sources_row m objects sets e = record { «module» = m; id = e.id; title = title_at objects e.id; elements = sets e.id }

-- so many rows are listed, and the next entity is the first from a number on
pub record AreListed (m : Module) (o : Entities) (rows : Rows) (before table : List Row) (from n : ℕ) : Type 0 where
  pub listed : table ≡ before ++ map (sources_row m o (λ (id : Id). set_at rows id.0)) (take n o.live)
  pub next : find (is_from from) o.live ≡ slice_get o.live n

pub listed_none : (m : Module) (o : Entities) (rows : Rows) (table : List Row) → AreListed m o rows table table 0 0
listed_none m o rows table = record { listed = nothing_more table; next = from_start o.live }
  where
    nothing_more : (xs : List Row) → xs ≡ xs ++ []
    nothing_more [] = refl
    nothing_more (x ∷ xs) = ap (λ (ys : List Row). x ∷ ys) (nothing_more xs)

    from_start : (es : List LiveEntity) → find (is_from 0) es ≡ slice_get es 0
    from_start [] = refl
    from_start (x ∷ es) = let test : is_from 0 x ≡ true = from_less 0 x.id.0 (omega arith) in rw test refl

-- the entity that is found next is the one in that place
record IsNext (o : Entities) (n : ℕ) (id : Id) : Type 0 where
  e : LiveEntity
  here : slice_get o.live n ≡ Some e
  is : e.id ≡ id

found_next : (m : Module) (o : Entities) (rows : Rows) (before table : List Row) (from n : ℕ) (id : Id) → AreListed m o rows before table from n
    → Some id ≡ id_of (find (is_from from) o.live) → IsNext o n id
found_next m o rows before table from n id so_far found = one (slice_get o.live n) refl (found ∙ ap id_of so_far.next)
  where
    one : (x : Option LiveEntity) → slice_get o.live n ≡ x → Some id ≡ id_of x → IsNext o n id
    one None is same = cc
    one (Some e) is same =
        let own : id ≡ e.id = cc in
        record { e = e; here = is; is = sym own }

pub listed_more : (m : Module) (o : Entities) (rows : Rows) (before table table' : List Row) (from from' n : ℕ) (id : Id) (new : Row) → IsRising 0 o.next o.live
    → AreListed m o rows before table from n → n < length o.live → Some id ≡ id_of (find (is_from from) o.live)
    → new ≡ record { «module» = m; id = id; title = title_at o id; elements = set_at rows id.0 } → table' ≡ table ++ new ∷ [] → from' ≡ id.0 + 1
    → AreListed m o rows before table' from' (n + 1)
listed_more m o rows before table table' from from' n id new rising so_far within found is more next =
    let at : IsNext o n id = found_next m o rows before table from n id so_far found in
    let f : LiveEntity → Row = sources_row m o (λ (x : Id). set_at rows x.0) in
    let own : new ≡ f at.e = is ∙ ap (λ (x : Id). record { «module» = m; id = x; title = title_at o x; elements = set_at rows x.0 }) (sym at.is) in
    let behind : find (is_from (at.e.id.0 + 1)) o.live ≡ slice_get o.live (n + 1) =
    ap (λ (x : LiveEntity). find (is_from (x.id.0 + 1)) o.live) (sym (got o.live n at.e at.e at.here)) ∙ next_found o.live n 0 o.next at.e within rising in
    record {
      listed =
          more ∙ ap (λ (xs : List Row). xs ++ new ∷ []) so_far.listed ∙ ap (λ (x : Row). (before ++ map f (take n o.live)) ++ x ∷ []) own
          ∙ append_assoc before (map f (take n o.live)) (f at.e ∷ [])
          ∙ ap (λ (xs : List Row). before ++ xs) (sym (map_push f (take n o.live) at.e))
          ∙ ap (λ (xs : List LiveEntity). before ++ map f xs) (sym (taken_more o.live n at.e at.here));
      next = ap (λ (k : ℕ). find (is_from k) o.live) (next ∙ ap (λ (x : Id). x.0 + 1) (sym at.is)) ∙ behind;
    }

-- there is a next one
pub not_over : (m : Module) (o : Entities) (rows : Rows) (before table : List Row) (from n : ℕ) (found : Option Id) → AreListed m o rows before table from n → n < length o.live
    → found ≡ id_of (find (is_from from) o.live) → IsSome found
not_over m o rows before table from n found so_far within is = one (slice_get o.live n) refl found (is ∙ ap id_of so_far.next)
  where
    one : (x : Option LiveEntity) → slice_get o.live n ≡ x → (found : Option Id) → found ≡ id_of x → IsSome found
    one None none found same = absurd (there o.live n within none)
    one (Some e) some None same = cc
    one (Some e) some (Some id) same = refl

whole : {A : Type 0} (xs : List A) → take (length xs) xs ≡ xs
whole [] = refl
whole (x ∷ xs) = ap (λ (ys : List _). x ∷ ys) (whole xs)

pub all_listed : (m : Module) (o : Entities) (rows : Rows) (before table : List Row) (from n : ℕ) → AreListed m o rows before table from n → n ≡ length o.live
    → table ≡ before ++ rows_in m o (λ (id : Id). set_at rows id.0)
all_listed m o rows before table from n so_far all =
    so_far.listed ∙ ap (λ (es : List LiveEntity). before ++ map (sources_row m o (λ (id : Id). set_at rows id.0)) es) (ap (λ (k : ℕ). take k o.live) all ∙ whole o.live)

-- the id that is found is live, so it was given
pub found_given : (o : Entities) (id : Id) (found : Option LiveEntity) → IsRising 0 o.next o.live → live_at o id ≡ found → Some id ≡ id_of found → id.0 < o.next
found_given o id None rising is same = cc
found_given o id (Some e) rising is same = find_given id e 0 o.next o.live is rising

pub given_of : (o : Entities) (from : ℕ) (found : Option Id) (id : Id) → IsRising 0 o.next o.live → found ≡ Some id → found ≡ id_of (find (is_from from) o.live)
    → IfSome found (λ x. live_at o x ≡ find (is_from from) o.live) → id.0 < o.next
given_of o from found id rising some is live =
    let at : live_at o id ≡ find (is_from from) o.live = subst (λ (x : Option Id). IfSome x (λ y. live_at o y ≡ find (is_from from) o.live)) some live in
    found_given o id (live_at o id) rising refl (sym some ∙ is ∙ ap id_of (sym at))

pub is_found : (o : Entities) (from : ℕ) (found : Option Id) (id : Id) → found ≡ Some id → found ≡ id_of (find (is_from from) o.live) → Some id ≡ id_of (find (is_from from) o.live)
is_found o from found id some is = sym some ∙ is

-- The sources

same_rows : (m : Module) (o : Entities) (sets : Sets) (rows : Rows) (least next : ℕ) (es : List LiveEntity) → IsRising least next es
    → ((e : LiveEntity) → find (has_id e.id) es ≡ Some e → set_at rows e.id.0 ≡ sets e.id)
    → map (sources_row m o (λ (id : Id). set_at rows id.0)) es ≡ map (sources_row m o sets) es
same_rows m o sets rows least next [] rising each = refl
same_rows m o sets rows least next (x ∷ es) rising each =
    let here : set_at rows x.id.0 ≡ sets x.id = each x (itself x es) in
    let rest : map (sources_row m o (λ (id : Id). set_at rows id.0)) es ≡ map (sources_row m o sets) es =
    same_rows m o sets rows (x.id.0 + 1) next es rising.1 (λ e found. each e (later e found)) in
    ap (λ (set : List Elem). record { «module» = m; id = x.id; title = title_at o x.id; elements = set } ∷ map (sources_row m o (λ (id : Id). set_at rows id.0)) es) here
    ∙ ap (λ (ys : List Row). sources_row m o sets x ∷ ys) rest
  where
    itself : (x : LiveEntity) (es : List LiveEntity) → find (has_id x.id) (x ∷ es) ≡ Some x
    itself x es =
        let test : has_id x.id x ≡ true = grind (arith, nat_tests) in
        rw test refl

    later : (e : LiveEntity) → find (has_id e.id) es ≡ Some e → find (has_id e.id) (x ∷ es) ≡ Some e
    later e found =
        let given : e.id.0 ≡ e.id.0 = refl in
        let miss : has_id e.id x ≡ false = id_differs e.id x (λ same. beyond e found same) in
        rw miss found
      where
        beyond : (e : LiveEntity) → find (has_id e.id) es ≡ Some e → x.id.0 ≡ e.id.0 → ⊥
        beyond e found same = before e es (x.id.0 + 1) (omega arith) rising.1 found
          where
            before : (e : LiveEntity) (es : List LiveEntity) (least : ℕ) → e.id.0 < least → IsRising least next es → find (has_id e.id) es ≡ Some e → ⊥
            before e [] least early rising found = cc
            before e (y ∷ es) least early rising found =
                let miss : has_id e.id y ≡ false = id_differs e.id y (λ same. omega (arith, rising.0)) in
                before e es (y.id.0 + 1) (omega (arith, rising.0)) rising.1 (rw miss at found)

-- all rows are listed, with the sources
pub all_sources : (m : Module) (o : Entities) (rows : Rows) (before table : List Row) (from n : ℕ) (sets : Sets) → IsRising 0 o.next o.live
    → AreListed m o rows before table from n → n ≡ length o.live → AreRows o sets rows → table ≡ before ++ rows_in m o sets
all_sources m o rows before table from n sets rising so_far all are =
    all_listed m o rows before table from n so_far all
    ∙ ap (λ (xs : List Row). before ++ xs) (same_rows m o sets rows 0 o.next o.live rising (λ e found. are.each e.id e found))

-- The policies, one after another

-- the rows of one policy more
pub policy_listed : (s : Script) (h : History) (o : Entities) (flows : List Flow) (n : ℕ) (table table' : List Row) (f : Flow) → n < length flows → f ≡ get_or flows n f
    → o ≡ (run_state_of s h.events.list).state.objects → AllByRecursion (IsFlowOf s h) flows
    → table ≡ flat_map (λ (f : Flow). rows_for s h f.registration) (take n flows)
    → ((sets : Sets) → AreRows o sets f.sets → table' ≡ table ++ rows_in f.registration.module o sets)
    → table' ≡ flat_map (λ (f : Flow). rows_for s h f.registration) (take (n + 1) flows)
policy_listed s h o flows n table table' f within at here all so_far listed =
    let sets : Sets = sources_of s f.registration h.events.list in
    let own : IsFlowOf s h f = subst (IsFlowOf s h) (sym at) (All-from_recursion (IsFlowOf s h) flows all n f within) in
    listed sets (subst (λ (x : Entities). AreRows x sets f.sets) (sym here) own)
    ∙ ap (λ (x : Entities). table ++ rows_in f.registration.module x sets) here
    ∙ ap (λ (xs : List Row). xs ++ rows_of f) so_far ∙ flat_map_more rows_of [] (take n flows) f
    ∙ ap (flat_map rows_of) (sym (taken_more flows n f (there_at flows n f within at)))
  where
    rows_of : Flow → List Row
    rows_of f = rows_for s h f.registration

    there_at : (fs : List Flow) (n : ℕ) (f : Flow) → n < length fs → f ≡ get_or fs n f → slice_get fs n ≡ Some f
    there_at [] n f within at = absurd (omega arith)
    there_at (g ∷ fs) zero f within at = ap (λ (x : Flow). Some x) (sym at)
    there_at (g ∷ fs) (suc n) f within at = there_at fs n f (omega (arith, within)) at

-- the whole table
pub policies_listed : (s : Script) (h : History) (flows : List Flow) (n : ℕ) (table : List Row) → n ≡ length flows
    → table ≡ flat_map (λ (f : Flow). rows_for s h f.registration) (take n flows) → table ≡ flat_map (λ (f : Flow). rows_for s h f.registration) flows
policies_listed s h flows n table all so_far =
    so_far ∙ ap (flat_map (λ (f : Flow). rows_for s h f.registration)) (ap (λ (k : ℕ). take k flows) all ∙ whole flows)

pub whole_table : (s : Script) (h : History) (booted : List Registration) (flows : List Flow) (table : Result (List Row) AllocError) → booted ≡ sourced h.boots
    → map (λ (f : Flow). f.registration) flows ≡ booted → IfOk table (λ table. table ≡ flat_map (λ (f : Flow). rows_for s h f.registration) flows)
    → IfOk table (λ table. table ≡ table_of s h)
whole_table s h booted flows (Err error) are registered listed = tt
whole_table s h booted flows (Ok table) are registered listed =
    listed ∙ sym (flat_map-map (rows_for s h) (λ (f : Flow). f.registration) flows)
    ∙ ap (flat_map (rows_for s h)) (registered ∙ are)
