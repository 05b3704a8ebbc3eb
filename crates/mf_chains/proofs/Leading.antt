-- Every chain that is kept is one.
use Rattle.std.proofs.Common.{◌≡◌, ℕ, Bool, true, false, cond, nat_eq, List, [], ◌∷◌, ◌++◌, map, Option, Some, None, inl, inr, refl, subst, arith}
use Rattle.std.specs.Prelude.{Contains, IsSome, find}
use Rattle.std.specs.List.{AllByRecursion, flat_map}
use Rattle.std.specs.Option.{option_map_or}
use Rattle.std.specs.Ordering.{match_ordering}
use Rattle.std.specs.declared.cmp.Ordering.{Ordering}
use Rattle.std.specs.declared.cmp.Ordering.TheVariants.{Less, Equal, Greater}
use Rattle.std.proofs.lemmas.List.Elements.{All-from_recursion}
use Rattle.std.proofs.lemmas.Bool.Decides.{nat_tests}
use Rattle.mf_elem.specs.declared.elem.Elem.{Elem}
use Rattle.mf_policy.specs.declared.registration.Registration.{Registration}
use Rattle.mf_objects.specs.declared.id.Id.{Id}
use Rattle.mf_objects.specs.Live.{LiveEntity, has_id, live_at}
use Rattle.mf_objects.specs.Titles.{title_at}
use Rattle.mf_calls.specs.declared.script.Script.{Script}
use Rattle.mf_core.specs.declared.history.History.{History}
use Rattle.mf_core.specs.LegalHistory.{run_state_of}
use Rattle.mf_flow.specs.declared.table.Row.{Row}
use Rattle.mf_flow.specs.Sources.{sources_of}
use Rattle.mf_flow.specs.Table.{rows_for, sourced, table_of}
use Rattle.mf_chains.specs.declared.happening.Occurrence.{Occurrence}
use Rattle.mf_chains.specs.declared.chain.ChainRow.{ChainRow}
use Rattle.mf_chains.specs.Chains.{Leads, giver_of, loses, own_of, step_at}
use Rattle.mf_chains.specs.Histories.{IsChain, past_of, policy_of}
use Rattle.mf_chains.specs.Kept.{Kept, handed_on, kept, kept_cmp, own_kept, still_kept, stepped, with_lacking}
use Rattle.mf_chains.specs.Laws.{KeptChainsAreChains}
use Rattle.mf_chains.specs.Table.{chain_row, chain_rows, chain_table}

module _ (P : Kept → Type 0) where
  all_with : (x : Kept) (set : List Kept) → AllByRecursion P (x ∷ set) → ((ys : List Kept) → AllByRecursion P ys → AllByRecursion P (with_lacking set ys)) → (ys : List Kept)
      → AllByRecursion P ys → AllByRecursion P (with_lacking (x ∷ set) ys)
  all_with x set mine rest [] theirs = mine
  all_with x set mine rest (y ∷ ys) theirs = one (kept_cmp x y) (all_with x set mine rest ys theirs.1)
    where
      one : (o : Ordering) → AllByRecursion P (with_lacking (x ∷ set) ys)
          → AllByRecursion P (match_ordering o (x ∷ with_lacking set (y ∷ ys)) (x ∷ with_lacking set ys) (y ∷ with_lacking (x ∷ set) ys))
      one Less again = (mine.0, rest (y ∷ ys) theirs)
      one Equal again = (mine.0, rest ys theirs.1)
      one Greater again = (theirs.0, again)

  all_lacking : (set others : List Kept) → AllByRecursion P set → AllByRecursion P others → AllByRecursion P (with_lacking set others)
  all_lacking [] others mine theirs = theirs
  all_lacking (x ∷ set) others mine theirs = all_with x set mine (λ ys. all_lacking set ys mine.1) others theirs

module _ (x : Occurrence) (older : List Occurrence) (p : Id) where
  abbrev Led : Kept → Type 0
  Led k = Leads (x ∷ older) p k.element k.chain

  own_led : (own : Option Elem) → own_of x.what p ≡ own → AllByRecursion Led (own_kept own p x.event)
  own_led None is = tt
  own_led (Some e) is = (inl (is, refl), tt)

  still_led : (lost : Bool) → loses x.what p ≡ lost → (set : List Kept) → AllByRecursion (λ k. Leads older p k.element k.chain) set → AllByRecursion Led (still_kept lost set)
  still_led true is set all = tt
  still_led false is [] all = tt
  still_led false is (k ∷ set) all = (inr (inr (is, all.0)), still_led false is set all.1)

  stepped_led : (g : Id) → giver_of x.what p ≡ Some g → (set : List Kept) → AllByRecursion (λ k. Leads older g k.element k.chain) set
      → AllByRecursion Led (map (stepped (step_at x p)) set)
  stepped_led g is [] all = tt
  stepped_led g is (k ∷ set) all = (inr (inl (g, is, k.chain, all.0, refl)), stepped_led g is set all.1)

  handed_led : (giver : Option Id) → giver_of x.what p ≡ giver → ((g : Id) → AllByRecursion (λ k. Leads older g k.element k.chain) (kept older g))
      → AllByRecursion Led (handed_on giver (kept older) (step_at x p))
  handed_led None is all = tt
  handed_led (Some g) is all = stepped_led g is (kept older g) (all g)

pub kept_lead : (xs : List Occurrence) (p : Id) → AllByRecursion (λ k. Leads xs p k.element k.chain) (kept xs p)
kept_lead [] p = tt
kept_lead (x ∷ older) p =
    let own : List Kept = own_kept (own_of x.what p) p x.event in
    let stays : List Kept = still_kept (loses x.what p) (kept older p) in
    all_lacking (Led x older p) (with_lacking own stays) (handed_on (giver_of x.what p) (kept older) (step_at x p))
    (all_lacking (Led x older p) own stays (own_led x older p (own_of x.what p) refl) (still_led x older p (loses x.what p) refl (kept older p) (kept_lead older p)))
    (handed_led x older p (giver_of x.what p) refl (kept_lead older))

-- Rows

all_both : {A : Type 0} (P : A → Type 0) (xs ys : List A) → AllByRecursion P xs → AllByRecursion P ys → AllByRecursion P (xs ++ ys)
all_both P [] ys mine theirs = theirs
all_both P (x ∷ xs) ys mine theirs = (mine.0, all_both P xs ys mine.1 theirs)

all_flat : {A B : Type 0} (P : A → Type 0) (Q : B → Type 0) (f : A → List B) (xs : List A) → ((x : A) → P x → AllByRecursion Q (f x)) → AllByRecursion P xs → AllByRecursion Q (flat_map f xs)
all_flat P Q f [] gives all = tt
all_flat P Q f (x ∷ xs) gives all = all_both Q (f x) (flat_map f xs) (gives x all.0) (all_flat P Q f xs gives all.1)

-- the party of each row of the sources lives

abbrev Lives : Script → History → Id → Type 0
Lives s h id = IsSome (live_at (run_state_of s h.events.list).state.objects id)

all_found : (whole es : List LiveEntity) → ((id : Id) → IsSome (find (has_id id) es) → IsSome (find (has_id id) whole)) → AllByRecursion (λ (e : LiveEntity). IsSome (find (has_id e.id) whole)) es
all_found whole [] up = tt
all_found whole (e ∷ es) up = (up e.id (here (has_id e.id e) (itself e.id.0)), all_found whole es (λ id some. up id (there id (has_id id e) some)))
  where
    itself : (n : ℕ) → nat_eq n n ≡ true
    itself n = grind (arith, nat_tests)

    here : (b : Bool) → b ≡ true → IsSome (cond b (Some e) (find (has_id e.id) es))
    here true is = refl
    here false is = cc

    there : (id : Id) (b : Bool) → IsSome (find (has_id id) es) → IsSome (cond b (Some e) (find (has_id id) es))
    there id true some = refl
    there id false some = some

all_mapped : (s : Script) (h : History) (r : Registration) (es : List LiveEntity) → AllByRecursion (λ (e : LiveEntity). Lives s h e.id) es
    → AllByRecursion (λ (row : Row). Lives s h row.id)
    (map (λ (e : LiveEntity). record {
      «module» = r.module;
      id = e.id;
      title = title_at (run_state_of s h.events.list).state.objects e.id;
      elements = sources_of s r h.events.list e.id;
    }) es)
all_mapped s h r [] all = tt
all_mapped s h r (e ∷ es) all = (all.0, all_mapped s h r es all.1)

every : {A : Type 0} (P : A → Type 0) (xs : List A) → ((x : A) → P x) → AllByRecursion P xs
every P [] all = tt
every P (x ∷ xs) all = (all x, every P xs all)

all_live : (s : Script) (h : History) → AllByRecursion (λ (row : Row). Lives s h row.id) (table_of s h)
all_live s h =
    all_flat (λ (r : Registration). Unit {0}) (λ (row : Row). Lives s h row.id) (rows_for s h) (sourced h.boots)
    (λ r _. all_mapped s h r (run_state_of s h.events.list).state.objects.live
    (all_found (run_state_of s h.events.list).state.objects.live (run_state_of s h.events.list).state.objects.live (λ id some. some)))
    (every (λ (r : Registration). Unit {0}) (sourced h.boots) (λ r. tt))

abbrev IsRowChain : Script → History → ChainRow → Type 0
IsRowChain s h row = IsChain s h row.module row.id row.elem row.chain

row_chains : (s : Script) (h : History) (row : Row) → Lives s h row.id → AllByRecursion (IsRowChain s h) (chain_rows s h row)
row_chains s h row lives = by_policy (policy_of h.boots row.module) refl
  where
    each : (r : Registration) → policy_of h.boots row.module ≡ Some r → (set : List Kept) → AllByRecursion (λ k. Leads (past_of s h r) row.id k.element k.chain) set
        → AllByRecursion (IsRowChain s h) (map (chain_row row) set)
    each r is [] all = tt
    each r is (k ∷ set) all = ((lives, r, is, all.0), each r is set all.1)

    by_policy : (found : Option Registration) → policy_of h.boots row.module ≡ found
        → AllByRecursion (IsRowChain s h) (map (chain_row row) (option_map_or (λ r. kept (past_of s h r) row.id) found []))
    by_policy None is = tt
    by_policy (Some r) is = each r is (kept (past_of s h r) row.id) (kept_lead (past_of s h r) row.id)

pub rows_are_chains : KeptChainsAreChains
rows_are_chains s h row there =
    contained (IsRowChain s h) (chain_table s h) (all_flat (λ (row : Row). Lives s h row.id) (IsRowChain s h) (chain_rows s h) (table_of s h) (row_chains s h) (all_live s h)) row there
  where
    contained : (P : ChainRow → Type 0) (rows : List ChainRow) → AllByRecursion P rows → (x : ChainRow) → Contains rows x → P x
    contained P rows all x there = subst P there.2 (All-from_recursion P rows all there.0 x there.1)
