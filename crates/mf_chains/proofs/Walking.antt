-- What happened by each policy, as one walk goes along a history.
use Rattle.std.proofs.Common.{◌≡◌, ℕ, ◌<◌, ◌≤◌, ◌+◌, zero, suc, List, [], ◌∷◌, ◌++◌, length, take, drop, get_or, map, set, refl, ap, sym, ◌∙◌, subst, arith, append_assoc, append-nil}
use Rattle.std.specs.List.{AllByRecursion}
use Rattle.std.proofs.Math.Seq.{drop-cons}
use Rattle.std.proofs.lemmas.List.{drop_all, length-map, take_all}
use Rattle.std.proofs.lemmas.List.Edits.{map_over_more}
use Rattle.mf_elem.specs.declared.label.TheConstants.{SLOTS}
use Rattle.mf_list.specs.Asked.{slot_of}
use Rattle.mf_policy.specs.declared.registration.Registration.{Registration}
use Rattle.mf_calls.specs.declared.script.Script.{Script}
use Rattle.mf_objects.specs.Live.{Entities}
use Rattle.mf_plan.specs.declared.state.State.{State}
use Rattle.mf_core.specs.declared.history.Event.{Event}
use Rattle.mf_core.specs.LegalHistory.{RunState, opening_run, run_after}
use Rattle.mf_core.specs.Opening.{opening_state}
use Rattle.mf_core.specs.RunView.{RunView}
use Rattle.mf_chains.specs.declared.happening.Occurrence.{Occurrence}
use Rattle.mf_chains.specs.declared.pasts.Past.{Past}
use Rattle.mf_chains.specs.Happenings.{happened_from, happened_in, happenings_of, opening_happenings}
use Rattle.mf_chains.specs.Pasts.{HasLabelSlot, no_past, with_more}

-- A loop over the policies

-- so many have got what they shall, and the rest is as it was
abbrev pub so_far : (Past → Past) → List Past → ℕ → List Past
so_far f ps n = map f (take n ps) ++ drop n ps

-- one more
pub one_more : (f : Past → Past) (ps qs : List Past) (n : ℕ) (here new : Past) → n < length ps → qs ≡ so_far f ps n → here ≡ get_or qs n here → new ≡ f here → set qs n new ≡ so_far f ps (n + 1)
one_more f ps qs n here new within are at is = ap (set qs n) is ∙ map_over_more f ps qs n here within are at

-- What happens one after another

pub more_and_more : (f g h : Registration → List Occurrence) (ps moved all : List Past) → ((r : Registration) → f r ++ g r ≡ h r) → moved ≡ map (with_more f) ps → all ≡ map (with_more g) moved
    → all ≡ map (with_more h) ps
more_and_more f g h ps moved all together moved_is all_is = all_is ∙ ap (map (with_more g)) moved_is ∙ each ps
  where
    one : (p : Past) → with_more g (with_more f p) ≡ with_more h p
    one p =
        ap (λ (xs : List Occurrence). record p { occurrences = xs })
        (append_assoc p.occurrences (f p.registration) (g p.registration) ∙ ap (λ (xs : List Occurrence). p.occurrences ++ xs) (together p.registration))

    each : (ps : List Past) → map (with_more g) (map (with_more f) ps) ≡ map (with_more h) ps
    each [] = refl
    each (p ∷ ps) = ap (λ (x : Past). x ∷ map (with_more g) (map (with_more f) ps)) (one p) ∙ ap (λ (xs : List Past). with_more h p ∷ xs) (each ps)

pub no_more : (f : Registration → List Occurrence) (ps : List Past) → ((r : Registration) → f r ≡ []) → ps ≡ map (with_more f) ps
no_more f [] none = refl
no_more f (p ∷ ps) none =
    ap (λ (x : Past). x ∷ ps) (ap (λ (xs : List Occurrence). record p { occurrences = xs }) (sym (append-nil p.occurrences) ∙ ap (λ (xs : List Occurrence). p.occurrences ++ xs) (sym (none p.registration))))
    ∙ ap (λ (xs : List Past). with_more f p ∷ xs) (no_more f ps none)

-- of the same policies
still_slots : (f : Registration → List Occurrence) (ps : List Past) → AllByRecursion HasLabelSlot ps → AllByRecursion HasLabelSlot (map (with_more f) ps)
still_slots f [] all = tt
still_slots f (p ∷ ps) all = (all.0, still_slots f ps all.1)

pub slots_after : (f : Registration → List Occurrence) (ps qs : List Past) → qs ≡ map (with_more f) ps → AllByRecursion HasLabelSlot ps → AllByRecursion HasLabelSlot qs
slots_after f ps qs are all = subst (AllByRecursion HasLabelSlot) (sym are) (still_slots f ps all)

-- Histories

pub nothing_happened : (s : Script) (run : RunState) (e e' : Event) (n : ℕ) (ps : List Past) → e ≡ e' → ((r : Registration) → happened_in s r run n e' ≡ [])
    → ps ≡ map (with_more (λ r. happened_in s r run n e)) ps
nothing_happened s run e e' n ps is none = no_more (λ r. happened_in s r run n e) ps (λ r. ap (happened_in s r run n) is ∙ none r)

-- at the opening
pub begun : (s : Script) (es : List Event) (replay : RunView) (state : State) (ps qs : List Past) → replay ≡ record { script = s; run = opening_run s } → state ≡ replay.run.state
    → qs ≡ map (with_more (λ r. opening_happenings r state.objects)) ps
    → map (with_more (λ r. happened_from s r replay.run (0 + 1) (drop 0 es))) qs ≡ map (with_more (λ r. happenings_of s r es)) ps
begun s es replay state ps qs is here are =
    more_and_more (λ r. opening_happenings r state.objects) rest (λ r. happenings_of s r es) ps qs (map (with_more rest) qs)
    (λ r. ap (λ (o : Entities). opening_happenings r o ++ rest r) (ap (λ (x : State). x.objects) (here ∙ ap (λ (x : RunView). x.run.state) is))
    ∙ ap (λ (x : RunView). opening_happenings r (opening_state s).objects ++ happened_from s r x.run 1 es) is) are refl
  where
    rest : Registration → List Occurrence
    rest r = happened_from s r replay.run 1 es

-- one event more
pub happened_more : (s : Script) (es : List Event) (n : ℕ) (run : RunState) (replay' : RunView) (ps qs all : List Past) (e d : Event) → n < length es → e ≡ get_or es n d
    → replay' ≡ record { script = s; run = run_after s run e }
    → map (with_more (λ r. happened_from s r run (n + 1) (drop n es))) ps ≡ all → qs ≡ map (with_more (λ r. happened_in s r run (n + 1) e)) ps
    → map (with_more (λ r. happened_from s r replay'.run ((n + 1) + 1) (drop (n + 1) es))) qs ≡ all
happened_more s es n run replay' ps qs all e d within is after_is before more =
    ap (λ (x : RunView). map (with_more (λ r. happened_from s r x.run ((n + 1) + 1) (drop (n + 1) es))) qs) after_is
    ∙ more_and_more (λ r. happened_in s r run (n + 1) e) rest (λ r. happened_from s r run (n + 1) (drop n es)) ps qs (map (with_more rest) qs)
    (λ r. sym (ap (happened_from s r run (n + 1)) left)) more refl ∙ before
  where
    rest : Registration → List Occurrence
    rest r = happened_from s r (run_after s run e) ((n + 1) + 1) (drop (n + 1) es)

    left : drop n es ≡ e ∷ drop (n + 1) es
    left = let next : suc n ≡ n + 1 = omega arith in drop-cons es n d within ∙ ap (λ (x : Event). x ∷ drop (suc n) es) (sym is) ∙ ap (λ (k : ℕ). e ∷ drop k es) next

-- at the end
pub happened_all : (s : Script) (es events : List Event) (n : ℕ) (run : RunState) (none ps : List Past) → length es ≤ n → es ≡ events
    → map (with_more (λ r. happened_from s r run (n + 1) (drop n es))) ps ≡ map (with_more (λ r. happenings_of s r es)) none
    → ps ≡ map (with_more (λ r. happenings_of s r events)) none
happened_all s es events n run none ps over are is =
    no_more (λ r. happened_from s r run (n + 1) (drop n es)) ps (λ r. ap (happened_from s r run (n + 1)) (drop_all n es over)) ∙ is
    ∙ ap (λ (xs : List Event). map (with_more (λ r. happenings_of s r xs)) none) are

-- what happened by each policy from the opening on
abbrev pub past_with : (Registration → List Occurrence) → Registration → Past
past_with f r = record { registration = r; occurrences = f r }

from_none : (f : Registration → List Occurrence) (rs : List Registration) → map (with_more f) (map no_past rs) ≡ map (past_with f) rs
from_none f [] = refl
from_none f (r ∷ rs) = ap (λ (xs : List Past). past_with f r ∷ xs) (from_none f rs)

pub pasts_are : (f : Registration → List Occurrence) (rs : List Registration) (none ps : List Past) → none ≡ map no_past rs → ps ≡ map (with_more f) none → ps ≡ map (past_with f) rs
pasts_are f rs none ps none_is are = are ∙ ap (map (with_more f)) none_is ∙ from_none f rs

-- each is where its registration was
pub past_at : (f : Registration → List Occurrence) (rs : List Registration) (ps : List Past) (n : ℕ) (p : Past) → ps ≡ map (past_with f) rs → n < length ps → p ≡ get_or ps n p
    → (n < length rs) × (p.registration ≡ get_or rs n p.registration) × (p.occurrences ≡ f p.registration)
past_at f rs ps n p are within is = one rs n (omega (arith, within, ap length are)) (is ∙ ap (λ (xs : List Past). get_or xs n p) are)
  where
    one : (rs : List Registration) (n : ℕ) → n < length (map (past_with f) rs) → p ≡ get_or (map (past_with f) rs) n p
        → (n < length rs) × (p.registration ≡ get_or rs n p.registration) × (p.occurrences ≡ f p.registration)
    one [] n within is = absurd (omega (arith, within))
    one (r ∷ rs) zero within is =
        let registered : p.registration ≡ r = ap (λ (x : Past). x.registration) is in (omega arith, registered, ap (λ (x : Past). x.occurrences) is ∙ ap f (sym registered))
    one (r ∷ rs) (suc n) within is = let rest = one rs n (omega (arith, within)) is in (omega (arith, rest.0), rest.1, rest.2)

none_slots : (rs : List Registration) → AllByRecursion (λ r. slot_of r < SLOTS) rs → AllByRecursion HasLabelSlot (map no_past rs)
none_slots [] all = tt
none_slots (r ∷ rs) all = (all.0, none_slots rs all.1)

pub slots_at_first : (rs : List Registration) (ps : List Past) → ps ≡ map no_past rs → AllByRecursion (λ r. slot_of r < SLOTS) rs → AllByRecursion HasLabelSlot ps
slots_at_first rs ps are all = subst (AllByRecursion HasLabelSlot) (sym are) (none_slots rs all)

-- of one policy alone
pub only_past : (f : Registration → List Occurrence) (r : Registration) (none ps : List Past) (p : Past) → none ≡ map no_past (r ∷ []) → ps ≡ map (with_more f) none → p ≡ get_or ps 0 p
    → p.occurrences ≡ f r
only_past f r none ps p none_is are is = ap (λ (x : Past). x.occurrences) (is ∙ ap (λ (xs : List Past). get_or xs 0 p) (pasts_are f (r ∷ []) none ps none_is are))

-- all are gone over
pub all_taken : (f : Registration → List Occurrence) (rs : List Registration) (ps : List Past) (n : ℕ) → ps ≡ map (past_with f) rs → length ps ≤ n → take n rs ≡ rs
all_taken f rs ps n are over = take_all n rs (omega (arith, over, ap length are, length-map rs (past_with f)))
