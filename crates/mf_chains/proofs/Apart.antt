-- No check moves anything at a moment at which something happened before.
use Rattle.std.proofs.Common.{◌≡◌, ℕ, ◌<◌, ◌≤◌, ◌+◌, ◌⊎◌, Bool, true, false, cond, List, [], ◌∷◌, ◌++◌, reverse, Option, Some, None, inl, inr, refl, sym, ◌∙◌, subst, arith, append_assoc, append-nil}
use Rattle.std.specs.List.{AllByRecursion, flat_map, range_with_len}
use Rattle.std.proofs.lemmas.List.{reverse-append}
use Rattle.mf_elem.specs.declared.label.Request.{Request}
use Rattle.mf_item.specs.Item.{Item}
use Rattle.mf_item.specs.declared.view.ObjectView.{ObjectView}
use Rattle.mf_policy.specs.declared.registration.Registration.{Registration}
use Rattle.mf_objects.specs.declared.descriptors.Fd.{Fd}
use Rattle.mf_objects.specs.declared.id.Id.{Id}
use Rattle.mf_objects.specs.Live.{LiveEntity, Entities, live_at}
use Rattle.mf_calls.specs.declared.script.Line.{Line}
use Rattle.mf_calls.specs.declared.script.Script.{Script}
use Rattle.mf_calls.specs.Tasks.{name_of}
use Rattle.mf_plan.specs.declared.reply.Reply.{Reply}
use Rattle.mf_plan.specs.declared.state.State.{State}
use Rattle.mf_plan.specs.Plan.{plan_of}
use Rattle.mf_perform.specs.Passed.{passed}
use Rattle.mf_core.specs.declared.history.Event.{Event}
use Rattle.mf_core.specs.declared.history.Event.TheVariants as event
use Rattle.mf_core.specs.Opening.{opening_state}
use Rattle.mf_core.specs.LegalHistory.{RunState, next_line, opening_run, run_after}
use Rattle.mf_flow.specs.Rows.{relabel_asked}
use Rattle.mf_flow.specs.Sources.{has_element}
use Rattle.mf_flow.specs.Transfers.{caller_of, counts, descriptor_of}
use Rattle.mf_chains.specs.declared.happening.Occurrence.{Occurrence}
use Rattle.mf_chains.specs.Happenings.{coming, coming_at, element_at, happened_at_line, happened_from, happened_in, happenings_of, labelled, moving_from, moving_of, moving_with, opening_happenings, relabelling}
use Rattle.mf_chains.specs.Tracing.{AreApart, IsAtOnce, is_move}

all_weaker : (P Q : Occurrence → Type 0) (xs : List Occurrence) → ((x : Occurrence) → P x → Q x) → AllByRecursion P xs → AllByRecursion Q xs
all_weaker P Q [] gives all = tt
all_weaker P Q (x ∷ xs) gives all = (gives x all.0, all_weaker P Q xs gives all.1)

last_first : (xs : List Occurrence) (x : Occurrence) → reverse (xs ++ x ∷ []) ≡ x ∷ reverse xs
last_first xs x = reverse-append xs (x ∷ [])

-- all happened in this event, or before it
record Ends (k : ℕ) (xs : List Occurrence) : Type 0 where
  apart : AreApart (reverse xs)
  before : AllByRecursion (λ y. y.event ≤ k) (reverse xs)

abbrev IsBefore : ℕ → ℕ → Occurrence → Type 0
IsBefore k n y = (y.event < k) ⊎ ((y.event ≡ k) × (y.item < n))

-- all happened before this check of this event
record Amid (k n : ℕ) (xs : List Occurrence) : Type 0 where
  apart : AreApart (reverse xs)
  before : AllByRecursion (IsBefore k n) (reverse xs)

begins : (k : ℕ) (xs : List Occurrence) → Ends k xs → Amid (k + 1) 1 xs
begins k xs ends =
    record { apart = ends.apart; before = all_weaker (λ y. y.event ≤ k) (IsBefore (k + 1) 1) (reverse xs) (λ y is. inl (omega (arith, is))) ends.before }

passes : (k n : ℕ) (xs : List Occurrence) → Amid k n xs → Amid k (n + 1) xs
passes k n xs amid =
    record { apart = amid.apart; before = all_weaker (IsBefore k n) (IsBefore k (n + 1)) (reverse xs) one amid.before }
  where
    one : (y : Occurrence) → IsBefore k n y → IsBefore k (n + 1) y
    one y (inl is) = inl is
    one y (inr is) = inr (is.0, omega (arith, is.1))

ended : (k n : ℕ) (xs : List Occurrence) → Amid k n xs → Ends k xs
ended k n xs amid =
    record { apart = amid.apart; before = all_weaker (IsBefore k n) (λ y. y.event ≤ k) (reverse xs) one amid.before }
  where
    one : (y : Occurrence) → IsBefore k n y → y.event ≤ k
    one y (inl is) = omega (arith, is)
    one y (inr is) = omega (arith, is.0)

moves_next : (k n : ℕ) (xs : List Occurrence) (x : Occurrence) → x.event ≡ k → x.item ≡ n → Amid k n xs → Amid k (n + 1) (xs ++ x ∷ [])
moves_next k n xs x here place amid =
    let more : Amid k (n + 1) xs = passes k n xs amid in
    record {
      apart = subst AreApart (sym (last_first xs x)) (λ _. all_weaker (IsBefore k n) (λ y. IsAtOnce x y → ⊥) (reverse xs) differs amid.before, amid.apart);
      before = subst (AllByRecursion (IsBefore k (n + 1))) (sym (last_first xs x)) (inr (here, omega (arith, place)), more.before);
    }
  where
    differs : (y : Occurrence) → IsBefore k n y → IsAtOnce x y → ⊥
    differs y (inl is) same = omega (arith, is, here, same.0)
    differs y (inr is) same = omega (arith, is.1, place, same.1)

labelled_next : (k : ℕ) (xs : List Occurrence) (x : Occurrence) → x.event ≡ k → is_move x.what ≡ false → Ends k xs → Ends k (xs ++ x ∷ [])
labelled_next k xs x here none ends =
    record {
      apart = subst AreApart (sym (last_first xs x)) (λ moves. let no_more : true ≡ false = sym moves ∙ none in cc, ends.apart);
      before = subst (AllByRecursion (λ y. y.event ≤ k)) (sym (last_first xs x)) (omega (arith, here), ends.before);
    }

-- Checks

module _ (r : Registration) (s : State) (fd : Option Fd) (k : ℕ) where
  with_amid : (n : ℕ) (xs : List Occurrence) (item : Item) (object : Option ObjectView) → Amid k n xs → Amid k (n + 1) (xs ++ moving_with r s.objects k n item object)
  with_amid n xs item None amid = subst (Amid k (n + 1)) (sym (append-nil xs)) (passes k n xs amid)
  with_amid n xs item (Some object) amid = moves_next k n xs _ refl refl amid

  one_amid : (n : ℕ) (xs : List Occurrence) (item : Item) → Amid k n xs → Amid k (n + 1) (xs ++ moving_of r s fd k n item)
  one_amid n xs item amid = one (counts r s.specs fd item)
    where
      one : (b : Bool) → Amid k (n + 1) (xs ++ cond b (moving_with r s.objects k n item item.object) [])
      one true = with_amid n xs item item.object amid
      one false = subst (Amid k (n + 1)) (sym (append-nil xs)) (passes k n xs amid)

  moving_ends : (n : ℕ) (xs : List Occurrence) (items : List Item) → Amid k n xs → Ends k (xs ++ moving_from r s fd k n items)
  moving_ends n xs [] amid = subst (Ends k) (sym (append-nil xs)) (ended k n xs amid)
  moving_ends n xs (item ∷ items) amid =
      subst (Ends k) (append_assoc xs (moving_of r s fd k n item) (moving_from r s fd k (n + 1) items))
      (moving_ends (n + 1) (xs ++ moving_of r s fd k n item) items (one_amid n xs item amid))

-- Labels

coming_ends : (r : Registration) (k : ℕ) (maker : Option Id) (id : Id) (found : Option LiveEntity) (xs : List Occurrence) → Ends k xs → Ends k (xs ++ coming r k maker id found)
coming_ends r k maker id None xs ends = subst (Ends k) (sym (append-nil xs)) ends
coming_ends r k maker id (Some e) xs ends = labelled_next k xs _ refl refl ends

relabelling_ends : (r : Registration) (o : Entities) (k : ℕ) (asked : Option (Id × Request)) (xs : List Occurrence) → Ends k xs → Ends k (xs ++ relabelling r o k asked)
relabelling_ends r o k None xs ends = subst (Ends k) (sym (append-nil xs)) ends
relabelling_ends r o k (Some asked) xs ends = one (has_element r.module asked.1)
  where
    one : (b : Bool) → Ends k (xs ++ cond b (labelled k asked.0 (element_at r o asked.0) None ∷ []) [])
    one true = labelled_next k xs _ refl refl ends
    one false = subst (Ends k) (sym (append-nil xs)) ends

opening_ends : (r : Registration) (o : Entities) (ns : List ℕ) (xs : List Occurrence) → Ends 0 xs → Ends 0 (xs ++ flat_map (coming_at r o 0 None) ns)
opening_ends r o [] xs ends = subst (Ends 0) (sym (append-nil xs)) ends
opening_ends r o (n ∷ ns) xs ends =
    subst (Ends 0) (append_assoc xs (coming_at r o 0 None n) (flat_map (coming_at r o 0 None) ns))
    (opening_ends r o ns (xs ++ coming_at r o 0 None n) (coming_ends r 0 None (record { 0 = n }) (live_at o (record { 0 = n })) xs ends))

-- Events

line_ends : (r : Registration) (s s' : State) (k : ℕ) (task : List ℕ) (found : Option Line) (said : Reply) (xs : List Occurrence) → Ends k xs
    → Ends (k + 1) (xs ++ happened_at_line r s s' (k + 1) task found said)
line_ends r s s' k task None said xs ends =
    subst (Ends (k + 1)) (sym (append-nil xs)) (ended (k + 1) 1 xs (begins k xs ends))
line_ends r s s' k task (Some line) said xs ends =
    let moves : List Occurrence = moving_from r s (descriptor_of s task line) (k + 1) 1 (passed said (plan_of s task line.child line.call).items) in
    let comes : List Occurrence = coming_at r s'.objects (k + 1) (caller_of s task line) s.objects.next in
    let relabels : List Occurrence = relabelling r s'.objects (k + 1) (relabel_asked s task line said) in
    subst (Ends (k + 1)) (append_assoc (xs ++ moves) comes relabels ∙ append_assoc xs moves (comes ++ relabels))
    (relabelling_ends r s'.objects (k + 1) (relabel_asked s task line said) ((xs ++ moves) ++ comes)
    (coming_ends r (k + 1) (caller_of s task line) (record { 0 = s.objects.next }) (live_at s'.objects (record { 0 = s.objects.next })) (xs ++ moves)
    (moving_ends r s (descriptor_of s task line) (k + 1) 1 xs (passed said (plan_of s task line.child line.call).items) (begins k xs ends))))

event_ends : (s : Script) (r : Registration) (run : RunState) (k : ℕ) (e : Event) (xs : List Occurrence) → Ends k xs → Ends (k + 1) (xs ++ happened_in s r run (k + 1) e)
event_ends s r run k (event.Done t line said) xs ends =
    line_ends r run.state (run_after s run (event.Done t line said)).state k (name_of s t) (next_line s run.progress t) said xs ends
event_ends s r run k (event.Enter t) xs ends = subst (Ends (k + 1)) (sym (append-nil xs)) (ended (k + 1) 1 xs (begins k xs ends))
event_ends s r run k (event.Leave t) xs ends = subst (Ends (k + 1)) (sym (append-nil xs)) (ended (k + 1) 1 xs (begins k xs ends))
event_ends s r run k (event.Changed t line said) xs ends = subst (Ends (k + 1)) (sym (append-nil xs)) (ended (k + 1) 1 xs (begins k xs ends))

all_apart : (s : Script) (r : Registration) (run : RunState) (k : ℕ) (es : List Event) (xs : List Occurrence) → Ends k xs → AreApart (reverse (xs ++ happened_from s r run (k + 1) es))
all_apart s r run k [] xs ends = subst (λ (ys : List Occurrence). AreApart (reverse ys)) (sym (append-nil xs)) ends.apart
all_apart s r run k (e ∷ es) xs ends =
    subst (λ (ys : List Occurrence). AreApart (reverse ys)) (append_assoc xs (happened_in s r run (k + 1) e) (happened_from s r (run_after s run e) ((k + 1) + 1) es))
    (all_apart s r (run_after s run e) (k + 1) es (xs ++ happened_in s r run (k + 1) e) (event_ends s r run k e xs ends))

pub happenings_apart : (s : Script) (r : Registration) (es : List Event) → AreApart (reverse (happenings_of s r es))
happenings_apart s r es =
    all_apart s r (opening_run s) 0 es (opening_happenings r (opening_state s).objects)
    (opening_ends r (opening_state s).objects (range_with_len 0 (opening_state s).objects.next) [] (record { apart = tt; before = tt }))
