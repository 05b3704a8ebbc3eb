-- The sources of a party stand in order, each once.
use Rattle.std.proofs.Common.{◌≡◌, ℕ, Bool, true, false, cond, List, [], ◌∷◌, Option, Some, None, refl, ap, ◌∙◌}
use Rattle.std.specs.List.{AllByRecursion}
use Rattle.std.specs.List.Sorted.{IsStrictlySortedBy}
use Rattle.std.specs.Ordering.{match_ordering, ordering_reverse}
use Rattle.std.specs.declared.cmp.Ordering.{Ordering}
use Rattle.std.specs.declared.cmp.Ordering.TheVariants.{Less, Equal, Greater}
use Rattle.std.specs.Cmp.Lexicographic.{nat_list_cmp_total}
use Rattle.mf_elem.specs.declared.elem.Elem.{Elem}
use Rattle.mf_elem.specs.Label.{is_equal}
use Rattle.mf_item.specs.Item.{Item}
use Rattle.mf_item.specs.declared.view.ObjectView.{ObjectView}
use Rattle.mf_policy.specs.declared.registration.Registration.{Registration}
use Rattle.mf_policy.specs.Operations.{row_of}
use Rattle.mf_policy.specs.declared.operations.Movement.{Movement}
use Rattle.mf_policy.specs.declared.operations.Movement.TheVariants.{Still, ToSubject, ToObject, BothWays}
use Rattle.mf_objects.specs.declared.id.Id.{Id}
use Rattle.mf_objects.specs.Live.{LiveEntity, Entities, live_at}
use Rattle.mf_calls.specs.declared.script.Line.{Line}
use Rattle.mf_calls.specs.declared.script.Script.{Script}
use Rattle.mf_calls.specs.Tasks.{name_of}
use Rattle.mf_plan.specs.declared.reply.Reply.{Reply}
use Rattle.mf_plan.specs.declared.state.State.{State}
use Rattle.mf_core.specs.declared.history.Event.{Event}
use Rattle.mf_core.specs.declared.history.Event.TheVariants as event
use Rattle.mf_core.specs.Opening.{opening_state}
use Rattle.mf_core.specs.LegalHistory.{RunState, opening_run, next_line, run_after}
use Rattle.mf_flow.specs.Order.{place_of, elem_cmp, union}
use Rattle.mf_flow.specs.Transfers.{caller_of}
use Rattle.mf_flow.specs.Sources.{Sets, element_by, held_by, moving, own_source, received, moved, moved_by, relabels, set_after, sets_after_line, sets_after_event, sets_after, sources_of, moves_between}
use Rattle.mf_flow.proofs.Across.{moved_with, moved_by_all, set_of, element_at, is_id, opening_sets}
use Rattle.mf_flow.specs.Dominated.{SourcesAreSorted}
use Rattle.mf_flow.proofs.Bounds.{all_union}

-- each element comes before those behind it
abbrev Ordered : List Elem → Type 0
Ordered [] = Unit {0}
Ordered (x ∷ xs) = AllByRecursion (λ y. elem_cmp x y ≡ Less) xs × Ordered xs

all_from : (P Q : Elem → Type 0) (xs : List Elem) → ((x : Elem) → P x → Q x) → AllByRecursion P xs → AllByRecursion Q xs
all_from P Q [] gives all = tt
all_from P Q (x ∷ xs) gives all = (gives x all.0, all_from P Q xs gives all.1)

ordered_with : (x : Elem) (xs : List Elem) → Ordered (x ∷ xs) → ((ys : List Elem) → Ordered ys → Ordered (union xs ys)) → (ys : List Elem) → Ordered ys → Ordered (union (x ∷ xs) ys)
ordered_with x xs mine rest [] theirs = mine
ordered_with x xs mine rest (y ∷ ys) theirs = one (elem_cmp x y) refl (ordered_with x xs mine rest ys theirs.1)
  where
    one : (o : Ordering) → elem_cmp x y ≡ o → Ordered (union (x ∷ xs) ys)
        → Ordered (match_ordering o (x ∷ union xs (y ∷ ys)) (x ∷ union xs ys) (y ∷ union (x ∷ xs) ys))
    one Less less again = (
      all_union (λ z. elem_cmp x z ≡ Less) xs (y ∷ ys) mine.0
          (less, all_from (λ z. elem_cmp y z ≡ Less) (λ z. elem_cmp x z ≡ Less) ys (λ z further. nat_list_cmp_total.trans (place_of x) (place_of y) (place_of z) less further) theirs.0),
      rest (y ∷ ys) theirs,
    )
    one Equal equal again = (
      all_union (λ z. elem_cmp x z ≡ Less) xs ys mine.0
          (all_from (λ z. elem_cmp y z ≡ Less) (λ z. elem_cmp x z ≡ Less) ys (λ z further. nat_list_cmp_total.congr (place_of x) (place_of y) (place_of z) equal ∙ further) theirs.0),
      rest ys theirs.1,
    )
    one Greater greater again =
        let before : elem_cmp y x ≡ Less = nat_list_cmp_total.antisymm (place_of y) (place_of x) ∙ ap ordering_reverse greater in (
          all_union (λ z. elem_cmp y z ≡ Less) (x ∷ xs) ys
              (before, all_from (λ z. elem_cmp x z ≡ Less) (λ z. elem_cmp y z ≡ Less) xs (λ z further. nat_list_cmp_total.trans (place_of y) (place_of x) (place_of z) before further) mine.0) theirs.0,
          again,
        )

union_ordered : (set other : List Elem) → Ordered set → Ordered other → Ordered (union set other)
union_ordered [] other mine theirs = theirs
union_ordered (x ∷ set) other mine theirs = ordered_with x set mine (λ ys. union_ordered set ys mine.1) other theirs

held_ordered : (element : Option Elem) (set : List Elem) → Ordered set → Ordered (held_by element set)
held_ordered None set sorted = tt
held_ordered (Some own) set sorted = one (is_equal own)
  where
    one : (b : Bool) → Ordered (cond b [] set)
    one true = tt
    one false = sorted

alone_ordered : (element : Option Elem) → Ordered (own_source element)
alone_ordered None = tt
alone_ordered (Some own) = one (is_equal own)
  where
    one : (b : Bool) → Ordered (cond b [] (own ∷ []))
    one true = tt
    one false = (tt, tt)

abbrev AllOrdered : Sets → Type 0
AllOrdered sets = (id : Id) → Ordered (sets id)

received_ordered : (r : Registration) (o : Entities) (to : Id) (given : List Elem) (sets : Sets) → Ordered given → AllOrdered sets → AllOrdered (received r o to given sets)
received_ordered r o to given sets theirs all id = one (is_id id to)
  where
    one : (b : Bool) → Ordered (cond b (held_by (element_at r o to) (union (sets to) given)) (sets id))
    one true = held_ordered (element_at r o to) (union (sets to) given) (union_ordered (sets to) given (all to) theirs)
    one false = all id

moved_ordered : (r : Registration) (o : Entities) (subject object : Id) (sets : Sets) (movement : Movement) → AllOrdered sets → AllOrdered (moved r o sets (moves_between subject object movement))
moved_ordered r o subject object sets Still all = all
moved_ordered r o subject object sets ToSubject all = received_ordered r o subject (sets object) sets (all object) all
moved_ordered r o subject object sets ToObject all = received_ordered r o object (sets subject) sets (all subject) all
moved_ordered r o subject object sets BothWays all =
    received_ordered r o object (sets subject) (received r o subject (sets object) sets) (all subject) (received_ordered r o subject (sets object) sets (all object) all)

with_ordered : (r : Registration) (o : Entities) (subject : Id) (object : Option ObjectView) (sets : Sets) (movement : Movement) → AllOrdered sets
    → AllOrdered (moved_with r o subject object sets movement)
with_ordered r o subject None sets movement all = all
with_ordered r o subject (Some object) sets movement all = moved_ordered r o subject (record { 0 = object.id }) sets movement all

items_ordered : (r : Registration) (o : Entities) (sets : Sets) (items : List Item) → AllOrdered sets → AllOrdered (moved_by_all r o sets items)
items_ordered r o sets [] all = all
items_ordered r o sets (item ∷ items) all =
    items_ordered r o (moved_by r o sets item) items (with_ordered r o (record { 0 = item.subject.id }) item.object sets (row_of item.op).movement all)

after_ordered : (r : Registration) (found found' : Option LiveEntity) (relabelled : Bool) (set maker : List Elem) → Ordered set → Ordered maker
    → Ordered (set_after r found found' relabelled set maker)
after_ordered r None None relabelled set maker sorted makers = tt
after_ordered r (Some old) None relabelled set maker sorted makers = tt
after_ordered r None (Some new) relabelled set maker sorted makers =
    held_ordered (element_by r new.label) (union (own_source (element_by r new.label)) maker)
    (union_ordered (own_source (element_by r new.label)) maker (alone_ordered (element_by r new.label)) makers)
after_ordered r (Some old) (Some new) true set maker sorted makers = alone_ordered (element_by r new.label)
after_ordered r (Some old) (Some new) false set maker sorted makers = sorted

of_ordered : (by : Option Id) (sets : Sets) → AllOrdered sets → Ordered (set_of by sets)
of_ordered None sets all = tt
of_ordered (Some id) sets all = all id

line_ordered : (r : Registration) (s s' : State) (task : List ℕ) (line : Option Line) (said : Reply) (sets : Sets) → AllOrdered sets
    → AllOrdered (sets_after_line r s s' task line said sets)
line_ordered r s s' task None said sets all id = all id
line_ordered r s s' task (Some line) said sets all id =
    let items : List Item = moving r s task line said in
    let by : Option Id = caller_of s task line in
    after_ordered r (live_at s.objects id) (live_at s'.objects id) (relabels r s task line said id) (moved_by_all r s.objects sets items id)
    (set_of by (moved_by_all r s.objects sets items)) (items_ordered r s.objects sets items all id)
    (of_ordered by (moved_by_all r s.objects sets items) (items_ordered r s.objects sets items all))

event_ordered : (s : Script) (r : Registration) (run : RunState) (e : Event) (sets : Sets) → AllOrdered sets → AllOrdered (sets_after_event s r run e sets)
event_ordered s r run (event.Enter t) sets all = all
event_ordered s r run (event.Done t line said) sets all =
    line_ordered r run.state (run_after s run (event.Done t line said)).state (name_of s t) (next_line s run.progress t) said sets all
event_ordered s r run (event.Leave t) sets all = all
event_ordered s r run (event.Changed t line said) sets all = all

run_ordered : (s : Script) (r : Registration) (run : RunState) (sets : Sets) (es : List Event) → AllOrdered sets → AllOrdered (sets_after s r run sets es)
run_ordered s r run sets [] all = all
run_ordered s r run sets (e ∷ es) all = run_ordered s r (run_after s run e) (sets_after_event s r run e sets) es (event_ordered s r run e sets all)

is_sorted : (set : List Elem) → Ordered set → IsStrictlySortedBy elem_cmp set
unfolding IsStrictlySortedBy
is_sorted [] sorted = tt
is_sorted (x ∷ set) sorted = (sorted.0, is_sorted set sorted.1)

pub sources_sorted : SourcesAreSorted
sources_sorted s r es id =
    is_sorted (sources_of s r es id)
    (run_ordered s r (opening_run s) (opening_sets s r) es (λ id. alone_ordered (element_at r (opening_state s).objects id)) id)
