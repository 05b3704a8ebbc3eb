-- What checks that passed make of the sources, while what they observe may lower their caller.
use Rattle.std.proofs.Common.{◌≡◌, ℕ, Bool, true, false, cond, nat_eq, List, [], ◌∷◌, Option, Some, None, slice_index_or, refl, ap, sym, ◌∙◌, subst, arith, ◌⊎◌, inl, inr}
use Rattle.std.specs.List.{AllByRecursion, fold}
use Rattle.std.proofs.lemmas.Bool.Decides.{nat_tests}
use Rattle.mf_errno.specs.declared.errno.Errno.TheVariants.{Success}
use Rattle.mf_elem.specs.declared.elem.Elem.{Elem}
use Rattle.mf_elem.specs.declared.label.LabelValue.{LabelValue}
use Rattle.mf_elem.specs.declared.label.LabelValue.TheVariants.{Unset}
use Rattle.mf_item.specs.Item.{Item}
use Rattle.mf_item.specs.declared.view.ObjectView.{ObjectView}
use Rattle.mf_policy.specs.declared.registration.Registration.{Registration}
use Rattle.mf_policy.specs.Answer.{range_label, object_slot, part_of, lattice_answer}
use Rattle.mf_policy.specs.Lowering.{observes}
use Rattle.mf_policy.specs.Operations.{row_of}
use Rattle.mf_policy.specs.declared.operations.Movement.{Movement}
use Rattle.mf_policy.specs.declared.operations.Movement.TheVariants.{Still, ToSubject, ToObject, BothWays}
use Rattle.mf_list.specs.Asked.{slot_of}
use Rattle.mf_objects.specs.declared.id.Id.{Id}
use Rattle.mf_objects.specs.Live.{Entities, label_at}
use Rattle.mf_flow.specs.Order.{union}
use Rattle.mf_flow.specs.Sources.{element_by, held_by, Sets, received, moved, moved_by, moves_between}
use Rattle.mf_flow.proofs.Across.{moved_with, moved_by_all, element_at, is_id}
use Rattle.mf_flow.proofs.Orders.{FlowPolicy, IsFlowPolicy}
use Rattle.mf_flow.proofs.Bounds.{Fit, Has, is_exempt, Allowed, AllowedBy, Observed, allowed_itself, nothing_observed, remaining, remaining_exempt, remaining_has, received_fit, allows}

abbrev id_from : ℕ → Id
id_from n = record { 0 = n }

pub same_id : (id other : Id) → is_id id other ≡ true → id ≡ other
same_id id other same =
    let number : id.0 ≡ other.0 = grind (arith, nat_tests) in
    ap id_from number

pub is_itself : (id : Id) → is_id id id ≡ true
is_itself id = one id.0
  where
    one : (n : ℕ) → nat_eq n n ≡ true
    one n = grind (arith, nat_tests)

-- Elements while the caller is lowered

-- the element of the entity of an id, while the caller has this one
abbrev pub element_now : Registration → Entities → Id → Option Elem → Id → Option Elem
element_now r o me now id = cond (is_id id me) now (element_at r o id)

-- the element that a check tells of its object
abbrev pub object_element : Registration → Item → Option Elem
object_element r item = (range_label (object_slot item.object (slot_of r))).effective

-- the caller's element after a check that passed
abbrev pub element_then : FlowPolicy → Registration → Option Elem → Item → Option Elem
element_then p r now item = cond (observes (row_of item.op).movement) (remaining p now (object_element r item)) now

its_own : (r : Registration) (o : Entities) (me : Id) (now : Option Elem) → element_now r o me now me ≡ now
its_own r o me now = ap (λ (b : Bool). cond b now (element_at r o me)) (is_itself me)

another : (r : Registration) (o : Entities) (me : Id) (now : Option Elem) (id : Id) → is_id id me ≡ false → element_now r o me now id ≡ element_at r o id
another r o me now id other = ap (λ (b : Bool). cond b now (element_at r o id)) other

-- a caller that isn't lowered so far
pub still : (r : Registration) (o : Entities) (me : Id) (now : Option Elem) (id : Id) → now ≡ element_at r o me → element_now r o me now id ≡ element_at r o id
still r o me now id is = one (is_id id me) refl
  where
    one : (b : Bool) → is_id id me ≡ b → cond b now (element_at r o id) ≡ element_at r o id
    one true same = is ∙ ap (element_at r o) (sym (same_id id me same))
    one false other = refl

-- the sources of each entity are fit for it then
abbrev pub AllFitNow : FlowPolicy → Registration → Entities → Id → Option Elem → Sets → Type 0
AllFitNow p r o me now sets = (id : Id) → Fit p (element_now r o me now id) (sets id)

-- the policy's labels have the element of each entity
abbrev pub AllHave : FlowPolicy → Registration → Entities → Type 0
AllHave p r o = (id : Id) → Has p (element_at r o id)

-- what the caller was lowered to is an element that the policy's labels have, and equal exactly where its first one is
pub record IsReady (p : FlowPolicy) (r : Registration) (o : Entities) (me : Id) (now : Option Elem) : Type 0 where
  pub has : Has p now
  pub same : is_exempt (element_at r o me) ≡ is_exempt now

-- What a check sees

abbrev pub IsObject : Entities → Option ObjectView → Type 0
IsObject o None = Unit {0}
IsObject o (Some object) = object.label ≡ label_at o (record { 0 = object.id })

-- Subject and object have the labels of the live entities of their ids, but the caller has the element of now. The caller is the subject; or no check
-- has lowered it, and this one moves nothing to its subject.
pub record IsSeen (r : Registration) (o : Entities) (me : Id) (now : Option Elem) (item : Item) : Type 0 where
  pub subject : element_by r item.subject.label ≡ element_now r o me now (record { 0 = item.subject.id })
  pub object : IsObject o item.object
  pub by : ((let id : Id = record { 0 = item.subject.id } in id) ≡ me) ⊎ ((now ≡ element_at r o me) × (observes (row_of item.op).movement ≡ false))

-- what the check moves is allowed, by the elements that it tells, where the policy's labels have them
abbrev pub IsAllowed : FlowPolicy → Registration → Item → Type 0
IsAllowed p r item =
    Has p (element_by r item.subject.label) → Has p (object_element r item)
    → AllowedBy p (row_of item.op).movement (element_by r item.subject.label) (object_element r item)

-- so it is of checks one after another
abbrev pub AllSeen : FlowPolicy → Registration → Entities → Id → Option Elem → List Item → Type 0
AllSeen p r o me now [] = Unit {0}
AllSeen p r o me now (item ∷ items) = IsSeen r o me now item × AllSeen p r o me (element_then p r now item) items

module _ (p : FlowPolicy) (flows : IsFlowPolicy p) (r : Registration) (o : Entities) (me : Id) where
  -- something comes to one party, and the others keep what they have
  received_now : (now : Option Elem) (to : Id) (given : List Elem) (sets : Sets) → Fit p (element_now r o me now to) (held_by (element_at r o to) (union (sets to) given))
      → ((id : Id) → is_id id to ≡ false → Fit p (element_now r o me now id) (sets id)) → AllFitNow p r o me now (received r o to given sets)
  received_now now to given sets here rest id = one (is_id id to) refl
    where
      one : (b : Bool) → is_id id to ≡ b → Fit p (element_now r o me now id) (cond b (held_by (element_at r o to) (union (sets to) given)) (sets id))
      one true same =
          subst (λ (x : Id). Fit p (element_now r o me now x) (held_by (element_at r o to) (union (sets to) given))) (sym (same_id id to same)) here
      one false other = rest id other

  own_fit : (now : Option Elem) (sets : Sets) → AllFitNow p r o me now sets → Fit p now (sets me)
  own_fit now sets all = subst (λ (e : Option Elem). Fit p e (sets me)) (its_own r o me now) (all me)

  -- the caller observes an object
  observed_now : (now : Option Elem) (object : Id) (sets : Sets) → IsReady p r o me now → Observed p now (element_at r o object) → AllFitNow p r o me now sets
      → AllFitNow p r o me (remaining p now (element_at r o object)) (received r o me (sets object) sets)
  observed_now now object sets ready allowed all =
      received_now after me (sets object) sets
      (subst (λ (e : Option Elem). Fit p e (held_by (element_at r o me) (union (sets me) (sets object)))) (sym (its_own r o me after))
      (received_fit p flows now (element_now r o me now object) after (element_at r o me) (sets me) (sets object)
      (ready.same ∙ sym (remaining_exempt p flows now (element_at r o object))) allowed.0 (theirs (is_id object me)) (own_fit now sets all) (all object)))
      (λ id other. subst (λ (e : Option Elem). Fit p e (sets id)) (another r o me now id other ∙ sym (another r o me after id other)) (all id))
    where
      after : Option Elem
      after = remaining p now (element_at r o object)

      theirs : (b : Bool) → Allowed p after (cond b now (element_at r o object))
      theirs true = allowed.0
      theirs false = allowed.1

  -- something comes to an object from the caller, which may have been lowered since
  written_now : (now after : Option Elem) (object : Id) (given : List Elem) (sets : Sets) → is_exempt (element_at r o me) ≡ is_exempt after → Allowed p after now
      → Allowed p (element_at r o object) now → Fit p now given → AllFitNow p r o me after sets → AllFitNow p r o me after (received r o object given sets)
  written_now now after object given sets same below allowed fit all =
      received_now after object given sets (here (is_id object me) refl) (λ id other. all id)
    where
      here : (b : Bool) → is_id object me ≡ b → Fit p (cond b after (element_at r o object)) (held_by (element_at r o object) (union (sets object) given))
      here true is =
          received_fit p flows after now after (element_at r o object) (sets object) given (ap (λ (x : Id). is_exempt (element_at r o x)) (same_id object me is) ∙ same)
          (allowed_itself p flows after) below (subst (λ (b : Bool). Fit p (cond b after (element_at r o object)) (sets object)) is (all object)) fit
      here false is =
          received_fit p flows (element_at r o object) now (element_at r o object) (element_at r o object) (sets object) given refl (allowed_itself p flows (element_at r o object)) allowed
          (subst (λ (b : Bool). Fit p (cond b after (element_at r o object)) (sets object)) is (all object)) fit

  -- from another, while no check has lowered the caller
  apart_now : (now : Option Elem) (subject object : Id) (sets : Sets) → now ≡ element_at r o me → Allowed p (element_at r o object) (element_at r o subject)
      → AllFitNow p r o me now sets → AllFitNow p r o me now (received r o object (sets subject) sets)
  apart_now now subject object sets is allowed all =
      received_now now object (sets subject) sets
      (subst (λ (e : Option Elem). Fit p e (held_by (element_at r o object) (union (sets object) (sets subject)))) (sym (still r o me now object is))
      (received_fit p flows (element_at r o object) (element_at r o subject) (element_at r o object) (element_at r o object) (sets object) (sets subject) refl
      (allowed_itself p flows (element_at r o object)) allowed (fit object) (fit subject)))
      (λ id other. all id)
    where
      fit : (id : Id) → Fit p (element_at r o id) (sets id)
      fit id = subst (λ (e : Option Elem). Fit p e (sets id)) (still r o me now id is) (all id)

  -- a movement that the policy allows, by the elements of the subject as it is now and of the object as it is in the state
  moved_now : (now : Option Elem) (subject object : Id) (sets : Sets) (movement : Movement) → (subject ≡ me) ⊎ ((now ≡ element_at r o me) × (observes movement ≡ false))
      → AllowedBy p movement (element_now r o me now subject) (element_at r o object) → IsReady p r o me now → AllFitNow p r o me now sets
      → AllFitNow p r o me (cond (observes movement) (remaining p now (element_at r o object)) now) (moved r o sets (moves_between subject object movement))
  moved_now now subject object sets Still by allowed ready all = all
  moved_now now subject object sets ToSubject (inl is) allowed ready all =
      subst (λ (x : Id). AllFitNow p r o me (remaining p now (element_at r o object)) (received r o x (sets object) sets)) (sym is)
      (observed_now now object sets ready (subst (λ (e : Option Elem). Observed p e (element_at r o object)) (ap (element_now r o me now) is ∙ its_own r o me now) allowed) all)
  moved_now now subject object sets ToSubject (inr none) allowed ready all = absurd (different none.1)
    where
      different : true ≡ false → ⊥
      different same = cc
  moved_now now subject object sets ToObject (inl is) allowed ready all =
      subst (λ (x : Id). AllFitNow p r o me now (received r o object (sets x) sets)) (sym is)
      (written_now now now object (sets me) sets ready.same (allowed_itself p flows now)
      (subst (λ (e : Option Elem). Allowed p (element_at r o object) e) (ap (element_now r o me now) is ∙ its_own r o me now) allowed) (own_fit now sets all) all)
  moved_now now subject object sets ToObject (inr none) allowed ready all =
      apart_now now subject object sets none.0 (subst (λ (e : Option Elem). Allowed p (element_at r o object) e) (still r o me now subject none.0) allowed) all
  moved_now now subject object sets BothWays (inl is) allowed ready all =
      let own : AllowedBy p BothWays now (element_at r o object) =
      subst (λ (e : Option Elem). AllowedBy p BothWays e (element_at r o object)) (ap (element_now r o me now) is ∙ its_own r o me now) allowed in
      let after : Option Elem = remaining p now (element_at r o object) in
      subst (λ (x : Id). AllFitNow p r o me after (received r o object (sets x) (received r o x (sets object) sets))) (sym is)
      (written_now now after object (sets me) (received r o me (sets object) sets) (ready.same ∙ sym (remaining_exempt p flows now (element_at r o object))) own.0.0 own.1
      (own_fit now sets all) (observed_now now object sets ready own.0 all))
  moved_now now subject object sets BothWays (inr none) allowed ready all = absurd (different none.1)
    where
      different : true ≡ false → ⊥
      different same = cc

  with_now : (now : Option Elem) (subject : Id) (object : Option ObjectView) (sets : Sets) (movement : Movement)
      → (subject ≡ me) ⊎ ((now ≡ element_at r o me) × (observes movement ≡ false)) → IsObject o object
      → AllowedBy p movement (element_now r o me now subject) (range_label (object_slot object (slot_of r))).effective → IsReady p r o me now → AllFitNow p r o me now sets
      → AllFitNow p r o me (cond (observes movement) (remaining p now (range_label (object_slot object (slot_of r))).effective) now) (moved_with r o subject object sets movement)
  with_now now subject None sets movement by theirs allowed ready all = subst (λ (e : Option Elem). AllFitNow p r o me e sets) (sym (one (observes movement))) all
    where
      one : (b : Bool) → cond b (remaining p now None) now ≡ now
      one true = nothing_observed p now
      one false = refl
  with_now now subject (Some object) sets movement by theirs allowed ready all =
      let id : Id = record { 0 = object.id } in
      subst (λ (label : List LabelValue). AllFitNow p r o me (cond (observes movement) (remaining p now (element_by r label)) now) (moved r o sets (moves_between subject id movement)))
      (sym theirs)
      (moved_now now subject id sets movement by
      (subst (λ (label : List LabelValue). AllowedBy p movement (element_now r o me now subject) (element_by r label)) theirs allowed) ready all)

  -- the object has an element that the policy's labels have
  object_has : (object : Option ObjectView) → IsObject o object → AllHave p r o → Has p (range_label (object_slot object (slot_of r))).effective
  object_has None theirs have = tt
  object_has (Some object) theirs have = subst (λ (label : List LabelValue). Has p (element_by r label)) (sym theirs) (have (record { 0 = object.id }))

  -- what the policy passes is allowed
  pub passed_allowed : (item : Item) → lattice_answer p.lattice (slot_of r) item ≡ Success → IsAllowed p r item
  passed_allowed item success own theirs =
      allows p flows (range_label (slice_index_or item.subject.label (slot_of r) Unset)) (part_of p.lattice item.request) (element_by r item.subject.label) (object_element r item)
      own theirs item.op success

  -- a check that is allowed moves sources only to where they are fit
  pub item_now : (now : Option Elem) (sets : Sets) (item : Item) → IsAllowed p r item → IsSeen r o me now item → AllHave p r o
      → IsReady p r o me now → AllFitNow p r o me now sets → AllFitNow p r o me (element_then p r now item) (moved_by r o sets item)
  item_now now sets item allowed seen have ready all =
      let subject : Id = record { 0 = item.subject.id } in
      with_now now subject item.object sets (row_of item.op).movement seen.by seen.object
      (subst (λ (e : Option Elem). AllowedBy p (row_of item.op).movement e (object_element r item)) seen.subject
      (allowed (subst (Has p) (sym seen.subject) (its_has (is_id subject me) subject)) (object_has item.object seen.object have)))
      ready all
    where
      its_has : (b : Bool) (id : Id) → Has p (cond b now (element_at r o id))
      its_has true id = ready.has
      its_has false id = have id

  ready_then : (now : Option Elem) (item : Item) → IsObject o item.object → AllHave p r o → IsReady p r o me now → IsReady p r o me (element_then p r now item)
  ready_then now item theirs have ready = one (observes (row_of item.op).movement)
    where
      object : Option Elem
      object = object_element r item

      one : (b : Bool) → IsReady p r o me (cond b (remaining p now object) now)
      one true =
          record {
            has = remaining_has p flows now object ready.has (object_has item.object theirs have);
            same = ready.same ∙ sym (remaining_exempt p flows now object);
          }
      one false = ready

  pub items_now : (now : Option Elem) (sets : Sets) (items : List Item) → AllByRecursion (IsAllowed p r) items
      → AllSeen p r o me now items → AllHave p r o → IsReady p r o me now → AllFitNow p r o me now sets
      → AllFitNow p r o me (fold (element_then p r) now items) (moved_by_all r o sets items)
  items_now now sets [] allowed seen have ready all = all
  items_now now sets (item ∷ items) allowed seen have ready all =
      items_now (element_then p r now item) (moved_by r o sets item) items allowed.1 seen.1 have (ready_then now item seen.0.object have ready)
      (item_now now sets item allowed.0 seen.0 have ready all)
