-- What is true of every state of a run, so that what replies hand back fits the fields of a line.
use Rattle.std.proofs.Common.{◌≡◌, ℕ, ◌<◌, ◌≤◌, ◌^◌, true, false, List, [], ◌∷◌, length, Option, Some, None, slice_index_or}
use Rattle.std.specs.Prelude.{IfSome, is_some}
use Rattle.std.specs.List.{AllByRecursion}
use Rattle.mf_errno.specs.declared.module.Module.{Module}
use Rattle.mf_elem.specs.Bounds.{IsElement}
use Rattle.mf_elem.specs.Label.{is_plain_label}
use Rattle.mf_elem.specs.declared.label.LabelValue.{LabelValue}
use Rattle.mf_elem.specs.declared.label.LabelValue.TheVariants.{Unset, Range, Number}
use Rattle.mf_elem.specs.declared.label.RangeLabel.{RangeLabel}
use Rattle.mf_elem.specs.declared.label.TheConstants.{LAST_PARTITION, SLOTS}
use Rattle.mf_item.specs.declared.view.Kind.TheVariants as kinds
use Rattle.mf_policy.specs.declared.modules.Labelling.{Labelling}
use Rattle.mf_policy.specs.declared.modules.Labelling.TheVariants.{Nothing, Ranges, Elements, Partitions}
use Rattle.mf_policy.specs.declared.registration.Registration.{Registration}
use Rattle.mf_policy.specs.declared.spec.Spec.{Spec}
use Rattle.mf_policy.specs.declared.spec.Spec.TheVariants as means
use Rattle.mf_policy.specs.Modules.{facts_of, wants_slot}
use Rattle.mf_policy.specs.Registration.{Entry}
use Rattle.mf_list.specs.Once.{IsListedOnce}
use Rattle.mf_cred.specs.declared.cred.Cred.{Cred}
use Rattle.mf_names.specs.declared.limits.TheConstants.{CONTENT_LIMIT, SCRIPT_LIMIT}
use Rattle.mf_objects.specs.declared.limits.TheConstants.{MOST_ENTITIES}
use Rattle.mf_objects.specs.declared.id.Id.{Id}
use Rattle.mf_objects.specs.declared.entity.EntityData.{EntityData}
use Rattle.mf_objects.specs.Live.{LiveEntity, Entities, content_of, cred_of, file_of, is_entry, kind_of, messages_of, process_file}
use Rattle.mf_objects.specs.Population.{IsRising}
use Rattle.mf_calls.specs.Names.{is_component}
use Rattle.mf_calls.specs.WellFormed.{IsText}
use Rattle.mf_plan.specs.declared.state.State.{State}
use Rattle.mf_hist.specs.Lines.{IsFile, AreRules}
use Rattle.mf_lifetimes.proofs.Listing.{AllBelow, AtMostOne}

-- Entities

-- the uids and the groups that are told of a process fit their types: its effective uid, which its files get, and how it is seen as an object
pub record IsBoundedCred (cred : Cred) : Type 0 where
  pub uid : cred.uid < 2 ^ 32
  pub seen : IsFile (process_file cred)

-- what an entity holds is within the limits, and its numbers fit their types
pub record IsBoundedData (what : EntityData) : Type 0 where
  pub content : IsText CONTENT_LIMIT (content_of what)
  pub messages : AllByRecursion (IsText SCRIPT_LIMIT) (messages_of what)
  pub file : IsFile (file_of what)
  pub cred : IsBoundedCred (cred_of what)

-- an entry of a directory has the name of a component of a path
abbrev pub IsNamed : List ℕ → EntityData → Type 0
IsNamed name what = (dir : Id) → is_entry dir what ≡ true → is_component name ≡ true

pub record IsBounded (e : LiveEntity) : Type 0 where
  pub held : IsBoundedData e.what
  pub named : IsNamed e.name e.what

-- a vnode that belongs to no directory
pub record IsAlone (what : EntityData) : Type 0 where
  pub entry : (dir : Id) → is_entry dir what ≡ false
  pub kind : kind_of what ≡ kinds.Vnode

-- the first entity is the root, whose id is 0
abbrev pub RootIsFirst : List LiveEntity → Type 0
RootIsFirst [] = ⊥
RootIsFirst (e ∷ es) = (e.id.0 ≡ 0) × IsAlone e.what

pub record AreBounded (o : Entities) : Type 0 where
  pub rising : IsRising 0 o.next o.live
  pub rooted : RootIsFirst o.live
  pub few : length o.live ≤ MOST_ENTITIES
  pub each : AllByRecursion IsBounded o.live

-- Policies

-- a rule list of a policy that has one is a rule list that words can stand for
abbrev pub IsBoundedSpec : Spec → Type 0
IsBoundedSpec (means.Bsdextended rules first) = AreRules rules
IsBoundedSpec other = Unit {0}

abbrev pub AreBoundedSpecs : List Entry → Type 0
AreBoundedSpecs specs = AllByRecursion (λ entry. IsBoundedSpec entry.1) specs

-- a policy that labels entities has a slot
abbrev pub IsSlotted : Registration → Type 0
IsSlotted r = wants_slot r.module ≡ true → (slot : ℕ) × (r.slot ≡ Some slot)

-- The listed policies have slots of their own, each of a number that was given. After boot none comes that stays for good.
pub record AreListed (s : State) : Type 0 where
  pub booted : s.booted ≡ true
  pub given : s.numbers ≤ SLOTS
  pub below : AllBelow s.numbers s.specs
  pub single : (slot : ℕ) → AtMostOne slot s.specs
  pub slotted : AllByRecursion (λ entry. IsSlotted entry.0) s.specs

-- Labels

-- a label with an effective element, whose elements are such as a label text can spell
pub record IsWhole (label : RangeLabel) : Type 0 where
  pub effective : IfSome label.effective IsElement
  pub range : IfSome label.range (λ ends. IsElement ends.0 × IsElement ends.1)
  pub there : is_some label.effective ≡ true

-- what may lie in the slot of a policy that labels so; the slot of an entity that came before a policy of partitions is unset
abbrev pub FitsLabelling : Labelling → LabelValue → Type 0
FitsLabelling Nothing value = Unit {0}
FitsLabelling (Ranges process other) Unset = ⊥
FitsLabelling (Ranges process other) (Range label) = IsWhole label
FitsLabelling (Ranges process other) (Number n) = ⊥
FitsLabelling (Elements element) Unset = ⊥
FitsLabelling (Elements element) (Range label) = IsWhole label × (is_plain_label label ≡ true)
FitsLabelling (Elements element) (Number n) = ⊥
FitsLabelling Partitions Unset = Unit {0}
FitsLabelling Partitions (Range label) = ⊥
FitsLabelling Partitions (Number n) = n ≤ LAST_PARTITION

abbrev pub FitsSlot : Module → Option ℕ → List LabelValue → Type 0
FitsSlot m None label = Unit {0}
FitsSlot m (Some slot) label = FitsLabelling (facts_of m).labels (slice_index_or label slot Unset)

-- the label's value in the slot of the registration is one of its module
abbrev pub Fits : List LabelValue → Registration → Type 0
Fits label r = FitsSlot r.module r.slot label

abbrev pub AllFit : List Entry → List LabelValue → Type 0
AllFit specs label = AllByRecursion (λ entry. Fits label entry.0) specs

-- slots of numbers that weren't given are unset
abbrev pub IsUnsetFrom : ℕ → List LabelValue → Type 0
IsUnsetFrom given label = (slot : ℕ) → given ≤ slot → slice_index_or label slot Unset ≡ Unset

-- each live entity has values of the listed policies in their slots
pub record AreLabelled (s : State) : Type 0 where
  pub fit : AllByRecursion (λ e. AllFit s.specs e.label) s.objects.live
  pub unset : AllByRecursion (λ e. IsUnsetFrom s.numbers e.label) s.objects.live

-- States

-- what every step keeps by the call that it is of
pub record HoldsBounded (s : State) : Type 0 where
  pub objects : AreBounded s.objects
  pub specs : AreBoundedSpecs s.specs

pub record IsBoundedState (s : State) : Type 0 where
  pub holds : HoldsBounded s
  pub listed : AreListed s
  pub once : IsListedOnce s.specs
  pub labelled : AreLabelled s
