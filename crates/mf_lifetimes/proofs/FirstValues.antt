-- That the first value of a slot, which a relabel gives it, makes its mark, and that another value makes none.
use Rattle.std.proofs.Common.{◌≡◌, ℕ, Bool, true, false, not, cond, ◌&&◌, ◌||◌, if◌then◌else◌, nat_eq, List, [], ◌∷◌, ◌++◌, map, append-nil, Option, Some, None, refl}
use Rattle.std.specs.Prelude.{is_some}
use Rattle.std.specs.List.{list_all}
use Rattle.std.proofs.lemmas.Bool.{and_parts}
use Rattle.mf_errno.specs.Names.{all_modules}
use Rattle.mf_errno.specs.declared.module.Module.{Module}
use Rattle.mf_errno.proofs.Modules.{each_passes}
use Rattle.mf_elem.specs.declared.label.RangeLabel.{RangeLabel}
use Rattle.mf_elem.specs.declared.label.LabelValue.{LabelValue}
use Rattle.mf_elem.specs.declared.label.LabelValue.TheVariants.{Unset, Range, Number}
use Rattle.mf_elem.specs.declared.label.Request.{Request}
use Rattle.mf_item.specs.declared.view.Kind.{Kind}
use Rattle.mf_item.specs.declared.view.Kind.TheVariants as kinds
use Rattle.mf_policy.specs.declared.modules.Labelling.{Labelling}
use Rattle.mf_policy.specs.declared.modules.Labelling.TheVariants.{Nothing, Ranges, Elements, Partitions}
use Rattle.mf_policy.specs.declared.registration.Registration.{Registration}
use Rattle.mf_policy.specs.Claims.{claims_part, is_claimed, takes_by}
use Rattle.mf_policy.specs.Modules.{facts_of, has_partition, is_named, is_process_kind, labels_by, number_asked, range_asked}
use Rattle.mf_policy.specs.Registration.{Entry, is_listed}
use Rattle.mf_policy.specs.Relabelled.{after_by, number_after, value_after}
use Rattle.mf_policy.proofs.ByEntry.{relabelled_by}
use Rattle.mf_policy.proofs.EachModule.{has_elements}
use Rattle.mf_lifetimes.specs.Marks.{Mark}
use Rattle.mf_lifetimes.specs.Marks.Mark.{Made}
use Rattle.mf_lifetimes.specs.Laws.{AreMarksOf, holds_valid}
use Rattle.mf_lifetimes.proofs.Lasting.{IsLasting}
use Rattle.mf_lifetimes.proofs.Listing.{by_holder}
use Rattle.mf_lifetimes.proofs.Valid.{IsValidOf, valid_set}
use Rattle.mf_objects.specs.Live.{is_set}

-- the first value of a slot that was unset
abbrev pub is_first : LabelValue → LabelValue → Bool
is_first old new = not (is_set old) && is_set new

-- the marks of a slot that had these, after its value has become another, where these are made with its first one
abbrev pub with_first : List Mark → LabelValue → LabelValue → List Mark → List Mark
with_first marks old new made = marks ++ (if is_first old new then made else [])

-- an unchanged value is no first one
pub no_first : (value : LabelValue) → is_first value value ≡ false
no_first Unset = refl
no_first (Range label) = refl
no_first (Number n) = refl

pub unchanged_marks : (value : LabelValue) (marks made : List Mark) → AreMarksOf value marks → AreMarksOf value (with_first marks value value made)
unchanged_marks value marks made agree = rw (no_first value, append-nil marks) agree

-- a set slot has its mark from before
set_marks : (old new : LabelValue) (marks made : List Mark) → is_set old ≡ true → is_set new ≡ true → AreMarksOf old marks → AreMarksOf new (with_first marks old new made)
set_marks Unset new marks made was is agree = cc
set_marks old Unset marks made was is agree = cc
set_marks (Range label) (Range after) marks made was is agree = rw (append-nil marks) agree
set_marks (Range label) (Number n) marks made was is agree = rw (append-nil marks) agree
set_marks (Number m) (Range after) marks made was is agree = rw (append-nil marks) agree
set_marks (Number m) (Number n) marks made was is agree = rw (append-nil marks) agree

-- an unset slot has its mark with its first value
first_marks : (old new : LabelValue) (r : Registration) (marks : List Mark) → is_set new ≡ true → AreMarksOf old marks
    → AreMarksOf new (with_first marks old new (Made r ∷ []))
first_marks old Unset r marks is agree = cc
first_marks Unset (Range after) r marks is agree = (r, rw agree refl)
first_marks Unset (Number n) r marks is agree = (r, rw agree refl)
first_marks (Range label) new r marks is agree = set_marks (Range label) new marks (Made r ∷ []) refl is agree
first_marks (Number n) new r marks is agree = set_marks (Number n) new marks (Made r ∷ []) refl is agree

-- A number: it is asked for processes alone, which have one

number_marks : (r : Registration) (kind : Kind) (asked : Option ℕ) (value : LabelValue) (marks : List Mark) → (is_some asked ≡ true → is_process_kind kind ≡ true)
    → AreMarksOf value marks → AreMarksOf (number_after asked value) (with_first marks value (number_after asked value) (map Made (if has_partition kind then r ∷ [] else [])))
number_marks r kind None value marks claimed agree = unchanged_marks value marks _ agree
number_marks r kinds.Process (Some n) value marks claimed agree = one (nat_eq n 0)
  where
    one : (none : Bool) → AreMarksOf (cond none value (Number n)) (with_first marks value (cond none value (Number n)) (Made r ∷ []))
    one true = unchanged_marks value marks (Made r ∷ []) agree
    one false = first_marks value (Number n) r marks refl agree
number_marks r kinds.Vnode (Some n) value marks claimed agree = let process = claimed refl in cc
number_marks r kinds.Pipe (Some n) value marks claimed agree = let process = claimed refl in cc
number_marks r kinds.Socket (Some n) value marks claimed agree = let process = claimed refl in cc

-- what a claimed request asks of a policy, this takes for that kind
claimed_taken : (listed : List Entry) (kind : Kind) (request : Request) (m : Module) → is_claimed listed kind request ≡ true → is_named m request ≡ true
    → takes_by (facts_of m).labels kind ≡ true
claimed_taken listed kind request m claimed named =
    let each = (and_parts (not request.other) (list_all (claims_part listed kind request) all_modules) claimed).1 in
    one (is_named m request) named (each_passes (claims_part listed kind request) each m)
  where
    one : (named : Bool) → named ≡ true → (not named || (is_listed m listed && takes_by (facts_of m).labels kind)) ≡ true → takes_by (facts_of m).labels kind ≡ true
    one true is part = (and_parts (is_listed m listed) (takes_by (facts_of m).labels kind) part).1
    one false not_named part = cc

-- by the labels, where those with elements are valid
marks_by : (labels : Labelling) (range : Option RangeLabel) (number : Option ℕ) (r : Registration) (kind : Kind) (value : LabelValue) (marks : List Mark)
    → (is_some number ≡ true → takes_by labels kind ≡ true)
    → (has_elements labels ≡ true → (holds_valid labels kind value ≡ true) × (holds_valid labels kind (after_by labels range number value) ≡ true))
    → AreMarksOf value marks
    → AreMarksOf (after_by labels range number value) (with_first marks value (after_by labels range number value) (map Made (if labels_by labels kind then r ∷ [] else [])))
marks_by Nothing range number r kind value marks taken valid agree = unchanged_marks value marks _ agree
marks_by (Ranges process other) range number r kind value marks taken valid agree =
    let both = valid refl in
    set_marks value _ marks _ (valid_set (Ranges process other) kind value both.0) (valid_set (Ranges process other) kind _ both.1) agree
marks_by (Elements element) range number r kind value marks taken valid agree =
    let both = valid refl in
    set_marks value _ marks _ (valid_set (Elements element) kind value both.0) (valid_set (Elements element) kind _ both.1) agree
marks_by Partitions range number r kind value marks taken valid agree = number_marks r kind number value marks taken agree

-- the slot of an entity that a claimed request relabels has its mark exactly where it is set then
pub relabelled_marks : (found : Option Entry) (listed : List Entry) (kind : Kind) (request : Request) (value : LabelValue) (marks : List Mark)
    → is_claimed listed kind request ≡ true
    → ((x : Entry) → found ≡ Some x → IsLasting x.0.module → IsValidOf x.0.module kind value × IsValidOf x.0.module kind (value_after x.0.module request value))
    → AreMarksOf value marks → AreMarksOf (relabelled_by found request value) (with_first marks value (relabelled_by found request value) (map Made (by_holder kind found)))
relabelled_marks None listed kind request value marks claimed valid agree = unchanged_marks value marks [] agree
relabelled_marks (Some x) listed kind request value marks claimed valid agree =
    let m : Module = x.0.module in
    marks_by (facts_of m).labels (range_asked m request) (number_asked m request) x.0 kind value marks
    (λ asked. claimed_taken listed kind request m claimed (one (is_some (range_asked m request)) (is_some (number_asked m request)) asked)) (valid x refl) agree
  where
    one : (range number : Bool) → number ≡ true → (range || number) ≡ true
    one true number asked = refl
    one false number asked = asked
