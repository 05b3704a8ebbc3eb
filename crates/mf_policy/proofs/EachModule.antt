-- What is so of each module, by its policy and its part of a request.
use Rattle.std.proofs.Common.{◌≡◌, ◌≤◌, ℕ, Bool, true, false, not, ◌&&◌, Some, None, Option, refl}
use Rattle.std.specs.Prelude.{IfSome, if◌then◌else◌, option_map}
use Rattle.mf_errno.specs.declared.errno.Errno.TheVariants.{Success}
use Rattle.mf_errno.specs.declared.module.Module.{Module}
use Rattle.mf_errno.specs.declared.module.Module.TheVariants.{Biba, Mls, Lomac, Partition}
use Rattle.mf_elem.specs.Bounds.{IsAskedLabel, IsElement, IsRequest}
use Rattle.mf_elem.specs.declared.elem.Elem.{Elem}
use Rattle.mf_elem.specs.declared.label.RangeLabel.{RangeLabel}
use Rattle.mf_elem.specs.declared.label.Request.{Request}
use Rattle.mf_elem.specs.Elem.{is_plain}
use Rattle.mf_elem.specs.Label.{element_alone}
use Rattle.mf_elem.specs.declared.label.TheConstants.{LAST_PARTITION}
use Rattle.mf_item.specs.Item.{Item}
use Rattle.mf_policy.specs.declared.modules.Labelling.{Labelling}
use Rattle.mf_policy.specs.declared.modules.Labelling.TheVariants.{Nothing, Ranges, Elements, Partitions}
use Rattle.mf_policy.specs.declared.spec.Spec.{Spec}
use Rattle.mf_policy.specs.declared.spec.Spec.TheVariants as means
use Rattle.mf_policy.specs.Answer.{LatticePolicy, answer, biba, lattice_answer, lomac, mls, tests_transfers}
use Rattle.mf_policy.specs.Modules.{facts_of, module_of, number_asked, range_asked}
use Rattle.mf_policy.specs.Operations.{is_transfer}
use Rattle.mf_policy.specs.Relabel.{credential_relabel, object_relabel}

-- whether each entity has an element by such labels
abbrev pub has_elements : Labelling → Bool
has_elements Nothing = false
has_elements (Ranges process other) = true
has_elements (Elements element) = true
has_elements Partitions = false

-- whether the labels have ranges
abbrev pub has_ranges : Labelling → Bool
has_ranges Nothing = false
has_ranges (Ranges process other) = true
has_ranges (Elements element) = false
has_ranges Partitions = false

-- A policy whose labels have elements, which takes the module's part of a request and answers as the module does with each of its specs,
-- but for transfers that this doesn't test. Where the labels have ranges, it answers to relabels by the rules for those.
pub record AnswersAs (m : Module) : Type 0 where
  pub policy : LatticePolicy
  pub part : (request : Request) → policy.part request ≡ range_asked m request
  pub answers : (spec : Spec) (slot : ℕ) (item : Item) → module_of spec ≡ m → (is_transfer item.op ≡ true → tests_transfers spec ≡ true)
      → answer spec slot item ≡ lattice_answer policy slot item
  pub take : has_ranges (facts_of m).labels ≡ true → (subject : Elem) (label asked : RangeLabel) → policy.relabel_credential subject label asked ≡ credential_relabel label asked
  pub give : has_ranges (facts_of m).labels ≡ true → (subject : Elem) (label : RangeLabel) (old : Elem) (asked : RangeLabel) → policy.relabel_object subject label old asked ≡ object_relabel label old asked

-- the answers of the specs of the three modules
module _ (slot : ℕ) (item : Item) where
  unless_passed : (transfer revocation : Bool) → (transfer ≡ true → revocation ≡ true)
      → (if transfer && not revocation then Success else lattice_answer biba slot item) ≡ lattice_answer biba slot item
  unless_passed false revocation tested = refl
  unless_passed true true tested = refl
  unless_passed true false tested = let no_test : false ≡ true = tested refl in cc

  pub biba_answers : (spec : Spec) → module_of spec ≡ Biba → (is_transfer item.op ≡ true → tests_transfers spec ≡ true) → answer spec slot item ≡ lattice_answer biba slot item
  biba_answers (means.Biba revocation) of tested = unless_passed (is_transfer item.op) revocation tested
  biba_answers other of tested = cc

  pub mls_answers : (spec : Spec) → module_of spec ≡ Mls → answer spec slot item ≡ lattice_answer mls slot item
  mls_answers means.Mls of = refl
  mls_answers other of = cc

  pub lomac_answers : (spec : Spec) → module_of spec ≡ Lomac → answer spec slot item ≡ lattice_answer lomac slot item
  lomac_answers means.Lomac of = refl
  lomac_answers other of = cc

pub answers_as : (m : Module) → has_elements (facts_of m).labels ≡ true → AnswersAs m
answers_as Biba elements =
    record { policy = biba; part = λ request. refl; answers = λ spec slot item of tested. biba_answers slot item spec of tested; take = λ ranges subject label asked. refl; give = λ ranges subject label old asked. refl }
answers_as Mls elements =
    record { policy = mls; part = λ request. refl; answers = λ spec slot item of tested. mls_answers slot item spec of; take = λ ranges subject label asked. refl; give = λ ranges subject label old asked. refl }
answers_as Lomac elements =
    record { policy = lomac; part = λ request. refl; answers = λ spec slot item of tested. lomac_answers slot item spec of; take = λ ranges. cc; give = λ ranges. cc }
answers_as other elements = cc

-- the parts of a request that a text can spell
pub range_spelled : (m : Module) (request : Request) → IsRequest request → IfSome (range_asked m request) IsAskedLabel
range_spelled Biba request is = is.biba
range_spelled Mls request is = is.mls
range_spelled Lomac request is = alone request.lomac is.lomac
  where
    alone : (asked : Option Elem) → IfSome asked (λ element. IsElement element × (is_plain element ≡ true)) → IfSome (option_map element_alone asked) IsAskedLabel
    alone None is = tt
    alone (Some element) is = record { effective = is.0; range = tt; not_empty = refl }
range_spelled other request is = tt

pub number_spelled : (m : Module) (request : Request) → IsRequest request → IfSome (number_asked m request) (λ n. n ≤ LAST_PARTITION)
number_spelled Partition request is = is.partition
number_spelled other request is = tt
