-- Which transfers through descriptors count as movements: this model's own (docs/MANUAL.md, SOURCES). A policy that tests the opening of a file
-- alone makes no test at what goes through the descriptor afterwards: for it that doesn't count while the process or the file has another element
-- than then.
use Rattle.std.specs.Option.{option_eq, option_map_or}
use Rattle.std.specs.Prelude.{ℕ, Bool, true, ◌&&◌, ◌||◌, List, Option, Some, None, option_and_then, slice_index_or}
use Rattle.mf_errno.specs.declared.module.Module.{Module}
use Rattle.mf_elem.specs.declared.label.LabelValue.{LabelValue}
use Rattle.mf_elem.specs.declared.label.LabelValue.TheVariants.{Unset}
use Rattle.mf_item.specs.Item.{Item}
use Rattle.mf_policy.specs.declared.registration.Registration.{Registration}
use Rattle.mf_policy.specs.Answer.{object_slot, range_label, tests_transfers}
use Rattle.mf_policy.specs.Registration.{Entry, spec_in}
use Rattle.mf_list.specs.Asked.{slot_of}
use Rattle.mf_objects.specs.declared.descriptors.Fd.{Fd}
use Rattle.mf_objects.specs.declared.id.Id.{Id}
use Rattle.mf_calls.specs.declared.script.Line.{Line}
use Rattle.mf_plan.specs.declared.state.State.{State}
use Rattle.mf_plan.specs.Found.{descriptor_at}
use Rattle.mf_plan.specs.Names.{caller_name}
use Rattle.mf_plan.specs.Rows.{about_of}
use Rattle.mf_plan.specs.Views.{process_named}
use Rattle.mf_flow.specs.Order.{is_same_element}

-- the process that makes the call of a line of the task
abbrev pub caller_of : State → List ℕ → Line → Option Id
caller_of s task line = process_named s.objects (caller_name task line.child)

-- the descriptor that the call goes through
abbrev pub descriptor_of : State → List ℕ → Line → Option Fd
descriptor_of s task line = option_and_then (λ me. descriptor_at s me (about_of s task me line.call).place) (caller_of s task line)

-- whether the policy of a module tests each transfer, as it is listed
abbrev pub tests_transfers_in : List Entry → Module → Bool
tests_transfers_in listed m = option_map_or tests_transfers (spec_in m listed) true

-- whether two values have one effective element
abbrev pub has_same_element : LabelValue → LabelValue → Bool
has_same_element value other = option_eq is_same_element (range_label value).effective (range_label other).effective

-- whether process and file have the elements that they had when the file was opened
abbrev pub is_as_opened : ℕ → Fd → Item → Bool
is_as_opened slot fd item =
    has_same_element (slice_index_or item.subject.label slot Unset) fd.subject && has_same_element (object_slot item.object slot) fd.object

-- whether a check of a call that goes through this descriptor, or through none, counts for the policy that is registered so
abbrev pub counts : Registration → List Entry → Option Fd → Item → Bool
counts r listed None item = true
counts r listed (Some fd) item = tests_transfers_in listed r.module || is_as_opened (slot_of r) fd item
