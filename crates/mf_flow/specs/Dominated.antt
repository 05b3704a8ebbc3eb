-- The laws of the sources by themselves.
use Rattle.mf_policy.specs.declared.registration.Registration.{Registration}
use Rattle.mf_objects.specs.declared.id.Id.{Id}
use Rattle.mf_calls.specs.declared.script.Script.{Script}
use Rattle.mf_calls.specs.WellFormed.{IsWellFormed}
use Rattle.mf_core.specs.declared.history.History.{History}
use Rattle.mf_core.specs.LegalHistory.{IsLegal}
use Rattle.std.specs.Prelude.{List}
use Rattle.std.specs.List.Sorted.{IsStrictlySortedBy}
use Rattle.mf_core.specs.declared.history.Event.{Event}
use Rattle.mf_flow.specs.Order.{elem_cmp}
use Rattle.mf_flow.specs.Sources.{sources_of}
use Rattle.mf_flow.specs.Laws.{AreInOrder}

-- Over a legal history each source of a party stands in the policy's order to the party's element, by each such policy that was booted.
abbrev pub SourcesAreInOrder : Type 0
SourcesAreInOrder = (s : Script) (h : History) → IsWellFormed s → IsLegal s h → AreInOrder s h

-- The sources of a party are a set: they stand in the order in which they are listed, each once.
abbrev pub SourcesAreSorted : Type 0
SourcesAreSorted = (s : Script) (r : Registration) (es : List Event) (id : Id) → IsStrictlySortedBy elem_cmp (sources_of s r es id)
