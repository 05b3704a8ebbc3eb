use Rattle.std.proofs.Common.{◌≡◌, map, take}
use Rattle.std.specs.List.{AllByRecursion}
use Rattle.mf_flow.specs.Rows.{IsOpening}
use Rattle.mf_flow.proofs.table.opening_flows.Given as goal

abbrev pub invariant-loop-registration : goal.invariant-loop-registration
invariant-loop-registration l =
    (map (λ flow. flow.registration) l.flows.items ≡ take l.registration-index l.booted) × AllByRecursion (IsOpening l.objects) l.flows.items
