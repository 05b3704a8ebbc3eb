use Rattle.std.proofs.Common.{◌≡◌, [], refl, sym, subst, ap, ◌∙◌}
use Rattle.mf_core.specs.Opening.{boots_of}
use Rattle.mf_matrix.specs.Slotted.{AreSlotted}
use Rattle.mf_plan.specs.declared.state.State.{State}
use Rattle.mf_top.proofs.Slotted.{legal_are_slotted}
use Rattle.mf_flow_tables.proofs.tests.matrix_at_boot.Goals as goal

pub matrix_of-requires-clause-slots : goal.matrix_of-requires-clause-slots
matrix_of-requires-clause-slots g c κs within =
    let s = c.args.script.now in
    let opened = legal_are_slotted s (record { boots = boots_of s; events = record { list = []; room = 0 } }) c.requires (record { boots = refl; events = tt }) in
    subst (λ (x : State). AreSlotted x.specs) (sym (c.state.ensures ∙ ap (λ v. v.run.state) c.in_ok-run.ensures)) opened
