use Rattle.std.proofs.Common.{Bool, ◌&&◌, ap, sym, ◌∙◌}
use Rattle.mf_flow.specs.Rows.{may_come}
use Rattle.mf_chains.specs.Happenings.{element_at}
use Rattle.mf_chains.proofs.Telling.{comes_is}
use Rattle.mf_chains.proofs.happened.comes.Goals as goal

pub returns-then-moves : goal.returns-then-moves
returns-then-moves c =
    let r = c.args.registration.now in
    let o = c.args.objects.now in
    c.may_come.ensures
    ∙ comes_is r o c.unwrap_or-slot.result c.number.result c.number-then-moves.result c.args.to c.args.from c.unwrap_or-slot.ensures c.number.ensures c.number-then-moves.ensures
    ∙ sym (ap (λ (b : Bool). b && may_come (element_at r o c.args.to) (element_at r o c.args.from)) c.if-moves.true)
