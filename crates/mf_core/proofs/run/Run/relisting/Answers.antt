use Rattle.std.proofs.Common.{sym, ◌∙◌, subst}
use Rattle.mf_perform.specs.Relisting.{Tells}
use Rattle.mf_core.specs.RunView.{RunView}
use Rattle.mf_core.proofs.Reached.{made}
use Rattle.mf_core.proofs.run.Run.relisting.Goals as goal

pub returns : goal.returns
returns c =
    made c.args.self.now c.self.inside.script.now (record { state = c.self.inside.state; progress = c.self.inside.progress }) c.self.view_is c.self.invariant
    c.args.task c.line-line.result.now c.args.reply.now c.requires.turn c.line-line.ensures.value c.requires.reply
    c.relisting_of.result (sym c.is_ok.ensures ∙ c.if-not-is_ok.false)
    (subst (λ (v : RunView). Tells v.run.state c.line-line.result.now.call c.relisting_of.result) c.self.view_is c.relisting_of.ensures.tells)
    c.relisting_of.ensures.formed
