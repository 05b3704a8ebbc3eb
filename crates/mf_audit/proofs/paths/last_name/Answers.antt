use Rattle.std.proofs.Common.{sym, ◌∙◌}
use Rattle.mf_audit.proofs.LastName.{last_of}
use Rattle.mf_audit.proofs.paths.last_name.Goals as goal

pub returns-in-Some : goal.returns-in-Some
returns-in-Some c = sym (last_of c.args.path.now _ c.in-Some.last.now (sym c.components.ensures.value ∙ c.in-Some.ensures))
