use Rattle.std.proofs.Common.{sym, ◌∙◌, subst, arith}
use Rattle.mf_names.specs.Paths.{HasNoSlash}
use Rattle.mf_calls.proofs.LoadNames.{directory_plain}
use Rattle.mf_calls.proofs.generated.directory_path.Goals as goal

pub push-requires-clause-one : goal.push-requires-clause-one
push-requires-clause-one c = subst HasNoSlash (sym (c.as_str.ensures.value ∙ c.in_ok-name.ensures.ok)) (directory_plain c.args.task (omega (arith, c.ranges.task)))
