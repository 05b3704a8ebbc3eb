use Rattle.std.proofs.Common.{sym, ◌∙◌, subst, arith}
use Rattle.mf_names.specs.Paths.{HasNoSlash}
use Rattle.mf_calls.proofs.LoadNames.{scratch_plain}
use Rattle.mf_calls.proofs.generated.scratch_path.Goals as goal

pub path_under-requires : goal.path_under-requires
path_under-requires c = subst HasNoSlash (sym (c.as_str.ensures.value ∙ c.in_ok-name.ensures.ok)) (scratch_plain c.args.number (omega (arith, c.ranges.number)))
