use Rattle.std.specs.Bool.{one_answer}
use Rattle.std.specs.Cmp.Lexicographic.{pointwise}
use Rattle.std.specs.Str.{bytes_eq}
use Rattle.mf_calls.proofs.Directories.{same_path_decides}
use Rattle.mf_calls.proofs.paths.are_same_paths.Goals as goal

pub returns : goal.returns
returns c = one_answer c.is_same.result (pointwise bytes_eq c.args.path.now c.args.other.now) c.is_same.ensures (same_path_decides c.args.path.now c.args.other.now)
