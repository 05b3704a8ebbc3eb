use Rattle.std.specs.Str.{byte}
use Rattle.std.proofs.Common.{arith}
use Rattle.std.proofs.lemmas.Str.Pattern.{strip_prefix_char}
use Rattle.mf_names.proofs.Texts.{behind_first}
use Rattle.mf_names.proofs.path.Path.components.Goals as goal

pub returns-clause-value : goal.returns-clause-value
returns-clause-value c =
    rw (← c.self.view_is, ← c.as_str.ensures.value)
    (behind_first c.as_str.result.now c.strip_prefix.result (rw c.as_str.ensures.value c.self.invariant.begins)
    (strip_prefix_char (byte "/") c.as_str.result.now c.strip_prefix.result c.strip_prefix.ensures.cases (omega arith)))
