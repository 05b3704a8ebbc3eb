use Rattle.std.specs.Str.{byte}
use Rattle.mf_labeltext.specs.Reading.{parts}
use Rattle.std.proofs.Common.{◌≡◌, [], length}
use denote.Shadow.{shadow}
use denote.Text.{Utf8}
use Rattle.mf_rule.proofs.PortRules.{with_all}
use Rattle.mf_rule.proofs.ports.read_listed.Given as goal

abbrev pub invariant-loop-first : goal.invariant-loop-first
invariant-loop-first l = record {
  so_far : with_all l.rules (parts (byte ",") l.rest) ≡ with_all [] (parts (byte ",") l.text);
  text : shadow (Utf8 l.rest);
}

abbrev pub decreases-loop-first : goal.decreases-loop-first
decreases-loop-first l = length l.rest
