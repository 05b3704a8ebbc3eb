use Rattle.std.specs.Str.{byte}
use Rattle.mf_labeltext.specs.Reading.{parts}
use Rattle.std.proofs.Common.{◌≡◌, length}
use denote.Shadow.{shadow}
use denote.Text.{Utf8}
use Rattle.mf_script.specs.Parts.{with_group, all_added}
use Rattle.mf_script.proofs.numbers.add_groups.Given as goal

abbrev pub invariant-loop-group : goal.invariant-loop-group
invariant-loop-group l = record {
  so_far : all_added with_group l.groups (parts (byte ",") l.rest) ≡ all_added with_group l.fn.groups (parts (byte ",") l.word);
  text : shadow (Utf8 l.rest);
}

abbrev pub decreases-loop-group : goal.decreases-loop-group
decreases-loop-group l = length l.rest
