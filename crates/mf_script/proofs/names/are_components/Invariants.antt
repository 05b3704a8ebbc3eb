use Rattle.std.specs.Str.{byte}
use Rattle.std.specs.List.{list_all}
use Rattle.mf_labeltext.specs.Reading.{parts}
use Rattle.std.proofs.Common.{◌≡◌, ◌+◌, ◌≤◌, length}
use denote.Shadow.{shadow}
use denote.Text.{Utf8}
use Rattle.mf_names.specs.declared.limits.TheConstants.{PATH_LIMIT}
use Rattle.mf_calls.specs.Names.{is_component}
use Rattle.mf_script.proofs.names.are_components.Given as goal

abbrev pub invariant-loop-component : goal.invariant-loop-component
invariant-loop-component l = record {
  so_far : list_all is_component (parts (byte "/") l.rest) ≡ list_all is_component (parts (byte "/") l.word);
  counted : l.depth + length (parts (byte "/") l.rest) ≡ length (parts (byte "/") l.word) + 1;
  few : l.depth ≤ PATH_LIMIT;
  text : shadow (Utf8 l.rest);
}

abbrev pub decreases-loop-component : goal.decreases-loop-component
decreases-loop-component l = length l.rest
