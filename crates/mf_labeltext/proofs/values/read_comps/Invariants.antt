use Rattle.std.proofs.Common.{◌≡◌, length}
use Rattle.mf_labeltext.specs.Reading.{parts, comps_from, comps_in}
use denote.Shadow.{shadow}
use denote.Text.{Utf8}
use Rattle.mf_labeltext.proofs.values.read_comps.Given as goal

abbrev pub invariant-loop-first : goal.invariant-loop-first
invariant-loop-first l =
    record {
      read : comps_from l.comps (parts 43 l.rest) ≡ comps_in l.text;
      text : shadow (Utf8 l.rest);
    }

abbrev pub decreases-loop-first : goal.decreases-loop-first
decreases-loop-first l = length l.rest
