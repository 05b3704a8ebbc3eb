use Rattle.std.proofs.Common.{◌≡◌, ◌≤◌, ◌-◌, length}
use Rattle.mf_labeltext.specs.Reading.{parts, elements_in, request_in}
use denote.Shadow.{shadow}
use denote.Text.{Utf8}
use Rattle.mf_labeltext.proofs.reading.read_elements.Given as goal

abbrev pub invariant-loop-element : goal.invariant-loop-element
invariant-loop-element l =
    record {
      read : elements_in (length l.text - length l.rest) l.request (parts 44 l.rest) ≡ request_in l.text;
      within : length l.rest ≤ length l.text;
      text : shadow (Utf8 l.rest);
    }

abbrev pub decreases-loop-element : goal.decreases-loop-element
decreases-loop-element l = length l.rest
