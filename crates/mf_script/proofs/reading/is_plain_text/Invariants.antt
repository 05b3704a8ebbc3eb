use Rattle.std.proofs.Common.{◌≡◌, take}
use Rattle.std.specs.List.{list_all}
use Rattle.mf_script.proofs.PlainLines.{is_text_byte}
use Rattle.mf_script.proofs.reading.is_plain_text.Given as goal

abbrev pub invariant-loop-byte : goal.invariant-loop-byte
invariant-loop-byte l = l.plain ≡ list_all is_text_byte (take l.byte-index l.text)
