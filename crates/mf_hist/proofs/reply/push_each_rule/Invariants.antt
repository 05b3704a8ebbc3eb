use Rattle.std.proofs.Common.{◌≡◌, ◌++◌, take, string_bytes}
use Rattle.std.specs.List.{flat_map}
use Rattle.mf_hist.specs.ReplyText.{numbered_text, numbered_from}
use Rattle.mf_hist.proofs.reply.push_each_rule.Given as goal

abbrev pub invariant-loop-number : goal.invariant-loop-number
invariant-loop-number l = string_bytes l.out ≡ string_bytes l.fn.out ++ flat_map numbered_text (numbered_from 0 (take l.number l.rules))
