use Rattle.std.proofs.Common.{◌≡◌, ◌++◌, take, string_bytes}
use Rattle.mf_why.specs.Lines.{each_check, lowered_text}
use Rattle.mf_why.proofs.calls.push_each_lowered.Given as goal

abbrev pub invariant-loop-check : goal.invariant-loop-check
invariant-loop-check l = string_bytes l.text ≡ string_bytes l.fn.text ++ each_check (lowered_text l.state.objects l.place l.slot) 1 (take l.check l.plan.items)
