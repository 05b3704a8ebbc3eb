use Rattle.std.proofs.Common.{ap, arith, sym, ◌∙◌}
use Rattle.mf_audit.proofs.Answers.{some_entry}
use Rattle.mf_audit.proofs.Comparing.{differs, loaded_of, one_listed}
use Rattle.mf_audit.proofs.payloads.each_listed.Goals as goal

pub returns-then-not-is_registered : goal.returns-then-not-is_registered
returns-then-not-is_registered c = (
  λ t. cc t,
  λ same. differs c.args.modules.now c.args.listed.now c.loop-place.place _ some_entry c.is_registered.result (omega arith) (search)
      (λ is. c.is_registered.ensures.1 (is ∙ sym (ap loaded_of (c.registration.ensures some_entry)))) same,
)

pub loop-place-preserved : goal.loop-place-preserved
loop-place-preserved c =
    one_listed c.args.modules.now c.args.listed.now c.loop-place.place _ some_entry (omega arith) (omega arith) c.loop-place.invariant
    (c.is_registered.ensures.0 (search) ∙ ap loaded_of (c.registration.ensures some_entry))
