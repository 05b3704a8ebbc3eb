use Rattle.std.proofs.Common.{ap, arith, get_or, None, false, rules}
use Rattle.std.proofs.lemmas.List.{take_more_same}
use Rattle.mf_errno.specs.declared.module.Module.TheVariants as modules
use Rattle.mf_policy.specs.declared.spec.Spec.TheVariants as means
use Rattle.mf_policy.specs.Registration.{Entry}
use Rattle.mf_list.proofs.listed.Listed.same_specs.Goals as goal

some_entry : Entry
some_entry = (record { «module» = modules.Biba; slot = None; fixed = false }, means.Biba false)

pub returns-then-not-agrees_at : goal.returns-then-not-agrees_at
returns-then-not-agrees_at g c =
    (λ t. cc, λ e. let s = c.agrees_at.ensures some_entry in let h = s.1 (ap (λ es. get_or es c.loop-place.place some_entry) e) in cc)

pub loop-place-preserved : goal.loop-place-preserved
loop-place-preserved g c =
    let s = c.agrees_at.ensures some_entry in
    (take_more_same c.args.self.now c.args.specs.now c.loop-place.place some_entry (omega arith) (omega arith) c.loop-place.invariant.0 (s.0 (search rules)), c.loop-place.invariant.1)
