use Rattle.std.proofs.Common.{◌++◌, List, map, take_all, ap, ◌∙◌, arith, refl}
use Rattle.std.specs.Option.{option_copied}
use Rattle.mf_objects.specs.declared.descriptors.Fd.{Fd}
use Rattle.mf_plan.specs.Outline.{item_of}
use Rattle.mf_plan.specs.declared.outline.Check.{Check}
use Rattle.mf_chains.specs.Happenings.{moving_from}
use Rattle.mf_chains.proofs.Telling.{moves_more}
use Rattle.mf_chains.proofs.happened.push_moves.Goals as goal

pub loop-place-preserved : goal.loop-place-preserved
loop-place-preserved c =
    moves_more c.args.registration.now c.args.state.now (option_copied {T = Fd} c.args.fd) c.args.event c.args.past.now c.loop-place.past c.push_counted.new.past c.args.checks.now
    c.loop-place.place _ _ (omega arith) c.loop-place.invariant c.in_ok-push_counted.ensures refl

pub returns : goal.returns
returns c =
    c.loop-place.invariant
    ∙ ap (λ (xs : List Check). c.args.past.now ++ moving_from c.args.registration.now c.args.state.now (option_copied {T = Fd} c.args.fd) c.args.event 1 (map (item_of c.args.state.now.objects) xs))
    (take_all c.loop-place.place c.args.checks.now (omega (arith, c.loop-place-test.false)))
