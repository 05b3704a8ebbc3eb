use Rattle.std.proofs.Common.{◌≡◌, length, ap, ◌∙◌, arith}
use Rattle.mf_share.specs.Passes.{PassView}
use Rattle.mf_kernel_scenarios.proofs.Pairs.{left-task, left-out, first-read, second-read, second-before, two-back}
use Rattle.mf_kernel_scenarios.proofs.tests.kernel.calls_that_meet.Goals as goal

pub returns : goal.returns
returns g c =
    let ps = c.args.passes.now.items in
    let s = g.J.Job.script in
    let size : length ps ≡ 2 = omega (arith, c.len.ensures, c.args.passes.now.ok.0) in
    let whole : length s.tasks ≡ 2 = omega (arith, size, c.requires.count) in
    let each = c.requires.each in
    let task = λ (p : PassView). p.task in
    let out = λ (p : PassView). p.out in
    let v = c.index_mut.result.now in
    let w = c.index_mut-2.result.now in
    let v' = c.index_mut-4.result.now in
    let w' = c.index_mut-3.result.now in
    let v0 : v.task ≡ 0 = ap task c.index_mut.ensures.value ∙ (each 0 (omega arith) v).0 in
    let w0 : w.task ≡ 1 = ap task (second-before ps c.enter-first.new.pass w size c.index_mut-2.ensures.value) ∙ (each 1 (omega arith) w).0 in
    let v1 : v'.task ≡ 0 = ap task (first-read ps c.enter-first.new.pass c.enter-second.new.pass c.leave.new.pass v' size c.index_mut-4.ensures.value ∙ c.enter-first.ensures.pass) ∙ v0 in
    let w1 : w'.task ≡ 1 = ap task (second-read ps c.enter-first.new.pass c.enter-second.new.pass w' size c.index_mut-3.ensures.value ∙ c.enter-second.ensures.pass) ∙ w0 in
    let a : c.leave-2.new.pass.task ≡ 0 = ap task c.leave-2.ensures.pass ∙ (left-task _ v' ∙ v1) in
    let b : c.leave.new.pass.task ≡ 1 = ap task c.leave.ensures.pass ∙ (left-task _ w' ∙ w1) in
    two-back s ps c.enter-first.new.pass c.enter-second.new.pass c.leave-2.new.pass c.leave.new.pass size whole
    a (ap out c.leave-2.ensures.pass ∙ left-out _ v') b (ap out c.leave.ensures.pass ∙ left-out _ w')
