use Rattle.std.proofs.Common.{arith}
use Rattle.mf_flow.proofs.Listed.{policies_listed, policy_listed}
use Rattle.mf_flow.proofs.table.list_flows.Goals as goal

pub loop-flow-preserved : goal.loop-flow-preserved
loop-flow-preserved c = λ s h here all.
    policy_listed s h c.args.objects.now c.args.flows.now c.loop-flow.flow-index c.loop-flow.table c.list_rows.new.table c.flow-item.result (omega arith) c.flow-item.is
    here all (c.loop-flow.invariant s h here all) c.in_ok-list_rows.ensures

pub returns : goal.returns
returns c = λ s h here all.
    policies_listed s h c.args.flows.now c.loop-flow.flow-index c.loop-flow.table (omega arith) (c.loop-flow.invariant s h here all)
