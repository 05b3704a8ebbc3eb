use Rattle.std.proofs.Common.{arith, sym, subst, ◌∙◌}
use Rattle.std.proofs.lemmas.List.Elements.{All-from_recursion}
use Rattle.mf_flow.specs.Rows.{HasLabelSlot}
use Rattle.mf_flow.proofs.Becoming.{IsSettled, all_become, as_it_was, as_many, becomes_more, none_yet}
use Rattle.mf_flow.proofs.following.settle_each.Goals as goal

pub loop-place-init : goal.loop-place-init
loop-place-init c = none_yet (IsSettled c.args.next c.args.objects.now c.args.found.now c.args.is_done) c.args.flows.now.items

pub settle-requires : goal.settle-requires
settle-requires c =
    let R = IsSettled c.args.next c.args.objects.now c.args.found.now c.args.is_done in
    let fs = c.args.flows.now.items in
    let here = c.index_mut.result.now in
    let count = as_many R fs c.loop-place.flows.items c.loop-place.place c.loop-place.invariant in
    subst HasLabelSlot (sym (c.index_mut.ensures.value ∙ as_it_was R fs c.loop-place.flows.items c.loop-place.place here c.loop-place.invariant (omega (arith, count))))
    (All-from_recursion HasLabelSlot fs c.requires c.loop-place.place here (omega (arith, count)))

pub loop-place-preserved : goal.loop-place-preserved
loop-place-preserved c =
    let R = IsSettled c.args.next c.args.objects.now c.args.found.now c.args.is_done in
    let count = as_many R c.args.flows.now.items c.loop-place.flows.items c.loop-place.place c.loop-place.invariant in
    becomes_more R c.args.flows.now.items c.loop-place.flows.items c.loop-place.place c.index_mut.result.now c.settle.new.flow c.loop-place.invariant (omega (arith, count))
    c.index_mut.ensures.value c.in_ok-settle.ensures

pub returns : goal.returns
returns c =
    let R = IsSettled c.args.next c.args.objects.now c.args.found.now c.args.is_done in
    all_become R c.args.flows.now.items c.loop-place.flows.items c.loop-place.place
    (omega (arith, c.len-place-end.ensures)) c.loop-place.invariant
