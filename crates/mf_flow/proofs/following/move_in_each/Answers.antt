use Rattle.std.proofs.Common.{◌≡◌, arith, map, sym, subst, ◌∙◌}
use Rattle.std.specs.Option.{option_copied}
use Rattle.std.proofs.lemmas.List.Elements.{All-from_recursion}
use Rattle.mf_objects.specs.declared.descriptors.Fd.{Fd}
use Rattle.mf_plan.specs.Outline.{item_of}
use Rattle.mf_flow.specs.declared.following.Flow.{Flow}
use Rattle.mf_flow.specs.Rows.{HasLabelSlot, flow_moved}
use Rattle.mf_flow.proofs.Becoming.{all_become, as_it_was, as_many, becomes_more, none_yet}
use Rattle.mf_flow.proofs.following.move_in_each.Goals as goal

pub loop-place-init : goal.loop-place-init
loop-place-init c = none_yet (λ (f new : Flow). new ≡ flow_moved c.args.state.now (option_copied {T = Fd} c.args.fd) (map (item_of c.args.state.now.objects) c.args.checks.now) f) c.args.flows.now.items

pub move_in-requires : goal.move_in-requires
move_in-requires c =
    let R = λ (f new : Flow). new ≡ flow_moved c.args.state.now (option_copied {T = Fd} c.args.fd) (map (item_of c.args.state.now.objects) c.args.checks.now) f in
    let fs = c.args.flows.now.items in
    let here = c.index_mut.result.now in
    let count = as_many R fs c.loop-place.flows.items c.loop-place.place c.loop-place.invariant in
    subst HasLabelSlot (sym (c.index_mut.ensures.value ∙ as_it_was R fs c.loop-place.flows.items c.loop-place.place here c.loop-place.invariant (omega (arith, count))))
    (All-from_recursion HasLabelSlot fs c.requires c.loop-place.place here (omega (arith, count)))

pub loop-place-preserved : goal.loop-place-preserved
loop-place-preserved c =
    let R = λ (f new : Flow). new ≡ flow_moved c.args.state.now (option_copied {T = Fd} c.args.fd) (map (item_of c.args.state.now.objects) c.args.checks.now) f in
    let count = as_many R c.args.flows.now.items c.loop-place.flows.items c.loop-place.place c.loop-place.invariant in
    becomes_more R c.args.flows.now.items c.loop-place.flows.items c.loop-place.place c.index_mut.result.now c.move_in.new.flow c.loop-place.invariant (omega (arith, count))
    c.index_mut.ensures.value c.in_ok-move_in.ensures

pub returns : goal.returns
returns c =
    let R = λ (f new : Flow). new ≡ flow_moved c.args.state.now (option_copied {T = Fd} c.args.fd) (map (item_of c.args.state.now.objects) c.args.checks.now) f in
    all_become R c.args.flows.now.items c.loop-place.flows.items c.loop-place.place
    (omega (arith, c.len-place-end.ensures)) c.loop-place.invariant
