use Rattle.std.specs.Str.{byte}
use Rattle.mf_labeltext.specs.Reading.{parts}
use Rattle.std.proofs.Common.{arith, sym, ◌∙◌}
use Rattle.mf_script.proofs.PathComponents.{too_many, one_is_none, one_more, last_one, one_less}
use Rattle.mf_script.proofs.names.are_components.Goals.{then-depth-ge-PATH_LIMIT-via-then-depth-ge-PATH_LIMIT, then-depth-ge-PATH_LIMIT-via-else-depth-ge-PATH_LIMIT+then-not-is_component}
use Rattle.mf_script.proofs.names.are_components.Goals as goal

pub returns-then-depth-ge-PATH_LIMIT : goal.returns-then-depth-ge-PATH_LIMIT
returns-then-depth-ge-PATH_LIMIT c = elim c.then-depth-ge-PATH_LIMIT.branch [
  | then-depth-ge-PATH_LIMIT-via-then-depth-ge-PATH_LIMIT w ↦ too_many c.loop-component.depth (parts (byte "/") c.args.word.now) (parts (byte "/") c.loop-component.rest.now) c.in-Some.component.now c.in-Some.after.now c.in-Some.ensures.parted
      c.loop-component.invariant.counted w.if-depth-ge-PATH_LIMIT.true
  | then-depth-ge-PATH_LIMIT-via-else-depth-ge-PATH_LIMIT+then-not-is_component w ↦ one_is_none (parts (byte "/") c.args.word.now) (parts (byte "/") c.loop-component.rest.now) (parts (byte "/") c.in-Some.after.now) c.in-Some.component.now c.in-Some.ensures.parted
      c.loop-component.invariant.so_far (sym w.is_component.ensures ∙ w.if-not-is_component.true)
]

pub returns : goal.returns
returns c =
    last_one c.loop-component.depth (parts (byte "/") c.args.word.now) (parts (byte "/") c.loop-component.rest.now) c.loop-component.rest.now c.is_component-2.result c.in_default.ensures.parted c.loop-component.invariant.counted
    c.loop-component.invariant.few c.loop-component.invariant.so_far c.is_component-2.ensures

pub loop-component-preserved : goal.loop-component-preserved
loop-component-preserved c = record {
  so_far = one_more (parts (byte "/") c.args.word.now) (parts (byte "/") c.loop-component.rest.now) (parts (byte "/") c.in-Some.after.now) c.in-Some.component.now c.in-Some.ensures.parted c.loop-component.invariant.so_far (sym c.is_component.ensures ∙ c.if-not-is_component.false);
  counted = one_less c.loop-component.depth (parts (byte "/") c.args.word.now) (parts (byte "/") c.loop-component.rest.now) (parts (byte "/") c.in-Some.after.now) c.in-Some.component.now c.in-Some.ensures.parted c.loop-component.invariant.counted;
  few = omega (arith, c.if-depth-ge-PATH_LIMIT.false);
  text = search;
}
