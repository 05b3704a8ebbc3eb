use Rattle.mf_flow.proofs.Numbering.{known_already}
use Rattle.mf_flow.proofs.known.number_at.Goals as goal

pub returns-in-Some : goal.returns-in-Some
returns-in-Some c =
    known_already c.args.element.now c.args.items.now c.args.place c.in-Some.known.now c.requires c.in-Some.ensures.lookup.3.0 c.in-Some.ensures.lookup.1 (c.is_value.ensures.0 c.if-is_value.true)
