use Rattle.mf_flow.proofs.SetRows.{with_one}
use Rattle.mf_flow.proofs.set_list.with_element.Goals as goal

pub returns-clause-ok : goal.returns-clause-ok
returns-clause-ok c =
    with_one c.args.element.now c.in_ok-number.number c.args.known.now c.number_of.new.self c.args.set c.add.new.self c.number_of.ensures.numbered c.in_ok-number.ensures.ok c.requires.within
    c.in_ok-add.ensures.ok
