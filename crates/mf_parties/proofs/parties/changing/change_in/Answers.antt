use Rattle.std.proofs.Common.{ap, sym, set, ◌∙◌, arith}
use Rattle.std.proofs.lemmas.List.Edits.{map_over_more}
use Rattle.mf_objects.specs.Live.{LiveEntity}
use Rattle.mf_objects.proofs.Entities.{changed_at}
use Rattle.mf_parties.specs.Changing.{changed}
use Rattle.mf_parties.proofs.parties.changing.change_in.Goals as goal

pub loop-party-preserved : goal.loop-party-preserved
loop-party-preserved c =
    let f : LiveEntity → LiveEntity = changed_at (changed c.args.change.now) c.args.id in
    ap (set c.loop-party.list c.loop-party.party-index) (c.change_at.ensures ∙ ap f (sym c.party-item.is))
    ∙ map_over_more f c.args.list.now c.loop-party.list c.loop-party.party-index c.party-item.result (omega arith) c.loop-party.invariant c.party-item.is
