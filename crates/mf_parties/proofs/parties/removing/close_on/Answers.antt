use Rattle.std.proofs.Common.{ap, sym, set, ◌∙◌, arith}
use Rattle.std.proofs.lemmas.List.Edits.{map_over_more}
use Rattle.mf_objects.specs.Live.{LiveEntity}
use Rattle.mf_objects.specs.Changes.{with_what}
use Rattle.mf_objects.specs.Descriptors.{with_fds, closed_on}
use Rattle.mf_parties.proofs.parties.removing.close_on.Goals as goal

pub loop-party-preserved : goal.loop-party-preserved
loop-party-preserved c =
    let f : LiveEntity → LiveEntity = with_what (with_fds (closed_on c.args.file)) in
    ap (set c.loop-party.list c.loop-party.party-index) (c.close_on.ensures ∙ ap f (sym c.party-item.is))
    ∙ map_over_more f c.args.list.now c.loop-party.list c.loop-party.party-index c.party-item.result (omega arith) c.loop-party.invariant c.party-item.is
