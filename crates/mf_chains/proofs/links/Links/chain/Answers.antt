use Rattle.std.proofs.Common.{arith, ap, length}
use Rattle.mf_chains.proofs.Linking.{chains_length}
use Rattle.mf_chains.proofs.links.Links.chain.Goals as goal

pub steps_back-requires-clause-place : goal.steps_back-requires-clause-place
steps_back-requires-clause-place c =
    omega (arith, c.requires, ap length c.self.view_is, chains_length c.self.inside.items.items, ap length c.as_slice.ensures.value)
