use Rattle.std.proofs.Common.{sym}
use Rattle.mf_errno.specs.Same.{same_module}
use Rattle.mf_chains.specs.Keepers.{HasLinks}
use Rattle.mf_chains.proofs.Listing.{found_at}
use Rattle.mf_chains.proofs.table.push_chains.Goals as goal

pub push_kept-requires : goal.push_kept-requires
push_kept-requires c =
    found_at HasLinks c.args.keepers.now (λ k. same_module c.args.row.now.module k.registration.module) c.in-Some.keeper.now (sym c.in-Some.ensures) c.requires
