use Rattle.std.proofs.Common.{map}
use Rattle.mf_policy.specs.Modules.{module_of}
use Rattle.mf_core.proofs.Counting.{all_unlisted, distinct_modules}
use Rattle.mf_core.proofs.booting.unlisted.Goals as goal

pub new-requires-3-clause-distinct : goal.new-requires-3-clause-distinct
new-requires-3-clause-distinct g c κs within = distinct_modules (map (λ p. module_of (g.P.Policy.spec p)) c.args.modules.items) c.requires.modules

pub returns : goal.returns
returns g c =
    all_unlisted c.in_ok-fixed.fixed c.in_ok-list.list c.in_ok-catalogue.catalogue _ c.in_ok-fixed.ensures c.in_ok-list.ensures c.in_ok-catalogue.ensures
    c.requires.modules
