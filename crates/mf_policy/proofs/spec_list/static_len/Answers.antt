use Rattle.std.proofs.Common.{◌≡◌, subst, Option, MatchOption, length, ℕ}
use Rattle.std.specs.List.{position_or_len}
use Rattle.mf_policy.specs.Dynamic.{is_dynamic}
use Rattle.mf_policy.proofs.Places.{place_or_len}
use Rattle.mf_policy.proofs.spec_list.static_len.Goals as goal

pub returns-in-Some-clause-value : goal.returns-in-Some-clause-value
returns-in-Some-clause-value c =
    let L = position_or_len is_dynamic c.args.entries.now in
    subst (λ (o : Option ℕ). MatchOption o (length c.args.entries.now ≡ L) (λ i. i ≡ L)) c.in-Some.is (place_or_len is_dynamic c.args.entries.now c.first_dynamic.result c.first_dynamic.ensures)

pub returns-in-None-clause-value : goal.returns-in-None-clause-value
returns-in-None-clause-value c =
    let L = position_or_len is_dynamic c.args.entries.now in
    let e : length c.args.entries.now ≡ L =
    subst (λ (o : Option ℕ). MatchOption o (length c.args.entries.now ≡ L) (λ i. i ≡ L)) c.in-None.is (place_or_len is_dynamic c.args.entries.now c.first_dynamic.result c.first_dynamic.ensures) in
    cc
