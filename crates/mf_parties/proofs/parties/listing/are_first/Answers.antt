use Rattle.std.proofs.Common.{◌≡◌, ℕ, List, Bor, map, take, ap, sym, ◌∙◌}
use Rattle.mf_objects.specs.Titles.{entry_names, in_byte_order}
use Rattle.mf_parties.proofs.FirstNames.{first_sorted}
use Rattle.mf_parties.proofs.parties.listing.are_first.Goals as goal

pub returns : goal.returns
returns c =
    let names : List (List ℕ) = entry_names c.args.dir c.args.list.now in
    let same : map (λ (name : Bor (List ℕ)). name.now) c.deref.result.now ≡ take 16 (in_byte_order names) =
    ap (map (λ (name : Bor (List ℕ)). name.now)) (c.deref.ensures.value ∙ c.truncate.ensures.items)
    ∙ first_sorted names c.in_ok-names.names.items c.sort_unstable.new.self.items c.in_ok-names.ensures c.sort_unstable.ensures.permutation c.sort_unstable.ensures.sorted in
    (λ is. c.are_names.ensures.0 is ∙ same, λ is. c.are_names.ensures.1 (is ∙ sym same))
