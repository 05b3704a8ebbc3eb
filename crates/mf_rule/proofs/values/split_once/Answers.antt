use Rattle.mf_labeltext.proofs.Cutting.{split_once_cuts, parts_none, parts_some}
use Rattle.std.proofs.Common.{◌≡◌, ℕ, List, [], ◌∷◌, Option, Some, None, Bor, MatchOption}
use Rattle.mf_labeltext.specs.Reading.{cut, parts}
use Rattle.mf_rule.proofs.values.split_once.Goals as goal

-- what a cut says of the parts
parted : (byte : ℕ) (text : List ℕ) (halves : Option (Bor (List ℕ) × Bor (List ℕ))) → MatchOption halves (cut byte text ≡ None) (λ halves. cut byte text ≡ Some (halves.0.now, halves.1.now))
    → MatchOption halves (parts byte text ≡ text ∷ []) (λ halves. parts byte text ≡ halves.0.now ∷ parts byte halves.1.now)
parted byte text None is = parts_none byte text is
parted byte text (Some halves) is = parts_some byte text halves.0.now halves.1.now is

pub returns-clause-cut : goal.returns-clause-cut
returns-clause-cut c = split_once_cuts c.args.separator c.args.text.now c.split_once.result c.split_once.ensures.cases c.requires

pub returns-clause-parted : goal.returns-clause-parted
returns-clause-parted c = parted c.args.separator c.args.text.now c.split_once.result (split_once_cuts c.args.separator c.args.text.now c.split_once.result c.split_once.ensures.cases c.requires)
