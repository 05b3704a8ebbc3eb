use Rattle.std.proofs.Common.{◌≡◌, List, ℕ, [], None, refl, ap, sym, ◌∙◌}
use Rattle.std.specs.Result.{result_ok}
use Rattle.mf_labeltext.specs.Reading.{request_in, parts, element_in, elements_in}
use Rattle.mf_plan.proofs.last_label.LastLabel.new.Goals as goal

-- an empty text can't be read
none_asked : result_ok (request_in []) ≡ None
unfolding request_in parts element_in elements_in
none_asked = refl

pub invariant_of-result : goal.invariant_of-result
invariant_of-result c = sym (ap (λ (text : List ℕ). result_ok (request_in text)) c.new.ensures ∙ none_asked)
