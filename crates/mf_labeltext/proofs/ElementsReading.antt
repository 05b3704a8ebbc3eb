-- Reading elements one after another.
use Rattle.std.proofs.Common.{◌≡◌, ℕ, ◌+◌, List, [], length, Some, None, Result, Ok, Err, refl, ap, ◌∙◌}
use Rattle.mf_elem.specs.declared.label.Request.{Request}
use Rattle.mf_text.specs.Results.{and_then}
use Rattle.mf_labeltext.specs.Reading.{cut, parts, element_in, elements_in}
use Rattle.mf_labeltext.specs.declared.fault.LabelFault.{LabelFault}
use Rattle.mf_labeltext.proofs.Cutting.{parts_none, parts_some}

-- one element read, and the others behind it
abbrev pub behind : ℕ → List ℕ → Result Request LabelFault → Result Request LabelFault
behind place after read = and_then read (λ next. elements_in place next (parts 44 after))

pub elements_more : (place : ℕ) (request : Request) (text first after : List ℕ) → cut 44 text ≡ Some (first, after)
    → elements_in place request (parts 44 text) ≡ behind (place + length first + 1) after (element_in place request first)
unfolding elements_in
elements_more place request text first after is = ap (elements_in place request) (parts_some 44 text first after is)

alone : (place : ℕ) (read : Result Request LabelFault) → and_then read (λ next. elements_in place next []) ≡ read
unfolding elements_in
alone place (Ok next) = refl
alone place (Err fault) = refl

pub elements_end : (place : ℕ) (request : Request) (text : List ℕ) → cut 44 text ≡ None → elements_in place request (parts 44 text) ≡ element_in place request text
unfolding elements_in
elements_end place request text is = ap (elements_in place request) (parts_none 44 text is) ∙ alone (place + length text + 1) (element_in place request text)
