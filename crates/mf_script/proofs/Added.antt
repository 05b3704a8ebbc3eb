-- Items that the parts of a word add, one after another.
use Rattle.mf_labeltext.specs.Reading.{parts}
use Rattle.std.proofs.Common.{◌≡◌, ℕ, List, [], ◌∷◌, Option, Result, Ok, Err, ap, sym, ◌∙◌}
use Rattle.std.proofs.Common.{Bor, ◌<◌}
use Rattle.std.proofs.lemmas.Str.Pattern.{IsSplitOnceResult}
use Rattle.std.specs.Prelude.{MatchOption}
use Rattle.mf_names.proofs.Splits.{first_part}
use Rattle.mf_script.specs.declared.refusal.Refusal.{Refusal}
use Rattle.mf_script.specs.declared.refusal.Refusal.TheVariants.{Faulty, Memory}
use Rattle.mf_script.specs.Readers.{Read, and_then}
use Rattle.mf_script.specs.Gives.{Fails, Gives}
use Rattle.mf_script.specs.Parts.{all_added}

-- what is read from a text on, by what it reads as
from_part : {A : Type 0} (add : List A → List ℕ → Read (List A)) (items : List A) (all : List (List ℕ)) (w : List ℕ) (ws : List (List ℕ)) (found : Read (List A)) → all ≡ w ∷ ws → add items w ≡ found
    → all_added add items all ≡ and_then found (λ items. all_added add items ws)
unfolding all_added
from_part add items all w ws found is e = ap (all_added add items) is ∙ ap (λ found. and_then found (λ items. all_added add items ws)) e

pub part_fails : {A : Type 0} (add : List A → List ℕ → Read (List A)) (items : List A) (all : List (List ℕ)) (w : List ℕ) (ws : List (List ℕ)) (error : Refusal) (first : Read (List A))
    → all ≡ w ∷ ws → all_added add items all ≡ first → Fails error (add items w) → Fails error first
unfolding and_then
part_fails add items all w ws Memory first is so_far h = tt
part_fails add items all w ws (Faulty fault) first is so_far h = sym so_far ∙ from_part add items all w ws (Err fault) is h

pub part_adds : {A : Type 0} (add : List A → List ℕ → Read (List A)) (items : List A) (all : List (List ℕ)) (w : List ℕ) (ws : List (List ℕ)) (more : List A) (first : Read (List A))
    → all ≡ w ∷ ws → all_added add items all ≡ first → add items w ≡ Ok more → all_added add more ws ≡ first
unfolding and_then
part_adds add items all w ws more first is so_far h = sym (from_part add items all w ws (Ok more) is h) ∙ so_far

-- the last part is read as the whole is
pub last_part : {A : Type 0} (add : List A → List ℕ → Read (List A)) (items : List A) (all : List (List ℕ)) (w : List ℕ) (first : Read (List A)) (more : List A) (result : Result (Unit {0}) Refusal)
    → all ≡ w ∷ [] → all_added add items all ≡ first → Gives (λ u. more) result (add items w) → Gives (λ u. more) result first
unfolding all_added
last_part add items all w first more (Ok u) is so_far h = sym (part_adds add items all w [] more first is so_far h)
last_part add items all w first more (Err e) is so_far h = part_fails add items all w [] e first is so_far h

-- Splitting at a separator

pub split_once_parts : (separator : ℕ) (text : List ℕ) (halves : Option (Bor (List ℕ) × Bor (List ℕ))) → separator < 128 → IsSplitOnceResult separator text halves
    → MatchOption halves (parts separator text ≡ text ∷ []) (λ halves. parts separator text ≡ halves.0.now ∷ parts separator halves.1.now)
unfolding parts
split_once_parts separator text halves small h = first_part separator text halves small h
