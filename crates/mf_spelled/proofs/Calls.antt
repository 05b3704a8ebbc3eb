-- The call lines that are read spell the pieces of their calls.
use Rattle.std.proofs.Common.{◌≡◌, ℕ, Bool, true, false, eqb, List, [], ◌∷◌, ◌++◌, Option, Some, None, Ok, refl, sym, subst, ap, ◌∙◌, codes}
use Rattle.std.specs.Prelude.{if◌then◌else◌}
use Rattle.std.proofs.lemmas.Bool.{eqb-true}
use Rattle.mf_words.specs.Words.{Words}
use Rattle.mf_script.specs.declared.error.ScriptFault.TheVariants.{UnknownWord}
use Rattle.mf_script.specs.Readers.{fails, by_option}
use Rattle.mf_script.specs.Parts.{entry_named}
use Rattle.mf_script.specs.Calls.{Arguments, calls, call_in, call_named, call_words}
use Rattle.mf_script.specs.Lines.{behind_at, line_words}
use Rattle.mf_script.proofs.FormedCalls.{call_has_name}
use Rattle.mf_script.proofs.Yields.{Yields, done, refused, chain}
use Rattle.mf_spelling.specs.Spelling.{SpellLine, call_pieces, line_pieces}
use Rattle.mf_spelling.specs.Printed.{first_word}
use Rattle.mf_spelled.proofs.Arguments.{SpellCall}
use Rattle.mf_spelled.proofs.CallRows.{row_of}
use Rattle.mf_spelled.proofs.Lines.{nothing_left, if_some}
use Rattle.mf_spelled.proofs.Words.{name_spells}

-- the call that is read has that name, so its row tells which arguments were read
found_spelled : (name : List ℕ) (ws : Words) → Yields (SpellCall (name ∷ ws)) (call_in calls name ws)
unfolding call_in
found_spelled name ws = record {
  of = λ read e.
      let r = row_of read.0 in
      let own : r.name ≡ name = sym (ap first_word r.are) ∙ (call_has_name name ws).of read e in
      let found : entry_named name calls ≡ Some r.arguments = ap (λ name. entry_named name calls) (sym own) ∙ r.found in
      let same : r.arguments ws ≡ Ok read = ap (λ (found : Option Arguments). by_option found (fails UnknownWord) (λ arguments. arguments ws)) (sym found) ∙ e in
      subst (λ (name : List ℕ). SpellCall (name ∷ ws) read) own ((r.spelled ws).of read same);
}

call_named_spelled : (name : List ℕ) (ws : Words) → Yields (λ c. SpellLine (name ∷ ws) (call_pieces c)) (call_named name ws)
unfolding call_named
call_named_spelled name ws = chain _ _ (found_spelled name ws) (λ read spelled. chain _ _ (nothing_left read.1) (λ u none. done (spelled none)))

call_spelled : (ws : Words) → Yields (λ c. SpellLine ws (call_pieces c)) (call_words ws)
unfolding call_words
call_spelled [] = refused
call_spelled (name ∷ ws) = call_named_spelled name ws

child_at : (w name : List ℕ) → behind_at w ≡ Some name → w ≡ codes "@" ++ name
child_at [] name e = cc
child_at (b ∷ w) name e = by_test (eqb b 64) refl e where
  by_test : (at : Bool) → eqb b 64 ≡ at → (if at then Some w else None) ≡ Some name → b ∷ w ≡ codes "@" ++ name
  by_test true is h = let here : w ≡ name = cc in ap (λ b. b ∷ w) (eqb-true b 64 is) ∙ ap (λ w. 64 ∷ w) here
  by_test false is h = cc

pub line_spelled : (w : List ℕ) (ws : Words) → Yields (λ line. SpellLine (w ∷ ws) (line_pieces line)) (line_words w ws)
unfolding line_words
line_spelled w ws = if_some (behind_at w) _ _
    (chain _ _ (call_named_spelled w ws) (λ c spelled. done spelled))
    (λ name at. chain _ _ (name_spells name) (λ child is. chain _ _ (call_spelled ws) (λ c spelled. done (child_at w name at ∙ ap (λ name. codes "@" ++ name) is, spelled))))
