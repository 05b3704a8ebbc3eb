-- The first fault of a text is in the line that the reader names.
use Rattle.std.proofs.Common.{◌≡◌, ℕ, zero, suc, ◌+◌, lit≤, length, subst, List, [], ◌∷◌, ◌++◌, Option, Ok, Err, refl, sym, ap, ◌∙◌, arith, inl, inr}
use Rattle.std.specs.Prelude.{take, ◌⊎◌, codes}
use Rattle.std.proofs.lemmas.List.{append-nil}
use Rattle.mf_names.specs.declared.limits.TheConstants.{SCRIPT_LIMIT}
use Rattle.mf_script.proofs.SoFar.{starts}
use Rattle.mf_script.proofs.EveryScript.{AreWithin, longer, lines_within, from_formed, scripts_formed}
use Rattle.mf_spelled.proofs.Scripts.{lines_spelled, scripts_spelled}
use Rattle.mf_spelled.proofs.ScriptsBack.{lines_read, spelled_read}
use Rattle.mf_errno.specs.declared.errno.Errno.{Errno}
use Rattle.mf_words.specs.Words.{lines_in}
use Rattle.mf_calls.specs.declared.script.Script.{Script}
use Rattle.mf_script.specs.declared.error.ScriptFault.{ScriptFault}
use Rattle.mf_script.specs.declared.error.ScriptError.TheVariants.{Fault}
use Rattle.mf_script.specs.declared.refusal.LineFault.{LineFault}
use Rattle.mf_script.specs.declared.rows.Place.{Place}
use Rattle.mf_script.specs.declared.rows.Place.TheVariants as place
use Rattle.mf_script.specs.Readers.{Read, and_then}
use Rattle.mf_script.specs.Grammar.{Reading, blank, line_read, words_line, row_in, in_task, in_steps, nothing_behind, or_at, ended, script_from, script_of}
use Rattle.mf_spelled.specs.Laws.{AreLinesOf, FaultsAreFirst, ScriptsAreTheirTexts}

-- the first fault of lines that are read from a place on, where the first of them has that number
record IsFault (s : Script) (p : Place) (k : ℕ) (lines : List (List ℕ)) (n : ℕ) : Type 0 where
  script : Script
  before : (script_from s p k (take n lines) ≡ Ok script) ⊎ (script_from s p k (take n lines ++ codes "end" ∷ []) ≡ Ok script)
  with_it : (other : List (List ℕ)) (found : Script) → take (suc n) other ≡ take (suc n) lines → script_from s p k other ≡ Ok found → ⊥

-- a script that ends at a place, or an `end` behind it
record Ends (s : Script) (p : Place) (k : ℕ) : Type 0 where
  script : Script
  before : (script_from s p k [] ≡ Ok script) ⊎ (script_from s p k (codes "end" ∷ []) ≡ Ok script)

can_end : (s : Script) (p : Place) (k : ℕ) → Ends s p k
unfolding script_from line_read words_line row_in in_task in_steps nothing_behind and_then
can_end s place.Boots k = record { script = s; before = inl refl }
can_end s place.Tunable k = record { script = s; before = inl refl }
can_end s place.Files k = record { script = s; before = inl refl }
can_end s (place.Tasks lists) k = record { script = s; before = inl refl }
can_end s (place.Task t lists) k = record { script = record s { tasks = s.tasks ++ t ∷ [] }; before = inr refl }
can_end s place.Steps k = record { script = s; before = inr refl }
can_end s place.End k = record { script = s; before = inl refl }

-- where nothing is left no other lines have the same beginning
none_begin : (other : List (List ℕ)) → take 1 other ≡ [] → other ≡ []
none_begin [] e = refl
none_begin (line ∷ other) e = cc

no_end : (s : Script) (p : Place) (k line : ℕ) (fault : ScriptFault) (errno : Option Errno) → ended s p k ≡ Err (Fault line fault errno) → (line ≡ k + 0) × IsFault s p k [] 0
unfolding script_from
no_end s p k line fault errno e = (
  at p e,
  record {
    script = (can_end s p k).script;
    before = (can_end s p k).before;
    with_it = λ other found same is. let whole = ap (script_from s p k) (none_begin other same) in cc;
  },
) where
  at : (p : Place) → ended s p k ≡ Err (Fault line fault errno) → line ≡ k + 0
  at place.Boots e = cc
  at place.Tunable e = cc
  at place.Files e = cc
  at (place.Tasks lists) e = cc
  at (place.Task t lists) e = let same : k ≡ line = cc in omega (arith, same)
  at place.Steps e = let same : k ≡ line = cc in omega (arith, same)
  at place.End e = cc

-- what is read of lines of which the first is that one
from_first : (s : Script) (p : Place) (k : ℕ) (line : List ℕ) (more : List (List ℕ)) (read : Read Reading) → line_read s p line ≡ read
    → script_from s p k (line ∷ more) ≡ or_at k read (λ next. script_from next.0 next.1 (k + 1) more)
unfolding script_from
from_first s p k line more read e = ap (λ read. or_at k read (λ next. script_from next.0 next.1 (k + 1) more)) e

-- lines that begin with one line
record BeginsWith (line : List ℕ) (other : List (List ℕ)) (n : ℕ) (lines : List (List ℕ)) : Type 0 where
  more : List (List ℕ)
  whole : other ≡ line ∷ more
  same : take n more ≡ take n lines

begins : (line : List ℕ) (n : ℕ) (other lines : List (List ℕ)) → take (suc n) other ≡ line ∷ take n lines → BeginsWith line other n lines
begins line n [] lines e = cc
begins line n (first ∷ more) lines e = let here : first ≡ line = cc in record { more = more; whole = ap (λ first. first ∷ more) here; same = cc }

-- the first line has the fault
here_first : (s : Script) (p : Place) (k : ℕ) (line : List ℕ) (lines : List (List ℕ)) (fault : LineFault) → line_read s p line ≡ Err fault → IsFault s p k (line ∷ lines) 0
here_first s p k line lines fault e = record {
  script = (can_end s p k).script;
  before = (can_end s p k).before;
  with_it = λ other found same is.
      let begin = begins line 0 other lines same in
      let whole = ap (script_from s p k) begin.whole in
      let stops = from_first s p k line begin.more (Err fault) e in cc;
}

-- a line that is read, and then the fault of a further line
later : (s : Script) (p : Place) (k : ℕ) (line : List ℕ) (lines : List (List ℕ)) (s' : Script) (p' : Place) (n : ℕ) → line_read s p line ≡ Ok (s', p')
    → IsFault s' p' (k + 1) lines n → IsFault s p k (line ∷ lines) (suc n)
later s p k line lines s' p' n e next = record {
  script = next.script;
  before = before next.before;
  with_it = λ other found same is.
      let begin = begins line (suc n) other lines same in
      next.with_it begin.more found begin.same (sym (goes_on begin.more) ∙ sym (ap (script_from s p k) begin.whole) ∙ is);
} where
  goes_on : (more : List (List ℕ)) → script_from s p k (line ∷ more) ≡ script_from s' p' (k + 1) more
  goes_on more = from_first s p k line more (Ok (s', p')) e

  before : (script_from s' p' (k + 1) (take n lines) ≡ Ok next.script) ⊎ (script_from s' p' (k + 1) (take n lines ++ codes "end" ∷ []) ≡ Ok next.script)
      → (script_from s p k (take (suc n) (line ∷ lines)) ≡ Ok next.script) ⊎ (script_from s p k (take (suc n) (line ∷ lines) ++ codes "end" ∷ []) ≡ Ok next.script)
  before (inl is) = inl (goes_on (take n lines) ∙ is)
  before (inr is) = inr (goes_on (take n lines ++ codes "end" ∷ []) ∙ is)

from_fault : (lines : List (List ℕ)) (s : Script) (p : Place) (k line : ℕ) (fault : ScriptFault) (errno : Option Errno)
    → script_from s p k lines ≡ Err (Fault line fault errno) → (n : ℕ) × (line ≡ k + n) × IsFault s p k lines n
unfolding script_from
from_fault [] s p k line fault errno e = let here = no_end s p k line fault errno e in (0, here.0, here.1)
from_fault (first ∷ lines) s p k line fault errno e = by_read (line_read s p first) (λ s' p'. from_fault lines s' p' (k + 1) line fault errno) refl e where
  by_read : (read : Read Reading) → ((s' : Script) (p' : Place) → script_from s' p' (k + 1) lines ≡ Err (Fault line fault errno) → (n : ℕ) × (line ≡ k + 1 + n) × IsFault s' p' (k + 1) lines n)
      → line_read s p first ≡ read → or_at k read (λ next. script_from next.0 next.1 (k + 1) lines) ≡ Err (Fault line fault errno)
      → (n : ℕ) × (line ≡ k + n) × IsFault s p k (first ∷ lines) n
  by_read (Ok next) further is e =
      let rest = further next.0 next.1 e in
      (suc rest.0, omega (arith, rest.1), later s p k first lines next.0 next.1 rest.0 is rest.2)
  by_read (Err found) further is e = let same : k ≡ line = cc in (0, omega (arith, same), here_first s p k first lines found is)

-- Lines that begin a text, with others behind them, are no longer than those of both

first_within : (most n : ℕ) (lines more : List (List ℕ)) → AreWithin most lines → AreWithin most more → AreWithin most (take n lines ++ more)
unfolding AreWithin
first_within most zero lines more are rest = rest
first_within most (suc n) [] more are rest = rest
first_within most (suc n) (line ∷ lines) more are rest = (are.0, first_within most n lines more are.1 rest)

are_lines : (lines : List (List ℕ)) (s : Script) → AreWithin SCRIPT_LIMIT lines → script_from blank place.Boots 1 lines ≡ Ok s → AreLinesOf lines s
are_lines lines s few e = record { formed = from_formed lines blank place.Boots 1 s few (starts blank refl) e; spelled = lines_spelled lines s e }

pub faults_first : FaultsAreFirst
unfolding script_of AreWithin
faults_first bytes line fault errno few e =
    let found = from_fault (lines_in bytes) blank place.Boots 1 line fault errno e in
    let within = longer (length bytes) SCRIPT_LIMIT (lines_in bytes) few (lines_within bytes) in (
      found.0,
      omega (arith, found.1),
      record {
        script = found.2.script;
        before = by_before found.0 found.2.script within found.2.before;
        with_it = λ other s same are. found.2.with_it other s same (lines_read other s are.formed are.spelled);
      },
    )
  where
    by_before : (n : ℕ) (s : Script) → AreWithin SCRIPT_LIMIT (lines_in bytes)
        → (script_from blank place.Boots 1 (take n (lines_in bytes)) ≡ Ok s) ⊎ (script_from blank place.Boots 1 (take n (lines_in bytes) ++ codes "end" ∷ []) ≡ Ok s)
        → AreLinesOf (take n (lines_in bytes)) s ⊎ AreLinesOf (take n (lines_in bytes) ++ codes "end" ∷ []) s
    by_before n s within (inl is) = inl (are_lines _ s (subst (AreWithin SCRIPT_LIMIT) (append-nil (take n (lines_in bytes))) (first_within SCRIPT_LIMIT n (lines_in bytes) [] within tt)) is)
    by_before n s within (inr is) = inr (are_lines _ s (first_within SCRIPT_LIMIT n (lines_in bytes) (codes "end" ∷ []) within (lit≤ tt, tt)) is)

pub scripts_texts : ScriptsAreTheirTexts
scripts_texts bytes s few = ((λ e. (scripts_formed bytes s few e, scripts_spelled bytes s e)), (λ both. spelled_read bytes s both.0 both.1))
