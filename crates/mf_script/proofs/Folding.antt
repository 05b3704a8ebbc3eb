-- Lines one after another.
use Rattle.std.proofs.Common.{◌≡◌, ℕ, ◌+◌, false, List, [], ◌∷◌, Result, Ok, Err, sym, ap, ◌∙◌, subst}
use Rattle.mf_errno.specs.declared.module.Module.{Module}
use Rattle.mf_words.specs.Words.{lines_in}
use Rattle.mf_calls.specs.declared.script.FileLine.{FileLine}
use Rattle.mf_calls.specs.declared.script.Task.{Task}
use Rattle.mf_calls.specs.declared.script.Step.{Step}
use Rattle.mf_calls.specs.declared.script.Script.{Script}
use Rattle.mf_script.specs.declared.error.ScriptError.{ScriptError}
use Rattle.mf_script.specs.declared.refusal.LineFault.{LineFault}
use Rattle.mf_script.specs.declared.refusal.Refusal.{Refusal}
use Rattle.mf_script.specs.declared.refusal.Refusal.TheVariants as refusal
use Rattle.mf_script.specs.declared.rows.Place.{Place}
use Rattle.mf_script.specs.declared.rows.Place.TheVariants as place
use Rattle.mf_script.specs.Readers.{Read}
use Rattle.mf_script.specs.Gives.{Fails}
use Rattle.mf_script.specs.Grammar.{Reading, at_line, or_at, ended, line_read, blank, script_from, script_of}
use Rattle.mf_script.specs.Outcome.{IsRefusedAt, IsScriptOf}

pub blank_is : (boots : List Module) (files : List FileLine) (tasks : List Task) (steps : List Step) → boots ≡ [] → files ≡ [] → tasks ≡ [] → steps ≡ []
    → record { boots = boots; revocation = false; files = files; tasks = tasks; steps = steps } ≡ blank
blank_is boots files tasks steps b f t s =
    ap (λ (b : List Module). record { boots = b; revocation = false; files = files; tasks = tasks; steps = steps }) b
    ∙ ap (λ (f : List FileLine). record { boots = []; revocation = false; files = f; tasks = tasks; steps = steps }) f
    ∙ ap (λ (t : List Task). record { boots = []; revocation = false; files = []; tasks = t; steps = steps }) t
    ∙ ap (λ (s : List Step). record { boots = []; revocation = false; files = []; tasks = []; steps = s }) s

pub start : (boots : List Module) (files : List FileLine) (tasks : List Task) (steps : List Step) (bytes : List ℕ) (lines : List (List ℕ))
    → boots ≡ [] → files ≡ [] → tasks ≡ [] → steps ≡ [] → lines ≡ lines_in bytes
    → script_from (record { boots = boots; revocation = false; files = files; tasks = tasks; steps = steps }) place.Boots 1 lines ≡ script_of bytes
unfolding script_of
start boots files tasks steps bytes lines b f t s l =
    ap (λ (script : Script). script_from script place.Boots 1 lines) (blank_is boots files tasks steps b f t s) ∙ ap (script_from blank place.Boots 1) l

-- what is read from a line on, by what the line is read as
from_line : (s : Script) (p : Place) (n : ℕ) (all : List (List ℕ)) (line : List ℕ) (more : List (List ℕ)) (read : Read Reading) → all ≡ line ∷ more → line_read s p line ≡ read
    → script_from s p n all ≡ or_at n read (λ next. script_from next.0 next.1 (n + 1) more)
unfolding script_from
from_line s p n all line more read is e = ap (script_from s p n) is ∙ ap (λ read. or_at n read (λ next. script_from next.0 next.1 (n + 1) more)) e

pub goes_on : (s : Script) (p : Place) (n : ℕ) (all : List (List ℕ)) (line : List ℕ) (more : List (List ℕ)) (s' : Script) (p' : Place) (whole : Result Script ScriptError)
    → all ≡ line ∷ more → line_read s p line ≡ Ok (s', p') → script_from s p n all ≡ whole → script_from s' p' (n + 1) more ≡ whole
goes_on s p n all line more s' p' whole is e so_far = sym (from_line s p n all line more (Ok (s', p')) is e) ∙ so_far

stops : (s : Script) (p : Place) (n : ℕ) (all : List (List ℕ)) (line : List ℕ) (more : List (List ℕ)) (fault : LineFault) (whole : Result Script ScriptError)
    → all ≡ line ∷ more → line_read s p line ≡ Err fault → script_from s p n all ≡ whole → whole ≡ Err (at_line n fault)
stops s p n all line more fault whole is e so_far = sym so_far ∙ from_line s p n all line more (Err fault) is e

pub refused : (s : Script) (p : Place) (n : ℕ) (all : List (List ℕ)) (line : List ℕ) (more : List (List ℕ)) (r : Refusal) (found : ScriptError) (whole : Result Script ScriptError)
    → all ≡ line ∷ more → Fails r (line_read s p line) → script_from s p n all ≡ whole → IsRefusedAt n r found → IsScriptOf (Err found) whole
refused s p n all line more (refusal.Faulty fault) found whole is e so_far at =
    subst (λ (found : ScriptError). IsScriptOf (Err found) whole) (sym at) (stops s p n all line more fault whole is e so_far)
refused s p n all line more refusal.Memory found whole is e so_far at = subst (λ (found : ScriptError). IsScriptOf (Err found) whole) (sym at) tt

pub at_end : (s : Script) (p : Place) (n : ℕ) (lines : List (List ℕ)) (whole result : Result Script ScriptError) → lines ≡ [] → script_from s p n lines ≡ whole
    → IsScriptOf result (ended s p n) → IsScriptOf result whole
unfolding script_from
at_end s p n lines whole result none so_far is = subst (IsScriptOf result) (sym (ap (script_from s p n) none) ∙ so_far) is
