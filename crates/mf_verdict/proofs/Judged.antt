-- What is judged of the parts of a text holds of the text.
use Rattle.std.proofs.Common.{◌≡◌, ◌≢◌, ℕ, suc, ◌+◌, ◌-◌, ◌<◌, ◌≤◌, List, [], ◌++◌, length, map, take, ap, sym, ◌∙◌, subst, arith, length-append, Option, Some, None, Result, Ok, Err, IfOk, MatchOption, inl, inr}
use Rattle.std.proofs.lemmas.List.{length-map, take_at}
use Rattle.std.specs.List.{concat}
use Rattle.mf_text.proofs.Unescaping.{escaped_stands}
use Rattle.mf_calls.specs.declared.script.Script.{Script}
use Rattle.mf_calls.specs.WellFormed.{IsWellFormed}
use Rattle.mf_core.specs.declared.history.History.{History}
use Rattle.mf_core.specs.LegalHistory.{IsLegal, IsComplete}
use Rattle.mf_hist.specs.HistoryText.{history_text}
use Rattle.mf_hist.specs.Lines.{IsFirstOtherLine, IsNoLine, IsReadable}
use Rattle.mf_hist.proofs.Histories.{same_lines}
use Rattle.mf_audit.specs.Audit.{BeginsLegally, lines_of}
use Rattle.mf_verdict.specs.Pieces.{pieces, history_part, sources_part, IsFirstDifference}
use Rattle.mf_verdict.specs.Verdict.{FailsAt, IsAccepted, IsFirstWrong, history_lines, sources_lines}
use Rattle.mf_verdict.specs.Judging.{AreSources, IsHistoryText, IsJudged, line_count}
use Rattle.mf_verdict.proofs.Begins.{wrong_before, wrong_behind}
use Rattle.mf_verdict.proofs.HistoryLines.{entry_count, line_number, line_text, lines_text, text_lines}
use Rattle.mf_verdict.proofs.Pieces.{few_pieces}

pub if_ok : {A E : Type 0} (P Q : A → Type 0) (result : Result A E) → ((x : A) → P x → Q x) → IfOk result P → IfOk result Q
if_ok P Q (Ok x) step holds = step x holds
if_ok P Q (Err e) step holds = tt

-- a history has no more lines than its text bytes
pub few_lines : (s : Script) (h : History) (part : List ℕ) → IsReadable s h → part ≡ history_text s h → line_count h ≤ length part
few_lines s h part readable is = omega (arith, line_number s h readable, few_pieces (history_text s h), ap length is)

pub few_with_rest : (s : Script) (h : History) (text part rest : List ℕ) → IsReadable s h → part ≡ history_text s h → text ≡ part ++ rest → line_count h + length rest ≤ length text
few_with_rest s h text part rest readable is parts = omega (arith, few_lines s h part readable is, ap length parts, length-append part rest)

module _ (s : Script) (h : History) (text part rest : List ℕ) (readable : IsReadable s h) (is : part ≡ history_text s h) (parts : text ≡ part ++ rest)
    (history : pieces part ≡ history_part text) (others : pieces rest ≡ sources_part text) where
  lines_of_part : history_part text ≡ history_lines s h
  lines_of_part = sym history ∙ ap pieces is

  counted : length (history_part text) ≡ line_count h
  counted = ap length lines_of_part ∙ line_number s h readable

  pub judged : (verdict : Option ℕ) → IsJudged s h rest verdict → MatchOption verdict (IsAccepted s text) (FailsAt s text)
  judged None whole = (h, whole.0, whole.1, parts ∙ ap (λ (t : List ℕ). t ++ rest) is ∙ ap (λ (t : List ℕ). history_text s h ++ t) whole.2)
  judged (Some n) (inl wrong) = inl (subst (λ (lines : List (List ℕ)). IsFirstWrong s lines n) (sym lines_of_part) wrong)
  judged (Some n) (inr (inl early)) = inr (inl (h, early.0, early.1, lines_of_part, omega (arith, early.2, counted)))
  judged (Some n) (inr (inr other)) =
      inr (inr (h, other.0, other.1, lines_of_part, (other.2.0, subst (λ (lines : List (List ℕ)). IsFirstDifference lines (sources_lines s h) other.2.0) others other.2.1, omega (arith, other.2.2, counted))))

-- behind a legal and complete history the sources decide
pub sources_judged : (s : Script) (h : History) (rest : List ℕ) → IsLegal s h → IsComplete s h → (verdict : Option ℕ) → AreSources s h rest verdict → IsJudged s h rest verdict
sources_judged s h rest legal complete None same = (legal, complete, same)
sources_judged s h rest legal complete (Some n) other = inr (inr (legal, complete, other))

-- The first line that is none of a history, and the history before it

pub record IsFront (s : Script) (h : History) (part : List ℕ) (number : ℕ) : Type 0 where
  pub rest : List ℕ
  pub is : part ≡ history_text s h ++ rest
  pub some : rest ≢ []
  pub fault : IsNoLine s h.events.list rest
  pub number_is : number ≡ suc (length (lines_of h))

module _ (s : Script) (part : List ℕ) (number : ℕ) (other : IsFirstOtherLine s part number) where
  before : History
  before = record { boots = other.boots; events = record { list = other.events; room = 0 } }

  before_readable : IsReadable s before
  unfolding before
  before_readable = record { boots = other.each_boot; events = other.each_event }

  part_is : part ≡ history_text s before ++ other.rest
  unfolding before
  part_is = other.before

  part_lines : pieces part ≡ map (line_text s) (lines_of before) ++ pieces other.rest
  part_lines = ap pieces part_is ∙ text_lines s before other.rest before_readable

  before_count : number - 1 ≡ length (map (line_text s) (lines_of before))
  unfolding before
  before_count = omega (arith, other.is_next, length-map (lines_of before) (line_text s), entry_count before)

  pub number_some : 0 < number
  number_some = omega (arith, other.is_next)

  pub number_within : number - 1 ≤ length (pieces part)
  number_within = omega (arith, before_count, ap length part_lines, length-append (map (line_text s) (lines_of before)) (pieces other.rest))

  front_text : concat (take (number - 1) (pieces part)) ≡ history_text s before
  front_text =
      ap (λ (lines : List (List ℕ)). concat (take (number - 1) lines)) part_lines
      ∙ ap concat (take_at (map (line_text s) (lines_of before)) (pieces other.rest) (number - 1) (sym before_count)) ∙ lines_text s before

  pub front_is : (front : List ℕ) → front ≡ concat (take (number - 1) (pieces part)) → IsHistoryText s front
  front_is front e = (before, before_readable, e ∙ front_text)

  pub front_of : (front : List ℕ) (h : History) → front ≡ concat (take (number - 1) (pieces part)) → IsReadable s h → front ≡ history_text s h → IsFront s h part number
  unfolding before
  front_of front h e readable is =
      let texts : history_text s h ≡ history_text s before = sym is ∙ e ∙ front_text in
      let same = same_lines escaped_stands s h.boots other.boots h.events.list other.events readable.boots other.each_boot readable.events other.each_event texts in
      record {
        rest = other.rest;
        is = part_is ∙ ap (λ (t : List ℕ). t ++ other.rest) (sym texts);
        some = other.some;
        fault = subst (λ events. IsNoLine s events other.rest) (sym same.1) other.fault;
        number_is = omega (arith, other.is_next, entry_count h, ap length same.0, ap length same.1);
      }

pub front_wrong : (s : Script) (h : History) (part : List ℕ) (number line : ℕ) → IsWellFormed s → IsReadable s h → IsFront s h part number
    → (0 < line) × BeginsLegally s h (line - 1) × ¬ BeginsLegally s h line → IsFirstWrong s (pieces part) line
front_wrong s h part number line formed readable front wrong = wrong_before s h formed readable part front.rest front.is front.some front.fault line wrong

pub front_legal : (s : Script) (h : History) (part : List ℕ) (number : ℕ) → IsWellFormed s → IsReadable s h → IsFront s h part number → IsLegal s h → IsFirstWrong s (pieces part) number
front_legal s h part number formed readable front legal =
    subst (IsFirstWrong s (pieces part)) (sym front.number_is) (wrong_behind s h formed readable part front.rest front.is front.some front.fault legal)
