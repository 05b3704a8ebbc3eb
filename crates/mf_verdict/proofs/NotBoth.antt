-- A text that is accepted fails at no line, and another at one.
use Rattle.std.proofs.Common.{◌≡◌, ◌≢◌, ◌⊎◌, ℕ, ◌-◌, ◌<◌, ◌≤◌, Bool, true, false, List, [], ◌∷◌, ◌++◌, map, take, refl, ap, sym, ◌∙◌, subst, arith, append-nil, inl, inr}
use Rattle.std.proofs.lemmas.Bool.{cases_lt}
use Rattle.std.proofs.lemmas.Bool.Decides.{Decides-eqb}
use Rattle.std.proofs.lemmas.List.{take-take}
use Rattle.std.proofs.lemmas.List.Concat.{flat_map-cons}
use Rattle.std.proofs.lemmas.Slice.Eq.{starts_is}
use Rattle.std.specs.Prelude.{codes}
use Rattle.std.specs.List.{concat, flat_map, onto_first}
use Rattle.mf_policy.specs.declared.registration.Registration.{Registration}
use Rattle.mf_calls.specs.declared.script.Script.{Script}
use Rattle.mf_calls.specs.WellFormed.{IsWellFormed}
use Rattle.mf_core.specs.declared.history.Event.{Event}
use Rattle.mf_core.specs.declared.history.History.{History}
use Rattle.mf_core.specs.LegalHistory.{IsLegal, IsComplete}
use Rattle.mf_flow.specs.declared.table.Row.{Row}
use Rattle.mf_flow.specs.SourcesText.{row_text, sources_text}
use Rattle.mf_flow.specs.Table.{table_of}
use Rattle.mf_hist.specs.HistoryText.{history_text}
use Rattle.mf_hist.proofs.OneHistory.{one_history}
use Rattle.mf_reading.proofs.Runs.{histories_read}
use Rattle.mf_reading.proofs.WholeText.{boot_begins, event_begins}
use Rattle.mf_audit.specs.Audit.{lines_of}
use Rattle.mf_verdict.specs.Pieces.{pieces, is_source, history_part, sources_part, IsFirstDifference}
use Rattle.mf_verdict.specs.Verdict.{FailsAt, IsAccepted, IsBehindIncomplete, IsFirstWrong, IsOtherSource, TextBegins, history_lines, sources_lines}
use Rattle.mf_verdict.proofs.HistoryLines.{Entry, line_text, lines_are, text_lines}
use Rattle.mf_verdict.proofs.Pieces.{before_first, before_other, before_source, concat_pieces, rest_is}

-- No line of a history begins as one of the sources

entry_begins : (s : Script) (x : Entry) (rest : List ℕ) → line_text s x ≢ 115 ∷ rest
entry_begins s (inl r) rest e = boot_begins r [] rest (append-nil (line_text s (inl r)) ∙ e)
entry_begins s (inr f) rest e = event_begins s f [] rest (append-nil (line_text s (inr f)) ∙ e)

not_source : (s : Script) (x : Entry) → is_source (line_text s x) ≡ false
not_source s x = by_test (is_source (line_text s x)) refl where
  by_test : (t : Bool) → is_source (line_text s x) ≡ t → is_source (line_text s x) ≡ false
  by_test false e = e
  by_test true e = absurd (entry_begins s x _ ((starts_is Decides-eqb (line_text s x) (codes "source ") (is_source (line_text s x)) refl).0 e))

none_before : (s : Script) (xs : List Entry) (more : List (List ℕ)) → before_source (map (line_text s) xs ++ more) ≡ map (line_text s) xs ++ before_source more
none_before s [] more = refl
none_before s (x ∷ xs) more =
    before_other (line_text s x) (map (line_text s) xs ++ more) (not_source s x) ∙ ap (λ (lines : List (List ℕ)). line_text s x ∷ lines) (none_before s xs more)

-- The text of the sources begins so, where there are any

word_onto : List (List ℕ) → List (List ℕ)
word_onto lines = onto_first 115 (onto_first 111 (onto_first 117 (onto_first 114 (onto_first 99 (onto_first 101 (onto_first 32 lines))))))

word_first : (lines : List (List ℕ)) → before_source (word_onto lines) ≡ []
unfolding word_onto
word_first [] = before_first (codes "source ") [] refl
word_first (line ∷ lines) = before_first (codes "source " ++ line) lines refl

word_pieces : (text : List ℕ) → pieces (codes "source " ++ text) ≡ word_onto (pieces text)
unfolding word_onto
word_pieces text = refl

row_rest : (row : Row) (rows : List Row) → (text : List ℕ) × (flat_map row_text (row ∷ rows) ≡ codes "source " ++ text)
row_rest row rows = (_, flat_map-cons row_text row rows)

rows_first : (rows : List Row) → before_source (pieces (flat_map row_text rows)) ≡ []
rows_first [] = refl
rows_first (row ∷ rows) =
    let rest = row_rest row rows in
    ap (λ (t : List ℕ). before_source (pieces t)) rest.1 ∙ ap before_source (word_pieces rest.0) ∙ word_first (pieces rest.0)

-- So the whole text falls apart

module _ (s : Script) (h : History) (text : List ℕ) (formed : IsWellFormed s) (legal : IsLegal s h) (is : text ≡ history_text s h ++ sources_text s h) where
  all_lines : pieces text ≡ history_lines s h ++ pieces (sources_text s h)
  all_lines =
      let readable = histories_read s h formed legal in
      ap pieces is ∙ text_lines s h (sources_text s h) readable ∙ ap (λ (lines : List (List ℕ)). lines ++ pieces (sources_text s h)) (sym (lines_are s h readable))

  pub part_is : history_part text ≡ history_lines s h
  part_is =
      let readable = histories_read s h formed legal in
      ap before_source (ap pieces is ∙ text_lines s h (sources_text s h) readable)
      ∙ none_before s (lines_of h) (pieces (sources_text s h))
      ∙ ap (λ (lines : List (List ℕ)). map (line_text s) (lines_of h) ++ lines) (rows_first (table_of s h))
      ∙ append-nil (map (line_text s) (lines_of h)) ∙ sym (lines_are s h readable)

  pub others_are : sources_part text ≡ sources_lines s h
  others_are = rest_is text (history_text s h) (sources_text s h) all_lines part_is

-- Two histories of one text

complete_in : Script → List Event → Type 0
complete_in s events = IsComplete s (record { boots = []; events = record { list = events; room = 0 } })

complete_same : (s : Script) (h g : History) → h.events.list ≡ g.events.list → IsComplete s h → IsComplete s g
unfolding complete_in
complete_same s h g e complete = subst (complete_in s) e complete

sources_in : Script → List Registration → List Event → List ℕ
sources_in s boots events = sources_text s (record { boots = boots; events = record { list = events; room = 0 } })

sources_same : (s : Script) (h g : History) → h.boots ≡ g.boots → h.events.list ≡ g.events.list → sources_text s h ≡ sources_text s g
unfolding sources_in
sources_same s h g b e = ap (λ (boots : List Registration). sources_in s boots h.events.list) b ∙ ap (sources_in s g.boots) e

same_history : (s : Script) (h g : History) → IsWellFormed s → IsLegal s h → IsLegal s g → history_lines s h ≡ history_lines s g → (h.boots ≡ g.boots) × (h.events.list ≡ g.events.list)
same_history s h g formed lh lg e = one_history s h g formed lh lg (sym (concat_pieces (history_text s h)) ∙ ap concat e ∙ concat_pieces (history_text s g))

-- The verdicts

no_wrong : (s : Script) (h : History) (lines : List (List ℕ)) (n : ℕ) → IsLegal s h → lines ≡ history_lines s h → IsFirstWrong s lines n → ⊥
no_wrong s h lines n legal is wrong = wrong.2 (h, legal, ap (take n) is)

no_end : (s : Script) (h : History) (lines : List (List ℕ)) (n : ℕ) → IsWellFormed s → IsLegal s h → IsComplete s h → lines ≡ history_lines s h → IsBehindIncomplete s lines n → ⊥
no_end s h lines n formed legal complete is (g, lg, early, lines_g, e) =
    early (complete_same s h g (same_history s h g formed legal lg (sym is ∙ lines_g)).1 complete)

no_other : (s : Script) (h : History) (lines rest : List (List ℕ)) (n : ℕ) → IsWellFormed s → IsLegal s h → lines ≡ history_lines s h → rest ≡ sources_lines s h → IsOtherSource s lines rest n → ⊥
no_other s h lines rest n formed legal is rest_is (g, lg, complete, lines_g, (k, differs, e)) =
    let same = same_history s h g formed legal lg (sym is ∙ lines_g) in
    differs.2 (ap (take k) (rest_is ∙ ap pieces (sources_same s h g same.0 same.1)))

pub accepted_never_fails : (s : Script) (text : List ℕ) (n : ℕ) → IsWellFormed s → IsAccepted s text → FailsAt s text n → ⊥
accepted_never_fails s text n formed (h, legal, complete, is) fails = by_case fails where
  by_case : FailsAt s text n → ⊥
  by_case (inl wrong) = no_wrong s h (history_part text) n legal (part_is s h text formed legal is) wrong
  by_case (inr (inl behind)) = no_end s h (history_part text) n formed legal complete (part_is s h text formed legal is) behind
  by_case (inr (inr other)) = no_other s h (history_part text) (sources_part text) n formed legal (part_is s h text formed legal is) (others_are s h text formed legal is) other

-- A text fails at one line

-- a text that begins as legal histories do, begins so with fewer lines too
fewer : (s : Script) (lines : List (List ℕ)) (n m : ℕ) → n ≤ m → TextBegins s lines m → TextBegins s lines n
fewer s lines n m le begins = (
  begins.0,
  begins.1,
  sym (take-take n m lines le) ∙ ap (take n) begins.2 ∙ take-take n m (history_lines s begins.0) le,
)

one_wrong : (s : Script) (lines : List (List ℕ)) (n m : ℕ) → IsFirstWrong s lines n → IsFirstWrong s lines m → n < m → ⊥
one_wrong s lines n m wrong other lt = wrong.2 (fewer s lines n (m - 1) (omega (arith, lt)) other.1)

one_difference : (lines others : List (List ℕ)) (n m : ℕ) → IsFirstDifference lines others n → IsFirstDifference lines others m → n < m → ⊥
one_difference lines others n m differs other lt =
    let le : n ≤ m - 1 = omega (arith, lt) in
    differs.2 (sym (take-take n (m - 1) lines le) ∙ ap (take n) other.1 ∙ take-take n (m - 1) others le)

-- neither is before the other
neither : (n m : ℕ) → (n < m → ⊥) → (m < n → ⊥) → n ≡ m
neither n m before behind = elim (cases_lt n m) [
  | inl lt ↦ absurd (before lt)
  | inr le ↦ elim (cases_lt m n) [ inl lt ↦ absurd (behind lt) | inr ge ↦ omega (arith, le, ge) ]
]

-- behind one history two lines that fail are one
module _ (s : Script) (lines rest : List (List ℕ)) (formed : IsWellFormed s) where
  not_complete : (n m : ℕ) → IsBehindIncomplete s lines n → IsOtherSource s lines rest m → ⊥
  not_complete n m (h, lh, early, lines_h, e) (g, lg, complete, lines_g, other) =
      early (complete_same s g h (same_history s g h formed lg lh (sym lines_g ∙ lines_h)).1 complete)

  one_source : (n m : ℕ) → IsOtherSource s lines rest n → IsOtherSource s lines rest m → n ≡ m
  one_source n m (h, lh, complete_h, lines_h, (k, differs, e)) (g, lg, complete_g, lines_g, (j, other, f)) =
      let same = same_history s g h formed lg lh (sym lines_g ∙ lines_h) in
      let others : IsFirstDifference rest (sources_lines s h) j =
      subst (λ (told : List (List ℕ)). IsFirstDifference rest told j) (ap pieces (sources_same s g h same.0 same.1)) other in
      let one : k ≡ j = neither k j (one_difference rest (sources_lines s h) k j differs others) (one_difference rest (sources_lines s h) j k others differs) in
      omega (arith, e, f, one)

  no_line : (n m : ℕ) → IsFirstWrong s lines n → IsBehindIncomplete s lines m ⊎ IsOtherSource s lines rest m → ⊥
  no_line n m wrong (inl behind) = no_wrong s behind.0 lines n behind.1 behind.3 wrong
  no_line n m wrong (inr other) = no_wrong s other.0 lines n other.1 other.3 wrong

  one_behind : (n m : ℕ) → IsBehindIncomplete s lines n ⊎ IsOtherSource s lines rest n → IsBehindIncomplete s lines m ⊎ IsOtherSource s lines rest m → n ≡ m
  one_behind n m (inl behind) (inl others) = behind.4 ∙ sym others.4
  one_behind n m (inl behind) (inr other) = absurd (not_complete n m behind other)
  one_behind n m (inr other) (inl behind) = absurd (not_complete m n behind other)
  one_behind n m (inr other) (inr others) = one_source n m other others

  one_line : (n m : ℕ) → IsFirstWrong s lines n ⊎ (IsBehindIncomplete s lines n ⊎ IsOtherSource s lines rest n)
      → IsFirstWrong s lines m ⊎ (IsBehindIncomplete s lines m ⊎ IsOtherSource s lines rest m) → n ≡ m
  one_line n m (inl wrong) (inl other) = neither n m (one_wrong s lines n m wrong other) (one_wrong s lines m n other wrong)
  one_line n m (inl wrong) (inr other) = absurd (no_line n m wrong other)
  one_line n m (inr other) (inl wrong) = absurd (no_line m n wrong other)
  one_line n m (inr other) (inr others) = one_behind n m other others

pub fails_at_one : (s : Script) (text : List ℕ) (n m : ℕ) → IsWellFormed s → FailsAt s text n → FailsAt s text m → n ≡ m
fails_at_one s text n m formed = one_line s (history_part text) (sources_part text) formed n m
