-- A whole text tells its legal history: no line of an event or a registration begins with the byte that each line of the sources begins with.
use Rattle.std.proofs.Common.{◌≡◌, ◌≢◌, ℕ, List, [], ◌∷◌, ◌++◌, sym, ◌∙◌, arith}
use Rattle.std.specs.List.{flat_map}
use Rattle.std.proofs.lemmas.List.Concat.{flat_map-cons}
use Rattle.mf_policy.specs.declared.registration.Registration.{Registration}
use Rattle.mf_calls.specs.declared.script.Script.{Script}
use Rattle.mf_core.specs.declared.history.Event.{Event}
use Rattle.mf_core.specs.declared.history.Event.TheVariants as event
use Rattle.mf_flow.specs.declared.table.Row.{Row}
use Rattle.mf_flow.specs.SourcesText.{row_text}
use Rattle.mf_flow.specs.Table.{table_of}
use Rattle.mf_hist.specs.HistoryText.{boot_text, event_text}
use Rattle.mf_hist.proofs.OneHistory.{HasNoEvent, heads, enter_text, leave_text, done_text, changed_text, no_event, history_before}
use Rattle.mf_reading.specs.Laws.{SourcesAreNoLine, WholeTextTellsHistory}

-- The byte is that of an s.

pub event_begins : (s : Script) (e : Event) (r rest : List ℕ) → event_text s e ++ r ≢ 115 ∷ rest
event_begins s (event.Enter t) r rest e = omega (arith, heads _ _ _ _ (sym (enter_text s t r) ∙ e))
event_begins s (event.Done t line x) r rest e = omega (arith, heads _ _ _ _ (sym (done_text s t line x r) ∙ e))
event_begins s (event.Leave t) r rest e = omega (arith, heads _ _ _ _ (sym (leave_text s t r) ∙ e))
event_begins s (event.Changed t line x) r rest e = omega (arith, heads _ _ _ _ (sym (changed_text s t line x r) ∙ e))

pub boot_begins : (boot : Registration) (r rest : List ℕ) → boot_text boot ++ r ≢ 115 ∷ rest
boot_begins boot r rest e = omega (arith, heads _ _ _ _ e)

-- what a row's text is behind its first byte, with the text after it
pub row_begins : (row : Row) (rows : List Row) → (rest : List ℕ) × (flat_map row_text (row ∷ rows) ≡ 115 ∷ rest)
row_begins row rows = (_, flat_map-cons row_text row rows)

pub rows_no_event : (s : Script) (rows : List Row) → HasNoEvent s (flat_map row_text rows)
rows_no_event s [] e r is = no_event s e r is
rows_no_event s (row ∷ rows) e r is = let begins = row_begins row rows in event_begins s e r begins.0 (is ∙ begins.1)

pub rows_no_boot : (rows : List Row) (boot : Registration) (r : List ℕ) → boot_text boot ++ r ≢ flat_map row_text rows
rows_no_boot [] boot r is = cc
rows_no_boot (row ∷ rows) boot r is = let begins = row_begins row rows in boot_begins boot r begins.0 (is ∙ begins.1)

-- The laws

pub sources_no_line : SourcesAreNoLine
sources_no_line s events rows = record {
  event = λ e fits begins. rows_no_event s rows e begins.0 (sym begins.1);
  boot = λ boot first fits begins. rows_no_boot rows boot begins.0 (sym begins.1);
}

pub whole_tells : WholeTextTellsHistory
whole_tells s h g formed lh lg eq =
    history_before s h g (flat_map row_text (table_of s h)) (flat_map row_text (table_of s g)) (rows_no_event s (table_of s h)) (rows_no_event s (table_of s g)) formed lh lg eq
