-- Where a text stops to be that of a legal history is where the history that is read of it does.
use Rattle.std.proofs.Common.{◌≡◌, ◌≢◌, ℕ, suc, ◌-◌, ◌<◌, ◌≤◌, List, [], ◌∷◌, ◌++◌, length, map, take, refl, ap, sym, ◌∙◌, subst, arith, length-take, inl, inr}
use Rattle.std.proofs.lemmas.Bool.{cases_lt}
use Rattle.std.proofs.lemmas.List.{length-map, take-append-le, take-map, take_all}
use Rattle.std.specs.List.{AllByRecursion, concat}
use Rattle.mf_policy.specs.declared.registration.Registration.{Registration}
use Rattle.mf_calls.specs.declared.script.Script.{Script}
use Rattle.mf_calls.specs.WellFormed.{IsWellFormed}
use Rattle.mf_core.specs.declared.history.Event.{Event}
use Rattle.mf_core.specs.declared.history.History.{History}
use Rattle.mf_core.specs.LegalHistory.{IsLegal}
use Rattle.mf_hist.specs.HistoryText.{history_text}
use Rattle.mf_hist.specs.Lines.{IsNoLine, IsReadable}
use Rattle.mf_reading.proofs.Runs.{histories_read}
use Rattle.mf_audit.specs.Audit.{BeginsLegally, lines_of}
use Rattle.mf_verdict.specs.Pieces.{pieces}
use Rattle.mf_verdict.specs.Verdict.{IsFirstWrong, TextBegins, history_lines}
use Rattle.mf_verdict.proofs.HistoryLines.{Entry, IsEntryRead, all_read, line_text, lines_are, one_entry, take_same, text_lines}
use Rattle.mf_verdict.proofs.Pieces.{concat_pieces}

-- The first n lines are those of the history

module _ (s : Script) (h : History) (readable : IsReadable s h) (lines : List (List ℕ)) (n : ℕ) (same : take n lines ≡ take n (map (line_text s) (lines_of h))) where
  pub text_begins : IsWellFormed s → BeginsLegally s h n → TextBegins s lines n
  text_begins formed begins = (
    begins.0,
    begins.1,
    same ∙ take-map (line_text s) n (lines_of h) ∙ ap (map (line_text s)) begins.2 ∙ sym (take-map (line_text s) n (lines_of begins.0))
        ∙ ap (take n) (sym (lines_are s begins.0 (histories_read s begins.0 formed begins.1))),
  )

  pub begins_legally : IsWellFormed s → TextBegins s lines n → BeginsLegally s h n
  begins_legally formed begins =
      let read = histories_read s begins.0 formed begins.1 in (
        begins.0,
        begins.1,
        take_same s n (lines_of h) (lines_of begins.0) (all_read s h readable) (all_read s begins.0 read) (sym same ∙ begins.2 ∙ ap (take n) (lines_are s begins.0 read)),
      )

-- where all lines are the history's
pub wrong_of_all : (s : Script) (h : History) (n : ℕ) → IsWellFormed s → IsReadable s h → (0 < n) × BeginsLegally s h (n - 1) × ¬ BeginsLegally s h n → IsFirstWrong s (history_lines s h) n
wrong_of_all s h n formed readable wrong =
    let lines = lines_are s h readable in (
      wrong.0,
      text_begins s h readable (history_lines s h) (n - 1) (ap (take (n - 1)) lines) formed wrong.1,
      λ begins. wrong.2 (begins_legally s h readable (history_lines s h) n (ap (take n) lines) formed begins),
    )

-- Where the line behind those of the history is none

-- the first n are all, and no more are needed
same_all : {A : Type 0} (xs ys : List A) (n : ℕ) → length xs < n → take n xs ≡ take n ys → xs ≡ ys
same_all xs ys n lt e =
    let whole : take n ys ≡ xs = sym e ∙ take_all n xs (omega (arith, lt)) in
    let short : length ys ≤ n = omega (arith, length-take n ys, ap length whole) in
    sym whole ∙ take_all n ys short

-- the line behind the first
pub record GoesOn (s : Script) (xs ys : List Entry) (lines : List (List ℕ)) : Type 0 where
  pub next : Entry
  pub later : List Entry
  pub more : List (List ℕ)
  pub read : IsEntryRead s next
  pub entries : ys ≡ xs ++ next ∷ later
  pub line : lines ≡ line_text s next ∷ more

entry_on : (x y : Entry) (ys zs : List Entry) → x ≡ y → ys ≡ zs → y ∷ ys ≡ x ∷ zs
entry_on x y ys zs e f = cc

goes_on : (s : Script) (xs ys : List Entry) (lines : List (List ℕ)) → lines ≢ [] → AllByRecursion (IsEntryRead s) xs → AllByRecursion (IsEntryRead s) ys
    → take (suc (length xs)) (map (line_text s) xs ++ lines) ≡ take (suc (length xs)) (map (line_text s) ys) → GoesOn s xs ys lines
goes_on s [] ys [] some fx fy e = absurd (some refl)
goes_on s [] [] (line ∷ lines) some fx fy e = absurd (cc)
goes_on s [] (y ∷ ys) (line ∷ lines) some fx fy e = record {
  next = y;
  later = ys;
  more = lines;
  read = fy.0;
  entries = refl;
  line = (let head : line ≡ line_text s y = cc in ap (λ (l : List ℕ). l ∷ lines) head);
}
goes_on s (x ∷ xs) [] lines some fx fy e = absurd (cc)
goes_on s (x ∷ xs) (y ∷ ys) lines some fx fy e =
    let head : line_text s x ≡ line_text s y = cc in
    let tail : take (suc (length xs)) (map (line_text s) xs ++ lines) ≡ take (suc (length xs)) (map (line_text s) ys) = cc in
    let on = goes_on s xs ys lines some fx.1 fy.1 tail in
    let same = one_entry s x y fx.0 fy.0 head in
    record {
      next = on.next;
      later = on.later;
      more = on.more;
      read = on.read;
      entries = entry_on x y ys (xs ++ on.next ∷ on.later) same on.entries;
      line = on.line;
    }

-- a registration comes behind no event

no_boot_event : (events others : List Event) (r : Registration) (later : List Entry) → map inr others ≡ map inr events ++ inl r ∷ later → ⊥
no_boot_event [] [] r later e = cc
no_boot_event [] (f ∷ others) r later e = other f r (map inr others) later e where
  other : (f : Event) (r : Registration) (xs ys : List Entry) → inr f ∷ xs ≡ inl r ∷ ys → ⊥
  other f r xs ys e = let head : inr f ≡ inl r = cc in cc
no_boot_event (g ∷ events) [] r later e = cc
no_boot_event (g ∷ events) (f ∷ others) r later e = no_boot_event events others r later (cc)

no_events : (boots others : List Registration) (events more : List Event) (r : Registration) (later : List Entry)
    → map inl others ++ map inr more ≡ (map inl boots ++ map inr events) ++ inl r ∷ later → events ≡ []
no_events [] [] events more r later e = absurd (no_boot_event events more r later e)
no_events (b ∷ boots) [] events [] r later e = absurd (cc)
no_events (b ∷ boots) [] events (f ∷ more) r later e = absurd (other b f _ _ (sym e)) where
  other : (b : Registration) (f : Event) (xs ys : List Entry) → inl b ∷ xs ≡ inr f ∷ ys → ⊥
  other b f xs ys e = let head : inl b ≡ inr f = cc in cc
no_events [] (q ∷ others) [] more r later e = refl
no_events [] (q ∷ others) (g ∷ events) more r later e = absurd (other q g _ _ e) where
  other : (q : Registration) (g : Event) (xs ys : List Entry) → inl q ∷ xs ≡ inr g ∷ ys → ⊥
  other q g xs ys e = let head : inl q ≡ inr g = cc in cc
no_events (b ∷ boots) (q ∷ others) events more r later e = no_events boots others events more r later (cc)

module _ (s : Script) (h : History) (formed : IsWellFormed s) (readable : IsReadable s h) (part rest : List ℕ) (is : part ≡ history_text s h ++ rest) (some : rest ≢ [])
    (none : IsNoLine s h.events.list rest) where
  lines_is : pieces part ≡ map (line_text s) (lines_of h) ++ pieces rest
  lines_is = ap pieces is ∙ text_lines s h rest readable

  same_front : (n : ℕ) → n ≤ length (lines_of h) → take n (pieces part) ≡ take n (map (line_text s) (lines_of h))
  same_front n within =
      ap (take n) lines_is ∙ take-append-le n (map (line_text s) (lines_of h)) (pieces rest) (omega (arith, within, length-map (lines_of h) (line_text s)))

  more_lines : pieces rest ≢ []
  more_lines e = some (sym (concat_pieces rest) ∙ ap concat e)

  no_next : (g : History) (on : GoesOn s (lines_of h) (lines_of g) (pieces rest)) → ⊥
  no_next g on = by_entry on.next on.read on.entries on.line where
    by_entry : (x : Entry) → IsEntryRead s x → lines_of g ≡ lines_of h ++ x ∷ on.later → pieces rest ≡ line_text s x ∷ on.more → ⊥
    by_entry (inr e) read entries line = none.event e read (concat on.more, sym (concat_pieces rest) ∙ ap concat line)
    by_entry (inl r) read entries line =
        none.boot r (no_events h.boots g.boots h.events.list g.events.list r on.later entries) read (concat on.more, sym (concat_pieces rest) ∙ ap concat line)

  -- no legal history goes on with the line that is none
  pub stops : TextBegins s (pieces part) (suc (length (lines_of h))) → ⊥
  stops begins =
      let read = histories_read s begins.0 formed begins.1 in
      no_next begins.0 (goes_on s (lines_of h) (lines_of begins.0) (pieces rest) more_lines (all_read s h readable) (all_read s begins.0 read)
      (ap (take (suc (length (lines_of h)))) (sym lines_is) ∙ begins.2 ∙ ap (take (suc (length (lines_of h)))) (lines_are s begins.0 read)))

  -- all lines before it are those of a legal history
  pub wrong_behind : IsLegal s h → IsFirstWrong s (pieces part) (suc (length (lines_of h)))
  wrong_behind legal = (
    omega arith,
    text_begins s h readable (pieces part) (suc (length (lines_of h)) - 1) (same_front (suc (length (lines_of h)) - 1) (omega arith)) formed (h, legal, refl),
    stops,
  )

  -- a line before it, or it, is the first that is wrong
  pub wrong_before : (n : ℕ) → (0 < n) × BeginsLegally s h (n - 1) × ¬ BeginsLegally s h n → IsFirstWrong s (pieces part) n
  wrong_before n wrong = elim (cases_lt (length (lines_of h)) (n - 1)) [
    | inl far ↦ absurd (wrong.2 (wrong.1.0, wrong.1.1, ap (take n) (same_all (lines_of h) (lines_of wrong.1.0) (n - 1) far wrong.1.2)))
    | inr near ↦ (wrong.0, text_begins s h readable (pieces part) (n - 1) (same_front (n - 1) near) formed wrong.1, by_place near)
  ] where
    by_place : n - 1 ≤ length (lines_of h) → TextBegins s (pieces part) n → ⊥
    by_place near begins = elim (cases_lt (length (lines_of h)) n) [
      | inl last ↦
          let end : n ≡ suc (length (lines_of h)) = omega (arith, near, last) in
          stops (subst (TextBegins s (pieces part)) end begins)
      | inr inside ↦ wrong.2 (begins_legally s h readable (pieces part) n (same_front n inside) formed begins)
    ]
