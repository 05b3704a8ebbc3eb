-- The lines of a history's text are those of its registrations and events, and each line tells which.
use Rattle.std.proofs.Common.{◌≡◌, ◌⊎◌, ℕ, zero, suc, ◌+◌, List, [], ◌∷◌, ◌++◌, length, map, take, refl, ap, sym, ◌∙◌, arith, append_assoc, append-nil, length-append, inl, inr}
use Rattle.std.proofs.lemmas.List.{length-map}
use Rattle.std.proofs.lemmas.List.Concat.{flat_map-append, flat_map-cons}
use Rattle.std.specs.List.{AllByRecursion, concat, flat_map}
use Rattle.std.specs.Str.{byte}
use Rattle.mf_text.proofs.Unescaping.{escaped_stands}
use Rattle.mf_policy.specs.declared.registration.Registration.{Registration}
use Rattle.mf_calls.specs.declared.script.Script.{Script}
use Rattle.mf_core.specs.declared.history.Event.{Event}
use Rattle.mf_core.specs.declared.history.History.{History}
use Rattle.mf_hist.specs.Found.{Lacks}
use Rattle.mf_hist.specs.HistoryText.{boot_text, event_text, history_text}
use Rattle.mf_hist.specs.Lines.{IsBoot, IsEvent, IsReadable}
use Rattle.mf_hist.proofs.Events.{Spoken, event_first, event_more, event_spoken, boot_more, boot_spoken}
use Rattle.mf_hist.proofs.Histories.{apart, one_event, same_lines}
use Rattle.mf_hist.proofs.Words.{behind, plain_lacks, plain_text}
use Rattle.mf_audit.specs.Audit.{lines_of}
use Rattle.mf_verdict.specs.Pieces.{pieces}
use Rattle.mf_verdict.specs.Verdict.{history_lines}
use Rattle.mf_verdict.specs.Judging.{line_count}
use Rattle.mf_verdict.proofs.Pieces.{whole_first}

-- a registration or an event
abbrev pub Entry : Type 0
Entry = Registration ⊎ Event

abbrev pub line_text : Script → Entry → List ℕ
line_text s (inl r) = boot_text r
line_text s (inr e) = event_text s e

-- it can be read
abbrev pub IsEntryRead : Script → Entry → Type 0
IsEntryRead s (inl r) = IsBoot r
IsEntryRead s (inr e) = IsEvent s e

-- Each is a line

pub record IsLine (text : List ℕ) : Type 0 where
  pub front : List ℕ
  pub lacks : Lacks (byte "\n") front
  pub is : text ≡ front ++ byte "\n" ∷ []

spoken_line : (text first : List ℕ) (more : List (List ℕ)) → Spoken text first more → IsLine text
spoken_line text first more spoken = record {
  front = first ++ behind more;
  lacks = plain_lacks (first ++ behind more) (plain_text first more spoken.word spoken.words);
  is = spoken.spelled;
}

pub is_line : (s : Script) (x : Entry) → IsEntryRead s x → IsLine (line_text s x)
is_line s (inl r) fits = spoken_line (boot_text r) _ (boot_more r) (boot_spoken r fits)
is_line s (inr e) fits = spoken_line (event_text s e) (event_first e) (event_more s e) (event_spoken s e fits)

line_first : (text rest : List ℕ) → IsLine text → pieces (text ++ rest) ≡ text ∷ pieces rest
line_first text rest line =
    ap (λ (t : List ℕ). pieces (t ++ rest)) line.is ∙ whole_first line.front rest line.lacks ∙ ap (λ (t : List ℕ). t ∷ pieces rest) (sym line.is)

-- the lines of texts that are put together
pub lines_front : (s : Script) (xs : List Entry) (rest : List ℕ) → AllByRecursion (IsEntryRead s) xs → pieces (flat_map (line_text s) xs ++ rest) ≡ map (line_text s) xs ++ pieces rest
lines_front s [] rest each = refl
lines_front s (x ∷ xs) rest each =
    ap (λ (t : List ℕ). pieces (t ++ rest)) (flat_map-cons (line_text s) x xs)
    ∙ ap pieces (append_assoc (line_text s x) (flat_map (line_text s) xs) rest)
    ∙ line_first (line_text s x) (flat_map (line_text s) xs ++ rest) (is_line s x each.0)
    ∙ ap (λ (lines : List (List ℕ)). line_text s x ∷ lines) (lines_front s xs rest each.1)

-- The text of a history is put together so

boots_text : (s : Script) (boots : List Registration) → flat_map (line_text s) (map inl boots) ≡ flat_map boot_text boots
boots_text s [] = refl
boots_text s (r ∷ boots) = flat_map-cons (line_text s) (inl r) (map inl boots) ∙ ap (λ (t : List ℕ). boot_text r ++ t) (boots_text s boots) ∙ sym (flat_map-cons boot_text r boots)

events_text : (s : Script) (events : List Event) → flat_map (line_text s) (map inr events) ≡ flat_map (event_text s) events
events_text s [] = refl
events_text s (e ∷ events) =
    flat_map-cons (line_text s) (inr e) (map inr events) ∙ ap (λ (t : List ℕ). event_text s e ++ t) (events_text s events) ∙ sym (flat_map-cons (event_text s) e events)

pub entries_text : (s : Script) (boots : List Registration) (events : List Event)
    → flat_map (line_text s) (map inl boots ++ map inr events) ≡ flat_map boot_text boots ++ flat_map (event_text s) events
entries_text s boots events =
    flat_map-append (line_text s) (map inl boots) (map inr events)
    ∙ ap (λ (t : List ℕ). t ++ flat_map (line_text s) (map inr events)) (boots_text s boots)
    ∙ ap (λ (t : List ℕ). flat_map boot_text boots ++ t) (events_text s events)

pub text_is : (s : Script) (h : History) → history_text s h ≡ flat_map (line_text s) (lines_of h)
text_is s h = sym (entries_text s h.boots h.events.list)

all_events : (s : Script) (events : List Event) → AllByRecursion (IsEvent s) events → AllByRecursion (IsEntryRead s) (map inr events)
all_events s [] each = tt
all_events s (e ∷ events) each = (each.0, all_events s events each.1)

pub all_entries : (s : Script) (boots : List Registration) (events : List Event) → AllByRecursion IsBoot boots → AllByRecursion (IsEvent s) events
    → AllByRecursion (IsEntryRead s) (map inl boots ++ map inr events)
all_entries s [] events each more = all_events s events more
all_entries s (r ∷ boots) events each more = (each.0, all_entries s boots events each.1 more)

pub all_read : (s : Script) (h : History) → IsReadable s h → AllByRecursion (IsEntryRead s) (lines_of h)
all_read s h readable = all_entries s h.boots h.events.list readable.boots readable.events

pub text_lines : (s : Script) (h : History) (rest : List ℕ) → IsReadable s h → pieces (history_text s h ++ rest) ≡ map (line_text s) (lines_of h) ++ pieces rest
text_lines s h rest readable = ap (λ (t : List ℕ). pieces (t ++ rest)) (text_is s h) ∙ lines_front s (lines_of h) rest (all_read s h readable)

pub lines_are : (s : Script) (h : History) → IsReadable s h → history_lines s h ≡ map (line_text s) (lines_of h)
lines_are s h readable = ap pieces (sym (append-nil (history_text s h))) ∙ text_lines s h [] readable ∙ append-nil (map (line_text s) (lines_of h))

pub entry_count : (h : History) → length (lines_of h) ≡ line_count h
entry_count h = length-append (map inl h.boots) (map inr h.events.list) ∙ counts (length-map h.boots inl) (length-map h.events.list inr) where
  counts : {a b x y : ℕ} → a ≡ x → b ≡ y → a + b ≡ x + y
  counts e f = omega (arith, e, f)

pub line_number : (s : Script) (h : History) → IsReadable s h → length (history_lines s h) ≡ line_count h
line_number s h readable = ap length (lines_are s h readable) ∙ length-map (lines_of h) (line_text s) ∙ entry_count h

-- what lines make a text of
concat_texts : (s : Script) (xs : List Entry) → concat (map (line_text s) xs) ≡ flat_map (line_text s) xs
concat_texts s [] = refl
concat_texts s (x ∷ xs) = ap (λ (t : List ℕ). line_text s x ++ t) (concat_texts s xs) ∙ sym (flat_map-cons (line_text s) x xs)

pub lines_text : (s : Script) (h : History) → concat (map (line_text s) (lines_of h)) ≡ history_text s h
lines_text s h = concat_texts s (lines_of h) ∙ sym (text_is s h)

-- A line tells which it is

only_boots : (rs qs : List Registration) (r q : Registration) → rs ≡ qs → rs ≡ r ∷ [] → qs ≡ q ∷ [] → r ≡ q
only_boots rs qs r q e f g = cc

pub one_entry : (s : Script) (x y : Entry) → IsEntryRead s x → IsEntryRead s y → line_text s x ≡ line_text s y → x ≡ y
one_entry s (inl r) (inl q) fx fy e =
    ap inl (only_boots (r ∷ []) (q ∷ []) r q (same_lines escaped_stands s (r ∷ []) (q ∷ []) [] [] (fx, tt) (fy, tt) tt tt (ap (λ (t : List ℕ). (t ++ []) ++ []) e)).0 refl refl)
one_entry s (inl r) (inr f) fx fy e = absurd (apart escaped_stands s f r [] [] fy fx (ap (λ (t : List ℕ). t ++ []) (sym e)))
one_entry s (inr g) (inl q) fx fy e = absurd (apart escaped_stands s g q [] [] fx fy (ap (λ (t : List ℕ). t ++ []) e))
one_entry s (inr g) (inr f) fx fy e = ap inr (one_event escaped_stands s g f [] [] fx fy (ap (λ (t : List ℕ). t ++ []) e)).0

pub take_same : (s : Script) (n : ℕ) (xs ys : List Entry) → AllByRecursion (IsEntryRead s) xs → AllByRecursion (IsEntryRead s) ys
    → take n (map (line_text s) xs) ≡ take n (map (line_text s) ys) → take n xs ≡ take n ys
take_same s zero xs ys fx fy e = refl
take_same s (suc n) [] [] fx fy e = refl
take_same s (suc n) [] (y ∷ ys) fx fy e = absurd (cc)
take_same s (suc n) (x ∷ xs) [] fx fy e = absurd (cc)
take_same s (suc n) (x ∷ xs) (y ∷ ys) fx fy e =
    let head : line_text s x ≡ line_text s y = cc in
    let tail : take n (map (line_text s) xs) ≡ take n (map (line_text s) ys) = cc in
    let one = one_entry s x y fx.0 fy.0 head in
    let more = take_same s n xs ys fx.1 fy.1 tail in
    cc (one, more)
