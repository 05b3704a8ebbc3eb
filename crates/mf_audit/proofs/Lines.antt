-- Lines of histories: what two histories with the same first lines have in common.
use Rattle.std.proofs.Common.{◌≡◌, ◌⊎◌, inl, inr, ℕ, zero, suc, ◌+◌, ◌-◌, ◌<◌, ◌≤◌, List, [], ◌∷◌, ◌++◌, length, map, take, drop, Option, Some, None, option_map, slice_get, refl, ap, sym, ◌∙◌, subst, arith}
use Rattle.std.specs.List.{fold}
use Rattle.std.proofs.Math.Seq.{take-append-add, drop-append_seam}
use Rattle.std.proofs.lemmas.Bool.{cases_lt}
use Rattle.std.proofs.lemmas.List.{take-append-le, take-map, length-map}
use Rattle.mf_policy.specs.declared.registration.Registration.{Registration}
use Rattle.mf_calls.specs.declared.script.Script.{Script}
use Rattle.mf_core.specs.declared.history.Event.{Event}
use Rattle.mf_core.specs.declared.history.History.{History}
use Rattle.mf_core.specs.LegalHistory.{AllMayCome, IsLegal, MayCome, RunState, opening_run, run_after, run_state_of}
use Rattle.mf_core.specs.Opening.{boots_of}
use Rattle.mf_audit.specs.declared.audit.Audit.{Audit}
use Rattle.mf_audit.specs.declared.audit.Audit.TheVariants.{Legal, Wrong}
use Rattle.mf_audit.specs.Audit.{BeginsLegally, IsAudit, lines_of}
use Rattle.mf_audit.specs.Lines.{Agree, IsEventAudit, StopsAt}

-- Lists

-- lists with the same first elements have the same at each of their places
same_at : {X : Type 0} (n : ℕ) (xs ys : List X) (i : ℕ) → take n xs ≡ take n ys → i < n → slice_get xs i ≡ slice_get ys i
same_at zero xs ys i same lt = absurd (omega arith)
same_at (suc n) [] [] i same lt = refl
same_at (suc n) [] (y ∷ ys) i same lt = cc
same_at (suc n) (x ∷ xs) [] i same lt = cc
same_at (suc n) (x ∷ xs) (y ∷ ys) zero same lt = cc
same_at (suc n) (x ∷ xs) (y ∷ ys) (suc i) same lt = same_at n xs ys i (cc) (omega arith)

take_twice : {X : Type 0} (n : ℕ) (xs : List X) → take n (take n xs) ≡ take n xs
take_twice zero xs = refl
take_twice (suc n) [] = refl
take_twice (suc n) (x ∷ xs) = ap (λ ys. x ∷ ys) (take_twice n xs)

take_of : {X : Type 0} (n : ℕ) (xs : List X) → take n xs ≡ take n (take (suc n) xs)
take_of zero xs = refl
take_of (suc n) [] = refl
take_of (suc n) (x ∷ xs) = ap (λ ys. x ∷ ys) (take_of n xs)

take_less : {X : Type 0} (n : ℕ) (xs ys : List X) → take (n + 1) xs ≡ take (n + 1) ys → take n xs ≡ take n ys
take_less n xs ys same =
    let one : n + 1 ≡ suc n = omega arith in
    take_of n xs ∙ ap (take n) (subst (λ (k : ℕ). take k xs ≡ take k ys) one same) ∙ sym (take_of n ys)

abbrev Line : Type 0
Line = Registration ⊎ Event

abbrev boot_line : Registration → Line
boot_line r = inl r

abbrev event_line : Event → Line
event_line e = inr e

-- the lines of these registrations and events
abbrev lines : List Registration → List Event → List Line
lines boots es = map boot_line boots ++ map event_line es

boot_at : (boots : List Registration) (es : List Event) (i : ℕ) → i < length boots → slice_get (lines boots es) i ≡ option_map boot_line (slice_get boots i)
boot_at [] es i lt = absurd (omega arith)
boot_at (b ∷ boots) es zero lt = refl
boot_at (b ∷ boots) es (suc i) lt = boot_at boots es i (omega arith)

event_at : (boots : List Registration) (es : List Event) → slice_get (lines boots es) (length boots) ≡ option_map event_line (slice_get es 0)
event_at [] [] = refl
event_at [] (e ∷ es) = refl
event_at (b ∷ boots) es = event_at boots es

-- where the registrations are the same, so are the events
same_events : (n : ℕ) (es gs : List Event) → map event_line (take n es) ≡ map event_line (take n gs) → take n es ≡ take n gs
same_events zero es gs same = refl
same_events (suc n) [] [] same = refl
same_events (suc n) [] (g ∷ gs) same = cc
same_events (suc n) (e ∷ es) [] same = cc
same_events (suc n) (e ∷ es) (g ∷ gs) same =
    let first : e ≡ g = cc in
    let rest : take n es ≡ take n gs = same_events n es gs (cc) in
    ap (λ x. x ∷ take n es) first ∙ ap (λ xs. g ∷ xs) rest

first_lines : (boots : List Registration) (es : List Event) (n : ℕ) → take (length boots + n) (lines boots es) ≡ lines boots (take n es)
first_lines boots es n =
    ap (λ k. take (k + n) (lines boots es)) (sym (length-map boots boot_line))
    ∙ take-append-add (map boot_line boots) (map event_line es) n
    ∙ ap (λ xs. map boot_line boots ++ xs) (take-map event_line n es)

behind : (boots : List Registration) (es : List Event) → drop (length boots) (lines boots es) ≡ map event_line es
behind boots es = ap (λ k. drop k (lines boots es)) (sym (length-map boots boot_line)) ∙ drop-append_seam (map boot_line boots) (map event_line es)

-- histories with the same registrations and the same lines so far have the same events so far
events_so_far : (boots : List Registration) (es gs : List Event) (n : ℕ)
    → take (length boots + n) (lines boots es) ≡ take (length boots + n) (lines boots gs) → take n es ≡ take n gs
events_so_far boots es gs n same =
    let both : lines boots (take n es) ≡ lines boots (take n gs) = sym (first_lines boots es n) ∙ same ∙ first_lines boots gs n in
    same_events n es gs (sym (behind boots (take n es)) ∙ ap (drop (length boots)) both ∙ behind boots (take n gs))

-- Where events may come

-- each event of a legal history may come after those before it
may_at : (s : Script) (r : RunState) (es : List Event) (n : ℕ) (e : Event) → AllMayCome s r es → slice_get es n ≡ Some e
    → MayCome s (fold (run_after s) r (take n es)) e
may_at s r [] n e all at = cc
may_at s r (x ∷ es) zero e all at = let same : x ≡ e = cc in subst (MayCome s r) same all.0
may_at s r (x ∷ es) (suc n) e all at = may_at s (run_after s r x) es n e all.1 at

pub may_first : (s : Script) (r : RunState) (es : List Event) (n : ℕ) → AllMayCome s r es → AllMayCome s r (take n es)
may_first s r es zero all = tt
may_first s r [] (suc n) all = tt
may_first s r (x ∷ es) (suc n) all = (all.0, may_first s (run_after s r x) es n all.1)

-- a legal history of these events
legal_with : (s : Script) (es : List Event) → AllMayCome s (opening_run s) es → (h : History) × IsLegal s h × (lines_of h ≡ lines (boots_of s) es)
legal_with s es all = (record { boots = boots_of s; events = record { list = es; room = 0 } }, record { boots = refl; events = all }, refl)

-- the lines of a legal history are the script's registrations, and then its events
legal_lines : (s : Script) (g : History) → IsLegal s g → lines_of g ≡ lines (boots_of s) g.events.list
legal_lines s g legal = ap (λ boots. lines boots g.events.list) legal.boots

-- Wrong registrations

no_line : {X : Type 0} (x : X) → None ≡ Some x → ⊥
no_line x e = cc

no_event : (r : Registration) (next : Option Event) → Some (boot_line r) ≡ option_map event_line next → ⊥
no_event r None e = cc
no_event r (Some event) e = cc

some_at : {X : Type 0} (xs : List X) (n : ℕ) → n < length xs → (x : X) × (slice_get xs n ≡ Some x)
some_at [] n lt = absurd (omega arith)
some_at (x ∷ xs) zero lt = (x, refl)
some_at (x ∷ xs) (suc n) lt = some_at xs n (omega arith)

boots_same : (a b : Option Registration) → option_map boot_line a ≡ option_map boot_line b → a ≡ b
boots_same None None e = refl
boots_same None (Some y) e = cc
boots_same (Some x) None e = cc
boots_same (Some x) (Some y) e = ap Some (cc)

module _ (s : Script) (h : History) (n : ℕ) (agree : Agree (boots_of s) h.boots n) where
  begins_before : BeginsLegally s h n
  begins_before =
      let g = legal_with s [] tt in
      let own : take n (lines_of h) ≡ map boot_line (take n h.boots) =
      take-append-le n (map boot_line h.boots) (map event_line h.events.list) (omega (arith, agree.also, length-map h.boots boot_line)) ∙ take-map boot_line n h.boots in
      let other : take n (lines (boots_of s) []) ≡ map boot_line (take n (boots_of s)) =
      take-append-le n (map boot_line (boots_of s)) [] (omega (arith, agree.within, length-map (boots_of s) boot_line)) ∙ take-map boot_line n (boots_of s) in
      (g.0, g.1, own ∙ ap (map boot_line) (sym agree.same) ∙ sym other ∙ ap (take n) (sym g.2))

  here_same : (g : History) → IsLegal s g → take (n + 1) (lines_of h) ≡ take (n + 1) (lines_of g)
      → slice_get (lines h.boots h.events.list) n ≡ slice_get (lines (boots_of s) g.events.list) n
  here_same g legal same = same_at (n + 1) (lines_of h) (lines_of g) n same (omega arith) ∙ ap (λ xs. slice_get xs n) (legal_lines s g legal)

  -- the script has a registration there, and the history has another line or none
  own_differs : n < length (boots_of s) → ¬ BeginsLegally s h (n + 1)
  own_differs lt (g, legal, same) =
      let here : slice_get (lines h.boots h.events.list) n ≡ option_map boot_line (slice_get (boots_of s) n) = here_same g legal same ∙ boot_at (boots_of s) g.events.list n lt in
      elim (cases_lt n (length h.boots)) [
        | inl less ↦
            agree.differ lt less (boots_same (slice_get (boots_of s) n) (slice_get h.boots n) (sym here ∙ boot_at h.boots h.events.list n less))
        | inr past ↦
            let end : length h.boots ≡ n = omega (arith, agree.also, past) in
            let own = some_at (boots_of s) n lt in
            no_event own.0 (slice_get h.events.list 0)
            (ap (option_map boot_line) (sym own.1) ∙ sym here ∙ ap (slice_get (lines h.boots h.events.list)) (sym end) ∙ event_at h.boots h.events.list)
      ]

  -- the history has a registration there, and the script has none
  theirs_differs : length (boots_of s) ≤ n → n < length h.boots → ¬ BeginsLegally s h (n + 1)
  theirs_differs past lt (g, legal, same) =
      let end : length (boots_of s) ≡ n = omega (arith, agree.within, past) in
      let own = some_at h.boots n lt in
      no_event own.0 (slice_get g.events.list 0)
      (ap (option_map boot_line) (sym own.1) ∙ sym (boot_at h.boots h.events.list n lt) ∙ here_same g legal same
      ∙ ap (slice_get (lines (boots_of s) g.events.list)) (sym end) ∙ event_at (boots_of s) g.events.list)

  differs : (n < length (boots_of s)) ⊎ (n < length h.boots) → ¬ BeginsLegally s h (n + 1)
  differs (inl lt) = own_differs lt
  differs (inr lt) = elim (cases_lt n (length (boots_of s))) [ inl less ↦ own_differs less | inr past ↦ theirs_differs past lt ]

  -- the registrations are wrong there
  pub wrong_boot : (line : ℕ) → line ≡ n + 1 → (n < length (boots_of s)) ⊎ (n < length h.boots) → IsAudit s h (Wrong line)
  wrong_boot line is where_ =
      let before : n ≡ line - 1 = omega arith in
      (omega arith, subst (BeginsLegally s h) before begins_before, λ begins. differs where_ (subst (BeginsLegally s h) is begins))

-- Wrong events

module _ (s : Script) (h : History) (boots : h.boots ≡ boots_of s) where
  own_lines : lines_of h ≡ lines (boots_of s) h.events.list
  own_lines = ap (λ boots. lines boots h.events.list) boots

  -- so many of the events may come
  begins_with : (n : ℕ) → AllMayCome s (opening_run s) (take n h.events.list) → BeginsLegally s h (length (boots_of s) + n)
  begins_with n all =
      let g = legal_with s (take n h.events.list) all in (
        g.0,
        g.1,
        ap (take (length (boots_of s) + n)) own_lines ∙ first_lines (boots_of s) h.events.list n
            ∙ ap (lines (boots_of s)) (sym (take_twice n h.events.list))
            ∙ sym (ap (take (length (boots_of s) + n)) g.2 ∙ first_lines (boots_of s) (take n h.events.list) n),
      )

  may_next : (n : ℕ) (e : Event) → slice_get h.events.list n ≡ Some e → BeginsLegally s h (length (boots_of s) + (n + 1)) → MayCome s (run_state_of s (take n h.events.list)) e
  may_next n e at (g, legal, same) =
      let so_far : take (n + 1) h.events.list ≡ take (n + 1) g.events.list =
      events_so_far (boots_of s) h.events.list g.events.list (n + 1)
      (sym (ap (take (length (boots_of s) + (n + 1))) own_lines) ∙ same ∙ ap (take (length (boots_of s) + (n + 1))) (legal_lines s g legal)) in
      let there : slice_get g.events.list n ≡ Some e = sym (same_at (n + 1) h.events.list g.events.list n so_far (omega arith)) ∙ at in
      let before : take n g.events.list ≡ take n h.events.list = sym (take_less n h.events.list g.events.list so_far) in
      subst (λ es. MayCome s (run_state_of s es) e) before (may_at s (opening_run s) g.events.list n e legal.events there)

  -- the events are wrong there
  pub wrong_event : (n line : ℕ) → StopsAt s h.events.list n → line ≡ length (boots_of s) + n + 1 → IsAudit s h (Wrong line)
  wrong_event n line stops is =
      let before : length (boots_of s) + n ≡ line - 1 = omega arith in
      let after : line ≡ length (boots_of s) + (n + 1) = omega arith in (
        omega arith,
        subst (BeginsLegally s h) before (begins_with n stops.before),
        λ begins. stops.not (may_next n stops.event stops.there (subst (BeginsLegally s h) after begins)),
      )

-- what is found of the events behind the right registrations is found of the history
pub audited : (s : Script) (h : History) (n : ℕ) (found : Audit) → h.boots ≡ boots_of s → n ≡ length (boots_of s) → IsEventAudit s n h.events.list found
    → IsAudit s h found
audited s h n (Legal complete) boots is events = (record { boots = boots; events = events.0 }, events.1)
audited s h n (Wrong line) boots is events = wrong_event s h boots events.0 line events.1 (omega (arith, is, events.2))
