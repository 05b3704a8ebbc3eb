-- That of those that are told exactly one decides.
use Rattle.std.proofs.Common.{◌≡◌, ◌≢◌, ℕ, zero, suc, ◌+◌, ◌<◌, ◌≤◌, Bool, true, false, cond, ◌||◌, List, [], ◌∷◌, ◌++◌, length, get_or, map, Option, Some, None, is_some, slice_get, refl, ap, sym, ◌∙◌, subst, arith, inl, inr, ◌⊎◌}
use Rattle.std.specs.Prelude.{option_and_then}
use Rattle.std.specs.List.{filter, flat_map, list_any, position}
use Rattle.std.specs.Option.{option_map_or}
use Rattle.std.proofs.lemmas.List.{length-map}
use Rattle.std.proofs.lemmas.List.Elements.{filter-append}
use Rattle.std.proofs.lemmas.List.Quantifiers.{position-Some}
use Rattle.mf_errno.specs.declared.errno.Errno.{Errno}
use Rattle.mf_errno.specs.declared.errno.Errno.TheVariants.{Success}
use Rattle.mf_errno.specs.declared.module.Module.{Module}
use Rattle.mf_errno.specs.Same.{is_same}
use Rattle.mf_errno.specs.Selection.{first_standing, precedence}
use Rattle.mf_errno.proofs.Errors.{is_same-is, is_same-refl}
use Rattle.mf_errno.proofs.Modules.{same_module-self}
use Rattle.mf_compose.specs.Composition.{composition, decider, last_failure}
use Rattle.mf_compose.proofs.Composed.{decider_by_place}
use Rattle.mf_item.specs.Item.{Item}
use Rattle.mf_policy.specs.Registration.{Entry, is_of}
use Rattle.mf_list.specs.Asked.{answer_of, answers, composed, module_at, slot_of}
use Rattle.mf_list.specs.Held.{how_many}
use Rattle.mf_answers.specs.declared.reasons.Reason.{Reason}
use Rattle.mf_answers.specs.Reasons.{errno_by, errno_of, reason}
use Rattle.mf_answers.proofs.Errnos.{by_reason}
use Rattle.mf_answers.proofs.Places.{some_place}
use Rattle.mf_why.specs.Deniers.{Denier, denier, deniers, mark_of, other_reasons}
use Rattle.mf_why.specs.Laws.{OneDecides, decides}

-- The composition of answers is success, or stands among them

last_stands : (xs : List Errno) → (list_any (is_same (last_failure xs)) xs ≡ true) ⊎ (last_failure xs ≡ Success)
last_stands [] = inr refl
last_stands (x ∷ xs) =
    let last : Errno = last_failure xs in
    elim (is_same Success last) as (λ b. (list_any (is_same (cond b x last)) (x ∷ xs) ≡ true) ⊎ (cond b x last ≡ Success)) [
      | true ↦ inl (rw (is_same-refl x) refl)
      | false ↦ elim (last_stands xs) [ inl stands ↦ inl (later (is_same last x) stands) | inr none ↦ inr none ]
    ]
  where
    later : (b : Bool) → list_any (is_same (last_failure xs)) xs ≡ true → (b || list_any (is_same (last_failure xs)) xs) ≡ true
    later true stands = refl
    later false stands = stands

picked : (es xs : List Errno) (d : Errno) → (list_any (is_same d) xs ≡ true) ⊎ (d ≡ Success)
    → (list_any (is_same (first_standing es xs d)) xs ≡ true) ⊎ (first_standing es xs d ≡ Success)
picked [] xs d stands = stands
picked (e ∷ es) xs d stands =
    elim (list_any (is_same e) xs) as (λ b. list_any (is_same e) xs ≡ b → (list_any (is_same (cond b e (first_standing es xs d))) xs ≡ true) ⊎ (cond b e (first_standing es xs d) ≡ Success)) [
      | true ↦ λ present. inl present
      | false ↦ λ absent. picked es xs d stands
    ] refl

stands : (xs : List Errno) → (list_any (is_same (composition xs)) xs ≡ true) ⊎ (composition xs ≡ Success)
unfolding composition
stands xs = picked precedence xs (last_failure xs) (last_stands xs)

-- How often a module is listed

counted : (m : Module) (es : List Entry) (i : ℕ) (e : Entry) → slice_get es i ≡ Some e → is_of m e ≡ true → 1 ≤ how_many (is_of m) es
counted m [] i e at own = cc
counted m (x ∷ xs) zero e at own = let here : is_of m x ≡ true = cc in rw here (omega arith)
counted m (x ∷ xs) (suc i) e at own = omega (arith, counted m xs i e at own)

not_head : (b : Bool) (n : ℕ) → 1 ≤ n → cond b 1 0 + n ≤ 1 → b ≡ false
not_head true n one few = absurd (omega (arith, one, few))
not_head false n one few = refl

-- Those that are told, where a module decides

module _ (item : Item) (m : Module) where
  abbrev mine : Denier → Bool
  mine d = decides d.mark

  abbrev told_of : Entry → Reason → Denier
  told_of e why = record { «module» = e.0.module; mark = mark_of (Some m) e.0.module; reason = why; others = other_reasons e.1 item why }

  abbrev told : Entry → List Denier
  told = denier (Some m) item

  -- of another module
  other_told : (e : Entry) → is_of m e ≡ false → filter mine (told e) ≡ []
  other_told e other = one (reason e.1 (slot_of e.0) item)
    where
      one : (o : Option Reason) → filter mine (option_map_or (λ why. told_of e why ∷ []) o []) ≡ []
      one None = refl
      one (Some why) = rw other refl

  own_told : (e : Entry) (why : Reason) → is_of m e ≡ true → reason e.1 (slot_of e.0) item ≡ Some why → filter mine (told e) ≡ told_of e why ∷ []
  own_told e why own is = rw is (rw own refl)

  none_told : (es : List Entry) → how_many (is_of m) es ≡ 0 → filter mine (flat_map told es) ≡ []
  none_told [] none = refl
  none_told (e ∷ es) none =
      filter-append mine (told e) (flat_map told es)
      ∙ ap (λ xs. xs ++ filter mine (flat_map told es)) (other_told e (absent (is_of m e) (how_many (is_of m) es) none))
      ∙ none_told es (omega (arith, none))
    where
      absent : (b : Bool) (n : ℕ) → cond b 1 0 + n ≡ 0 → b ≡ false
      absent true n is = absurd (omega (arith, is))
      absent false n is = refl

  one_told : (es : List Entry) (i : ℕ) (e : Entry) (why : Reason) → how_many (is_of m) es ≤ 1 → slice_get es i ≡ Some e → is_of m e ≡ true
      → reason e.1 (slot_of e.0) item ≡ Some why → filter mine (flat_map told es) ≡ told_of e why ∷ []
  one_told [] i e why few at own is = cc
  one_told (x ∷ xs) zero e why few at own is =
      let same : x ≡ e = cc in
      let here : is_of m x ≡ true = ap (is_of m) same ∙ own in
      filter-append mine (told x) (flat_map told xs)
      ∙ ap (λ (d : Entry). filter mine (told d) ++ filter mine (flat_map told xs)) same
      ∙ ap (λ ds. ds ++ filter mine (flat_map told xs)) (own_told e why own is)
      ∙ ap (λ ds. told_of e why ∷ ds) (none_told xs (rest (is_of m x) (how_many (is_of m) xs) here few))
    where
      rest : (b : Bool) (n : ℕ) → b ≡ true → cond b 1 0 + n ≤ 1 → n ≡ 0
      rest true n here few = omega (arith, few)
      rest false n here few = cc
  one_told (x ∷ xs) (suc i) e why few at own is =
      let later : 1 ≤ how_many (is_of m) xs = counted m xs i e at own in
      filter-append mine (told x) (flat_map told xs)
      ∙ ap (λ ds. ds ++ filter mine (flat_map told xs)) (other_told x (not_head (is_of m x) (how_many (is_of m) xs) later few))
      ∙ one_told xs i e why (omega (arith, few)) at own is

-- The law

entry_at : (item : Item) (es : List Entry) (i : ℕ) → i < length es → (e : Entry) × (slice_get es i ≡ Some e) × ((d : Errno) → get_or (map (answer_of item) es) i d ≡ answer_of item e)
entry_at item [] i within = absurd (omega (arith, within))
entry_at item (e ∷ es) zero within = (e, refl, λ d. refl)
entry_at item (e ∷ es) (suc i) within = entry_at item es i (omega (arith, within))

reason_at : (item : Item) (e : Entry) → answer_of item e ≢ Success → (why : Reason) × (reason e.1 (slot_of e.0) item ≡ Some why) × (answer_of item e ≡ errno_of why)
reason_at item e fails = one (reason e.1 (slot_of e.0) item) (by_reason e.1 (slot_of e.0) item) refl
  where
    one : (o : Option Reason) → answer_of item e ≡ errno_by o → reason e.1 (slot_of e.0) item ≡ o
        → (why : Reason) × (reason e.1 (slot_of e.0) item ≡ Some why) × (answer_of item e ≡ errno_of why)
    one None is here = absurd (fails is)
    one (Some why) is here = (why, here, is)

place_in : (p : Errno → Bool) (xs : List Errno) → list_any p xs ≡ true → (i : ℕ) × (position p xs ≡ Some i)
place_in p xs any = one (position p xs) refl (some_place p xs ∙ any)
  where
    one : (o : Option ℕ) → position p xs ≡ o → is_some o ≡ true → (i : ℕ) × (position p xs ≡ Some i)
    one None is some = cc
    one (Some i) is some = (i, is)

pub one_decides : OneDecides
one_decides listed item once fails =
    let xs : List Errno = answers listed item in
    let all : Errno = composition xs in
    let present : list_any (is_same all) xs ≡ true = elim (stands xs) [ inl here ↦ here | inr none ↦ absurd (fails none) ] in
    let place = place_in (is_same all) xs present in
    let at = position-Some (is_same all) xs place.0 Success place.1 in
    let entry = entry_at item listed place.0 (omega (arith, at.0, length-map listed (answer_of item))) in
    let e : Entry = entry.0 in
    let same : all ≡ answer_of item e = is_same-is all (answer_of item e) (ap (is_same all) (sym (entry.2 Success)) ∙ at.1) in
    let why = reason_at item e (λ none. fails (same ∙ none)) in
    let m : Module = e.0.module in
    let by_is : (composed listed item).by ≡ Some m = decided listed xs all place.0 e refl fails place.1 entry.1 in
    record {
      decider = told_of item m e why.0;
      alone = subst (λ (by : Option Module). filter (mine item m) (deniers listed by item) ≡ told_of item m e why.0 ∷ []) (sym by_is)
          (one_told item m listed place.0 e why.0 (once m) entry.1 (same_module-self m) why.1);
      by = by_is;
      errno = same ∙ why.2;
    }
  where
    differs : (e : Errno) → e ≢ Success → is_same Success e ≡ false
    differs e fails = elim (is_same Success e) as (λ b. is_same Success e ≡ b → b ≡ false) [ true ↦ λ is. absurd (fails (sym (is_same-is Success e is))) | false ↦ λ is. refl ] refl

    decided : (listed : List Entry) (xs : List Errno) (all : Errno) (i : ℕ) (e : Entry) → all ≡ composition xs → composition xs ≢ Success → position (is_same all) xs ≡ Some i
        → slice_get listed i ≡ Some e → option_and_then (module_at listed) (decider xs) ≡ Some e.0.module
    decided listed xs all i e is fails at here =
        ap (option_and_then (module_at listed))
        (decider_by_place xs ∙ ap (λ b. cond b None (position (is_same (composition xs)) xs)) (differs (composition xs) fails)
        ∙ ap (λ (c : Errno). position (is_same c) xs) (sym is) ∙ at)
        ∙ ap (λ (found : Option Entry). elim found [ None ↦ None | Some entry ↦ Some entry.0.module ]) here
