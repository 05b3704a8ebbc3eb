-- A text that isn't read has the first fault that is met, and a text with a first fault isn't read.
use Rattle.std.proofs.Common.{◌≡◌, ◌≢◌, ◌↔◌, ℕ, ◌+◌, true, false, cond, List, [], ◌∷◌, ◌++◌, length, Option, Some, None, Result, Ok, Err, refl, sym, ap, ◌∙◌, subst, inl, inr, arith}
use Rattle.std.specs.List.{AllByRecursion, join_with_byte}
use Rattle.std.specs.Option.{ok_or}
use Rattle.mf_elem.specs.declared.label.Request.{Request}
use Rattle.mf_elem.specs.Label.{no_request}
use Rattle.mf_labeltext.specs.LabelGrammar.{IsPolicyName, Asks, SpellsElement}
use Rattle.mf_text.specs.Results.{and_then}
use Rattle.mf_labeltext.specs.Reading.{cut, parts, with_part, is_policy_name, element_from_halves, element_in, elements_in, request_in}
use Rattle.mf_labeltext.specs.FirstFault.{AsksSomething, HasNoName, IsUnknown, IsElementFault, place_behind, IsFirstLabelFault}
use Rattle.mf_labeltext.specs.declared.fault.LabelFault.{LabelFault}
use Rattle.mf_labeltext.specs.declared.fault.LabelFault.TheVariants.{NoSlash, BadValue, EmptyElement}
use Rattle.mf_labeltext.proofs.Cutting.{cut_is, cut_free, parts_free, parts_join, join_parts}
use Rattle.mf_labeltext.proofs.Numbers.{some_is}
use Rattle.mf_labeltext.proofs.Requests.{name_is, is_policy_name_for, no_slash, part_asks, asks_part, element_spells, spells_element}

abbrev err : LabelFault → Result Request LabelFault
err fault = Err fault

err_is : (x y : LabelFault) → err x ≡ err y → x ≡ y
err_is x y is = cc

-- ---- whether an element asks for something doesn't depend on what was asked for before
asks_too : (name value : List ℕ) (one after other : Request) → Asks name value one after → (next : Request) × Asks name value other next
asks_too name value one after other (inl biba) = (record other { biba = Some biba.1 }, inl (biba.0, biba.1, biba.2, refl))
asks_too name value one after other (inr (inl mls)) = (record other { mls = Some mls.1 }, inr (inl (mls.0, mls.1, mls.2, refl)))
asks_too name value one after other (inr (inr (inl lomac))) = (record other { lomac = Some lomac.1 }, inr (inr (inl (lomac.0, lomac.1, lomac.2, refl))))
asks_too name value one after other (inr (inr (inr (inl partition)))) = (record other { partition = Some partition.1 }, inr (inr (inr (inl (partition.0, partition.1, partition.2, refl)))))
asks_too name value one after other (inr (inr (inr (inr others)))) = (record other { other = true }, inr (inr (inr (inr (others.0, refl)))))

spells_too : (element : List ℕ) (one after other : Request) → SpellsElement element one after → (next : Request) × SpellsElement element other next
spells_too element one after other spells =
    let asks = asks_too spells.0 spells.1 one after other spells.4 in
    (asks.0, (spells.0, spells.1, spells.2, spells.3, asks.1))

sound_read : (place : ℕ) (before : Request) (element : List ℕ) → AsksSomething element → (next : Request) × (element_in place before element ≡ Ok next)
sound_read place before element sound =
    let spells = spells_too element no_request sound.0 before sound.1 in
    (spells.0, spells_element place element before spells.0 spells.1)

read_sound : (place : ℕ) (before next : Request) (element : List ℕ) → element_in place before element ≡ Ok next → AsksSomething element
read_sound place before next element is = spells_too element before next no_request (element_spells place element before next is)

-- ---- a value
unread : (name value : List ℕ) (before : Request) → IsUnknown name value → (read : Option Request) → with_part name value before ≡ read → read ≡ None
unread name value before unknown None is = refl
unread name value before unknown (Some next) is =
    let asks = asks_too name value before next no_request (part_asks name value before next is) in
    absurd (unknown asks.0 asks.1)

unknown_value : (name value : List ℕ) (before : Request) → with_part name value before ≡ None → IsUnknown name value
unknown_value name value before none request asks =
    let other = asks_too name value no_request request before asks in
    let some = asks_part name value before other.0 other.1 in
    absurd cc

-- ---- an element
no_name : (element : List ℕ) → cut 47 element ≡ None → HasNoName element
no_name element none name value is named =
    let some = cut_free 47 name value (no_slash name named.1) in
    let whole = ap (cut 47) is in
    absurd cc

clash : false ≡ true → ⊥
clash is = cc

other_name : (element front back : List ℕ) → cut 47 element ≡ Some (front, back) → is_policy_name front ≡ false → HasNoName element
other_name element front back some other name value is named =
    let found = cut_free 47 name value (no_slash name named.1) in
    let same : (name, value) ≡ (front, back) = some_is (name, value) (front, back) (sym found ∙ ap (cut 47) (sym is) ∙ some) in
    absurd (clash (sym other ∙ ap is_policy_name (ap (λ halves. halves.0) (sym same)) ∙ is_policy_name_for name named))

value_fault : (read : Option Request) (found fault : LabelFault) → ok_or read found ≡ Err fault → (read ≡ None) × (found ≡ fault)
value_fault None found fault is = (refl, err_is found fault is)
value_fault (Some next) found fault is = absurd cc

halves_fault : (place : ℕ) (before : Request) (element : List ℕ) (fault : LabelFault) (halves : Option (List ℕ × List ℕ)) → element ≢ [] → cut 47 element ≡ halves
    → element_from_halves place before halves ≡ Err fault → IsElementFault place element fault
halves_fault place before element fault None some none is = subst (IsElementFault place element) (err_is (NoSlash place) fault is) (some, no_name element none, refl)
halves_fault place before element fault (Some halves) some parted is =
    let found = BadValue (place + length halves.0 + 1) in
    elim (is_policy_name halves.0) as (λ b. is_policy_name halves.0 ≡ b → cond b (ok_or (with_part halves.0 halves.1 before) (BadValue (place + length halves.0 + 1))) (Err (NoSlash place)) ≡ Err fault → IsElementFault place element fault) [
      | true ↦ λ named is.
          let none = value_fault (with_part halves.0 halves.1 before) found fault is in
          subst (IsElementFault place element) none.1
          (halves.0, halves.1, (cut_is 47 element halves.0 halves.1 parted).whole, name_is halves.0 named, unknown_value halves.0 halves.1 before none.0, refl)
      | false ↦ λ other is. subst (IsElementFault place element) (err_is (NoSlash place) fault is) (some, other_name element halves.0 halves.1 parted other, refl)
    ] refl is

element_fault : (place : ℕ) (before : Request) (element : List ℕ) (fault : LabelFault) → element_in place before element ≡ Err fault → IsElementFault place element fault
unfolding element_in
element_fault place before [] fault is = subst (IsElementFault place []) (err_is (EmptyElement place) fault is) (refl, refl)
element_fault place before (c ∷ cs) fault is = halves_fault place before (c ∷ cs) fault (cut 47 (c ∷ cs)) (λ e. cc) refl is

-- ---- and back
no_name_fault : (place : ℕ) (before : Request) (element : List ℕ) (halves : Option (List ℕ × List ℕ)) → HasNoName element → cut 47 element ≡ halves → element_from_halves place before halves ≡ Err (NoSlash place)
no_name_fault place before element None lacks none = refl
no_name_fault place before element (Some halves) lacks parted =
    elim (is_policy_name halves.0) as (λ b. is_policy_name halves.0 ≡ b → cond b (ok_or (with_part halves.0 halves.1 before) (BadValue (place + length halves.0 + 1))) (Err (NoSlash place)) ≡ Err (NoSlash place)) [
      | true ↦ λ named. absurd (lacks halves.0 halves.1 (cut_is 47 element halves.0 halves.1 parted).whole (name_is halves.0 named))
      | false ↦ λ other. refl
    ] refl

named_fault : (place : ℕ) (before : Request) (c : ℕ) (cs value : List ℕ) → IsPolicyName (c ∷ cs) → IsUnknown (c ∷ cs) value → element_in place before ((c ∷ cs) ++ 47 ∷ value) ≡ Err (BadValue (place + length (c ∷ cs) + 1))
unfolding element_in
named_fault place before c cs value named unknown =
    ap (element_from_halves place before) (cut_free 47 (c ∷ cs) value (no_slash (c ∷ cs) named.1))
    ∙ ap (λ b. cond b (ok_or (with_part (c ∷ cs) value before) (BadValue (place + length (c ∷ cs) + 1))) (Err (NoSlash place))) (is_policy_name_for (c ∷ cs) named)
    ∙ ap (λ read. ok_or read (BadValue (place + length (c ∷ cs) + 1))) (unread (c ∷ cs) value before unknown (with_part (c ∷ cs) value before) refl)

value_unread : (place : ℕ) (before : Request) (name value : List ℕ) → IsPolicyName name → IsUnknown name value → element_in place before (name ++ 47 ∷ value) ≡ Err (BadValue (place + length name + 1))
value_unread place before [] value named unknown = absurd (named.0 refl)
value_unread place before (c ∷ cs) value named unknown = named_fault place before c cs value named unknown

element_unread : (place : ℕ) (before : Request) (element : List ℕ) (fault : LabelFault) → IsElementFault place element fault → element_in place before element ≡ Err fault
unfolding element_in
element_unread place before element (EmptyElement found) is = ap (element_in place before) is.0 ∙ ap (λ n. err (EmptyElement n)) (sym is.1)
element_unread place before [] (NoSlash found) is = absurd (is.0 refl)
element_unread place before (c ∷ cs) (NoSlash found) is = no_name_fault place before (c ∷ cs) (cut 47 (c ∷ cs)) is.1 refl ∙ ap (λ n. err (NoSlash n)) (sym is.2)
element_unread place before element (BadValue found) is =
    ap (element_in place before) is.2 ∙ value_unread place before is.0 is.1 is.3 is.4 ∙ ap (λ n. err (BadValue n)) (sym is.5)

-- ---- one after another
-- the first faulty element of some, of which the first begins at a place
record Fails (place : ℕ) (elements : List (List ℕ)) (fault : LabelFault) : Type 0 where
  before : List (List ℕ)
  faulty : List ℕ
  behind : List (List ℕ)
  parted : elements ≡ before ++ faulty ∷ behind
  sound : AllByRecursion AsksSomething before
  is : IsElementFault (place + place_behind before) faulty fault

further : (place n m : ℕ) → place + n + 1 + m ≡ place + (n + 1 + m)
further place n m = omega arith

elements_fault : (place : ℕ) (request : Request) (elements : List (List ℕ)) (fault : LabelFault) → elements_in place request elements ≡ Err fault → Fails place elements fault
unfolding elements_in
elements_fault place request [] fault is = absurd cc
elements_fault place request (element ∷ elements) fault is =
    elim (element_in place request element) as (λ read. element_in place request element ≡ read → and_then read (λ next. elements_in (place + length element + 1) next elements) ≡ Err fault → Fails place (element ∷ elements) fault) [
      | Ok next ↦ λ read is.
          let later = elements_fault (place + length element + 1) next elements fault is in
          record {
            before = element ∷ later.before;
            faulty = later.faulty;
            behind = later.behind;
            parted = ap (λ rest. element ∷ rest) later.parted;
            sound = (read_sound place request next element read, later.sound);
            is = subst (λ n. IsElementFault n later.faulty fault) (further place (length element) (place_behind later.before)) later.is;
          }
      | Err found ↦ λ read is.
          record {
            before = [];
            faulty = element;
            behind = elements;
            parted = refl;
            sound = tt;
            is = subst (λ n. IsElementFault n element fault) (omega arith) (element_fault place request element fault (read ∙ is));
          }
    ] refl is

fault_elements : (place : ℕ) (request : Request) (before : List (List ℕ)) (faulty : List ℕ) (behind : List (List ℕ)) (fault : LabelFault)
    → AllByRecursion AsksSomething before → IsElementFault (place + place_behind before) faulty fault → elements_in place request (before ++ faulty ∷ behind) ≡ Err fault
unfolding elements_in
fault_elements place request [] faulty behind fault sound is =
    ap (λ read. and_then read (λ next. elements_in (place + length faulty + 1) next behind)) (element_unread place request faulty fault (subst (λ n. IsElementFault n faulty fault) (omega arith) is))
fault_elements place request (element ∷ before) faulty behind fault sound is =
    let read = sound_read place request element sound.0 in
    ap (λ read. and_then read (λ next. elements_in (place + length element + 1) next (before ++ faulty ∷ behind))) read.1
    ∙ fault_elements (place + length element + 1) read.0 before faulty behind fault sound.1 (subst (λ n. IsElementFault n faulty fault) (sym (further place (length element) (place_behind before))) is)

-- ---- whole texts
some_elements : (before : List (List ℕ)) (faulty : List ℕ) (behind : List (List ℕ)) → before ++ faulty ∷ behind ≢ []
some_elements [] faulty behind none = cc
some_elements (element ∷ before) faulty behind none = cc

text_fault : (text : List ℕ) (fault : LabelFault) → request_in text ≡ Err fault → IsFirstLabelFault text fault
unfolding request_in
text_fault text fault is =
    let fails = elements_fault 0 no_request (parts 44 text) fault is in
    record {
      before = fails.before;
      faulty = fails.faulty;
      behind = fails.behind;
      parted = sym (join_parts 44 text) ∙ ap (join_with_byte 44) fails.parted;
      whole = subst (AllByRecursion (λ element. AllByRecursion (λ byte. byte ≢ 44) element)) fails.parted (parts_free 44 text);
      sound = fails.sound;
      is = subst (λ n. IsElementFault n fails.faulty fault) (omega arith) fails.is;
    }

fault_text : (text : List ℕ) (fault : LabelFault) → IsFirstLabelFault text fault → request_in text ≡ Err fault
unfolding request_in
fault_text text fault first =
    ap (λ t. elements_in 0 no_request (parts 44 t)) first.parted
    ∙ ap (elements_in 0 no_request) (parts_join 44 (first.before ++ first.faulty ∷ first.behind) (some_elements first.before first.faulty first.behind) first.whole)
    ∙ fault_elements 0 no_request first.before first.faulty first.behind fault first.sound (subst (λ n. IsElementFault n first.faulty fault) (omega arith) first.is)

pub faults_are : (text : List ℕ) (fault : LabelFault) → (request_in text ≡ Err fault) ↔ IsFirstLabelFault text fault
faults_are text fault = (text_fault text fault, fault_text text fault)
