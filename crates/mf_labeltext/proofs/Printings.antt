-- Printing compartments and elements one after another.
use Rattle.std.proofs.Common.{◌≡◌, ℕ, ◌+◌, ◌<◌, suc, Bool, true, false, cond, List, [], ◌∷◌, ◌++◌, map, filter, refl, sym, ap, ◌∙◌, append_assoc, append-nil, add-one, length, take, get_or, lit<, arith}
use Rattle.std.proofs.lemmas.List.{take_more, length-map, length-take-le}
use Rattle.std.proofs.lemmas.Bool.{ne_eqb}
use Rattle.std.proofs.lemmas.List.Elements.{filter-append}
use Rattle.std.specs.List.{join_with_byte}
use Rattle.std.specs.Fmt.{decimal}
use Rattle.mf_labeltext.specs.Canonical.{comps_text}
use Rattle.mf_labeltext.specs.Commas.{comma_behind}
use Rattle.std.specs.Cmp.{nat_cmp_total}
use Rattle.std.specs.Ordering.{nat_cmp}
use Rattle.std.specs.FinSet as set
use Rattle.std.specs.FinSet.{contains-empty, is_subset-contains}
use Rattle.mf_elem.specs.Comps.{compartments_of, rising}
use Rattle.mf_elem.proofs.Among.{numbers_to}
use Rattle.mf_elem.proofs.CompsLaws.{rising_contained}
use Rattle.mf_elem.specs.declared.comps.Comps.{Comps}

-- what stands in front of one compartment more
abbrev pub separator_after : List ℕ → ℕ
separator_after [] = 58
separator_after (n ∷ ns) = 43

pub join_push : (byte : ℕ) (text : List ℕ) (texts : List (List ℕ)) (last : List ℕ) → join_with_byte byte ((text ∷ texts) ++ last ∷ []) ≡ join_with_byte byte (text ∷ texts) ++ byte ∷ last
join_push byte text [] last = refl
join_push byte text (next ∷ texts) last =
    ap (λ rest. text ++ byte ∷ rest) (join_push byte next texts last)
    ∙ sym (append_assoc text (byte ∷ join_with_byte byte (next ∷ texts)) (byte ∷ last))

map_push : (ns : List ℕ) (n : ℕ) → map decimal (ns ++ n ∷ []) ≡ map decimal ns ++ decimal n ∷ []
map_push [] n = refl
map_push (m ∷ ns) n = ap (λ rest. decimal m ∷ rest) (map_push ns n)

pub comps_text_push : (ns : List ℕ) (n : ℕ) → comps_text (ns ++ n ∷ []) ≡ comps_text ns ++ separator_after ns ∷ decimal n
comps_text_push [] n = refl
comps_text_push (m ∷ ns) n = ap (λ rest. 58 ∷ join_with_byte 43 (decimal m ∷ rest)) (map_push ns n) ∙ ap (λ rest. 58 ∷ rest) (join_push 43 (decimal m) (map decimal ns) (decimal n))

-- ---- the compartments up to one number more
not_printed : (test : ℕ → Bool) (n : ℕ) → test (n + 1) ≡ false → filter test (numbers_to (n + 1)) ≡ filter test (numbers_to n)
not_printed test n absent =
    ap (λ k. filter test (numbers_to k)) (add-one n)
    ∙ filter-append test (numbers_to n) (suc n ∷ [])
    ∙ ap (λ k. filter test (numbers_to n) ++ filter test (k ∷ [])) (sym (add-one n))
    ∙ rw absent (append-nil (filter test (numbers_to n)))

printed : (test : ℕ → Bool) (n : ℕ) → test (n + 1) ≡ true → filter test (numbers_to (n + 1)) ≡ filter test (numbers_to n) ++ (n + 1) ∷ []
printed test n present =
    ap (λ k. filter test (numbers_to k)) (add-one n)
    ∙ filter-append test (numbers_to n) (suc n ∷ [])
    ∙ ap (λ k. filter test (numbers_to n) ++ filter test (k ∷ [])) (sym (add-one n))
    ∙ rw present refl

separator_push : (ns : List ℕ) (n : ℕ) → separator_after (ns ++ n ∷ []) ≡ 43
separator_push [] n = refl
separator_push (m ∷ ns) n = refl

-- what a loop has printed of the compartments up to n
pub record Printed (test : ℕ → Bool) (before after : List ℕ) (separator n : ℕ) : Type 0 where
  pub text : after ≡ before ++ comps_text (filter test (numbers_to n))
  pub separator_is : separator ≡ separator_after (filter test (numbers_to n))
  pub ascii : separator < 128

pub printed_not : (test : ℕ → Bool) (before after : List ℕ) (separator n : ℕ) → Printed test before after separator n → test (n + 1) ≡ false → Printed test before after separator (n + 1)
printed_not test before after separator n so_far absent =
    record {
      text = so_far.text ∙ ap (λ ns. before ++ comps_text ns) (sym (not_printed test n absent));
      separator_is = so_far.separator_is ∙ ap separator_after (sym (not_printed test n absent));
      ascii = so_far.ascii;
    }

pub printed_more : (test : ℕ → Bool) (before after next : List ℕ) (separator n : ℕ) → Printed test before after separator n → test (n + 1) ≡ true
    → next ≡ after ++ separator ∷ decimal (n + 1) → Printed test before next 43 (n + 1)
printed_more test before after next separator n so_far present is =
    let ns = filter test (numbers_to n) in
    record {
      text = is
          ∙ ap (λ text. text ++ separator ∷ decimal (n + 1)) so_far.text
          ∙ ap (λ c. (before ++ comps_text ns) ++ c ∷ decimal (n + 1)) so_far.separator_is
          ∙ append_assoc before (comps_text ns) (separator_after ns ∷ decimal (n + 1))
          ∙ ap (λ text. before ++ text) (sym (comps_text_push ns (n + 1)))
          ∙ ap (λ ns. before ++ comps_text ns) (sym (printed test n present));
      separator_is = sym (ap separator_after (printed test n present) ∙ separator_push ns (n + 1));
      ascii = lit< tt;
    }

-- ---- elements
map_append : {A : Type 0} (f : A → List ℕ) (xs : List A) (x : A) → map f (xs ++ x ∷ []) ≡ map f xs ++ f x ∷ []
map_append f [] x = refl
map_append f (y ∷ xs) x = ap (λ rest. f y ∷ rest) (map_append f xs x)

join_more : (texts : List (List ℕ)) (last : List ℕ) → join_with_byte 44 (texts ++ last ∷ []) ≡ (join_with_byte 44 texts ++ comma_behind (length texts)) ++ last
join_more [] last = refl
join_more (text ∷ texts) last =
    join_push 44 text texts last
    ∙ sym (append_assoc (join_with_byte 44 (text ∷ texts)) (44 ∷ []) last)
    ∙ ap (λ b. (join_with_byte 44 (text ∷ texts) ++ cond b [] (44 ∷ [])) ++ last) (sym (ne_eqb (length (text ∷ texts)) 0 (λ e. omega arith)))

pub elements_more : {A : Type 0} (f : A → List ℕ) (xs : List A) (i : ℕ) (d : A) → i < length xs
    → join_with_byte 44 (map f (take (i + 1) xs)) ≡ (join_with_byte 44 (map f (take i xs)) ++ comma_behind i) ++ f (get_or xs i d)
elements_more f xs i d within =
    let long : length (map f (take i xs)) ≡ i = length-map (take i xs) f ∙ length-take-le i xs (omega arith) in
    ap (λ xs. join_with_byte 44 (map f xs)) (take_more xs i d within)
    ∙ ap (join_with_byte 44) (map_append f (take i xs) (get_or xs i d))
    ∙ join_more (map f (take i xs)) (f (get_or xs i d))
    ∙ ap (λ n. (join_with_byte 44 (map f (take i xs)) ++ comma_behind n) ++ f (get_or xs i d)) long

pub nothing_printed : (test : ℕ → Bool) (before : List ℕ) → Printed test before before 58 0
nothing_printed test before = record { text = sym (append-nil before); separator_is = refl; ascii = lit< tt }

none_listed : (f : ℕ → Bool) (ns : List ℕ) → ((n : ℕ) → f n ≡ false) → filter f ns ≡ []
none_listed f [] none = refl
none_listed f (n ∷ ns) none = rw (none n) (none_listed f ns none)

-- an empty set prints nothing
pub nothing_to_print : (comps : Comps) (before : List ℕ) → set.is_subset (compartments_of comps) (set.empty {K = ℕ} {R = nat_cmp}) ≡ true → before ≡ before ++ comps_text (rising comps)
nothing_to_print comps before empty =
    let none : rising comps ≡ [] =
    rising_contained comps ∙ none_listed (set.contains (compartments_of comps)) (numbers_to 256) (λ n. one n (set.contains (compartments_of comps) n) refl) in
    rw none (sym (append-nil before))
  where
    one : (n : ℕ) (b : Bool) → set.contains (compartments_of comps) n ≡ b → b ≡ false
    one n false is = refl
    one n true is =
        sym (is_subset-contains nat_cmp_total (compartments_of comps) (set.empty {K = ℕ} {R = nat_cmp}) empty n is) ∙ contains-empty nat_cmp n

pub all_printed : (comps : Comps) (before after : List ℕ) (separator n : ℕ) → Printed (set.contains (compartments_of comps)) before after separator n → n ≡ 256 → after ≡ before ++ comps_text (rising comps)
all_printed comps before after separator n printed end =
    printed.text ∙ ap (λ k. before ++ comps_text (filter (set.contains (compartments_of comps)) (numbers_to k))) end
    ∙ ap (λ ns. before ++ comps_text ns) (sym (rising_contained comps))
