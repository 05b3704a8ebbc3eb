-- Texts of lists, one element more.
use Rattle.std.proofs.Common.{◌≡◌, ℕ, zero, suc, ◌+◌, ◌<◌, List, [], ◌∷◌, ◌++◌, length, take, get_or, Option, Some, None, ap, sym, ◌∙◌, arith, append_assoc, append-nil}
use Rattle.std.specs.List.{flat_map, range_with_len}
use Rattle.std.specs.Option.{option_map_or}
use Rattle.std.proofs.lemmas.Grind.{flat_map-append}
use Rattle.std.proofs.lemmas.List.{map-id, take_more}
use Rattle.std.proofs.lemmas.List.FromFn.{map-range_with_len_more}
use Rattle.mf_errno.specs.declared.module.Module.{Module}
use Rattle.mf_item.specs.Item.{Item}
use Rattle.mf_policy.specs.declared.registration.Registration.{Registration}
use Rattle.mf_policy.specs.declared.spec.Spec.{Spec}
use Rattle.mf_policy.specs.Registration.{Entry}
use Rattle.mf_list.specs.Asked.{slot_of}
use Rattle.mf_answers.specs.declared.reasons.Reason.{Reason}
use Rattle.mf_answers.specs.Reasons.{reason}
use Rattle.mf_why.specs.Deniers.{Denier, denier, mark_of, other_reasons}
use Rattle.mf_why.specs.Lines.{denier_text, each_check, other_text, why_line}

-- of the lists that each element stands for
pub texts_more : {X Y A : Type 0} (f : Y → List A) (g : X → List Y) (text : List A) (xs : List X) (i : ℕ) (d : X) → i < length xs
    → (text ++ flat_map f (flat_map g (take i xs))) ++ flat_map f (g (get_or xs i d)) ≡ text ++ flat_map f (flat_map g (take (i + 1) xs))
texts_more {X} {Y} f g text xs i d within =
    append_assoc text (flat_map f (flat_map g (take i xs))) (flat_map f (g x))
    ∙ ap (λ ys. text ++ ys)
    (sym (flat_map-append f (flat_map g (take i xs)) (g x))
    ∙ ap (λ ys. flat_map f (flat_map g (take i xs) ++ ys)) (sym (append-nil (g x)))
    ∙ ap (flat_map f) (sym (flat_map-append g (take i xs) (x ∷ [])))
    ∙ ap (λ (zs : List X). flat_map f (flat_map g zs)) (sym (take_more xs i d within)))
  where
    x : X
    x = get_or xs i d

-- of each number
each_number : (n : ℕ) → range_with_len 0 (n + 1) ≡ range_with_len 0 n ++ n ∷ []
each_number n =
    let same : 0 + n ≡ n = omega arith in
    sym (map-id (range_with_len 0 (n + 1))) ∙ map-range_with_len_more (λ (k : ℕ). k) 0 n n same ∙ ap (λ (xs : List ℕ). xs ++ n ∷ []) (map-id (range_with_len 0 n))

pub numbers_more : {Y A : Type 0} (f : Y → List A) (g : ℕ → List Y) (text : List A) (n : ℕ)
    → (text ++ flat_map f (flat_map g (range_with_len 0 n))) ++ flat_map f (g n) ≡ text ++ flat_map f (flat_map g (range_with_len 0 (n + 1)))
numbers_more f g text n =
    append_assoc text (flat_map f (flat_map g (range_with_len 0 n))) (flat_map f (g n))
    ∙ ap (λ ys. text ++ ys)
    (sym (flat_map-append f (flat_map g (range_with_len 0 n)) (g n))
    ∙ ap (λ ys. flat_map f (flat_map g (range_with_len 0 n) ++ ys)) (sym (append-nil (g n)))
    ∙ ap (flat_map f) (sym (flat_map-append g (range_with_len 0 n) (n ∷ [])))
    ∙ ap (λ zs. flat_map f (flat_map g zs)) (sym (each_number n)))

-- of each check

each_more : (f : ℕ → Item → List ℕ) (xs : List Item) (k i : ℕ) (d : Item) → i < length xs → each_check f k (take (suc i) xs) ≡ each_check f k (take i xs) ++ f (k + i) (get_or xs i d)
each_more f [] k i d within = absurd (omega (arith, within))
each_more f (x ∷ xs) k zero d within = append-nil (f k x) ∙ ap (λ n. f n x) place
  where
    place : k ≡ k + zero
    place = omega arith
each_more f (x ∷ xs) k (suc i) d within =
    ap (λ ys. f k x ++ ys) (each_more f xs (suc k) i d (omega (arith, within)) ∙ ap (λ n. each_check f (suc k) (take i xs) ++ f n (get_or xs i d)) place)
    ∙ sym (append_assoc (f k x) (each_check f (suc k) (take i xs)) (f (k + suc i) (get_or xs i d)))
  where
    place : suc k + i ≡ k + suc i
    place = omega arith

-- behind a text, where checks count from 1
pub check_more : (f : ℕ → Item → List ℕ) (text : List ℕ) (xs : List Item) (i : ℕ) (d : Item) → i < length xs
    → (text ++ each_check f 1 (take i xs)) ++ f (i + 1) (get_or xs i d) ≡ text ++ each_check f 1 (take (i + 1) xs)
check_more f text xs i d within =
    append_assoc text (each_check f 1 (take i xs)) (f (i + 1) (get_or xs i d))
    ∙ ap (λ ys. text ++ ys)
    (ap (λ n. each_check f 1 (take i xs) ++ f n (get_or xs i d)) one
    ∙ sym (each_more f xs 1 i d within) ∙ ap (λ n. each_check f 1 (take n xs)) next)
  where
    one : i + 1 ≡ 1 + i
    one = omega arith

    next : suc i ≡ i + 1
    next = omega arith

-- Lines that are appended in pieces

-- the head, what stands behind it, and the last word with the end of the line
pub line_of : (t a b r n : List ℕ) → ((t ++ a) ++ b) ++ (r ++ n) ≡ t ++ ((a ++ (b ++ r)) ++ n)
line_of t a b r n =
    append_assoc (t ++ a) b (r ++ n) ∙ append_assoc t a (b ++ (r ++ n)) ∙ ap (λ x. t ++ (a ++ x)) (sym (append_assoc b r n))
    ∙ ap (λ x. t ++ x) (sym (append_assoc a (b ++ r) n))

-- with one word more, and a blank
pub line_with : (t a b w k r n : List ℕ) → (((t ++ a) ++ b) ++ (w ++ k)) ++ (r ++ n) ≡ t ++ ((a ++ (((b ++ w) ++ k) ++ r)) ++ n)
line_with t a b w k r n =
    ap (λ x. x ++ (r ++ n)) (append_assoc (t ++ a) b (w ++ k)) ∙ line_of t a (b ++ (w ++ k)) r n ∙ ap (λ x. t ++ ((a ++ (x ++ r)) ++ n)) (sym (append_assoc b w k))

-- with two
pub line_with_two : (t a b w v k r n : List ℕ)
    → (((t ++ a) ++ b) ++ (((w ++ k) ++ v) ++ k)) ++ (r ++ n) ≡ t ++ ((a ++ (((((b ++ w) ++ k) ++ v) ++ k) ++ r)) ++ n)
line_with_two t a b w v k r n =
    line_with t a b ((w ++ k) ++ v) k r n
    ∙ ap (λ x. t ++ ((a ++ ((x ++ k) ++ r)) ++ n)) (sym (append_assoc b (w ++ k) v) ∙ ap (λ x. x ++ v) (sym (append_assoc b w k)))

-- two pieces, the second of two words
pub behind_both : (t a b c : List ℕ) → (t ++ a) ++ (b ++ c) ≡ t ++ ((a ++ b) ++ c)
behind_both t a b c = append_assoc t a (b ++ c) ∙ ap (λ x. t ++ x) (sym (append_assoc a b c))

-- The lines of a policy that denies

pub denier_told : (place : List ℕ) (by : Option Module) (item : Item) (e : Entry) (r : Registration) (means : Spec) (slot : ℕ) (why : Reason) (before after : List ℕ)
    → r ≡ e.0 → means ≡ e.1 → slot ≡ slot_of r → reason means slot item ≡ Some why
    → after ≡ before ++ (why_line place r.module (mark_of by r.module) why ++ flat_map (other_text place r.module) (other_reasons means item why))
    → after ≡ before ++ flat_map (denier_text place) (denier by item e)
denier_told place by item e r means slot why before after r_is means_is slot_is denies is =
    is
    ∙ ap (λ (x : Registration). before ++ (why_line place x.module (mark_of by x.module) why ++ flat_map (other_text place x.module) (other_reasons means item why))) r_is
    ∙ ap (λ (x : Spec). before ++ (why_line place e.0.module (mark_of by e.0.module) why ++ flat_map (other_text place e.0.module) (other_reasons x item why))) means_is
    ∙ ap (λ x. before ++ x) (sym (append-nil _))
    ∙ sym (ap (λ (o : Option Reason). before ++ flat_map (denier_text place) (option_map_or (told_by e) o [])) found)
  where
    told_by : Entry → Reason → List Denier
    told_by e why = (record { «module» = e.0.module; mark = mark_of by e.0.module; reason = why; others = other_reasons e.1 item why }) ∷ []

    found : reason e.1 (slot_of e.0) item ≡ Some why
    found =
        ap (λ (x : Spec). reason x (slot_of e.0) item) (sym means_is) ∙ ap (λ (x : Registration). reason means (slot_of x) item) (sym r_is)
        ∙ ap (λ k. reason means k item) (sym slot_is) ∙ denies

-- and nothing of one that doesn't
pub denier_untold : (place : List ℕ) (by : Option Module) (item : Item) (e : Entry) (r : Registration) (means : Spec) (slot : ℕ) (before : List ℕ)
    → r ≡ e.0 → means ≡ e.1 → slot ≡ slot_of r → reason means slot item ≡ None → before ≡ before ++ flat_map (denier_text place) (denier by item e)
denier_untold place by item e r means slot before r_is means_is slot_is denies =
    sym (append-nil before)
    ∙ sym (ap (λ (o : Option Reason). before ++ flat_map (denier_text place) (option_map_or (told_by e) o [])) found)
  where
    told_by : Entry → Reason → List Denier
    told_by e why = (record { «module» = e.0.module; mark = mark_of by e.0.module; reason = why; others = other_reasons e.1 item why }) ∷ []

    found : reason e.1 (slot_of e.0) item ≡ None
    found =
        ap (λ (x : Spec). reason x (slot_of e.0) item) (sym means_is) ∙ ap (λ (x : Registration). reason means (slot_of x) item) (sym r_is)
        ∙ ap (λ k. reason means k item) (sym slot_is) ∙ denies
