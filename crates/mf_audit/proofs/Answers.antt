-- The answers of the listed policies, one after another.
use Rattle.std.proofs.Common.{◌≡◌, ℕ, ◌+◌, ◌<◌, ◌≤◌, suc, zero, Bool, true, false, cond, not, ltb, ◌||◌, List, [], ◌∷◌, map, length, get_or, take, drop, Option, Some, None, option_map, refl, ap, sym, ◌∙◌, arith}
use Rattle.std.specs.Prelude.{find, option_and_then}
use Rattle.std.specs.List.{list_any, position, position_or_len, prefix_len}
use Rattle.std.proofs.Math.ListN.{drop_of_length-le}
use Rattle.std.proofs.lemmas.List.{drop_more, take_all}
use Rattle.std.proofs.lemmas.List.Folds.{find_at}
use Rattle.std.proofs.lemmas.Option.{slice_get_past}
use Rattle.std.proofs.lemmas.Bool.{ltb-false}
use Rattle.mf_errno.specs.declared.errno.Errno.{Errno}
use Rattle.mf_errno.specs.declared.errno.Errno.TheVariants.{Success}
use Rattle.mf_errno.specs.declared.module.Module.{Module}
use Rattle.mf_errno.specs.declared.module.Module.TheVariants as modules
use Rattle.mf_policy.specs.declared.spec.Spec.TheVariants as means
use Rattle.mf_errno.specs.OfTwo.{select}
use Rattle.mf_errno.specs.Same.{is_same}
use Rattle.mf_item.specs.Item.{Item}
use Rattle.mf_compose.specs.Composition.{composition, decider}
use Rattle.mf_compose.proofs.Composed.{composition_more, decider_by_place}
use Rattle.mf_list.specs.Asked.{answer_of, answers, module_at}
use Rattle.mf_policy.specs.Registration.{Entry}

map_long : {X Y : Type 0} (f : X → Y) (xs : List X) → length (map f xs) ≡ length xs
map_long f [] = refl
map_long f (x ∷ xs) = ap suc (map_long f xs)

map_at : {X Y : Type 0} (f : X → Y) (xs : List X) (i : ℕ) (x : X) (y : Y) → i < length xs → get_or (map f xs) i y ≡ f (get_or xs i x)
map_at f [] i x y within = absurd (omega (arith, within))
map_at f (z ∷ xs) zero x y within = refl
map_at f (z ∷ xs) (suc i) x y within = map_at f xs i x y (omega (arith, within))

-- the composition with the answer of the next policy
pub one_more : (es : List Entry) (item : Item) (i : ℕ) (d : Entry) (so_far answer : Errno) → i < length es → so_far ≡ composition (take i (answers es item))
    → answer ≡ answer_of item (get_or es i d) → select answer so_far ≡ composition (take (i + 1) (answers es item))
one_more es item i d so_far answer within so is =
    ap (λ (a : Errno). select a so_far) is
    ∙ ap (select (answer_of item (get_or es i d))) so
    ∙ ap (λ (a : Errno). select a (composition (take i (answers es item)))) (sym (map_at (answer_of item) es i d Success within))
    ∙ sym (composition_more (answers es item) i Success (omega (arith, within, map_long (answer_of item) es)))

-- the composition of all
pub all_taken : (es : List Entry) (item : Item) (n : ℕ) → length es ≤ n → take n (answers es item) ≡ answers es item
all_taken es item n all = take_all n (answers es item) (omega (arith, all, map_long (answer_of item) es))

-- Who decides

map-prefix : {X Y : Type 0} (f : X → Y) (p : Y → Bool) (xs : List X) → prefix_len p (map f xs) ≡ prefix_len (λ x. p (f x)) xs
map-prefix f p [] = refl
map-prefix f p (x ∷ xs) = ap (λ (n : ℕ). cond (p (f x)) (1 + n) 0) (map-prefix f p xs)

-- the module of the policy in that place, where it is one of the list
abbrev decided_at : List Entry → Bool → ℕ → Option Module
decided_at es b n = option_and_then (module_at es) (cond b (Some n) None)

-- the module of the first policy whose answer passes the test
pub first_passing : (p : Errno → Bool) (item : Item) (es : List Entry)
    → option_and_then (module_at es) (position p (answers es item)) ≡ option_map (λ entry. entry.0.module) (find (λ entry. p (answer_of item entry)) es)
first_passing p item es =
    ap (λ (n : ℕ). decided_at es (ltb n (length (answers es item))) n) (map-prefix (answer_of item) (λ e. not (p e)) es)
    ∙ ap (λ (k : ℕ). decided_at es (ltb place k) place) (map_long (answer_of item) es)
    ∙ one (ltb place (length es)) refl
    ∙ sym (ap (option_map (λ (entry : Entry). entry.0.module)) (find_at (λ entry. p (answer_of item entry)) es))
  where
    place : ℕ
    place = position_or_len (λ entry. p (answer_of item entry)) es

    one : (b : Bool) → ltb place (length es) ≡ b → decided_at es b place ≡ module_at es place
    one true within = refl
    one false past = sym (ap (option_map (λ (entry : Entry). entry.0.module)) (slice_get_past es place (ltb-false place (length es) past)))

-- nobody decides a success, and else the first whose answer it is
pub decided : (es : List Entry) (item : Item) (errno : Errno) → errno ≡ composition (answers es item)
    → option_and_then (module_at es) (decider (answers es item))
    ≡ cond (is_same Success errno) None (option_map (λ entry. entry.0.module) (find (λ entry. is_same errno (answer_of item entry)) es))
decided es item errno is =
    ap (option_and_then (module_at es)) (decider_by_place (answers es item))
    ∙ ap (λ (e : Errno). option_and_then (module_at es) (cond (is_same Success e) None (position (is_same e) (answers es item)))) (sym is)
    ∙ one (is_same Success errno)
  where
    one : (b : Bool) → option_and_then (module_at es) (cond b None (position (is_same errno) (answers es item)))
        ≡ cond b None (option_map (λ entry. entry.0.module) (find (λ entry. is_same errno (answer_of item entry)) es))
    one true = refl
    one false = first_passing (is_same errno) item es

fails_so : (e : Errno) → (e ≡ Success → ⊥) → is_same Success e ≡ false
fails_so Success fails = absurd (fails refl)
fails_so e fails = refl

pub decided_by : (es : List Entry) (item : Item) (errno : Errno) → errno ≡ composition (answers es item) → (errno ≡ Success → ⊥)
    → option_and_then (module_at es) (decider (answers es item)) ≡ option_map (λ entry. entry.0.module) (find (λ entry. is_same errno (answer_of item entry)) es)
decided_by es item errno is fails =
    decided es item errno is
    ∙ ap (λ (b : Bool). cond b None (option_map (λ (entry : Entry). entry.0.module) (find (λ (entry : Entry). is_same errno (answer_of item entry)) es))) (fails_so errno fails)

-- A search along a list

-- what passes is found
pub found_here : {X : Type 0} (p : X → Bool) (xs : List X) (i : ℕ) (d : X) → i < length xs → p (get_or xs i d) ≡ true → find p (drop i xs) ≡ Some (get_or xs i d)
found_here p xs i d within passes = ap (find p) (drop_more xs i d within) ∙ ap (λ (b : Bool). cond b (Some (get_or xs i d)) (find p (drop (i + 1) xs))) passes

pub found_later : {X : Type 0} (p : X → Bool) (xs : List X) (i : ℕ) (d : X) → i < length xs → p (get_or xs i d) ≡ false → find p (drop i xs) ≡ find p (drop (i + 1) xs)
found_later p xs i d within fails = ap (find p) (drop_more xs i d within) ∙ ap (λ (b : Bool). cond b (Some (get_or xs i d)) (find p (drop (i + 1) xs))) fails

pub any_here : {X : Type 0} (p : X → Bool) (xs : List X) (i : ℕ) (d : X) → i < length xs → p (get_or xs i d) ≡ true → list_any p (drop i xs) ≡ true
any_here p xs i d within passes = ap (list_any p) (drop_more xs i d within) ∙ ap (λ (b : Bool). b || list_any p (drop (i + 1) xs)) passes

pub any_later : {X : Type 0} (p : X → Bool) (xs : List X) (i : ℕ) (d : X) → i < length xs → p (get_or xs i d) ≡ false → list_any p (drop i xs) ≡ list_any p (drop (i + 1) xs)
any_later p xs i d within fails = ap (list_any p) (drop_more xs i d within) ∙ ap (λ (b : Bool). b || list_any p (drop (i + 1) xs)) fails

-- nothing is left at the end
pub none_left : {X : Type 0} (p : X → Bool) (xs : List X) (i : ℕ) → length xs ≤ i → find p (drop i xs) ≡ None
none_left p xs i past = ap (find p) (drop_of_length-le xs past)

pub no_more : {X : Type 0} (p : X → Bool) (xs : List X) (i : ℕ) → length xs ≤ i → list_any p (drop i xs) ≡ false
no_more p xs i past = ap (list_any p) (drop_of_length-le xs past)

-- an entry, where one is wanted
abbrev pub some_entry : Entry
some_entry = (record { «module» = modules.Mls; slot = None; fixed = false }, means.Mls)
