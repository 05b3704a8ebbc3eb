-- The composition of answers is success exactly where each answer is.
use Rattle.std.proofs.Common.{◌≡◌, Bool, true, false, cond, not, ◌&&◌, ◌||◌, List, [], ◌∷◌, None, refl, ap, sym, ◌∙◌, subst}
use Rattle.std.specs.List.{list_all, list_any}
use Rattle.std.proofs.lemmas.List.Folds.{list_all-map}
use Rattle.mf_errno.specs.declared.errno.Errno.{Errno}
use Rattle.mf_errno.specs.declared.errno.Errno.TheVariants.{Success}
use Rattle.mf_errno.specs.declared.module.Module.TheVariants as modules
use Rattle.mf_errno.specs.Same.{is_same}
use Rattle.mf_errno.specs.Selection.{precedence, first_standing}
use Rattle.mf_errno.proofs.Errors.{is_same-is}
use Rattle.mf_item.specs.Item.{Item}
use Rattle.mf_compose.specs.Composition.{composition, last_failure}
use Rattle.mf_policy.specs.declared.spec.Spec.TheVariants as means
use Rattle.mf_policy.specs.Registration.{Entry}
use Rattle.mf_list.specs.Asked.{answer_of, answers}
use Rattle.mf_matrix.specs.Passing.{lets_pass}

and_true : (a : Bool) → a ≡ (a && true)
and_true true = refl
and_true false = refl

and_false : (a b : Bool) → b ≡ false → (a && b) ≡ false
and_false true b fails = fails
and_false false b fails = refl

-- where an error stands among the answers, not all are success
stands_fails : (e : Errno) (xs : List Errno) → is_same Success e ≡ false → list_any (is_same e) xs ≡ true → list_all (is_same Success) xs ≡ false
stands_fails e [] error stands = cc
stands_fails e (x ∷ xs) error stands = one (is_same e x) refl (stands_fails e xs error) stands
  where
    one : (b : Bool) → is_same e x ≡ b → (list_any (is_same e) xs ≡ true → list_all (is_same Success) xs ≡ false)
        → (b || list_any (is_same e) xs) ≡ true → (is_same Success x && list_all (is_same Success) xs) ≡ false
    one true same rest stands =
        ap (λ (b : Bool). b && list_all (is_same Success) xs) (subst (λ (y : Errno). is_same Success y ≡ false) (is_same-is e x same) error)
    one false other rest stands = and_false (is_same Success x) (list_all (is_same Success) xs) (rest stands)

last_succeeds : (xs : List Errno) → is_same Success (last_failure xs) ≡ list_all (is_same Success) xs
last_succeeds [] = refl
last_succeeds (x ∷ xs) = one (is_same Success (last_failure xs)) refl (last_succeeds xs)
  where
    one : (b : Bool) → is_same Success (last_failure xs) ≡ b → b ≡ list_all (is_same Success) xs
        → is_same Success (cond b x (last_failure xs)) ≡ (is_same Success x && list_all (is_same Success) xs)
    one true is rest = and_true (is_same Success x) ∙ ap (λ (b : Bool). is_same Success x && b) rest
    one false is rest = is ∙ sym (and_false (is_same Success x) (list_all (is_same Success) xs) (sym rest))

not_true : (a : Bool) → not a ≡ true → a ≡ false
not_true true negated = sym negated
not_true false negated = refl

both : (a b : Bool) → (a && b) ≡ true → (a ≡ true) × (b ≡ true)
both true b holds = (refl, holds)
both false b holds = cc

first_succeeds : (es xs : List Errno) (otherwise : Errno) → list_all (λ e. not (is_same Success e)) es ≡ true
    → is_same Success otherwise ≡ list_all (is_same Success) xs → is_same Success (first_standing es xs otherwise) ≡ list_all (is_same Success) xs
first_succeeds [] xs otherwise errors is = is
first_succeeds (e ∷ es) xs otherwise errors is =
    let are : (not (is_same Success e) ≡ true) × (list_all (λ e. not (is_same Success e)) es ≡ true) =
    both (not (is_same Success e)) (list_all (λ e. not (is_same Success e)) es) errors in
    one (list_any (is_same e) xs) refl (not_true (is_same Success e) are.0) (first_succeeds es xs otherwise are.1 is)
  where
    one : (b : Bool) → list_any (is_same e) xs ≡ b → is_same Success e ≡ false
        → is_same Success (first_standing es xs otherwise) ≡ list_all (is_same Success) xs
        → is_same Success (cond b e (first_standing es xs otherwise)) ≡ list_all (is_same Success) xs
    one true stands error rest = error ∙ sym (stands_fails e xs error stands)
    one false stands error rest = rest

succeeds : (xs : List Errno) → is_same Success (composition xs) ≡ list_all (is_same Success) xs
unfolding composition
succeeds xs = first_succeeds precedence xs (last_failure xs) refl (last_succeeds xs)

-- an entry, where one is wanted
abbrev pub some_entry : Entry
some_entry = (record { «module» = modules.Mls; slot = None; fixed = false }, means.Mls)

-- the composition of the policies' answers is success exactly where each lets the check pass
pub all_let_pass : (es : List Entry) (item : Item) → is_same Success (composition (answers es item)) ≡ list_all (lets_pass item) es
all_let_pass es item = succeeds (answers es item) ∙ list_all-map (is_same Success) (answer_of item) es
