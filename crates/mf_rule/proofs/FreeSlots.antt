-- Lists of slots of which all from a number on are free.
use Rattle.std.proofs.Common.{◌≡◌, ℕ, zero, suc, ◌<◌, ◌≤◌, Option, None, [], ◌∷◌, ◌++◌, ◌-◌, length, take, get_or, set, replicate, refl, ap, sym, ◌∙◌, inl, inr, arith}
use Rattle.std.proofs.lemmas.Bool.{cases_eq, cases_lt}
use Rattle.std.proofs.lemmas.List.{get_or-set_same, get_or-set_other, get_or-take}
use Rattle.mf_rule.specs.RuleList.{Slots}
use Rattle.mf_rule.specs.declared.rule.Rule.{Rule}

-- every slot from the number on is free
abbrev pub IsFreeFrom : ℕ → Slots → Type 0
IsFreeFrom used slots = (number : ℕ) → used ≤ number → get_or slots number None ≡ None

free_behind : (used : ℕ) (slot : Option Rule) (slots : Slots) → IsFreeFrom (suc used) (slot ∷ slots) → IsFreeFrom used slots
free_behind used slot slots free = λ number from. free (suc number) (omega arith)

all_free_behind : (slot : Option Rule) (slots : Slots) → IsFreeFrom 0 (slot ∷ slots) → IsFreeFrom 0 slots
all_free_behind slot slots free = λ number from. free (suc number) (omega arith)

-- what a list is, by its used slots
only_free : (slots : Slots) → IsFreeFrom 0 slots → slots ≡ replicate (length slots) None
only_free [] free = refl
only_free (slot ∷ slots) free = rw (free 0 (omega arith)) (ap (◌∷◌ None) (only_free slots (all_free_behind slot slots free)))

pub used_then_free : (used count : ℕ) (slots : Slots) → count ≡ length slots - used → IsFreeFrom used slots → slots ≡ take used slots ++ replicate count None
used_then_free zero count slots counted free =
    let all : count ≡ length slots = omega (arith, counted) in
    rw all (only_free slots free)
used_then_free (suc used) count [] counted free =
    let none : count ≡ 0 = omega (arith, counted) in
    rw none refl
used_then_free (suc used) count (slot ∷ slots) counted free =
    ap (◌∷◌ slot) (used_then_free used count slots (omega (arith, counted)) (free_behind used slot slots free))

pub same_used : (used : ℕ) (slots others : Slots) → length slots ≡ length others → IsFreeFrom used slots → IsFreeFrom used others → take used slots ≡ take used others → slots ≡ others
same_used used slots others counted free others_free same =
    let count = length slots - used in
    used_then_free used count slots refl free
    ∙ ap (λ front. front ++ replicate count None) same
    ∙ sym (used_then_free used count others (omega (arith, counted)) others_free)

pub all_free_at : (count number : ℕ) → get_or {A = Option Rule} (replicate count None) number None ≡ None
all_free_at zero number = refl
all_free_at (suc count) zero = refl
all_free_at (suc count) (suc number) = all_free_at count number

-- the slot of a number is freed, and behind the number `end` all are free
pub free_without : (slots : Slots) (used end n : ℕ) → n < length slots → IsFreeFrom used slots → ((number : ℕ) → end ≤ number → get_or (take used (set slots n None)) number None ≡ None)
    → IsFreeFrom end (set slots n None)
free_without slots used end n within free rest = λ number from.
    elim (cases_lt number used) [
      | inl inside ↦ sym (get_or-take used (set slots n None) number None inside) ∙ rest number from
      | inr beyond ↦ elim (cases_eq number n) [
        | inl same ↦ ap (λ k. get_or (set slots n None) k None) same ∙ get_or-set_same slots n None None within
        | inr other ↦ get_or-set_other slots n number None None other ∙ free number beyond
      ]
    ]
