-- The walk over the checks of a plan.
use Rattle.std.proofs.Common.{◌≡◌, ℕ, ◌<◌, ◌+◌, suc, List, length, Option, Some, drop, refl, ap, sym, ◌∙◌, arith}
use Rattle.std.specs.Prelude.{slice_index_or}
use Rattle.std.proofs.Math.Seq.{drop-cons}
use Rattle.mf_errno.specs.declared.errno.Errno.{Errno}
use Rattle.mf_errno.specs.declared.errno.Errno.TheVariants.{Success}
use Rattle.mf_errno.specs.declared.module.Module.{Module}
use Rattle.mf_item.specs.Item.{Item}
use Rattle.mf_policy.specs.Registration.{Entry}
use Rattle.mf_list.specs.declared.ask.Answer.{Answer}
use Rattle.mf_list.specs.Asked.{answer_to}
use Rattle.mf_perform.specs.declared.verdict.Denial.{Denial}
use Rattle.mf_perform.specs.Verdict.{denial_at, denial_from}

-- the denial of the checks from a place on, by the answer to the one at that place and by those after it
denial_at_place : (policies : List Entry) (n place : ℕ) (items : List Item) (item : Item) → place < length items
    → ((other : Item) → item ≡ slice_index_or items place other)
    → denial_from policies n (drop place items)
    ≡ denial_at n (answer_to policies item).errno (answer_to policies item).by (denial_from policies (n + 1) (drop (place + 1) items))
denial_at_place policies n place items item within here =
    ap (denial_from policies n) (drop-cons items place item within)
    ∙ ap (λ (i : Item). denial_at n (answer_to policies i).errno (answer_to policies i).by (denial_from policies (n + 1) (drop (suc place) items))) (sym (here item))
    ∙ ap (λ (k : ℕ). denial_at n (answer_to policies item).errno (answer_to policies item).by (denial_from policies (n + 1) (drop k items))) next
  where
    next : suc place ≡ place + 1
    next = omega arith

-- an errno that isn't success denies
denies : (n : ℕ) (errno : Errno) (by : Option Module) (later : Option Denial) → (errno ≡ Success → ⊥)
    → denial_at n errno by later ≡ Some (record { item = n; errno = errno; by = by })
denies n Success by later fails = absurd (fails refl)
denies n errno by later fails = refl

-- The answer to the check at a place

module _ (policies : List Entry) (n place : ℕ) (items : List Item) (item : Item) (answer : Answer) (within : place < length items)
    (here : (other : Item) → item ≡ slice_index_or items place other) (told : answer ≡ answer_to policies item) where
  abbrev later : Option Denial
  later = denial_from policies (n + 1) (drop (place + 1) items)

  answered : denial_from policies n (drop place items) ≡ denial_at n answer.errno answer.by later
  answered = denial_at_place policies n place items item within here ∙ ap (λ (a : Answer). denial_at n a.errno a.by later) (sym told)

  -- it passes
  pub goes_on : answer.errno ≡ Success → denial_from policies n (drop place items) ≡ denial_from policies (n + 1) (drop (place + 1) items)
  goes_on success = answered ∙ ap (λ (errno : Errno). denial_at n errno answer.by later) success

  -- it is denied
  pub stops : (answer.errno ≡ Success → ⊥) → denial_from policies n (drop place items) ≡ Some (record { item = n; errno = answer.errno; by = answer.by })
  stops fails = answered ∙ denies n answer.errno answer.by later fails
