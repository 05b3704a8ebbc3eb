-- Which modules stay listed once they are booted, by their facts.
use Rattle.std.proofs.Common.{◌≡◌, Bool, true, false, not, cond, ◌&&◌, Option, Some, None, refl, ap, ◌∙◌, ◌⊎◌, inl, inr}
use Rattle.std.proofs.lemmas.Bool.{and_parts}
use Rattle.mf_errno.specs.Same.{same_module}
use Rattle.mf_errno.specs.declared.module.Module.{Module}
use Rattle.mf_errno.specs.declared.module.Module.TheVariants as modules
use Rattle.mf_elem.specs.Elem.{is_plain}
use Rattle.mf_item.specs.declared.view.Kind.{Kind}
use Rattle.mf_item.specs.declared.view.Kind.TheVariants as kinds
use Rattle.mf_policy.specs.declared.modules.Labelling.{Labelling}
use Rattle.mf_policy.specs.declared.modules.Labelling.TheVariants.{Ranges, Elements}
use Rattle.mf_policy.specs.declared.loading.LoadFault.{LoadFault}
use Rattle.mf_policy.specs.declared.loading.LoadFault.TheVariants.{NotLate}
use Rattle.mf_policy.specs.Loading.{load_fault}
use Rattle.mf_policy.specs.Modules.{facts_of, fresh_of, is_labelling, wants_slot, labels_by, labels_kind, module_of}
use Rattle.mf_errno.proofs.Modules.{each_passes, same_module-is}
use Rattle.mf_policy.proofs.EachModule.{has_elements}
use Rattle.mf_plan.specs.declared.state.State.{State}
use Rattle.mf_lifetimes.specs.Laws.{suits_kind}

-- a module by whose labels each entity has an element: it is loaded at boot alone, and never unloaded
abbrev pub IsLasting : Module → Type 0
IsLasting m = has_elements (facts_of m).labels ≡ true

pub lasting_or_not : (m : Module) → IsLasting m ⊎ (IsLasting m → ⊥)
lasting_or_not m = one (has_elements (facts_of m).labels)
  where
    one : (b : Bool) → (b ≡ true) ⊎ (b ≡ true → ⊥)
    one true = inl refl
    one false = inr (λ lasting. cc)

-- Whether the other facts of a module go with its labels: where these have elements, and those at boot suit the entity's kind or have no
-- compartments, it is loaded at boot alone and never unloaded; any other may be unloaded.
agree : Labelling → Bool → Bool → Bool
agree (Ranges process other) not_late unload_ok = suits_kind kinds.Process process && suits_kind kinds.Vnode other && not_late && not unload_ok
agree (Elements element) not_late unload_ok = is_plain element && not_late && not unload_ok
agree other not_late unload_ok = unload_ok

facts_agree : (m : Module) → agree (facts_of m).labels (facts_of m).not_late (facts_of m).unload_ok ≡ true
unfolding agree
facts_agree = each_passes (λ m. agree (facts_of m).labels (facts_of m).not_late (facts_of m).unload_ok) refl

-- labels with an element, that suit the entity's kind at boot, or have no compartments then
abbrev pub SuitKinds : Labelling → Type 0
SuitKinds (Ranges process other) = (suits_kind kinds.Process process ≡ true) × (suits_kind kinds.Vnode other ≡ true)
SuitKinds (Elements element) = is_plain element ≡ true
SuitKinds other = ⊥

-- what the facts of a module with such labels say
pub record AreLasting (labels : Labelling) (not_late unload_ok : Bool) : Type 0 where
  pub early : not_late ≡ true
  pub pinned : unload_ok ≡ false
  pub suit : SuitKinds labels

denied : (b : Bool) → not b ≡ true → b ≡ false
denied true is = cc
denied false is = refl

are_lasting : (labels : Labelling) (not_late unload_ok : Bool) → agree labels not_late unload_ok ≡ true → has_elements labels ≡ true
    → AreLasting labels not_late unload_ok
unfolding agree
are_lasting (Ranges process other) not_late unload_ok all elements =
    let first = and_parts (suits_kind kinds.Process process && suits_kind kinds.Vnode other && not_late) (not unload_ok) all in
    let second = and_parts (suits_kind kinds.Process process && suits_kind kinds.Vnode other) not_late first.0 in
    record {
      early = second.1;
      pinned = denied unload_ok first.1;
      suit = and_parts (suits_kind kinds.Process process) (suits_kind kinds.Vnode other) second.0;
    }
are_lasting (Elements element) not_late unload_ok all elements =
    let first = and_parts (is_plain element && not_late) (not unload_ok) all in
    let second = and_parts (is_plain element) not_late first.0 in
    record { early = second.1; pinned = denied unload_ok first.1; suit = second.0 }
are_lasting other not_late unload_ok all elements = cc

pub lasting_facts : (m : Module) → IsLasting m → AreLasting (facts_of m).labels (facts_of m).not_late (facts_of m).unload_ok
lasting_facts m lasting = are_lasting (facts_of m).labels (facts_of m).not_late (facts_of m).unload_ok (facts_agree m) lasting

pub lasting_wants : (m : Module) → IsLasting m → wants_slot m ≡ true
lasting_wants m lasting = by_labels (facts_of m).labels lasting
  where
    by_labels : (labels : Labelling) → has_elements labels ≡ true → is_labelling labels ≡ true
    by_labels (Ranges process other) elements = refl
    by_labels (Elements element) elements = refl
    by_labels other elements = cc

pub lasting_labels : (m : Module) (kind : Kind) → IsLasting m → labels_kind m kind ≡ true
lasting_labels m kind lasting = by_labels (facts_of m).labels lasting
  where
    by_labels : (labels : Labelling) → has_elements labels ≡ true → labels_by labels kind ≡ true
    by_labels (Ranges process other) elements = refl
    by_labels (Elements element) elements = refl
    by_labels other elements = cc

-- a registration before the end of boot that is fixed is of such a module
pub fixed_lasting : (m : Module) → (not false && not ((facts_of m).unload_ok)) ≡ true → IsLasting m
unfolding agree
fixed_lasting m fixed = by_labels (facts_of m).labels (facts_of m).not_late (facts_of m).unload_ok (facts_agree m) fixed
  where
    by_labels : (labels : Labelling) (not_late unload_ok : Bool) → agree labels not_late unload_ok ≡ true → (not false && not unload_ok) ≡ true
        → has_elements labels ≡ true
    by_labels (Ranges process other) not_late unload_ok all fixed = refl
    by_labels (Elements element) not_late unload_ok all fixed = refl
    by_labels other not_late true all fixed = cc
    by_labels other not_late false all fixed = cc

-- what may be unloaded is another module than one that stays
pub other_module : (m n : Module) → (facts_of m).unload_ok ≡ true → IsLasting n → same_module m n ≡ false
other_module m n ok lasting = one (same_module m n) refl
  where
    one : (b : Bool) → same_module m n ≡ b → b ≡ false
    one true same =
        let is : m ≡ n = same_module-is m n same in
        let pinned : (facts_of m).unload_ok ≡ false = ap (λ (k : Module). (facts_of k).unload_ok) is ∙ (lasting_facts n lasting).pinned in
        cc
    one false same = refl

late : (booted notlate : Bool) (rest : Option LoadFault) → booted ≡ true → notlate ≡ true → cond (booted && notlate) (Some NotLate) rest ≡ None → ⊥
late true true rest ended early none = cc
late true false rest ended early none = cc
late false notlate rest ended early none = cc

-- such a module isn't loaded after boot
pub no_late : (s : State) (m : Module) → s.booted ≡ true → load_fault s.booted s.specs s.numbers m ≡ None → IsLasting m → ⊥
no_late s m booted none lasting =
    late s.booted ((facts_of m).not_late) _ booted (lasting_facts m lasting).early none

-- The module of a spec

pub fresh_module : (m : Module) → module_of (fresh_of m) ≡ m
fresh_module modules.Biba = refl
fresh_module modules.Mls = refl
fresh_module modules.Lomac = refl
fresh_module modules.Partition = refl
fresh_module modules.Bsdextended = refl
fresh_module modules.Priority = refl
fresh_module modules.Seeotheruids = refl
fresh_module modules.Portacl = refl
