-- What the lines of a load ask of mac_biba, which is booted.
use Rattle.std.proofs.Common.{◌≡◌, ℕ, ◌≤◌, true, [], ◌∷◌, refl, sym, subst}
use Rattle.std.specs.FinSet as set
use Rattle.mf_errno.specs.declared.module.Module.TheVariants.{Biba}
use Rattle.mf_elem.specs.Comps.{no_comps}
use Rattle.mf_elem.specs.Bounds.{AreWords, IsElement}
use Rattle.mf_elem.specs.declared.elem.Elem.{Elem}
use Rattle.mf_elem.specs.declared.elem.Elem.TheVariants.{Equal}
use Rattle.mf_elem.proofs.CompsLaws.{none_is, set_are_words}
use Rattle.mf_item.specs.declared.view.Kind.{Kind}
use Rattle.mf_item.specs.declared.view.Kind.TheVariants as kinds
use Rattle.mf_calls.specs.WellFormed.{IsAsked}
use Rattle.mf_calls.specs.Boots.{may_ask_for}
use Rattle.mf_calls.specs.Generated.{asked, plain_grade}

no_words : AreWords no_comps.words
no_words = subst (λ comps. AreWords comps.words) (sym none_is) (set_are_words set.empty)

-- a request of an element alone
is_asked : (kind : Kind) (e : Elem) → IsElement e → may_ask_for kind (Biba ∷ []) (asked e) ≡ true → IsAsked kind (Biba ∷ []) (asked e)
is_asked kind e spelled allowed = record { spelled = record { biba = record { effective = spelled; range = tt; not_empty = refl }; mls = tt; lomac = tt; partition = tt }; allowed = allowed }

grade_allowed : (kind : Kind) (grade : ℕ) → may_ask_for kind (Biba ∷ []) (asked (plain_grade grade)) ≡ true
grade_allowed kinds.Process grade = refl
grade_allowed kinds.Vnode grade = refl
grade_allowed kinds.Pipe grade = refl
grade_allowed kinds.Socket grade = refl

pub grade_asked : (kind : Kind) (grade : ℕ) → grade ≤ 65535 → IsAsked kind (Biba ∷ []) (asked (plain_grade grade))
grade_asked kind grade fits = is_asked kind (plain_grade grade) (fits, no_words) (grade_allowed kind grade)

equal_allowed : (kind : Kind) → may_ask_for kind (Biba ∷ []) (asked Equal) ≡ true
equal_allowed kinds.Process = refl
equal_allowed kinds.Vnode = refl
equal_allowed kinds.Pipe = refl
equal_allowed kinds.Socket = refl

pub equal_asked : (kind : Kind) → IsAsked kind (Biba ∷ []) (asked Equal)
equal_asked kind = is_asked kind Equal tt (equal_allowed kind)
