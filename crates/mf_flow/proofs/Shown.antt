-- How the checks of a call are seen by policies: what isn't read of labels is the same, whether or not the caller is lowered.
use Rattle.std.proofs.Common.{◌≡◌, ℕ, ◌-◌, zero, suc, true, List, [], ◌∷◌, map, take, Option, Some, None, option_map, refl, ap, sym, ◌∙◌, subst}
use Rattle.std.specs.List.{AllByRecursion}
use Rattle.mf_elem.specs.declared.label.LabelValue.{LabelValue}
use Rattle.mf_elem.specs.declared.label.Request.{Request}
use Rattle.mf_item.specs.Item.{Item}
use Rattle.mf_policy.specs.Lowering.{after_check, lomac_slot}
use Rattle.mf_policy.specs.Operations.{is_transfer}
use Rattle.mf_objects.specs.declared.id.Id.{Id}
use Rattle.mf_objects.specs.Live.{Entities}
use Rattle.mf_objects.specs.Lives.{value_at, view_at}
use Rattle.mf_plan.specs.declared.outline.Check.{Check}
use Rattle.mf_plan.specs.declared.reply.Reply.{Reply}
use Rattle.mf_plan.specs.declared.reply.Reply.TheVariants as reply
use Rattle.mf_plan.specs.declared.state.State.{State}
use Rattle.mf_plan.specs.Lowering.{each_lowered, lowering, while_lowered}
use Rattle.mf_plan.specs.Outline.{item_asking}
use Rattle.mf_plan.proofs.LoweredChecks.{IsSameCheck, while_same}
use Rattle.mf_plan.proofs.Transfers.{AreBehindOpenings, operation_at_opening}
use Rattle.mf_perform.specs.Passed.{passed}
use Rattle.std.specs.Option.{option_map_or}

-- the check as a policy sees it: its operation, whose it is, and its object as it is in the state
pub record IsShown (o : Entities) (check : Check) (item : Item) : Type 0 where
  pub op : item.op ≡ check.op
  pub subject : item.subject.id ≡ check.subject.0
  pub object : item.object ≡ option_map (view_at o) check.object

abbrev pub AreShown : Entities → List Check → List Item → Type 0
AreShown o [] [] = Unit {0}
AreShown o (check ∷ checks) (item ∷ items) = IsShown o check item × AreShown o checks items
AreShown o checks items = ⊥

-- what is so of each check is so of what it is seen as
pub shown_items : (P : Check → Type 0) (Q : Item → Type 0) (o : Entities) (checks : List Check) (items : List Item)
    → ((check : Check) (item : Item) → IsShown o check item → P check → Q item) → AreShown o checks items → AllByRecursion P checks
    → AllByRecursion Q items
shown_items P Q o [] [] gives shown all = tt
shown_items P Q o [] (item ∷ items) gives shown all = absurd shown
shown_items P Q o (check ∷ checks) [] gives shown all = absurd shown
shown_items P Q o (check ∷ checks) (item ∷ items) gives shown all =
    (gives check item shown.0 all.0, shown_items P Q o checks items gives shown.1 all.1)

-- and the other way round
pub shown_checks : (P : Item → Type 0) (Q : Check → Type 0) (o : Entities) (checks : List Check) (items : List Item)
    → ((check : Check) (item : Item) → IsShown o check item → P item → Q check) → AreShown o checks items → AllByRecursion P items
    → AllByRecursion Q checks
shown_checks P Q o [] [] gives shown all = tt
shown_checks P Q o [] (item ∷ items) gives shown all = absurd shown
shown_checks P Q o (check ∷ checks) [] gives shown all = absurd shown
shown_checks P Q o (check ∷ checks) (item ∷ items) gives shown all =
    (gives check item shown.0 all.0, shown_checks P Q o checks items gives shown.1 all.1)

-- The checks of a caller

asking_shown : (o : Entities) (asked : Option Request) (check : Check) → IsShown o check (item_asking o asked check)
unfolding item_asking
asking_shown o asked check = record { op = refl; subject = refl; object = refl }

-- whoever is lowered
same_shown : (o : Entities) (check : Check) (item other : Item) → IsSameCheck item other → IsShown o check other → IsShown o check item
same_shown o check item other same shown =
    record { op = same.op ∙ shown.op; subject = same.id ∙ shown.subject; object = same.object ∙ shown.object }

all_shown : (o : Entities) (asked : Option Request) (checks : List Check) → AreShown o checks (map (item_asking o asked) checks)
all_shown o asked [] = tt
all_shown o asked (check ∷ checks) = (asking_shown o asked check, all_shown o asked checks)

each_shown : (o : Entities) (asked : Option Request) (slot caller : ℕ) (value : LabelValue) (checks : List Check)
    → AreShown o checks (each_lowered slot caller value (map (item_asking o asked) checks))
each_shown o asked slot caller value [] = tt
each_shown o asked slot caller value (check ∷ checks) =
    let item : Item = item_asking o asked check in (
      same_shown o check (while_lowered slot caller value item) item (while_same slot caller value item) (asking_shown o asked check),
      each_shown o asked slot caller (after_check slot value item) checks,
    )

pub lowering_shown : (s : State) (me : Id) (asked : Option Request) (checks : List Check)
    → AreShown s.objects checks (lowering s me (map (item_asking s.objects asked) checks))
lowering_shown s me asked checks = one (lomac_slot s.specs)
  where
    items : List Item
    items = map (item_asking s.objects asked) checks

    one : (slot : Option ℕ)
        → AreShown s.objects checks (option_map_or (λ slot. each_lowered slot me.0 (value_at s.objects me slot) items) slot items)
    one None = all_shown s.objects asked checks
    one (Some slot) = each_shown s.objects asked slot me.0 (value_at s.objects me slot) checks

-- Transfers behind openings

-- the check that opens a file for a transfer
pub record Opens (opening item : Item) : Type 0 where
  pub op : opening.op ≡ operation_at_opening item.op
  pub subject : opening.subject.id ≡ item.subject.id
  pub object : opening.object ≡ item.object

-- it comes right before
abbrev pub IsBehind : Option Item → Item → Type 0
IsBehind last item = is_transfer item.op ≡ true → (opening : Item) × ((last ≡ Some opening) × Opens opening item)

abbrev pub AreBehind : Option Item → List Item → Type 0
AreBehind last [] = Unit {0}
AreBehind last (item ∷ items) = IsBehind last item × AreBehind (Some item) items

-- what was seen last is the check before
abbrev IsShownLast : Entities → Option Check → Option Item → Type 0
IsShownLast o None None = Unit {0}
IsShownLast o (Some check) (Some item) = IsShown o check item
IsShownLast o check item = ⊥

shown_opens : (o : Entities) (check : Check) (item : Item) (last : Option Item) → IsShown o check item
    → IsShownLast o (Some (record check { op = operation_at_opening check.op })) last
    → (opening : Item) × ((last ≡ Some opening) × Opens opening item)
shown_opens o check item None shown first = absurd first
shown_opens o check item (Some opening) shown first = (
  opening,
  (
    refl,
    record {
      op = first.op ∙ sym (ap operation_at_opening shown.op);
      subject = first.subject ∙ sym shown.subject;
      object = first.object ∙ sym shown.object;
    },
  ),
)

pub behind_shown : (o : Entities) (before : Option Check) (last : Option Item) (checks : List Check) (items : List Item)
    → IsShownLast o before last → AreShown o checks items
    → AreBehindOpenings before checks → AreBehind last items
behind_shown o before last [] [] first shown behind = tt
behind_shown o before last [] (item ∷ items) first shown behind = absurd shown
behind_shown o before last (check ∷ checks) [] first shown behind = absurd shown
behind_shown o before last (check ∷ checks) (item ∷ items) first shown behind = (
  (λ transfer. shown_opens o check item last shown.0
      (subst (λ (x : Option Check). IsShownLast o x last) (behind.0 (sym (ap is_transfer shown.0.op) ∙ transfer)) first)),
  behind_shown o (Some check) (Some item) checks items shown.0 shown.1 behind.1,
)

-- so are those that passed, which are the first

taken_behind : (n : ℕ) (last : Option Item) (items : List Item) → AreBehind last items → AreBehind last (take n items)
taken_behind zero last items behind = tt
taken_behind (suc n) last [] behind = tt
taken_behind (suc n) last (item ∷ items) behind = (behind.0, taken_behind n (Some item) items behind.1)

pub passed_behind : (said : Reply) (last : Option Item) (items : List Item) → AreBehind last items → AreBehind last (passed said items)
passed_behind (reply.Ok payload) last items behind = behind
passed_behind (reply.Denied errno op item by) last items behind = taken_behind (item - 1) last items behind
passed_behind (reply.Refused errno) last items behind = behind
