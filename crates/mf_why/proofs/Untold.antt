-- Where nothing is told of a call.
use Rattle.std.proofs.Common.{◌≡◌, ℕ, zero, suc, ◌-◌, Bool, true, false, ◌&&◌, ◌||◌, List, [], ◌∷◌, ◌++◌, map, take, Option, Some, None, is_some, refl, ap, ◌∙◌}
use Rattle.std.specs.Prelude.{if◌then◌else◌, slice_index_or}
use Rattle.std.specs.List.{AllByRecursion, list_any}
use Rattle.std.specs.Option.{option_map_or}
use Rattle.mf_elem.specs.declared.label.LabelValue.TheVariants.{Unset}
use Rattle.mf_elem.specs.declared.label.Request.{Request}
use Rattle.mf_item.specs.Item.{Item}
use Rattle.mf_objects.specs.declared.id.Id.{Id}
use Rattle.mf_objects.specs.Live.{Entities}
use Rattle.mf_policy.specs.declared.spec.Spec.{Spec}
use Rattle.mf_policy.specs.declared.spec.Spec.TheVariants as means
use Rattle.mf_policy.specs.Answer.{object_slot, range_label}
use Rattle.mf_policy.specs.Lowering.{lomac_slot, observes}
use Rattle.mf_policy.specs.Operations.{row_of}
use Rattle.mf_policy.specs.Registration.{Entry}
use Rattle.mf_plan.specs.declared.outline.Check.{Check}
use Rattle.mf_plan.specs.declared.outline.Outline.{Outline}
use Rattle.mf_plan.specs.declared.reply.Reply.{Reply}
use Rattle.mf_plan.specs.declared.reply.Reply.TheVariants as reply
use Rattle.mf_plan.specs.declared.state.State.{State}
use Rattle.mf_plan.specs.Outline.{item_asking, outlined}
use Rattle.mf_plan.specs.Plan as plans
use Rattle.mf_plan.proofs.LoweredChecks.{plan_all}
use Rattle.mf_perform.specs.Passed.{passed}
use Rattle.mf_answers.specs.declared.permits.Permit.{Permit}
use Rattle.mf_answers.specs.Permits.{permit}
use Rattle.mf_why.specs.declared.extent.Extent.{Extent}
use Rattle.mf_why.specs.declared.lowerings.Lowering.{Lowering}
use Rattle.mf_why.specs.Lines.{denied_text, each_check, let_line, lowered_text, lowering_text, lowerings_text, permits_text, tells_permits}
use Rattle.mf_why.specs.Lowerings.{lowering_by}
use Rattle.mf_why.specs.Ruled.{has_rules, is_denied, is_ruled, may_lower, any_observes, tells_decision}
use Rattle.mf_why.specs.WhyText.{call_text}

no_permit : (spec : Spec) (item : Item) → has_rules spec ≡ false → permit spec item ≡ None
no_permit (means.Bsdextended rules first) item ruled = cc
no_permit (means.Portacl rules port_high suser autoport) item ruled = cc
no_permit other item ruled = refl

no_permits : (listed : List Entry) (place : List ℕ) (n : ℕ) (item : Item) → list_any (λ entry. has_rules entry.1) listed ≡ false → permits_text listed place n item ≡ []
no_permits [] place n item none = refl
no_permits (e ∷ es) place n item none = one (has_rules e.1) refl none (no_permits es place n item)
  where
    one : (b : Bool) → has_rules e.1 ≡ b → (b || list_any (λ entry. has_rules entry.1) es) ≡ false
        → (list_any (λ entry. has_rules entry.1) es ≡ false → permits_text es place n item ≡ []) → permits_text (e ∷ es) place n item ≡ []
    one true ruled none rest = cc
    one false ruled none rest =
        ap (λ (o : Option Permit). option_map_or (let_line place n) o [] ++ permits_text es place n item) (no_permit e.1 item ruled) ∙ rest none

none_each : (f : ℕ → Item → List ℕ) (n : ℕ) (items : List Item) → ((k : ℕ) (item : Item) → f k item ≡ []) → each_check f n items ≡ []
none_each f n [] none = refl
none_each f n (item ∷ items) none = ap (λ xs. xs ++ each_check f (suc n) items) (none n item) ∙ none_each f (suc n) items none

-- of a call that wasn't denied
undenied : (s : State) (place : List ℕ) (items : List Item) (reply : Reply) → is_denied reply ≡ false → denied_text s place items reply ≡ []
undenied s place items (reply.Ok payload) no_denial = refl
undenied s place items (reply.Denied errno op number by) no_denial = cc
undenied s place items (reply.Refused errno) no_denial = refl

first_false : (a b : Bool) → (a || b) ≡ false → (a ≡ false) × (b ≡ false)
first_false true b is = cc
first_false false b is = (refl, is)

-- Where no check is one by which its subject observes

abbrev IsBlind : Item → Type 0
IsBlind item = observes (row_of item.op).movement ≡ false

blind : (o : Entities) (asked : Option Request) (check : Check) → observes (row_of check.op).movement ≡ false → IsBlind (item_asking o asked check)
unfolding item_asking
blind o asked check none = none

blind_checks : (o : Entities) (asked : Option Request) (checks : List Check) → any_observes checks ≡ false → AllByRecursion IsBlind (map (item_asking o asked) checks)
blind_checks o asked [] none = tt
blind_checks o asked (check ∷ checks) none =
    let tests = first_false (observes (row_of check.op).movement) (any_observes checks) none in
    (blind o asked check tests.0, blind_checks o asked checks tests.1)

blind_taken : (n : ℕ) (items : List Item) → AllByRecursion IsBlind items → AllByRecursion IsBlind (take n items)
blind_taken zero items all = tt
blind_taken (suc n) [] all = tt
blind_taken (suc n) (item ∷ items) all = (all.0, blind_taken n items all.1)

blind_passed : (reply : Reply) (items : List Item) → AllByRecursion IsBlind items → AllByRecursion IsBlind (passed reply items)
blind_passed (reply.Ok payload) items all = all
blind_passed (reply.Denied errno op number by) items all = blind_taken (number - 1) items all
blind_passed (reply.Refused errno) items all = all

blind_lowers_none : (o : Entities) (place : List ℕ) (slot n : ℕ) (items : List Item) → AllByRecursion IsBlind items → each_check (lowered_text o place slot) n items ≡ []
blind_lowers_none o place slot n [] all = refl
blind_lowers_none o place slot n (item ∷ items) all =
    ap (λ b. option_map_or (lowering_text o place n item) (if b then lowered else None) [] ++ each_check (lowered_text o place slot) (suc n) items) all.0
    ∙ blind_lowers_none o place slot (suc n) items all.1
  where
    lowered : Option Lowering
    lowered = lowering_by (range_label (slice_index_or item.subject.label slot Unset)).effective (range_label (object_slot item.object slot)).effective

-- of a call whose caller isn't lowered
unlowered : (s : State) (place : List ℕ) (reply : Reply) (caller : Option Id) (outline : Outline) → may_lower s.specs outline.checks ≡ false
    → lowerings_text s place (passed reply (plans.lowering_by s caller (outlined s.objects outline)).items) ≡ []
unlowered s place reply caller outline none = one (lomac_slot s.specs) none
  where
    items : List Item
    items = (plans.lowering_by s caller (outlined s.objects outline)).items

    all : any_observes outline.checks ≡ false → AllByRecursion IsBlind items
    all blinded =
        plan_all s IsBlind (λ item other same is. ap (λ op. observes (row_of op).movement) same.op ∙ is) caller (outlined s.objects outline)
        (blind_checks s.objects outline.found.request outline.checks blinded)

    one : (slot : Option ℕ) → (is_some slot && any_observes outline.checks) ≡ false
        → option_map_or (λ slot. each_check (lowered_text s.objects place slot) 1 (passed reply items)) slot [] ≡ []
    one None none = refl
    one (Some slot) none = blind_lowers_none s.objects place slot 1 (passed reply items) (blind_passed reply items (all none))

-- of a call of which nothing may be told
pub untold : (extent : Extent) (s : State) (place : List ℕ) (reply : Reply) (caller : Option Id) (outline : Outline) → tells_decision extent reply s.specs ≡ false
    → may_lower s.specs outline.checks ≡ false → call_text extent s place (plans.lowering_by s caller (outlined s.objects outline)) reply ≡ []
untold extent s place reply caller outline no_decision no_lowering =
    let tests = first_false (is_denied reply) (tells_permits extent reply && is_ruled s.specs) no_decision in
    ap (λ xs. xs ++ told (tells_permits extent reply) ++ denied_text s place items reply) (unlowered s place reply caller outline no_lowering)
    ∙ ap (λ xs. xs ++ denied_text s place items reply) (each (tells_permits extent reply) tests.1)
    ∙ undenied s place items reply tests.0
  where
    items : List Item
    items = (plans.lowering_by s caller (outlined s.objects outline)).items

    told : Bool → List ℕ
    told b = if b then each_check (permits_text s.specs place) 1 items else []

    each : (b : Bool) → (b && is_ruled s.specs) ≡ false → told b ≡ []
    each true ruled = none_each (permits_text s.specs place) 1 items (λ k item. no_permits s.specs place k item ruled)
    each false ruled = refl
