-- A call that is done is done in the state in which its checks have left its caller; and the old value, put back there, gives the state before.
use Rattle.std.proofs.Common.{◌≡◌, ℕ, Bool, true, false, cond, List, Option, Some, None, IsSome, map, refl, ap, sym, ◌∙◌, subst}
use Rattle.std.specs.Option.{option_map_or}
use Rattle.std.specs.Prelude.{IfSome}
use Rattle.mf_elem.specs.declared.label.LabelValue.{LabelValue}
use Rattle.mf_elem.specs.declared.label.LabelValue.TheVariants.{Unset}
use Rattle.mf_objects.specs.declared.id.Id.{Id}
use Rattle.mf_objects.specs.Changes.{with_change}
use Rattle.mf_objects.specs.Labels.{with_value}
use Rattle.mf_objects.specs.Live.{LiveEntity, Entities, is_process, is_set, live_at}
use Rattle.mf_objects.specs.Lives.{IsLive, value_at}
use Rattle.mf_objects.specs.Population.{IsPopulation, IsRising}
use Rattle.mf_objects.proofs.Entities.{changed_at}
use Rattle.mf_policy.specs.Lowering.{after_checks, lomac_slot}
use Rattle.mf_elem.specs.declared.label.Request.{Request}
use Rattle.mf_calls.specs.declared.script.Call.{Call}
use Rattle.mf_calls.specs.Tasks.{is_change}
use Rattle.mf_plan.specs.declared.found.Found.{Found}
use Rattle.mf_plan.specs.declared.plan.Tail.{Tail}
use Rattle.mf_plan.specs.declared.plan.Tail.TheVariants.{Do, Refuse}
use Rattle.mf_plan.specs.declared.reply.Payload.{Payload}
use Rattle.mf_plan.specs.declared.reply.Reply.{Reply}
use Rattle.mf_plan.specs.declared.state.State.{State}
use Rattle.mf_plan.specs.Effect.Effect.{Unchanged}
use Rattle.mf_plan.specs.Found.{AreFound}
use Rattle.mf_plan.specs.Names.{caller_name}
use Rattle.mf_plan.specs.Plan.{call_row, plan_of, row_for}
use Rattle.mf_plan.specs.Planned.{Plan}
use Rattle.mf_plan.specs.Views.{process_named}
use Rattle.mf_plan.proofs.Finding.{row_by}
use Rattle.mf_perform.specs.declared.verdict.Denial.{Denial}
use Rattle.mf_perform.specs.Effect.{after, with_objects}
use Rattle.mf_perform.specs.declared.descriptors.Opening.{Opening}
use Rattle.mf_perform.specs.Found.{after_found, effect_found, effect_of, is_open_call, opening_of}
use Rattle.mf_perform.specs.Held.{lomac_value, with_lomac_value}
use Rattle.mf_perform.specs.OneCall.{call_reply, observed, performed}
use Rattle.mf_perform.specs.Passed.{passed}
use Rattle.mf_perform.specs.Refused.{is_ok}
use Rattle.mf_perform.specs.Reply.{reply_to, tail_reply}
use Rattle.mf_perform.specs.Suits.{Suits}
use Rattle.mf_perform.specs.Verdict.{verdict_of}
use Rattle.mf_perform.proofs.Handing.{effect_is}
use Rattle.mf_perform.proofs.LabelsAlone.{KeepsRest, effect_same, live_mapped, relabelled_alone, still_suits, value_keeps}
use Rattle.mf_perform.proofs.Leading.{caller_lives, some_live}
use Rattle.mf_perform.proofs.LoweredBy.{lowers}
use Rattle.mf_perform.proofs.Observing.{observed_unlisted}
use Rattle.mf_perform.proofs.PutBack.{put_back, still_set, value_set}
use Rattle.mf_perform.proofs.Suiting.{effect_suits}

-- Checks change labels alone

data LabelsMoved (s : State) : State → Type 0 where
  unmoved : LabelsMoved s s
  moved : (g : LiveEntity → LiveEntity) → KeepsRest g → LabelsMoved s (with_objects s (record s.objects { live = map g s.objects.live }))

checks_move : (s : State) (task : List ℕ) (child : Option (List ℕ)) (c : Call) → LabelsMoved s (observed s task child c)
checks_move s task child c = one (is_change c) (process_named s.objects (caller_name task child)) (lomac_slot s.specs)
  where
    value : Id → ℕ → LabelValue
    value me slot = after_checks slot (value_at s.objects me slot) (passed (call_reply s task child c) (plan_of s task child c).items)

    one : (b : Bool) (caller : Option Id) (o : Option ℕ)
        → LabelsMoved s (cond b s (option_map_or (λ (me : Id). option_map_or (λ (slot : ℕ). with_objects s (with_change (with_value slot (value me slot)) s.objects me)) o s) caller s))
    one true caller o = unmoved
    one false None o = unmoved
    one false (Some me) None = unmoved
    one false (Some me) (Some slot) = moved (changed_at (with_value slot (value me slot)) me) (value_keeps slot (value me slot) me)

-- so ids and the end of boot stay
pub record Stands (s s1 : State) : Type 0 where
  pub next : s1.objects.next ≡ s.objects.next
  pub booted : s1.booted ≡ s.booted

pub checks_stand : (s : State) (task : List ℕ) (child : Option (List ℕ)) (c : Call) → Stands s (observed s task child c)
checks_stand s task child c = one (observed s task child c) (checks_move s task child c)
  where
    one : (s1 : State) → LabelsMoved s s1 → Stands s s1
    one _ unmoved = record { next = refl; booted = refl }
    one _ (moved g keeps) = record { next = refl; booted = refl }

-- and what the call needs of the state
record StillMay (s s1 : State) (task : List ℕ) (me : Id) (opening : Opening) (c : Call) (target : Option Id) (asked : Option Request) : Type 0 where
  caller : IsLive is_process s1.objects me
  suits : Suits s1 (effect_found s1 task me opening c target asked)
  same : effect_found s1 task me opening c target asked ≡ effect_found s task me opening c target asked

still_may : (s s1 : State) (task : List ℕ) (me : Id) (opening : Opening) (c : Call) (target : Option Id) (asked : Option Request) → LabelsMoved s s1 → IsLive is_process s.objects me
    → Suits s (effect_found s task me opening c target asked) → StillMay s s1 task me opening c target asked
still_may s _ task me opening c target asked unmoved lives suits = record { caller = lives; suits = suits; same = refl }
still_may s _ task me opening c target asked (moved g keeps) lives suits =
    let same = effect_same g keeps s task me opening c target asked in
    record {
      caller = live_mapped g keeps s.objects is_process me lives;
      suits = subst (Suits (relabelled_alone g keeps s)) (sym same) (still_suits g keeps s _ suits);
      same = same;
    }

-- The old value, put back

module _ (s : State) (task : List ℕ) (child : Option (List ℕ)) (c : Call) (me : Id) (entry : is_change c ≡ false) (named : process_named s.objects (caller_name task child) ≡ Some me) where
  abbrev lowered_to : ℕ → LabelValue
  lowered_to slot = after_checks slot (value_at s.objects me slot) (passed (call_reply s task child c) (plan_of s task child c).items)

  abbrev with_slot_value : ℕ → LabelValue → State
  with_slot_value slot value = with_objects s (with_change (with_value slot value) s.objects me)

  value_is : (slot : ℕ) → lomac_slot s.specs ≡ Some slot → lomac_value s (Some me) ≡ value_at s.objects me slot
  value_is slot listed = ap (λ (o : Option ℕ). option_map_or (λ (slot : ℕ). value_at s.objects me slot) o Unset) listed

  pub back : IsRising 0 s.objects.next s.objects.live → with_lomac_value (lomac_value s (Some me)) (observed s task child c) (Some me) ≡ s
  back rising = one (lomac_slot s.specs) refl
    where
      own : LabelValue
      own = lomac_value s (Some me)

      one : (o : Option ℕ) → lomac_slot s.specs ≡ o → with_lomac_value own (observed s task child c) (Some me) ≡ s
      one None none =
          ap (λ (t : State). with_lomac_value own t (Some me)) (observed_unlisted s task child c none)
          ∙ ap (λ (o : Option ℕ). option_map_or (λ (slot : ℕ). with_slot_value slot own) o s) none
      one (Some slot) listed =
          ap (λ (t : State). with_lomac_value own t (Some me)) (lowers s task child c slot me entry listed named)
          ∙ ap (λ (o : Option ℕ). option_map_or (λ (at : ℕ).
          with_objects s (with_change (with_value at own) (with_change (with_value slot (lowered_to slot)) s.objects me) me)) o (with_slot_value slot (lowered_to slot))) listed
          ∙ ap (λ (o : Entities). with_objects s o) (put_back s.objects me slot (lowered_to slot) own rising (value_is slot listed))

  pub still_held : is_set (lomac_value s (Some me)) ≡ is_set (lomac_value (observed s task child c) (Some me))
  still_held = one (lomac_slot s.specs) refl
    where
      one : (o : Option ℕ) → lomac_slot s.specs ≡ o → is_set (lomac_value s (Some me)) ≡ is_set (lomac_value (observed s task child c) (Some me))
      one None none = ap (λ (t : State). is_set (lomac_value t (Some me))) (sym (observed_unlisted s task child c none))
      one (Some slot) listed =
          let set = still_set slot (value_at s.objects me slot) (passed (call_reply s task child c) (plan_of s task child c).items) in
          ap is_set (value_is slot listed) ∙ sym set
          ∙ sym (value_set s.objects me slot (lowered_to slot) set)
          ∙ ap (λ (o : Option ℕ). is_set (option_map_or (λ (at : ℕ). value_at (with_slot_value slot (lowered_to slot)).objects me at) o Unset)) (sym listed)
          ∙ ap (λ (t : State). is_set (lomac_value t (Some me))) (sym (lowers s task child c slot me entry listed named))

-- A call that is done

ok_tail : (tail : Tail) (p : Payload) → is_ok (tail_reply tail p) ≡ true → tail ≡ Do
ok_tail Do p done = refl
ok_tail (Refuse errno) p done = cc

pub ok_proceeds : (plan : Plan) (denied : Option Denial) (p : Payload) → is_ok (reply_to plan denied p) ≡ true → plan.tail ≡ Do
ok_proceeds plan None p done = ok_tail plan.tail p done
ok_proceeds plan (Some denial) p done = cc

-- what is known of it in the state after its checks
pub record Ready (s : State) (task : List ℕ) (child : Option (List ℕ)) (opening : Opening) (c : Call) (found : Found) : Type 0 where
  pub caller : IfSome found.caller (λ me. IsLive is_process (observed s task child c).objects me)
  pub suits : IfSome found.caller (λ me. Suits (observed s task child c) (effect_found (observed s task child c) task me opening c found.target found.request))
  pub does : after_found (observed s task child c) task opening c found ≡ performed s task child c
  pub effect : effect_of (observed s task child c) task opening c found ≡ (call_row s task child c).effect
  pub live : IfSome found.caller (λ me. IsSome (live_at (observed s task child c).objects me))
  pub held : is_set (lomac_value s found.caller) ≡ is_set (lomac_value (observed s task child c) found.caller)
  pub back : with_lomac_value (lomac_value s found.caller) (observed s task child c) found.caller ≡ s

pub ready : (s : State) (task : List ℕ) (child : Option (List ℕ)) (opening : Opening) (c : Call) (found : Found) (r : Reply) → IsPopulation s.objects
    → AreFound s task child c found → is_change c ≡ false → (is_open_call c ≡ true → opening ≡ opening_of s found.caller found.target) → r ≡ call_reply s task child c
    → is_ok r ≡ true → Ready s task child opening c found
ready s task child opening c found r population are entry seen replied done =
    record {
      caller = subst (λ (caller : Option Id). IfSome caller (λ me. IsLive is_process s1.objects me)) (sym are.caller) may.caller;
      suits = subst (λ (caller : Option Id). IfSome caller (λ me. Suits s1 (effect_found s1 task me opening c found.target found.request))) (sym are.caller) may.suits;
      does = ap (λ (caller : Option Id). option_map_or (λ (me : Id). after s1 me (effect_found s1 task me opening c found.target found.request)) caller s1) are.caller
          ∙ ap (after s1 are.me) (may.same ∙ effect)
          ∙ ap (λ (caller : Option Id). option_map_or (λ (me : Id). after s1 me (row_for s task c me).effect) caller s1) (sym are.named);
      effect = ap (λ (caller : Option Id). option_map_or (λ (me : Id). effect_found s1 task me opening c found.target found.request) caller Unchanged) are.caller
          ∙ may.same ∙ effect
          ∙ ap (λ (caller : Option Id). (row_by s task c caller).effect) (sym are.named);
      live = subst (λ (caller : Option Id). IfSome caller (λ me. IsSome (live_at s1.objects me))) (sym are.caller) (some_live is_process s1.objects are.me may.caller);
      held = subst (λ (caller : Option Id). is_set (lomac_value s caller) ≡ is_set (lomac_value s1 caller)) (sym are.caller) (still_held s task child c are.me entry are.named);
      back = subst (λ (caller : Option Id). with_lomac_value (lomac_value s caller) s1 caller ≡ s) (sym are.caller)
          (back s task child c are.me entry are.named population.rising);
    }
  where
    s1 : State
    s1 = observed s task child c

    lives : IsLive is_process s.objects are.me
    lives = caller_lives s.objects are.me (caller_name task child) population (sym are.named)

    effect : effect_found s task are.me opening c found.target found.request ≡ (row_for s task c are.me).effect
    effect = effect_is s task are.me c found are.is opening entry (λ opened. seen opened ∙ ap (λ (caller : Option Id). opening_of s caller found.target) are.caller)

    proceeds : (row_for s task c are.me).tail ≡ Do
    proceeds =
        ap (λ (by : Option Id). (row_by s task c by).tail) (sym are.named)
        ∙ ok_proceeds (plan_of s task child c) (verdict_of s.specs (plan_of s task child c)).denied (call_row s task child c).payload (ap is_ok (sym replied) ∙ done)

    may : StillMay s s1 task are.me opening c found.target found.request
    may =
        still_may s s1 task are.me opening c found.target found.request (checks_move s task child c) lives
        (subst (Suits s) (sym effect) (effect_suits s task are.me c population lives proceeds))
