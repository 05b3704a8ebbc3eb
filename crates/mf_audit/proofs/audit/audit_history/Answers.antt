use Rattle.std.proofs.Common.{◌≡◌, ◌⊎◌, inl, inr, ℕ, ◌<◌, ◌≤◌, List, length, Result, Ok, Err, IfOk, refl, ap, sym, ◌∙◌, subst, arith}
use Rattle.mf_policy.specs.declared.registration.Registration.{Registration}
use Rattle.mf_core.specs.declared.history.Event.{Event}
use Rattle.mf_core.specs.Opening.{boots_of, registrations_from}
use Rattle.mf_audit.specs.declared.audit.Audit.{Audit}
use Rattle.mf_audit.specs.Audit.{IsAudit}
use Rattle.mf_audit.specs.Lines.{Agree, IsEventAudit}
use Rattle.mf_audit.proofs.Booting.{agree_to_end, few_registered}
use Rattle.mf_audit.proofs.Lines.{audited, wrong_boot}
use Rattle.mf_audit.proofs.audit.audit_history.Goals as goal
use Rattle.mf_audit.proofs.audit.audit_history.Goals.{then-agree-len-via-then-agree-len, then-agree-len-via-else-agree-len+then-agree-len-2}

agree_of : (ours ours' theirs theirs' : List Registration) (n : ℕ) → ours ≡ ours' → theirs ≡ theirs' → Agree ours theirs n → Agree ours' theirs' n
agree_of ours ours' theirs theirs' n own their agree =
    subst (λ (rs : List Registration). Agree ours' rs n) their (subst (λ (rs : List Registration). Agree rs theirs n) own agree)

each_ok : {E : Type 0} (P Q : Audit → Type 0) (r : Result Audit E) → ((a : Audit) → P a → Q a) → IfOk r P → IfOk r Q
each_ok P Q (Ok a) so is = so a is
each_ok P Q (Err e) so is = tt

pub overflow_cast-result : goal.overflow_cast-result
overflow_cast-result c =
    let own = c.as_slice-2.ensures.value ∙ c.in_ok-boots.ensures.registrations ∙ ap (registrations_from 0) c.as_slice.ensures in
    omega (arith, ap {B = ℕ} (λ (rs : List Registration). length rs) own, few_registered c.args.script.now.boots c.requires.boots, c.agreeing-agree.ensures.within)

pub overflow_add-result : goal.overflow_add-result
overflow_add-result c =
    let own = c.as_slice-2.ensures.value ∙ c.in_ok-boots.ensures.registrations ∙ ap (registrations_from 0) c.as_slice.ensures in
    omega (arith, ap {B = ℕ} (λ (rs : List Registration). length rs) own, few_registered c.args.script.now.boots c.requires.boots, c.agreeing-agree.ensures.within)

pub overflow_cast-agree : goal.overflow_cast-agree
overflow_cast-agree c =
    let own = c.as_slice-2.ensures.value ∙ c.in_ok-boots.ensures.registrations ∙ ap (registrations_from 0) c.as_slice.ensures in
    omega (arith, ap {B = ℕ} (λ (rs : List Registration). length rs) own, few_registered c.args.script.now.boots c.requires.boots, c.agreeing-agree.ensures.within)

pub audit_events-requires-clause-few : goal.audit_events-requires-clause-few
audit_events-requires-clause-few c =
    let own = c.as_slice-2.ensures.value ∙ c.in_ok-boots.ensures.registrations ∙ ap (registrations_from 0) c.as_slice.ensures in
    omega (arith, ap {B = ℕ} (λ (rs : List Registration). length rs) own, few_registered c.args.script.now.boots c.requires.boots, c.agreeing-agree.ensures.within)

pub returns-then-agree-len : goal.returns-then-agree-len
returns-then-agree-len c =
    let s = c.args.script.now in
    let h = c.args.history.now in
    let n = c.agreeing-agree.result in
    let own : c.as_slice-2.result.now ≡ boots_of s = c.as_slice-2.ensures.value ∙ c.in_ok-boots.ensures.registrations ∙ ap (registrations_from 0) c.as_slice.ensures in
    let agree = agree_of _ (boots_of s) _ h.boots n own c.as_slice-3.ensures c.agreeing-agree.ensures in
    let own_length : length c.as_slice-2.result.now ≡ length (boots_of s) = ap {B = ℕ} (λ (rs : List Registration). length rs) own in
    let differs : (n < length (boots_of s)) ⊎ (n < length h.boots) =
    elim c.then-agree-len.branch [
      | then-agree-len-via-then-agree-len w ↦ inl (omega (arith, own_length, c.as_slice-2.ensures.len, c.len.ensures))
      | then-agree-len-via-else-agree-len+then-agree-len-2 w ↦ inr (omega arith)
    ] in
    wrong_boot s h n agree _ refl differs

pub returns : goal.returns
returns c =
    let s = c.args.script.now in
    let h = c.args.history.now in
    let n = c.agreeing-agree.result in
    let own : c.as_slice-2.result.now ≡ boots_of s = c.as_slice-2.ensures.value ∙ c.in_ok-boots.ensures.registrations ∙ ap (registrations_from 0) c.as_slice.ensures in
    let agree = agree_of _ (boots_of s) _ h.boots n own c.as_slice-3.ensures c.agreeing-agree.ensures in
    let own_length : length c.as_slice-2.result.now ≡ length (boots_of s) = ap {B = ℕ} (λ (rs : List Registration). length rs) own in
    let own_end : length (boots_of s) ≤ n = omega (arith, own_length, c.as_slice-2.ensures.len, c.len.ensures) in
    let same : h.boots ≡ boots_of s = sym (agree_to_end (boots_of s) h.boots n agree own_end (omega arith)) in
    let end : n ≡ length (boots_of s) = omega (arith, own_end, agree.within) in
    each_ok (IsEventAudit s n c.as_slice-4.result.now) (IsAudit s h) c.audit_events.result
    (λ found events. audited s h n found same end (subst (λ (es : List Event). IsEventAudit s n es found) c.as_slice-4.ensures events))
    c.audit_events.ensures
