-- The reply to a call fits its fields, where the state is within the bounds.
use Rattle.std.proofs.Common.{◌≡◌, ℕ, ◌<◌, ◌≤◌, ◌^◌, Bool, true, false, List, [], length, map, Option, Some, None, Result, Ok, Err, refl, ap, sym, subst, arith}
use Rattle.std.specs.Option.{is_none, option_map_or}
use Rattle.std.specs.Prelude.{if◌then◌else◌, not, find, position, option_and_then, slice_index_or, slice_set, IfSome}
use Rattle.std.specs.List.{range_with_len}
use Rattle.std.specs.Result.{result_ok}
use Rattle.std.proofs.lemmas.List.{length-map}
use Rattle.std.proofs.lemmas.List.FromFn.{length-range_with_len}
use Rattle.std.proofs.lemmas.List.Quantifiers.{position-Some}
use Rattle.std.proofs.lemmas.List.Sums.{prefix_len-le-length}
use Rattle.mf_errno.specs.declared.errno.Errno.{Errno}
use Rattle.mf_errno.specs.declared.module.Module.{Module}
use Rattle.mf_errno.specs.declared.module.Module.TheVariants as modules
use Rattle.mf_policy.specs.declared.settings.Change.{Change}
use Rattle.mf_policy.specs.declared.settings.Change.TheVariants.{Revocation, RuleAdd, RuleRemove, See, Port}
use Rattle.mf_policy.specs.declared.settings.Changed.{Changed}
use Rattle.mf_policy.specs.declared.spec.Spec.{Spec}
use Rattle.mf_policy.specs.declared.spec.Spec.TheVariants as means
use Rattle.mf_policy.specs.Modules.{wants_slot}
use Rattle.mf_policy.specs.Registration.{Entry, is_of}
use Rattle.mf_policy.specs.Settings.{change_in, change_of, change_made, file_rules, listed_rules, no_setting, with_new_rule}
use Rattle.mf_policy.proofs.ByEntry.{change_at}
use Rattle.mf_rule.specs.RuleList.{Slots}
use Rattle.mf_list.proofs.Counts.{listed_few}
use Rattle.mf_names.specs.declared.limits.TheConstants.{CONTENT_LIMIT, MOST_DESCRIPTORS, SCRIPT_LIMIT}
use Rattle.mf_objects.proofs.Entities.{label_of}
use Rattle.mf_objects.specs.declared.id.Id.{Id}
use Rattle.mf_objects.specs.declared.descriptors.Fd.{Fd}
use Rattle.mf_objects.specs.Descriptors.{fd_in, fds_at, lowest_free}
use Rattle.mf_objects.specs.Live.{LiveEntity, Entities, content_at, count_at, file_at, has_id, is_one_named, is_process, kind_at, label_at, live_at, messages_at}
use Rattle.mf_objects.specs.Titles.{names_at}
use Rattle.mf_objects.proofs.Finding.{found_live}
use Rattle.mf_calls.specs.declared.script.Call.{Call}
use Rattle.mf_calls.specs.declared.script.Call.TheVariants as call
use Rattle.mf_calls.specs.WellFormed.{IsFormedCall}
use Rattle.mf_plan.specs.declared.plan.Tail.{Tail}
use Rattle.mf_plan.specs.declared.plan.Tail.TheVariants.{Do, Refuse}
use Rattle.mf_plan.specs.declared.reply.Loaded.{Loaded}
use Rattle.mf_plan.specs.declared.reply.Payload.{Payload}
use Rattle.mf_plan.specs.declared.reply.Payload.TheVariants as payload
use Rattle.mf_plan.specs.declared.state.State.{State}
use Rattle.mf_plan.specs.Names.{caller_name}
use Rattle.mf_plan.specs.Path.{file_at_path}
use Rattle.mf_plan.specs.Payloads.{head, label, loaded, message, names}
use Rattle.mf_plan.specs.Plan.{plan_of, row_for, call_row}
use Rattle.mf_plan.specs.Planned.{Plan}
use Rattle.mf_plan.specs.Rows.{about_of}
use Rattle.mf_plan.specs.Views.{is_dir, process_named}
use Rattle.mf_plan.specs.Ways.{At, way_to}
use Rattle.mf_plan.specs.Row.{if_there}
use Rattle.mf_plan.proofs.Finding.{row_by}
use Rattle.mf_perform.specs.declared.verdict.Denial.{Denial}
use Rattle.mf_perform.specs.Reply.{tail_reply, reply_to}
use Rattle.mf_perform.specs.OneCall.{call_reply}
use Rattle.mf_perform.specs.Verdict.{denial_from, verdict_of}
use Rattle.mf_hist.proofs.Legal.{slot_fits}
use Rattle.mf_hist.specs.Lines.{AreRules, IsPayload, IsReply, IsSlot}
use Rattle.mf_lifetimes.proofs.Listing.{IsBelow}
use Rattle.mf_reading.proofs.Bounded.{AllFit, AreBounded, AreBoundedSpecs, IsBoundedSpec, IsBoundedState}
use Rattle.mf_reading.proofs.Contents.{content_fits, file_fits, head_fits, message_fits, names_fit}
use Rattle.mf_reading.proofs.Finding.{file_lives}
use Rattle.mf_reading.proofs.Labels.{parts_fit}
use Rattle.mf_reading.proofs.Lists.{all_found, all_mapped, either_way}
use Rattle.mf_reading.proofs.Plans.{denied_within, few_checks}

-- Payloads

names_of : (o : Entities) (id : Id) → AreBounded o → IsPayload (names o id)
names_of o id bounded = one (is_dir o id) refl
  where
    one : (b : Bool) → is_dir o id ≡ b → IsPayload (if b then payload.Names (count_at o id) (names_at o id) else payload.None)
    one true directory = names_fit o id bounded directory
    one false other = tt

slots_fit : (given : ℕ) (r : Option ℕ) → given < 2 ^ 8 → IsBelow given r → IsSlot r
slots_fit given None small below = tt
slots_fit given (Some n) small below = omega (arith, small, below)

-- Rules

spec_rules : (spec : Spec) → IsBoundedSpec spec → IfSome (file_rules spec) AreRules
spec_rules (means.Bsdextended rules first) fits = fits
spec_rules other fits = tt

rules_fit : (specs : List Entry) → AreBoundedSpecs specs → IfSome (listed_rules specs) AreRules
rules_fit specs bounded = one (find (is_of modules.Bsdextended) specs) refl
  where
    one : (found : Option Entry) → find (is_of modules.Bsdextended) specs ≡ found → IfSome (option_and_then (λ (entry : Entry). file_rules entry.1) found) AreRules
    one None is = tt
    one (Some entry) is = spec_rules entry.1 (all_found (λ (x : Entry). IsBoundedSpec x.1) (is_of modules.Bsdextended) specs entry bounded is).0

listed_fit : (listed : Option Slots) → IfSome listed AreRules → IsPayload (option_map_or payload.Rules listed payload.None)
listed_fit None fits = tt
listed_fit (Some slots) fits = fits

-- the number of a rule that is added is one of a rule list
change_number : (spec : Spec) (change : Change) → IsBoundedSpec spec → IfSome (change_of spec change).0.number (λ n. n < 2 ^ 32)
change_number (means.Bsdextended slots first) (RuleAdd rule) fits = one (position is_none slots) refl
  where
    one : (place : Option ℕ) → position is_none slots ≡ place → IfSome (with_new_rule slots first rule place).0.number (λ n. n < 2 ^ 32)
    one None is = tt
    one (Some n) is = omega (arith, (position-Some is_none slots n None is).0, fits.all)
change_number (means.Bsdextended slots first) (RuleRemove n) fits =
    either_way (λ (c : Changed × Spec). IfSome c.0.number (λ n. n < 2 ^ 32)) (is_none (slice_index_or slots n None)) (no_setting, means.Bsdextended slots first)
    (change_made, means.Bsdextended (slice_set slots n None) first) tt tt
change_number (means.Bsdextended slots first) other fits = tt
change_number (means.Biba revocation) (Revocation enabled) fits = tt
change_number (means.Seeotheruids _ _ _ _) (See (means.Seeotheruids _ _ _ _)) fits = tt
change_number (means.Portacl _ _ _ _) (Port (means.Portacl _ _ _ _)) fits = tt
change_number other change fits = tt

number_fits : (m : Module) (change : Change) (specs : List Entry) → AreBoundedSpecs specs → IfSome (change_in m change specs).0.number (λ n. n < 2 ^ 32)
number_fits m change specs bounded = one (find (is_of m) specs) refl
  where
    one : (found : Option Entry) → find (is_of m) specs ≡ found → IfSome (change_at m change specs found).0.number (λ n. n < 2 ^ 32)
    one None is = tt
    one (Some entry) is = change_number entry.1 change (all_found (λ (x : Entry). IsBoundedSpec x.1) (is_of m) specs entry bounded is).0

numbered_fit : (number : Option ℕ) → IfSome number (λ n. n < 2 ^ 32) → IsPayload (option_map_or payload.Rule number payload.None)
numbered_fit None fits = tt
numbered_fit (Some n) fits = fits

-- a number of a descriptor
free_fits : (fds : List Fd) → lowest_free fds < 2 ^ 32
unfolding lowest_free
free_fits fds =
    let numbers = length-range_with_len 0 MOST_DESCRIPTORS in
    omega (arith, numbers, prefix_len-le-length (λ n. not (is_none (fd_in fds n))) (range_with_len 0 MOST_DESCRIPTORS))

-- The table: what a call hands back.

module _ (s : State) (bounded : IsBoundedState s) where
  small_given : s.numbers < 2 ^ 8
  small_given = omega (arith, bounded.listed.given)

  label_fits : (id : Id) (e : LiveEntity) → live_at s.objects id ≡ Some e → IsPayload (label s id)
  label_fits id e live =
      let fit : AllFit s.specs e.label = (all_found (λ (x : LiveEntity). AllFit s.specs x.label) (has_id id) s.objects.live e bounded.labelled.fit live).0 in
      let is : label_at s.objects id ≡ e.label = ap label_of live in
      parts_fit s.specs (label_at s.objects id) (subst (AllFit s.specs) (sym is) fit) bounded.listed.slotted (kind_at s.objects id)

  caller_label : (name : List ℕ) (id : Id) → process_named s.objects name ≡ Some id → IsPayload (label s id)
  caller_label name id found = let here = found_live (is_one_named is_process name) id s.objects.live found in label_fits id here.0 here.1

  file_label : (path : List (List ℕ)) (id : Id) → file_at_path s.objects path ≡ Some id → IsPayload (label s id)
  file_label path id found = let here = file_lives s.objects path id bounded.holds.objects.rooted found in label_fits id here.0 here.1

  head_at : (id : Id) → IsPayload (head s.objects id)
  head_at id = head_fits CONTENT_LIMIT (content_at s.objects id) (omega arith) (content_fits s.objects id bounded.holds.objects)

  size_at : (id : Id) → length (content_at s.objects id) < 2 ^ 32
  size_at id = omega (arith, (content_fits s.objects id bounded.holds.objects).few)

  stat_at : (id : Id) → IsPayload (payload.Stat (file_at s.objects id) (length (content_at s.objects id)))
  stat_at id = (file_fits s.objects id bounded.holds.objects, size_at id)

  message_at : (id : Id) → IsPayload (message s.objects id)
  message_at id = head_fits SCRIPT_LIMIT (slice_index_or (messages_at s.objects id) 0 []) (omega arith) (message_fits s.objects id bounded.holds.objects)

  next_fits : (me : Id) → lowest_free (fds_at s.objects me) < 2 ^ 32
  next_fits me = free_fits (fds_at s.objects me)

  loaded_fit : IsPayload (payload.Modules (map loaded s.specs))
  loaded_fit = record {
    few = omega (arith, length-map s.specs loaded, listed_few s.specs bounded.once);
    slots = all_mapped (λ (x : Entry). IsBelow s.numbers x.0.slot) (λ (l : Loaded). IsSlot l.slot) loaded s.specs
        (λ x below. slots_fit s.numbers x.0.slot small_given below) bounded.listed.below;
  }

  module _ (task name : List ℕ) (me : Id) (named : process_named s.objects name ≡ Some me) where
    -- by what is found
    payload_row : (c : Call) (what : At (about_of s task me c).place) → (way_to s me (about_of s task me c).place).there ≡ Ok what
        → IsPayload ((about_of s task me c).row what).payload
    payload_row call.Getpmac id there = let same : me ≡ id = cc in subst (λ (x : Id). IsPayload (label s x)) same (caller_label name me named)
    payload_row (call.Getfmac path) id there = file_label path id (ap result_ok there)
    payload_row (call.Readdir path) id there = names_of s.objects id bounded.holds.objects
    payload_row (call.Kldload word) m there = slot_fits (wants_slot m) s.numbers small_given
    payload_row call.UgidfwList listed there = listed_fit (listed_rules s.specs) (rules_fit s.specs bounded.holds.specs)
    payload_row (call.UgidfwAdd rule) asked there =
        numbered_fit (change_in asked.0 asked.1 s.specs).0.number (number_fits asked.0 asked.1 s.specs bounded.holds.specs)
    payload_row other what there = first_of (assumption loaded_fit, search head_at, search stat_at, search size_at, search message_at, search next_fits)

    payload_for : (c : Call) → IsPayload (row_for s task c me).payload
    payload_for c = one (way_to s me (about_of s task me c).place).there refl
      where
        one : (there : Result (At (about_of s task me c).place) Errno) → (way_to s me (about_of s task me c).place).there ≡ there
            → IsPayload (if_there (λ found. ((about_of s task me c).row found).payload) (λ e. payload.None) there)
        one (Ok what) is = payload_row c what is
        one (Err e) is = tt

  payload_fits : (task name : List ℕ) (c : Call) (caller : Option Id) → process_named s.objects name ≡ caller → IsPayload (row_by s task c caller).payload
  payload_fits task name c None is = tt
  payload_fits task name c (Some me) is = payload_for task name me is c

  -- Replies

  tail_fits : (tail : Tail) (p : Payload) → IsPayload p → IsReply (tail_reply tail p)
  tail_fits Do p fits = fits
  tail_fits (Refuse errno) p fits = tt

  denied_fits : (plan : Plan) (denied : Option Denial) (p : Payload) → length plan.items ≤ 12 → denial_from s.specs 1 plan.items ≡ denied → IsPayload p
      → IsReply (reply_to plan denied p)
  denied_fits plan None p few is fits = tail_fits plan.tail p fits
  denied_fits plan (Some d) p few is fits = omega (arith, few, denied_within s.specs 1 plan.items d is)

  pub reply_fits : (task : List ℕ) (child : Option (List ℕ)) (c : Call) → IsFormedCall c → IsReply (call_reply s task child c)
  reply_fits task child c formed =
      denied_fits (plan_of s task child c) (verdict_of s.specs (plan_of s task child c)).denied (call_row s task child c).payload
      (few_checks s task child c formed) refl (payload_fits task (caller_name task child) c (process_named s.objects (caller_name task child)) refl)
