-- A call that relabels makes no entity: what it changes is one label.
use Rattle.std.proofs.Common.{◌≡◌, ℕ, List, Option, Some, None, refl, ap, sym, ◌∙◌}
use Rattle.std.specs.Option.{option_zip}
use Rattle.mf_elem.specs.declared.label.Request.{Request}
use Rattle.mf_objects.specs.declared.id.Id.{Id}
use Rattle.mf_calls.specs.declared.script.Call.{Call}
use Rattle.mf_calls.specs.declared.script.Call.TheVariants as call
use Rattle.mf_plan.specs.declared.found.Found.{Found}
use Rattle.mf_plan.specs.declared.reply.Reply.{Reply}
use Rattle.mf_plan.specs.declared.reply.Reply.TheVariants as reply
use Rattle.mf_plan.specs.declared.state.State.{State}
use Rattle.mf_plan.specs.Effect.{Effect, relabelled_by}
use Rattle.mf_plan.specs.Effect.Effect.{Relabel}
use Rattle.mf_plan.specs.Found.{AreFound, IsAbout}
use Rattle.mf_plan.specs.Names.{caller_name}
use Rattle.mf_plan.specs.Plan.{row_for, call_row}
use Rattle.mf_plan.specs.Rows.{about_of}
use Rattle.mf_plan.specs.Views.{process_named}
use Rattle.mf_plan.specs.Ways.{At, asked_in, target_in}
use Rattle.mf_plan.proofs.Finding.{row_by}
use Rattle.mf_perform.specs.Effect.{after, with_request}
use Rattle.mf_perform.specs.OneCall.{after_reply, observed, performed, call_reply, call_state}
use Rattle.mf_perform.proofs.Handing.{effect_there}
use Rattle.mf_perform.proofs.StateChange.{performed_by}

relabel_effect : (s : State) (me : Id) (e : Effect) (asked : Id × Request) → relabelled_by e ≡ Some asked → after s me e ≡ with_request s asked
relabel_effect s me (Relabel id request) asked is = let same : (id, request) ≡ asked = cc in ap (with_request s) same
relabel_effect s me other asked is = cc

relabel_performed : (s s1 : State) (task : List ℕ) (c : Call) (caller : Option Id) (asked : Id × Request) → relabelled_by (row_by s task c caller).effect ≡ Some asked
    → performed_by s s1 task c caller ≡ with_request s1 asked
relabel_performed s s1 task c None asked is = cc
relabel_performed s s1 task c (Some me) asked is = relabel_effect s1 me (row_for s task c me).effect asked is

-- the state after a call that is done and relabels
pub relabel_state : (s : State) (task : List ℕ) (child : Option (List ℕ)) (c : Call) (said : Reply) (asked : Id × Request) → call_reply s task child c ≡ said
    → after_reply said None (relabelled_by (call_row s task child c).effect) ≡ Some asked → call_state s task child c ≡ with_request (observed s task child c) asked
relabel_state s task child c (reply.Ok payload) asked is one =
    ap (λ (x : Reply). after_reply x (observed s task child c) (performed s task child c)) is
    ∙ relabel_performed s (observed s task child c) task c (process_named s.objects (caller_name task child)) asked one
relabel_state s task child c (reply.Denied errno op item by) asked is one = cc
relabel_state s task child c (reply.Refused errno) asked is one = cc

-- What was found tells what is relabelled

zipped_row : (s : State) (task : List ℕ) (me : Id) (c : Call) (what : At (about_of s task me c).place)
    → option_zip (target_in (about_of s task me c).place what) (asked_in (about_of s task me c).place what) ≡ relabelled_by ((about_of s task me c).row what).effect
zipped_row s task me (call.Setpmac text) what = refl
zipped_row s task me other what = refl

pub zipped : (s : State) (task : List ℕ) (child : Option (List ℕ)) (c : Call) (found : Found) → AreFound s task child c found
    → option_zip found.target found.request ≡ relabelled_by (call_row s task child c).effect
zipped s task child c found are =
    let is : IsAbout s task are.me c found = are.is in
    ap (λ (target : Option Id). option_zip target found.request) is.target
    ∙ ap (option_zip (target_in (about_of s task are.me c).place is.what)) is.request
    ∙ zipped_row s task are.me c is.what
    ∙ sym (ap relabelled_by (effect_there s task are.me c found is))
    ∙ ap (λ (by : Option Id). relabelled_by (row_by s task c by).effect) (sym are.named)
