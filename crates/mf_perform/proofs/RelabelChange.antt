-- What a call makes of a label that may be done and whose checks are granted, in the state after its checks: nothing where what it names
-- doesn't live; else what the listed policies allow.
use Rattle.std.proofs.Common.{◌≡◌, ℕ, Bool, true, false, cond, List, [], ◌∷◌, ◌++◌, Option, Some, None, Result, Ok, Err, map, refl, ap, sym, ◌∙◌, subst, if◌then◌else◌}
use Rattle.std.specs.Prelude.{find, option_and_then, IfSome}
use Rattle.std.specs.List.{AllByRecursion}
use Rattle.std.specs.Option.{option_map_or, ok_or}
use Rattle.std.proofs.lemmas.List.{map-append}
use Rattle.mf_elem.specs.declared.label.Request.{Request}
use Rattle.mf_item.specs.declared.operation.CheckOp.{CheckOp}
use Rattle.mf_item.specs.declared.operation.CheckOp.TheVariants as op
use Rattle.mf_item.specs.declared.view.Kind.{Kind}
use Rattle.mf_item.specs.declared.view.Kind.TheVariants as kinds
use Rattle.mf_item.specs.Item.{Item}
use Rattle.mf_policy.specs.Claims.{is_claimed}
use Rattle.mf_policy.specs.Lowering.{observes}
use Rattle.mf_policy.specs.Operations.{row_of}
use Rattle.mf_policy.specs.Registration.{Entry}
use Rattle.mf_policy.specs.declared.operations.Test.TheVariants.{RelabelObject}
use Rattle.mf_objects.proofs.Entities.{label_of, changed_at}
use Rattle.mf_objects.specs.declared.id.Id.{Id}
use Rattle.mf_objects.specs.declared.entity.EntityData.{EntityData}
use Rattle.mf_objects.specs.Live.{LiveEntity, Entities, has_id, id_of, is_pipe, is_process, is_socket, kind_of, label_at, live_at, live_named}
use Rattle.mf_objects.specs.Lives.{IsLive, view_at}
use Rattle.mf_calls.specs.declared.script.Call.{Call}
use Rattle.mf_calls.specs.declared.script.Call.TheVariants as call
use Rattle.mf_calls.specs.Tasks.{is_change}
use Rattle.mf_plan.specs.declared.plan.Tail.TheVariants.{Do}
use Rattle.mf_plan.specs.declared.state.State.{State}
use Rattle.mf_plan.specs.Planned.{Plan}
use Rattle.mf_errno.specs.declared.errno.Errno.{Errno}
use Rattle.mf_errno.specs.declared.errno.Errno.TheVariants as errno
use Rattle.mf_plan.specs.declared.outline.Check.{Check}
use Rattle.mf_plan.specs.Checks.{on, by_itself}
use Rattle.mf_plan.specs.Effect.{relabelled_by}
use Rattle.mf_plan.specs.Outline.{is_relabel, item_asking}
use Rattle.mf_plan.specs.Lowering.{lowering}
use Rattle.mf_plan.specs.Plan.{lowering_by, plan_in}
use Rattle.mf_plan.specs.Relabels.{claimed_in, if_claimed}
use Rattle.mf_plan.specs.Row.{through}
use Rattle.mf_plan.specs.Rows.{about_of}
use Rattle.mf_plan.specs.Views.{process_named}
use Rattle.mf_plan.specs.Ways.{At, then_way, way_to, carrying}
use Rattle.mf_plan.specs.Ways.Place.{File, Named}
use Rattle.mf_plan.proofs.Finding.{asked_in_effect, row_by}
use Rattle.mf_perform.specs.Effect.{with_objects, with_request}
use Rattle.mf_perform.specs.OneCall.{observed_by}
use Rattle.mf_perform.proofs.Allowed.{IsAllowed}
use Rattle.mf_perform.proofs.Allowed.AsksFor.{of_itself, of_object}
use Rattle.mf_perform.proofs.Granted.{IsGranted}
use Rattle.mf_perform.proofs.Lowered.{LastCheck, last_check}
use Rattle.mf_perform.proofs.Observing.{HasObserved, ObservingKeeps, process_kept}
use Rattle.mf_perform.proofs.Observing.HasObserved.{absent, lowered, unlowered}
use Rattle.mf_perform.proofs.Requests.{claimed_request}
use Rattle.mf_perform.proofs.Rooted.{HasKind, IsRooted, file_kind, has_kind, inside_some, named_lives, named_process, pipe_kind, process_kind, socket_kind, vnode_kind}

-- what is asked is made, where something is
abbrev pub with_relabelled : State → Option (Id × Request) → State
with_relabelled s asked = option_map_or (with_request s) asked s

-- what is asked changes nothing, or relabels a live entity as the listed policies allow
pub data RelabelMade (s : State) (asked : Option (Id × Request)) : Type 0 where
  no_change : with_relabelled s asked ≡ s → RelabelMade s asked
  permitted : (id : Id) (e : LiveEntity) (request : Request) → asked ≡ Some (id, request) → live_at s.objects id ≡ Some e → IsAllowed s e request → RelabelMade s asked

-- What doesn't live isn't relabelled

none_changed : (change : LiveEntity → LiveEntity) (id : Id) (es : List LiveEntity) → find (has_id id) es ≡ None → map (changed_at change id) es ≡ es
none_changed change id [] none = refl
none_changed change id (e ∷ es) none = one (has_id id e) (none_changed change id es) none
  where
    one : (b : Bool) → (find (has_id id) es ≡ None → map (changed_at change id) es ≡ es) → cond b (Some e) (find (has_id id) es) ≡ None
        → cond b (change e) e ∷ map (changed_at change id) es ≡ e ∷ es
    one true rest here = cc
    one false rest later = ap (λ (ls : List LiveEntity). e ∷ ls) (rest later)

not_live : (s : State) (id : Id) (request : Request) → live_at s.objects id ≡ None → with_request s (id, request) ≡ s
not_live s id request none =
    ap (λ (ls : List LiveEntity). let o : Entities = record s.objects { live = ls } in with_objects s o) (none_changed _ id s.objects.live none)

-- A request that a call makes is claimed

if_claimed_true : (listed : List Entry) (kind : Kind) (asked request : Request) (b : Bool) → is_claimed listed kind asked ≡ b
    → (if b then Some asked else None) ≡ Some request → is_claimed listed kind request ≡ true
if_claimed_true listed kind asked request true claimed is = let same : asked ≡ request = cc in ap (is_claimed listed kind) (sym same) ∙ claimed
if_claimed_true listed kind asked request false claimed is = cc

claim_of : (listed : List Entry) (kind : Kind) (text : List ℕ) (request : Request) → claimed_in listed kind text ≡ Some request → is_claimed listed kind request ≡ true
claim_of listed kind text request is = one _ is
  where
    one : (read : Option Request) → option_and_then (if_claimed listed kind) read ≡ Some request → is_claimed listed kind request ≡ true
    one None is = cc
    one (Some asked) is = if_claimed_true listed kind asked request (is_claimed listed kind asked) refl is

-- Rows

-- nothing refuses what has this plan
pub record MayBeDone (specs : List Entry) (plan : Plan) : Type 0 where
  pub proceeds : plan.tail ≡ Do
  pub granted : AllByRecursion (IsGranted specs) plan.items

-- what a text asks was claimed, and what it is asked for was found
asked_there : {B : Type 0} (request : Option Request) (checks : List Check) (there : Result B Errno) (what : Request × B)
    → (then_way (ok_or request errno.Einval) (λ r. carrying r (record { checks = checks; there = there }))).there ≡ Ok what
    → (request ≡ Some what.0) × (there ≡ Ok what.1)
asked_there {B} (Some r) checks (Ok b) what is =
    let same : (r, b) ≡ what = cc in
    (ap (λ (w : Request × B). Some w.0) same, ap (λ (w : Request × B). Ok w.1) same)
asked_there (Some r) checks (Err e) what is = cc
asked_there None checks there what is = cc

-- what isn't a process isn't lowered
unlowered_other : (caller : Option Id) (checks : List Item) (s : State) (id : Id) (kind : Kind) (found found1 : Option LiveEntity) (e : LiveEntity)
    → HasObserved caller checks s id found found1 → live_at s.objects id ≡ found → found1 ≡ Some e → ((x : LiveEntity) → live_at s.objects id ≡ Some x → kind_of x.what ≡ kind)
    → (kind ≡ kinds.Process → ⊥) → live_at s.objects id ≡ Some e
unlowered_other caller checks s id kind _ _ e absent was is has other = cc
unlowered_other caller checks s id kind _ _ e (unlowered x) was is has other = was ∙ is
unlowered_other caller checks s id kind _ _ e (lowered slot x named at process sees) was is has other = absurd (other (sym (has x was) ∙ process))

-- the state after the checks of a call of this process
module _ (s s1 : State) (caller : Id) (by : Option Id) (checks : List Item) (keeps : ObservingKeeps by checks s s1) (before_it : HasKind is_process s.objects caller) where
  me : HasKind is_process s1.objects caller
  me = process_kept by checks s s1 caller keeps before_it

  abbrev seen_with : Option Request → List Check → List Item
  seen_with request checks = map (item_asking s.objects request) checks

  -- the checks as the caller comes to them, and the state after them
  abbrev come_to : Option Request → List Check → List Item
  come_to request checks = lowering s caller (seen_with request checks)

  abbrev IsAfter : Option Request → List Check → Type 0
  IsAfter request checks = s1 ≡ observed_by s (come_to request checks) caller

  -- the last check of what may be done is granted
  check_granted : (request : Request) (before : List Check) (check : Check) → check.subject ≡ caller → observes (row_of check.op).movement ≡ false
      → AllByRecursion (IsGranted s.specs) (come_to (Some request) (before ++ check ∷ [])) → IsAfter (Some request) (before ++ check ∷ [])
      → LastCheck s s1 caller (item_asking s.objects (Some request) check)
  unfolding item_asking
  check_granted request before check own still granted after =
      let item : Item = item_asking s.objects (Some request) check in
      let apart : seen_with (Some request) (before ++ check ∷ []) ≡ seen_with (Some request) before ++ item ∷ [] =
      map-append (item_asking s.objects (Some request)) before (check ∷ []) in
      subst (λ (x : State). LastCheck s x caller item) (sym (after ∙ ap (λ (items : List Item). observed_by s (lowering s caller items) caller) apart))
      (last_check s caller before_it.entity before_it.live (seen_with (Some request) before) item (ap (λ (id : Id). id.0) own) (ap (label_at s.objects) own) still
      (subst (λ (items : List Item). AllByRecursion (IsGranted s.specs) (lowering s caller items)) apart granted))

  claimed_now : (kind now : Kind) (text : List ℕ) (request : Request) → now ≡ kind → claimed_in s.specs kind text ≡ Some request → is_claimed s1.specs now request ≡ true
  claimed_now kind now text request is claimed =
      ap (λ (specs : List Entry). is_claimed specs now request) keeps.specs
      ∙ ap (λ (k : Kind). is_claimed s.specs k request) is
      ∙ claim_of s.specs kind text request claimed

  granted_now : (item : Item) → IsGranted s.specs item → IsGranted s1.specs item
  granted_now item granted = subst (λ (specs : List Entry). IsGranted specs item) (sym keeps.specs) granted

  -- the caller's own label
  own_made : (text : List ℕ) (request : Request) (id : Id) (before : List Check) → claimed_in s.specs kinds.Process text ≡ Some request → caller ≡ id
      → AllByRecursion (IsGranted s.specs) (come_to (Some request) (before ++ by_itself caller op.CredRelabel ∷ []))
      → IsAfter (Some request) (before ++ by_itself caller op.CredRelabel ∷ []) → RelabelMade s1 (Some (id, request))
  unfolding item_asking
  own_made text request id before claimed same granted after =
      let kind : kind_of me.entity.what ≡ kinds.Process = process_kind me.entity.what me.passes in
      let last = check_granted request before (by_itself caller op.CredRelabel) refl refl granted after in
      permitted caller me.entity request (ap (λ (x : Id). Some (x, request)) (sym same)) me.live
      (record {
        spelled = claimed_request s.specs kinds.Process text request claimed;
        claimed = claimed_now kinds.Process (kind_of me.entity.what) text request kind claimed;
        item = last.check;
        asked = last.request;
        asks = of_itself kind (ap (λ (o : CheckOp). (row_of o).test) last.op) (last.label ∙ ap label_of me.live);
        granted = granted_now last.check last.granted;
      })

  -- the label of another entity, which has the kind of the call where it lives
  object_made : (kind : Kind) (operation : CheckOp) → (row_of operation).test ≡ RelabelObject → is_relabel operation ≡ true → observes (row_of operation).movement ≡ false
      → (kind ≡ kinds.Process → ⊥) → (text : List ℕ) (request : Request) (id : Id) (before : List Check) → claimed_in s.specs kind text ≡ Some request
      → ((e : LiveEntity) → live_at s.objects id ≡ Some e → kind_of e.what ≡ kind)
      → AllByRecursion (IsGranted s.specs) (come_to (Some request) (before ++ on caller operation id ∷ []))
      → IsAfter (Some request) (before ++ on caller operation id ∷ []) → RelabelMade s1 (Some (id, request))
  unfolding item_asking
  object_made kind operation test relabel still other text request id before claimed has granted after = by_found (live_at s1.objects id) refl
    where
      last : LastCheck s s1 caller (item_asking s.objects (Some request) (on caller operation id))
      last = check_granted request before (on caller operation id) refl still granted after

      by_found : (found : Option LiveEntity) → live_at s1.objects id ≡ found → RelabelMade s1 (Some (id, request))
      by_found None none = no_change (not_live s1 id request none)
      by_found (Some e) live =
          let was : live_at s.objects id ≡ Some e = unlowered_other by checks s id kind (live_at s.objects id) (live_at s1.objects id) e (keeps.each id) refl live has other in
          let is : kind_of e.what ≡ kind = has e was in
          permitted id e request refl live
          (record {
            spelled = claimed_request s.specs kind text request claimed;
            claimed = claimed_now kind (kind_of e.what) text request is claimed;
            item = last.check;
            asked = last.request ∙ ap (λ (b : Bool). if b then Some request else None) relabel;
            asks = of_object (λ same. other (sym is ∙ same)) (ap (λ (o : CheckOp). (row_of o).test) last.op ∙ test) caller me.entity me.live
                (process_kind me.entity.what me.passes) (last.label ∙ ap label_of me.live) (view_at s.objects id) last.object (ap label_of was);
            granted = granted_now last.check last.granted;
          })

-- a process, pipe or socket that is found by its name has its kind, where it lives
named_kind : (test : EntityData → Bool) (kind : Kind) → ((what : EntityData) → test what ≡ true → kind_of what ≡ kind) → (o : Entities) (name : List ℕ) → IsRooted o
    → (id : Id) (e : LiveEntity) → id_of (live_named test o name) ≡ Some id → live_at o id ≡ Some e → kind_of e.what ≡ kind
named_kind test kind is_kind o name rooted id e found live =
    let lives : IsLive test o id = subst (λ (at : Option Id). IfSome at (λ id. IsLive test o id)) found (named_lives test o name rooted.rising) in
    let has : HasKind test o id = has_kind test o id lives in
    let same : has.entity ≡ e = inside_some has.entity e (sym has.live ∙ live) in
    ap (λ (x : LiveEntity). kind_of x.what) (sym same) ∙ is_kind has.entity.what has.passes

-- The table

module _ (s s1 : State) (task : List ℕ) (caller : Id) (by : Option Id) (checks : List Item) (rooted : IsRooted s.objects) (keeps : ObservingKeeps by checks s s1)
    (me : HasKind is_process s.objects caller) where
  named_has : (e : Errno) (test : EntityData → Bool) (kind : Kind) → ((what : EntityData) → test what ≡ true → kind_of what ≡ kind) → (name : List ℕ) (id : Id)
      → ok_or (id_of (live_named test s.objects name)) e ≡ Ok id → (x : LiveEntity) → live_at s.objects id ≡ Some x → kind_of x.what ≡ kind
  named_has e test kind is_kind name id there x live = one (id_of (live_named test s.objects name)) refl there
    where
      one : (holder : Option Id) → id_of (live_named test s.objects name) ≡ holder → ok_or holder e ≡ Ok id → kind_of x.what ≡ kind
      one None is there = cc
      one (Some found) is there =
          let same : found ≡ id = cc in
          named_kind test kind is_kind s.objects name rooted id x (is ∙ ap Some same) live

  -- the checks of a row as the caller comes to them
  abbrev come : (c : Call) (what : At (about_of s task caller c).place) → List Check → List Item
  come c what before =
      lowering s caller (map (item_asking s.objects (asked_in_effect ((about_of s task caller c).row what).effect)) (before ++ ((about_of s task caller c).row what).checks))

  call_made : (c : Call) (what : At (about_of s task caller c).place) → (way_to s caller (about_of s task caller c).place).there ≡ Ok what
      → (before : List Check) → AllByRecursion (IsGranted s.specs) (come c what before) → (is_change c ≡ false → s1 ≡ observed_by s (come c what before) caller)
      → RelabelMade s1 (relabelled_by ((about_of s task caller c).row what).effect)
  call_made (call.Setpmac text) what there before granted after =
      let asked = asked_there (claimed_in s.specs kinds.Process text) [] (Ok caller) what there in
      let same : caller ≡ what.1 = cc asked.1 in
      own_made s s1 caller by checks keeps me text what.0 what.1 before asked.0 same granted (after refl)
  call_made (call.Setfmac text path) what there before granted after =
      let asked = asked_there (claimed_in s.specs kinds.Vnode text) (way_to s caller (File path)).checks (way_to s caller (File path)).there what there in
      object_made s s1 caller by checks keeps me kinds.Vnode op.VnodeRelabel refl refl refl (λ same. cc) text what.0 what.1 before asked.0
      (λ e live. vnode_kind e.what (file_kind s.objects rooted path what.1 e asked.1 live)) granted (after refl)
  call_made (call.Setpipemac text name) what there before granted after =
      let asked = asked_there (claimed_in s.specs kinds.Pipe text) [] (way_to s caller (Named kinds.Pipe name)).there what there in
      object_made s s1 caller by checks keeps me kinds.Pipe op.PipeRelabel refl refl refl (λ same. cc) text what.0 what.1 before asked.0
      (named_has errno.Enoent is_pipe kinds.Pipe pipe_kind name what.1 asked.1) granted (after refl)
  call_made (call.Setsockmac text name) what there before granted after =
      let asked = asked_there (claimed_in s.specs kinds.Socket text) [] (way_to s caller (Named kinds.Socket name)).there what there in
      object_made s s1 caller by checks keeps me kinds.Socket op.SocketRelabel refl refl refl (λ same. cc) text what.0 what.1 before asked.0
      (named_has errno.Enoent is_socket kinds.Socket socket_kind name what.1 asked.1) granted (after refl)
  call_made other what there before granted after = no_change refl

  row_made : (c : Call) (checks : List Check) (there : Result (At (about_of s task caller c).place) Errno) → (way_to s caller (about_of s task caller c).place).there ≡ there
      → (is_change c ≡ false → s1 ≡ observed_by s (lowering s caller (plan_in s (through (record { checks = checks; there = there }) (about_of s task caller c).row)).items) caller)
      → MayBeDone s.specs (lowering_by s (Some caller) (plan_in s (through (record { checks = checks; there = there }) (about_of s task caller c).row)))
      → RelabelMade s1 (relabelled_by (through (record { checks = checks; there = there }) (about_of s task caller c).row).effect)
  row_made c checks (Ok what) is after may = call_made c what is checks may.granted after
  row_made c checks (Err e) is after may = cc may.proceeds

-- the process of that name that makes the call, in the state after its checks
pub relabel_made : (s s1 : State) (task name : List ℕ) (c : Call) (caller by : Option Id) (checks : List Item) → process_named s.objects name ≡ caller → IsRooted s.objects
    → ObservingKeeps by checks s s1
    → (is_change c ≡ false → s1 ≡ option_map_or (observed_by s (lowering_by s caller (plan_in s (row_by s task c caller))).items) caller s)
    → MayBeDone s.specs (lowering_by s caller (plan_in s (row_by s task c caller))) → RelabelMade s1 (relabelled_by (row_by s task c caller).effect)
relabel_made s s1 task name c None by checks found rooted keeps after may = cc may.proceeds
relabel_made s s1 task name c (Some caller) by checks found rooted keeps after may =
    let place = (about_of s task caller c).place in
    row_made s s1 task caller by checks rooted keeps (named_process s.objects name caller found rooted.rising) c (way_to s caller place).checks (way_to s caller place).there refl after may
