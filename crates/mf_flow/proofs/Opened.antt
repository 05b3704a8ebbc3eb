-- What descriptors keep of mac_biba: what a process may do through one was allowed between the elements that process and file had when it was opened.
use Rattle.std.proofs.Common.{◌≡◌, ℕ, Bool, true, false, cond, List, [], ◌∷◌, ◌++◌, map, Option, Some, None, option_map, Result, Ok, refl, ap, sym, ◌∙◌, subst}
use Rattle.std.specs.Option.{option_map_or}
use Rattle.std.specs.Prelude.{find, fold, option_and_then}
use Rattle.std.specs.List.{AllByRecursion}
use Rattle.mf_errno.specs.declared.errno.Errno.{Errno}
use Rattle.mf_errno.specs.declared.errno.Errno.TheVariants as errno
use Rattle.mf_errno.specs.declared.module.Module.TheVariants.{Biba}
use Rattle.mf_elem.specs.declared.elem.Elem.{Elem}
use Rattle.mf_elem.specs.declared.label.LabelValue.{LabelValue}
use Rattle.mf_elem.specs.declared.label.LabelValue.TheVariants.{Unset}
use Rattle.mf_item.specs.Item.{Item}
use Rattle.mf_item.specs.declared.operation.CheckOp.{CheckOp}
use Rattle.mf_item.specs.declared.operation.CheckOp.TheVariants as op
use Rattle.mf_policy.specs.declared.registration.Registration.{Registration}
use Rattle.mf_policy.specs.declared.spec.Spec.{Spec}
use Rattle.mf_policy.specs.Answer.{range_label, object_slot}
use Rattle.mf_policy.specs.Operations.{is_transfer, row_of}
use Rattle.mf_policy.specs.Registration.{Entry, slot_in}
use Rattle.mf_list.specs.Asked.{slot_of}
use Rattle.mf_list.specs.Once.{IsListedOnce}
use Rattle.mf_objects.specs.declared.descriptors.Fd.{Fd}
use Rattle.mf_objects.specs.declared.id.Id.{Id}
use Rattle.mf_objects.specs.Descriptors.{fd_in, fds_at, fds_of, has_number}
use Rattle.mf_objects.specs.Live.{Entities, LiveEntity, has_id, is_process}
use Rattle.mf_objects.specs.Lives.{value_at, view_at}
use Rattle.mf_calls.specs.declared.script.Call.{Call}
use Rattle.mf_calls.specs.declared.script.Call.TheVariants as call
use Rattle.mf_plan.specs.declared.outline.Check.{Check}
use Rattle.mf_plan.specs.declared.plan.Tail.TheVariants.{Do, Refuse}
use Rattle.mf_plan.specs.declared.reply.Reply.{Reply}
use Rattle.mf_plan.specs.declared.reply.Reply.TheVariants as reply
use Rattle.mf_plan.specs.declared.state.State.{State}
use Rattle.mf_plan.specs.declared.target.Target.{Target}
use Rattle.mf_plan.specs.Checks.{on}
use Rattle.mf_plan.specs.Lowering.{lowering}
use Rattle.mf_plan.specs.Names.{caller_name}
use Rattle.mf_plan.specs.Outline.{item_asking}
use Rattle.mf_plan.specs.Path.{found_at, last_name, lookup_along}
use Rattle.mf_plan.specs.Plan.{call_row, plan_of, row_for}
use Rattle.mf_plan.specs.Planned.{Plan}
use Rattle.mf_plan.specs.Row.{Row, if_there, refuse}
use Rattle.mf_plan.specs.Rows.{biba_value, new_fd, opens}
use Rattle.mf_plan.specs.Views.{is_dir, process_named}
use Rattle.mf_plan.proofs.Finding.{asked_in_effect, plan_with}
use Rattle.mf_perform.specs.OneCall.{call_reply, call_state}
use Rattle.mf_perform.specs.Passed.{passed}
use Rattle.mf_perform.specs.Refused.{is_ok}
use Rattle.mf_perform.proofs.Granted.{IsGranted}
use Rattle.mf_perform.proofs.Openings.{IsOpening, fds_after}
use Rattle.mf_perform.proofs.Openings.IsOpening.{opens as opens_file}
use Rattle.mf_perform.proofs.Rooted.{HasKind, named_process}
use Rattle.mf_core.proofs.SameLists.{done_tail}
use Rattle.mf_elem.specs.Label.{no_request}
use Rattle.mf_item.specs.declared.view.Kind.TheVariants as kinds
use Rattle.mf_policy.specs.NewLabels.{new_label}
use Rattle.mf_policy.specs.declared.labels.Origin.TheVariants.{Boot}
use Rattle.mf_objects.specs.declared.entity.EntityData.{EntityData}
use Rattle.mf_objects.specs.Changes.{made, new_process, new_vnode, with_entity, with_root}
use Rattle.mf_calls.specs.declared.script.FileLine.{FileLine}
use Rattle.mf_calls.specs.declared.script.Script.{Script}
use Rattle.mf_calls.specs.declared.script.Task.{Task}
use Rattle.mf_plan.specs.declared.target.Target.TheVariants.{Name}
use Rattle.mf_plan.specs.Found.{descriptor_at}
use Rattle.mf_plan.specs.Ways.{Place, allows}
use Rattle.mf_plan.specs.Ways.Place.{Opened}
use Rattle.mf_core.specs.Opening.{booted_specs, opening_state, with_file, with_file_at, with_task}
use Rattle.mf_lifetimes.proofs.Files.{all_both}
use Rattle.mf_lifetimes.proofs.Marked.{IsHeld}
use Rattle.mf_flow.specs.Sources.{element_by}
use Rattle.mf_flow.proofs.Across.{element_at}
use Rattle.mf_flow.proofs.Answering.{IsOf, IsTested, all_have, biba_keeps, granted_allowed, its_label}
use Rattle.mf_flow.proofs.Bounds.{Allowed, AllowedBy, Has}
use Rattle.mf_flow.proofs.Callers.{row_by}
use Rattle.mf_flow.proofs.Granted.{passed_granted}
use Rattle.mf_flow.proofs.Moves.{AllHave, AllSeen, IsAllowed, element_then, object_element, still}
use Rattle.mf_flow.proofs.Orders.{FlowPolicy}
use Rattle.mf_flow.proofs.Seen.{plan_seen, remaining_same, then_same}
use Rattle.mf_flow.proofs.Shown.{IsShown, lowering_shown, shown_checks}
use Rattle.mf_flow.proofs.Slots.{is_lowering, its_own_slot}

-- information might come to the process where it is open for reading, and to the file where it is for writing
pub record IsOpened (p : FlowPolicy) (fd : Fd) : Type 0 where
  pub reads : fd.read ≡ true → Allowed p (range_label fd.subject).effective (range_label fd.object).effective
  pub writes : fd.write ≡ true → Allowed p (range_label fd.object).effective (range_label fd.subject).effective

abbrev pub AllOpened : FlowPolicy → Entities → Type 0
AllOpened p o = (id : Id) → AllByRecursion (IsOpened p) (fds_at o id)

-- What checks show, where no check lowers anybody

-- a check tells the element that its subject has in the state
abbrev pub IsAsItIs : Registration → Entities → Item → Type 0
IsAsItIs r o item = element_by r item.subject.label ≡ element_at r o (record { 0 = item.subject.id })

pub as_it_is : (p : FlowPolicy) (r : Registration) (o : Entities) (me : Id)
    → ((subject object : Elem) → p.remains subject object ≡ subject) → (now : Option Elem)
    → now ≡ element_at r o me → (items : List Item) → AllSeen p r o me now items → AllByRecursion (IsAsItIs r o) items
as_it_is p r o me keeps now is [] seen = tt
as_it_is p r o me keeps now is (item ∷ items) seen = (
  seen.0.subject ∙ still r o me now (record { 0 = item.subject.id }) is,
  as_it_is p r o me keeps (element_then p r now item) (then_same p r keeps now item ∙ is) items seen.1,
)

-- Opening

all_second : (P : Check → Type 0) (xs ys : List Check) → AllByRecursion P (xs ++ ys) → AllByRecursion P ys
all_second P [] ys all = all
all_second P (x ∷ xs) ys all = all_second P xs ys all.1

-- the check that is asked where a test says so, and the rest

asked_first : (P : Check → Type 0) (b : Bool) (check : Check) (checks : List Check) → AllByRecursion P (cond b (check ∷ checks) checks)
    → b ≡ true → P check
asked_first P true check checks all is = all.0
asked_first P false check checks all is = cc

asked_rest : (P : Check → Type 0) (b : Bool) (check : Check) (checks : List Check) → AllByRecursion P (cond b (check ∷ checks) checks)
    → AllByRecursion P checks
asked_rest P true check checks all = all.1
asked_rest P false check checks all = all

all_ok : (said : Reply) (items : List Item) → is_ok said ≡ true → passed said items ≡ items
all_ok (reply.Ok payload) items done = refl
all_ok (reply.Denied errno op item by) items done = cc
all_ok (reply.Refused errno) items done = cc

module _ (p : FlowPolicy) (r : Registration) (spec : Spec) (s : State) (of : IsOf p r) (held : IsHeld (slot_of r) (r, spec) s)
    (once : IsListedOnce s.specs) (biba : r.module ≡ Biba) where
  abbrev o : Entities
  o = s.objects

  leaves : (subject object : Elem) → p.remains subject object ≡ subject
  leaves = biba_keeps p r.module of.remains biba

  -- what is written down of an entity is its element
  written : (id : Id) → (range_label (biba_value s id)).effective ≡ element_at r o id
  written id =
      ap (λ (slot : Option ℕ). (range_label (option_map_or (value_at o id) slot Unset)).effective)
      (ap (λ (m : _). slot_in m s.specs) (sym biba) ∙ its_own_slot r spec s held once)

  module _ (task : List ℕ) (path : List (List ℕ)) (read write : Bool) (me file : Id) where
    abbrev c : Call
    c = call.OpenFd path read write

    -- what the check moves is allowed by the elements of the state
    abbrev IsOpen : Check → Type 0
    IsOpen check =
        is_transfer check.op ≡ false
        → AllowedBy p (row_of check.op).movement (element_at r o check.subject) (range_label (object_slot (option_map (view_at o) check.object) (slot_of r))).effective

    shows_open : (check : Check) (item : Item) → IsShown o check item → IsAsItIs r o item × (IsTested spec item → IsAllowed p r item)
        → IsOpen check
    shows_open check item shown told no_transfer =
        subst (λ (k : CheckOp). AllowedBy p (row_of k).movement (element_at r o check.subject) (range_label (object_slot (option_map (view_at o) check.object) (slot_of r))).effective)
        shown.op
        (subst (λ (e : Option Elem). AllowedBy p (row_of item.op).movement (element_at r o check.subject) e) object
        (subst (λ (e : Option Elem). AllowedBy p (row_of item.op).movement e (object_element r item)) subject
        (told.1 tested (subst (Has p) (sym subject) (have check.subject)) (subst (Has p) (sym object) (theirs check.object)))))
      where
        have : AllHave p r o
        have = all_have p r spec s of held

        subject : element_by r item.subject.label ≡ element_at r o check.subject
        subject = told.0 ∙ ap (λ (n : ℕ). element_at r o (record { 0 = n })) shown.subject

        object : object_element r item ≡ (range_label (object_slot (option_map (view_at o) check.object) (slot_of r))).effective
        object = ap (λ x. (range_label (object_slot x (slot_of r))).effective) shown.object

        theirs : (id : Option Id) → Has p (range_label (object_slot (option_map (view_at o) id) (slot_of r))).effective
        theirs None = tt
        theirs (Some id) = have id

        tested : IsTested spec item
        tested transfer = let same : is_transfer item.op ≡ is_transfer check.op = ap is_transfer shown.op in cc

    abbrev last : List Check
    last = (opens s me read write file).checks

    abbrev row_checks : Bool → List Check
    row_checks is_directory =
        cond is_directory []
        (cond read (on me op.VnodeOpenRead file ∷ cond write (on me op.VnodeOpenWrite file ∷ last) last) (cond write (on me op.VnodeOpenWrite file ∷ last) last))

    -- where a file is opened it is no directory
    no_directory : found_at (lookup_along o path).target ≡ Ok file → (row_for s task c me).tail ≡ Do → is_dir o file ≡ false
    no_directory there done =
        one (is_dir o file) (sym (ap (λ (found : Result Id Errno). if_there (λ id. cond (is_dir o id) (Refuse errno.Eisdir) (opens s me read write id).tail) Refuse found) there) ∙ done)
      where
        one : (b : Bool) → cond b (Refuse errno.Eisdir) (opens s me read write file).tail ≡ Do → b ≡ false
        one true ends = cc
        one false ends = refl

    -- so the checks of its opening are asked
    asked_checks : found_at (lookup_along o path).target ≡ Ok file → (row_for s task c me).tail ≡ Do
        → AllByRecursion IsOpen (row_for s task c me).checks
        → AllByRecursion IsOpen (row_checks false)
    asked_checks there done all =
        subst (λ (b : Bool). AllByRecursion IsOpen (row_checks b)) (no_directory there done)
        (subst (λ (found : Result Id Errno). AllByRecursion IsOpen (if_there (λ id. cond (is_dir o id) []
        (cond read (on me op.VnodeOpenRead id ∷ cond write (on me op.VnodeOpenWrite id ∷ (opens s me read write id).checks) (opens s me read write id).checks)
        (cond write (on me op.VnodeOpenWrite id ∷ (opens s me read write id).checks) (opens s me read write id).checks)))
        (λ e. []) found)) there
        (all_second IsOpen (map (on me op.VnodeLookup) (lookup_along o path).lookups) _ all))

    -- and what they pass is allowed
    new_opened : found_at (lookup_along o path).target ≡ Ok file → (row_for s task c me).tail ≡ Do
        → AllByRecursion IsOpen (row_for s task c me).checks
        → IsOpened p (new_fd s me read write file)
    new_opened there done all =
        record {
          reads = λ is.
              between (written me) (written file)
              (subst (λ (e : Option Elem). Allowed p e (element_at r o file)) (remaining_same p r leaves (element_at r o me) (element_at r o file))
              (asked_first IsOpen read (on me op.VnodeOpenRead file) (cond write (on me op.VnodeOpenWrite file ∷ last) last) asked is refl).1);
          writes = λ is.
              between (written file) (written me)
              (asked_first IsOpen write (on me op.VnodeOpenWrite file) last (asked_rest IsOpen read (on me op.VnodeOpenRead file) (cond write (on me op.VnodeOpenWrite file ∷ last) last) asked)
              is refl);
        }
      where
        asked : AllByRecursion IsOpen (row_checks false)
        asked = asked_checks there done all

        between : {to to' from from' : Option Elem} → to ≡ to' → from ≡ from' → Allowed p to' from' → Allowed p to from
        between {to' = to'} {from = from} same same' allowed =
            subst (λ (e : Option Elem). Allowed p e from) (sym same) (subst (Allowed p to') (sym same') allowed)

  -- the checks of a call by a live process that are asked allow what they pass
  module _ (task : List ℕ) (child : Option (List ℕ)) (c : Call) (me : Id) (named : process_named o (caller_name task child) ≡ Some me) where
    abbrev row : Row
    row = row_for s task c me

    abbrev items : List Item
    items = lowering s me (map (item_asking o (asked_in_effect row.effect)) row.checks)

    plan_items : (plan_of s task child c).items ≡ items
    plan_items = ap (λ (x : Plan). x.items) (plan_with s task me child c named)

    items_seen : AllByRecursion (IsAsItIs r o) items
    items_seen =
        let live : HasKind is_process o me = named_process o (caller_name task child) me named held.kept.rooted.rising in
        as_it_is p r o me leaves (element_at r o me) refl items
        (plan_seen p r s me (asked_in_effect row.effect) row.checks (is_lowering p r spec s of.remains held once) (its_label r spec s held me live.entity live.live) (row_by s me task c))

    -- where it is done, all have passed
    items_passed : is_ok (call_reply s task child c) ≡ true → AllByRecursion (λ item. IsTested spec item → IsAllowed p r item) items
    items_passed done =
        granted_allowed p r spec s.specs s.numbers items of held.pinned
        (subst (AllByRecursion (IsGranted s.specs)) (all_ok (call_reply s task child c) (plan_of s task child c).items done ∙ plan_items)
        (passed_granted s.specs (plan_of s task child c) (call_row s task child c).payload))

    row_ends : is_ok (call_reply s task child c) ≡ true → row.tail ≡ Do
    row_ends done =
        sym (ap (λ (caller : Option Id). (option_map_or (row_for s task c) caller (refuse errno.Esrch)).tail) named) ∙ done_tail s task child c (call_reply s task child c) refl done

    -- what it opens is open as it may be
    by_opening : (path : List (List ℕ)) (read write : Bool) (file : Id) → c ≡ call.OpenFd path read write
        → is_ok (call_reply s task child c) ≡ true
        → found_at (lookup_along o path).target ≡ Ok file → IsOpened p (new_fd s me read write file)
    by_opening path read write file is done there =
        new_opened task path read write me file there (subst (λ (k : Call). (row_for s task k me).tail ≡ Do) is (row_ends done))
        (subst (λ (k : Call). AllByRecursion (IsOpen task path read write me file) (row_for s task k me).checks) is
        (shown_checks (λ item. IsAsItIs r o item × (IsTested spec item → IsAllowed p r item)) (IsOpen task path read write me file) o row.checks items
        (shows_open task path read write me file) (lowering_shown s me (asked_in_effect row.effect) row.checks)
        (all_both (IsAsItIs r o) (λ item. IsTested spec item → IsAllowed p r item) items items_seen (items_passed done))))

  -- after a call each descriptor is open as it might be
  pub call_opened : (task : List ℕ) (child : Option (List ℕ)) (c : Call) → AllOpened p s.objects
      → AllOpened p (call_state s task child c).objects
  call_opened task child c opened id = fds_after (IsOpened p) s task child c held.kept.rooted id (opened id) one
    where
      one : (fd : Fd) → IsOpening s task child c id fd → IsOpened p fd
      one _ (opens_file path read write file is named done there) = by_opening task child c id named path read write file is done there

-- A call's descriptor

found_opened : (P : Fd → Type 0) (test : Fd → Bool) (fds : List Fd) (fd : Fd) → AllByRecursion P fds → find test fds ≡ Some fd → P fd
found_opened P test [] fd all found = cc
found_opened P test (x ∷ fds) fd all found = one (test x) (found_opened P test fds fd all.1) found
  where
    one : (b : Bool) → (find test fds ≡ Some fd → P fd) → cond b (Some x) (find test fds) ≡ Some fd → P fd
    one true rest here =
        let same : x ≡ fd = cc in
        subst P same all.0
    one false rest later = rest later

allowed_opened : (P : Fd → Type 0) (allows : Fd → Bool) (found : Option Fd) (fd : Fd) → ((x : Fd) → found ≡ Some x → P x)
    → option_and_then (λ fd. cond (allows fd) (Some fd) None) found ≡ Some fd → P fd
allowed_opened P allows None fd gives is = cc
allowed_opened P allows (Some x) fd gives is = one (allows x) is
  where
    one : (b : Bool) → cond b (Some x) None ≡ Some fd → P fd
    one true here =
        let same : x ≡ fd = cc in
        subst P same (gives x refl)
    one false none = cc

-- what is so of each descriptor of a process is so of the one that its call goes through
pub descriptor_has : (P : Fd → Type 0) (s : State) (me : Id) (place : Place) (fd : Fd) → AllByRecursion P (fds_at s.objects me)
    → descriptor_at s me place ≡ Some fd → P fd
descriptor_has P s me (Opened access n) fd all is =
    allowed_opened P (allows access) (fd_in (fds_at s.objects me) n) fd
    (λ x found. found_opened P (has_number n) (fds_at s.objects me) x all found) is
descriptor_has P s me other fd all is = cc

-- The opening state, in which nothing is open

abbrev NoneOpen : List LiveEntity → Type 0
NoneOpen es = AllByRecursion (λ e. fds_of e.what ≡ []) es

none_more : (o : Entities) (name : List ℕ) (values : List LabelValue) (what : EntityData) → fds_of what ≡ [] → NoneOpen o.live
    → NoneOpen (with_entity o name values what).live
none_more o name values what none all = one o.live all
  where
    one : (es : List LiveEntity) → NoneOpen es → NoneOpen (es ++ made o name values what ∷ [])
    one [] all = (none, tt)
    one (e ∷ es) all = (all.0, one es all.1)

none_files : (listed : List Entry) (o : Entities) (files : List FileLine) → NoneOpen o.live
    → NoneOpen (fold (with_file listed) o files).live
none_files listed o [] all = all
none_files listed o (f ∷ files) all = none_files listed (with_file listed o f) files (one (lookup_along o f.path).target)
  where
    one : (target : Target) → NoneOpen (with_file_at listed o f target).live
    one (Name dir None) =
        none_more o (last_name f.path) (new_label listed kinds.Vnode (Boot f.label)) (new_vnode dir f.file f.text) refl all
    one other = all

none_tasks : (listed : List Entry) (o : Entities) (tasks : List Task) → NoneOpen o.live → NoneOpen (fold (with_task listed) o tasks).live
none_tasks listed o [] all = all
none_tasks listed o (t ∷ tasks) all = none_tasks listed (with_task listed o t) tasks (one (process_named o t.name))
  where
    one : (found : Option Id)
        → NoneOpen (option_map_or (λ id. o) found (with_entity o t.name (new_label listed kinds.Process (Boot t.label)) (new_process t.cred))).live
    one None = none_more o t.name (new_label listed kinds.Process (Boot t.label)) (new_process t.cred) refl all
    one (Some id) = all

none_found : (id : Id) (es : List LiveEntity) → NoneOpen es
    → option_map_or (λ (e : LiveEntity). fds_of e.what) (find (has_id id) es) [] ≡ []
none_found id [] all = refl
none_found id (e ∷ es) all = one (has_id id e) (none_found id es all.1)
  where
    one : (b : Bool) → option_map_or (λ (e : LiveEntity). fds_of e.what) (find (has_id id) es) [] ≡ []
        → option_map_or (λ (e : LiveEntity). fds_of e.what) (cond b (Some e) (find (has_id id) es)) [] ≡ []
    one true rest = all.0
    one false rest = rest

pub opening_opened : (p : FlowPolicy) (s : Script) → AllOpened p (opening_state s).objects
opening_opened p s id =
    let listed : List Entry = booted_specs s in
    let root : Entities = with_root (new_label listed kinds.Vnode (Boot no_request)) in
    subst (AllByRecursion (IsOpened p))
    (sym (none_found id (opening_state s).objects.live
    (none_tasks listed (fold (with_file listed) root s.files) s.tasks (none_files listed root s.files (refl, tt))))) tt
