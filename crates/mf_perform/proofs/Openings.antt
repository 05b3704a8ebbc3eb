-- Where descriptors come from: after a call each is one that its process had before, or the new one of a file that it opened by the call.
use Rattle.std.proofs.Common.{◌≡◌, ℕ, Bool, true, false, cond, not, List, [], ◌∷◌, ◌++◌, Option, Some, None, option_map, Result, Ok, Err, drop, refl, ap, sym, ◌∙◌, subst, arith, ◌⊎◌, inl, inr}
use Rattle.std.specs.Option.{option_map_or}
use Rattle.std.specs.Prelude.{filter, find, map}
use Rattle.std.specs.List.{AllByRecursion}
use Rattle.mf_errno.specs.declared.errno.Errno.{Errno}
use Rattle.mf_objects.specs.declared.id.Id.{Id}
use Rattle.mf_objects.specs.declared.descriptors.Fd.{Fd}
use Rattle.mf_objects.specs.declared.entity.EntityData.{EntityData}
use Rattle.mf_objects.specs.declared.entity.EntityData.TheVariants.{Process, Vnode, Pipe, Socket}
use Rattle.mf_objects.specs.Changes.{made, goes_with, with_change, with_what, appended, with_message, with_messages, cleared, with_mode}
use Rattle.mf_objects.specs.Descriptors.{closed, fds_at, fds_of, opened, with_fds, without_vnode}
use Rattle.mf_objects.specs.Labels.{with_label}
use Rattle.mf_objects.specs.Live.{LiveEntity, Entities, has_id, kind_of, label_at, live_at}
use Rattle.mf_objects.specs.Population.{IsRising}
use Rattle.mf_objects.proofs.Entities.{changed_at}
use Rattle.mf_objects.proofs.Finding.{find_filter, find_push_hit, find_push_miss, find_beyond}
use Rattle.mf_objects.proofs.Rising.{id_is}
use Rattle.mf_policy.specs.NewLabels.{new_label}
use Rattle.mf_policy.specs.Relabelled.{relabelled}
use Rattle.mf_policy.specs.declared.labels.Origin.TheVariants.{Maker}
use Rattle.mf_calls.specs.declared.script.Call.{Call}
use Rattle.mf_calls.specs.declared.script.Call.TheVariants as call
use Rattle.mf_plan.specs.declared.outline.Check.{Check}
use Rattle.mf_plan.specs.declared.reply.Reply.{Reply}
use Rattle.mf_plan.specs.declared.reply.Reply.TheVariants as reply
use Rattle.mf_plan.specs.declared.state.State.{State}
use Rattle.mf_plan.specs.Effect.{Effect}
use Rattle.mf_plan.specs.Effect.Effect.{Unchanged, Make, Append, Deliver, Empty, Receive, SetMode, Open, Close, Unlink, End, Relabel, Load, Unload, Set}
use Rattle.mf_plan.specs.Names.{caller_name}
use Rattle.mf_plan.specs.Path.{found_at, lookup_along}
use Rattle.mf_plan.specs.Plan.{row_for}
use Rattle.mf_plan.specs.Row.{through}
use Rattle.mf_plan.specs.Rows.{about_of, new_fd}
use Rattle.mf_plan.specs.Views.{process_named}
use Rattle.mf_plan.specs.Ways.{At, way_to}
use Rattle.mf_perform.specs.Effect.{after, with_created}
use Rattle.mf_perform.specs.OneCall.{after_reply, call_reply, call_state, observed, performed}
use Rattle.mf_perform.specs.Refused.{is_ok}
use Rattle.mf_perform.proofs.Observing.{HasObserved, ObservingKeeps, checks_passed, observing, observing_keeps, same_id}
use Rattle.mf_perform.proofs.Observing.HasObserved.{absent, lowered, unlowered}
use Rattle.mf_perform.proofs.Rooted.{IsRooted}
use Rattle.mf_perform.proofs.Unlinking.{found_unlinked, without_open}

-- the descriptors of what is found
abbrev fds_found : Option LiveEntity → List Fd
fds_found found = option_map_or (λ (e : LiveEntity). fds_of e.what) found []

-- Checks leave descriptors alone.
pub fds_observed : (s : State) (task : List ℕ) (child : Option (List ℕ)) (c : Call) → IsRooted s.objects → (id : Id)
    → fds_at (observed s task child c).objects id ≡ fds_at s.objects id
fds_observed s task child c rooted id = one (live_at s.objects id) (live_at s1.objects id) (keeps.each id)
  where
    s1 : State
    s1 = observed s task child c

    caller : Option Id
    caller = process_named s.objects (caller_name task child)

    keeps : ObservingKeeps caller (checks_passed s task child c) s s1
    keeps = observing_keeps s s1 (observing s task child c rooted) rooted

    one : (found found1 : Option LiveEntity) → HasObserved caller (checks_passed s task child c) s id found found1 → fds_found found1 ≡ fds_found found
    one _ _ absent = refl
    one _ _ (unlowered e) = refl
    one _ _ (lowered slot e own at process sees) = refl

-- By effect

module _ (P : Fd → Type 0) where
  abbrev HasAll : List Fd → Type 0
  HasAll fds = AllByRecursion P fds

  all_pushed : (fds : List Fd) (fd : Fd) → HasAll fds → P fd → HasAll (fds ++ fd ∷ [])
  all_pushed [] fd all new = (new, tt)
  all_pushed (first ∷ fds) fd all new = (all.0, all_pushed fds fd all.1 new)

  all_left : (keeps : Fd → Bool) (fds : List Fd) → HasAll fds → HasAll (filter keeps fds)
  all_left keeps [] all = tt
  all_left keeps (fd ∷ fds) all = one (keeps fd) (all_left keeps fds all.1)
    where
      one : (b : Bool) → HasAll (filter keeps fds) → HasAll (cond b (fd ∷ filter keeps fds) (filter keeps fds))
      one true rest = (all.0, rest)
      one false rest = rest

  left_of : (keeps : Fd → Bool) (what : EntityData) → HasAll (fds_of what) → HasAll (fds_of (with_fds (filter keeps) what))
  left_of keeps (Process process) all = all_left keeps process.fds all
  left_of keeps (Vnode vnode) all = tt
  left_of keeps (Pipe pipe) all = tt
  left_of keeps (Socket socket) all = tt

  opened_of : (fd : Fd) (what : EntityData) → P fd → HasAll (fds_of what) → HasAll (fds_of (with_fds (opened fd) what))
  opened_of fd (Process process) new all = all_pushed process.fds fd all new
  opened_of fd (Vnode vnode) new all = tt
  opened_of fd (Pipe pipe) new all = tt
  opened_of fd (Socket socket) new all = tt

  -- one entity is changed
  module _ (change : LiveEntity → LiveEntity) (at id : Id) (ids : (e : LiveEntity) → (change e).id ≡ e.id)
      (so : (e : LiveEntity) → at ≡ id → HasAll (fds_of e.what) → HasAll (fds_of (change e).what)) where
    abbrev changed_in : List LiveEntity → List LiveEntity
    changed_in es = map (changed_at change at) es

    abbrev first_of : Bool → LiveEntity → List LiveEntity → Type 0
    first_of b e es = HasAll (fds_found (cond b (Some e) (find (has_id id) es)))

    all_changed : (es : List LiveEntity) → HasAll (fds_found (find (has_id id) es)) → HasAll (fds_found (find (has_id id) (changed_in es)))
    all_changed [] all = tt
    all_changed (e ∷ es) all = one (has_id at e) refl (has_id id e) refl (all_changed es) all
      where
        same : has_id id (change e) ≡ has_id id e
        same = ap (λ (i : Id). has_id id (record e { id = i })) (ids e)

        one : (b : Bool) → has_id at e ≡ b → (hit : Bool) → has_id id e ≡ hit
            → (HasAll (fds_found (find (has_id id) es)) → HasAll (fds_found (find (has_id id) (changed_in es))))
            → first_of hit e es → first_of (has_id id (cond b (change e) e)) (cond b (change e) e) (changed_in es)
        one true own true hit rest all =
            subst (λ (b : Bool). first_of b (change e) (changed_in es)) (sym (same ∙ hit)) (so e (same_id at id e own hit) all)
        one true own false miss rest all = subst (λ (b : Bool). first_of b (change e) (changed_in es)) (sym (same ∙ miss)) (rest all)
        one false other true hit rest all = subst (λ (b : Bool). first_of b e (changed_in es)) (sym hit) all
        one false other false miss rest all = subst (λ (b : Bool). first_of b e (changed_in es)) (sym miss) (rest all)

  -- what it holds, and no descriptors
  data_changed : (change : EntityData → EntityData) (at id : Id) (o : Entities) → ((what : EntityData) → fds_of (change what) ≡ fds_of what)
      → HasAll (fds_at o id) → HasAll (fds_at (with_change (with_what change) o at) id)
  data_changed change at id o same all =
      all_changed (with_what change) at id (λ e. refl) (λ e own was. subst HasAll (sym (same e.what)) was) o.live all

  -- one comes that has nothing open
  all_created : (s : State) (maker id : Id) (name : List ℕ) (what : EntityData) → fds_of what ≡ [] → IsRising 0 s.objects.next s.objects.live
      → HasAll (fds_at s.objects id) → HasAll (fds_at (with_created s maker (kind_of what) name what).objects id)
  all_created s maker id name what none rising all = one (has_id id new) refl
    where
      new : LiveEntity
      new = made s.objects name (new_label s.specs (kind_of what) (Maker (label_at s.objects maker))) what

      one : (b : Bool) → has_id id new ≡ b → HasAll (fds_found (find (has_id id) (s.objects.live ++ new ∷ [])))
      one true hit =
          let next : s.objects.next ≡ id.0 = id_is id new hit in
          let absent : find (has_id id) s.objects.live ≡ None = find_beyond id 0 s.objects.next s.objects.live (omega arith) rising in
          subst (λ (found : Option LiveEntity). HasAll (fds_found found)) (sym (find_push_hit (has_id id) s.objects.live new absent hit))
          (subst HasAll (sym none) tt)
      one false miss = subst (λ (found : Option LiveEntity). HasAll (fds_found found)) (sym (find_push_miss (has_id id) s.objects.live new miss)) all

  -- some go
  all_removed : (gone : LiveEntity → Bool) (id : Id) (o : Entities) → IsRising 0 o.next o.live → HasAll (fds_at o id)
      → HasAll (fds_found (find (has_id id) (filter (λ e. not (gone e)) o.live)))
  all_removed gone id o rising all = one (find_filter (λ e. not (gone e)) id 0 o.next o.live rising)
    where
      one : (find (has_id id) (filter (λ e. not (gone e)) o.live) ≡ find (has_id id) o.live) ⊎ (find (has_id id) (filter (λ e. not (gone e)) o.live) ≡ None)
          → HasAll (fds_found (find (has_id id) (filter (λ e. not (gone e)) o.live)))
      one (inl stays) = subst (λ (found : Option LiveEntity). HasAll (fds_found found)) (sym stays) all
      one (inr none) = subst (λ (found : Option LiveEntity). HasAll (fds_found found)) (sym none) tt

  -- a file goes, with all descriptors on it
  all_unlinked : (file id : Id) (o : Entities) → IsRising 0 o.next o.live → HasAll (fds_at o id) → HasAll (fds_at (without_vnode file o) id)
  all_unlinked file id o rising all = one (found_unlinked file o rising id)
    where
      stays_so : (found : Option LiveEntity) → HasAll (fds_found found) → HasAll (fds_found (option_map (without_open file) found))
      stays_so None all = tt
      stays_so (Some e) all = left_of _ e.what all

      one : (live_at (without_vnode file o) id ≡ option_map (without_open file) (live_at o id)) ⊎ (live_at (without_vnode file o) id ≡ None)
          → HasAll (fds_at (without_vnode file o) id)
      one (inl stays) = subst (λ (found : Option LiveEntity). HasAll (fds_found found)) (sym stays) (stays_so (live_at o id) all)
      one (inr none) = subst (λ (found : Option LiveEntity). HasAll (fds_found found)) (sym none) tt

  -- what an effect gives
  abbrev Gives : Id → Effect → Type 0
  Gives id (Make name what) = fds_of what ≡ []
  Gives id (Open at fd) = at ≡ id → P fd
  Gives id other = Unit {0}

  appended_fds : (text : List ℕ) (what : EntityData) → fds_of (appended text what) ≡ fds_of what
  appended_fds text (Process process) = refl
  appended_fds text (Vnode vnode) = refl
  appended_fds text (Pipe pipe) = refl
  appended_fds text (Socket socket) = refl

  cleared_fds : (what : EntityData) → fds_of (cleared what) ≡ fds_of what
  cleared_fds (Process process) = refl
  cleared_fds (Vnode vnode) = refl
  cleared_fds (Pipe pipe) = refl
  cleared_fds (Socket socket) = refl

  messages_fds : (change : List (List ℕ) → List (List ℕ)) (what : EntityData) → fds_of (with_messages change what) ≡ fds_of what
  messages_fds change (Process process) = refl
  messages_fds change (Vnode vnode) = refl
  messages_fds change (Pipe pipe) = refl
  messages_fds change (Socket socket) = refl

  mode_fds : (mode : ℕ) (what : EntityData) → fds_of (with_mode mode what) ≡ fds_of what
  mode_fds mode (Process process) = refl
  mode_fds mode (Vnode vnode) = refl
  mode_fds mode (Pipe pipe) = refl
  mode_fds mode (Socket socket) = refl

  by_effect : (s : State) (me id : Id) (e : Effect) → IsRising 0 s.objects.next s.objects.live → Gives id e → HasAll (fds_at s.objects id)
      → HasAll (fds_at (after s me e).objects id)
  by_effect s me id Unchanged rising gives all = all
  by_effect s me id (Make name what) rising gives all = all_created s me id name what gives rising all
  by_effect s me id (Append at text) rising gives all = data_changed (appended text) at id s.objects (appended_fds text) all
  by_effect s me id (Deliver at text) rising gives all = data_changed (with_messages (with_message text)) at id s.objects (messages_fds (with_message text)) all
  by_effect s me id (Empty at) rising gives all = data_changed cleared at id s.objects cleared_fds all
  by_effect s me id (Receive at) rising gives all = data_changed (with_messages (drop 1)) at id s.objects (messages_fds (drop 1)) all
  by_effect s me id (SetMode at mode) rising gives all = data_changed (with_mode mode) at id s.objects (mode_fds mode) all
  by_effect s me id (Open at fd) rising gives all =
      all_changed (with_what (with_fds (opened fd))) at id (λ e. refl) (λ e own was. opened_of fd e.what (gives own) was) s.objects.live all
  by_effect s me id (Close at n) rising gives all =
      all_changed (with_what (with_fds (closed n))) at id (λ e. refl) (λ e own was. left_of _ e.what was) s.objects.live all
  by_effect s me id (Unlink at) rising gives all = all_unlinked at id s.objects rising all
  by_effect s me id (End at) rising gives all = all_removed (goes_with at) id s.objects rising all
  by_effect s me id (Relabel at request) rising gives all =
      all_changed (with_label (relabelled s.specs request (label_at s.objects at))) at id (λ e. refl) (λ e own was. was) s.objects.live all
  by_effect s me id (Load m) rising gives all = all
  by_effect s me id (Unload m) rising gives all = all
  by_effect s me id (Set m change) rising gives all = all

-- By call

-- the descriptor that a process gets by a call
data HasOpened (s : State) (me : Id) (c : Call) : Fd → Type 0 where
  has_opened : (path : List (List ℕ)) (read write : Bool) (file : Id) → c ≡ call.OpenFd path read write
      → found_at (lookup_along s.objects path).target ≡ Ok file → HasOpened s me c (new_fd s me read write file)

-- a call opens a file for its caller alone
abbrev OpensAlone : State → Id → Call → Effect → Type 0
OpensAlone s me c (Open at fd) = (me ≡ at) × HasOpened s me c fd
OpensAlone s me c other = Unit {0}

there_opens : (s : State) (task : List ℕ) (me : Id) (c : Call) (what : At (about_of s task me c).place)
    → (way_to s me (about_of s task me c).place).there ≡ Ok what → OpensAlone s me c ((about_of s task me c).row what).effect
there_opens s task me (call.OpenFd path read write) id there = (refl, has_opened path read write id refl there)
there_opens s task me other what there = tt

-- and what a call makes has nothing open
abbrev fds_made : Effect → List Fd
fds_made (Make name what) = fds_of what
fds_made other = []

made_with_none_open : (s : State) (task : List ℕ) (me : Id) (c : Call) (what : At (about_of s task me c).place) → fds_made ((about_of s task me c).row what).effect ≡ []
made_with_none_open s task me call.Exit what = refl
made_with_none_open s task me other what = refl

row_opens : (s : State) (task : List ℕ) (me : Id) (c : Call) → OpensAlone s me c (row_for s task c me).effect × (fds_made (row_for s task c me).effect ≡ [])
row_opens s task me c = one (way_to s me (about_of s task me c).place).there refl
  where
    checks : List Check
    checks = (way_to s me (about_of s task me c).place).checks

    whole : Result (At (about_of s task me c).place) Errno → Effect
    whole there = (through (record { checks = checks; there = there }) (about_of s task me c).row).effect

    one : (there : Result (At (about_of s task me c).place) Errno) → (way_to s me (about_of s task me c).place).there ≡ there
        → OpensAlone s me c (whole there) × (fds_made (whole there) ≡ [])
    one (Ok what) is = (there_opens s task me c what is, made_with_none_open s task me c what)
    one (Err e) is = (tt, refl)

-- a call opens a file for the process of that id: it is its caller, the call was done, and the file stands at the path
pub data IsOpening (s : State) (task : List ℕ) (child : Option (List ℕ)) (c : Call) (id : Id) : Fd → Type 0 where
  opens : (path : List (List ℕ)) (read write : Bool) (file : Id) → c ≡ call.OpenFd path read write
      → process_named s.objects (caller_name task child) ≡ Some id → is_ok (call_reply s task child c) ≡ true
      → found_at (lookup_along s.objects path).target ≡ Ok file → IsOpening s task child c id (new_fd s id read write file)

module _ (P : Fd → Type 0) (s : State) (task : List ℕ) (child : Option (List ℕ)) (c : Call) (rooted : IsRooted s.objects) (id : Id)
    (own : AllByRecursion P (fds_at s.objects id)) (gets : (fd : Fd) → IsOpening s task child c id fd → P fd) where
  abbrev s1 : State
  s1 = observed s task child c

  abbrev caller_of : Option Id
  caller_of = process_named s.objects (caller_name task child)

  keeps_all : ObservingKeeps caller_of (checks_passed s task child c) s s1
  keeps_all = observing_keeps s s1 (observing s task child c rooted) rooted

  observed_all : AllByRecursion P (fds_at s1.objects id)
  observed_all = subst (AllByRecursion P) (sym (fds_observed s task child c rooted id)) own

  gives : (me : Id) (e : Effect) → caller_of ≡ Some me → is_ok (call_reply s task child c) ≡ true → OpensAlone s me c e × (fds_made e ≡ []) → Gives P id e
  gives me (Make name what) named done is = is.1
  gives me (Open at fd) named done is = λ same. by_opened fd is.0.1 (is.0.0 ∙ same)
    where
      by_opened : (fd : Fd) → HasOpened s me c fd → me ≡ id → P fd
      by_opened _ (has_opened path read write file is there) mine =
          subst (λ (i : Id). P (new_fd s i read write file)) (sym mine)
          (gets (new_fd s id read write file) (opens path read write file is (named ∙ ap (λ (i : Id). Some i) mine) done there))
  gives me other named done is = tt

  by_caller : (caller : Option Id) → caller_of ≡ caller → is_ok (call_reply s task child c) ≡ true
      → AllByRecursion P (fds_at (option_map_or (λ me. after s1 me (row_for s task c me).effect) caller s1).objects id)
  by_caller None named done = observed_all
  by_caller (Some me) named done =
      let e = (row_for s task c me).effect in
      by_effect P s1 me id e keeps_all.rooted.rising (gives me e named done (row_opens s task me c)) observed_all

  by_reply : (r : Reply) → call_reply s task child c ≡ r → AllByRecursion P (fds_at (after_reply r s1 (performed s task child c)).objects id)
  by_reply (reply.Ok payload) is = by_caller caller_of refl (ap is_ok is)
  by_reply (reply.Denied errno op item by) is = observed_all
  by_reply (reply.Refused errno) is = observed_all

  -- what is so of each descriptor of a process, and of the one that a call gives it, is so of each after the call
  pub fds_after : AllByRecursion P (fds_at (call_state s task child c).objects id)
  fds_after = by_reply (call_reply s task child c) refl
