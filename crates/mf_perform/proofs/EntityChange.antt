-- How a change of the state changes the entity of each id.
use Rattle.std.proofs.Common.{◌≡◌, ℕ, ◌<◌, ◌≤◌, Bool, true, false, not, cond, List, [], ◌∷◌, ◌++◌, Option, Some, None, option_map, refl, ap, sym, ◌∙◌, subst, arith, ◌⊎◌, inl, inr}
use Rattle.std.specs.Prelude.{filter, find, map, IfSome}
use Rattle.mf_elem.specs.declared.label.LabelValue.{LabelValue}
use Rattle.mf_elem.specs.declared.label.Request.{Request}
use Rattle.mf_item.specs.declared.view.Kind.TheVariants as kinds
use Rattle.mf_policy.specs.declared.labels.Origin.TheVariants.{Maker}
use Rattle.mf_policy.specs.NewLabels.{new_label}
use Rattle.mf_policy.specs.Relabelled.{relabelled}
use Rattle.mf_objects.proofs.Entities.{label_of, changed_at}
use Rattle.mf_objects.specs.declared.id.Id.{Id}
use Rattle.mf_objects.specs.declared.entity.EntityData.{EntityData}
use Rattle.mf_objects.specs.Live.{LiveEntity, Entities, has_id, kind_of, label_at, live_at}
use Rattle.mf_objects.specs.Changes.{made, with_what, with_change, without}
use Rattle.mf_objects.specs.Descriptors.{closed_on, without_vnode}
use Rattle.mf_objects.specs.Labels.{with_label}
use Rattle.mf_objects.specs.Population.{IsRising}
use Rattle.mf_objects.proofs.Rising.{rising_push, rising_changed, id_is}
use Rattle.mf_plan.specs.declared.state.State.{State}
use Rattle.mf_plan.specs.Path.{root}
use Rattle.mf_perform.specs.Effect.{with_objects, with_created, with_request}
use Rattle.mf_objects.proofs.Finding.{find_push_miss, find_push_hit, find_beyond, find_given, find_changed, find_filter, rising_filter}
use Rattle.mf_perform.proofs.Allowed.{IsAllowed}
use Rattle.mf_perform.proofs.Observing.{passes_found, same_id}
use Rattle.mf_perform.proofs.Rooted.{IsRooted, inside_some}
use Rattle.mf_perform.proofs.Unlinking.{found_unlinked, rising_unlinked, without_open}
use Rattle.mf_perform.proofs.StateChange.{Deed, StateChange, fds_kind}
use Rattle.mf_perform.proofs.StateChange.StateChange.{same, created, changed, relabels, removed, unlinked, loaded, unloaded, set_to}

-- the entity of an id before and after a step from the state, made by the process of that id
pub data EntityChange (by : Deed) (s : State) (id : Id) : Option LiveEntity → Option LiveEntity → Type 0 where
  absent : EntityChange by s id None None
  stays : (e e' : LiveEntity) → kind_of e'.what ≡ kind_of e.what → e'.label ≡ e.label → EntityChange by s id (Some e) (Some e')
  -- it is relabelled, as the listed policies allow
  gets_label : (e e' : LiveEntity) (request : Request) → by.asked ≡ Some (id, request) → IsAllowed s e request → e'.what ≡ e.what
      → e'.label ≡ relabelled s.specs request e.label → EntityChange by s id (Some e) (Some e')
  -- it has the next id, and the label that its maker's gives it
  comes : (e maker : LiveEntity) (from : Id) → by.caller ≡ Some from → id.0 ≡ s.objects.next → live_at s.objects from ≡ Some maker
      → kind_of maker.what ≡ kinds.Process → e.label ≡ new_label s.specs (kind_of e.what) (Maker maker.label) → EntityChange by s id None (Some e)
  goes : (e : LiveEntity) → id.0 < s.objects.next → EntityChange by s id (Some e) None

-- ids go on rising, and each entity changes so
pub record ChangesEntities (by : Deed) (s s' : State) : Type 0 where
  pub rising : IsRising 0 s'.objects.next s'.objects.live
  pub next : s.objects.next ≤ s'.objects.next
  pub each : (id : Id) → EntityChange by s id (live_at s.objects id) (live_at s'.objects id)

unchanged : (by : Deed) (s : State) (id : Id) (found found' : Option LiveEntity) → found' ≡ found → EntityChange by s id found found'
unchanged by s id found found' is = subst (λ (o : Option LiveEntity). EntityChange by s id found o) (sym is) (itself found)
  where
    itself : (o : Option LiveEntity) → EntityChange by s id o o
    itself None = absent
    itself (Some e) = stays e e refl refl

by_same : (by : Deed) (s s' : State) → s'.objects ≡ s.objects → IsRising 0 s.objects.next s.objects.live → ChangesEntities by s s'
by_same by s s' is rising =
    record {
      rising = subst (λ (o : Entities). IsRising 0 o.next o.live) (sym is) rising;
      next = omega (arith, ap (λ (o : Entities). o.next) is);
      each = λ id. unchanged by s id (live_at s.objects id) (live_at s'.objects id) (ap (λ (o : Entities). live_at o id) is);
    }

by_created : (by : Deed) (s : State) (from : Id) (maker : LiveEntity) (name : List ℕ) (what : EntityData) → by.caller ≡ Some from → live_at s.objects from ≡ Some maker
    → kind_of maker.what ≡ kinds.Process → IsRising 0 s.objects.next s.objects.live → ChangesEntities by s (with_created s from (kind_of what) name what)
by_created by s from maker name what own live process rising =
    record { rising = rising_push 0 s.objects.next s.objects.live new refl rising; next = omega arith; each = λ id. one id (has_id id new) refl }
  where
    label : List LabelValue
    label = new_label s.specs (kind_of what) (Maker (label_at s.objects from))

    new : LiveEntity
    new = made s.objects name label what

    one : (id : Id) (b : Bool) → has_id id new ≡ b → EntityChange by s id (find (has_id id) s.objects.live) (find (has_id id) (s.objects.live ++ new ∷ []))
    one id true hit =
        let next : s.objects.next ≡ id.0 = id_is id new hit in
        let none : find (has_id id) s.objects.live ≡ None = find_beyond id 0 s.objects.next s.objects.live (omega arith) rising in
        let found : find (has_id id) (s.objects.live ++ new ∷ []) ≡ Some new = find_push_hit (has_id id) s.objects.live new none hit in
        rw (none, found) (comes new maker from own (sym next) live process (ap (λ (o : Option LiveEntity). new_label s.specs (kind_of what) (Maker (label_of o))) live))
    one id false miss =
        unchanged by s id (find (has_id id) s.objects.live) (find (has_id id) (s.objects.live ++ new ∷ [])) (find_push_miss (has_id id) s.objects.live new miss)

by_changed : (by : Deed) (s : State) (change : EntityData → EntityData) (at : Id) → ((what : EntityData) → kind_of (change what) ≡ kind_of what)
    → IsRising 0 s.objects.next s.objects.live → ChangesEntities by s (with_objects s (with_change (with_what change) s.objects at))
by_changed by s change at kept rising =
    record {
      rising = rising_changed (with_what change) at 0 s.objects.next s.objects.live (λ e. refl) rising;
      next = omega arith;
      each = λ id. rw (find_changed change at id s.objects.live) (one id (find (has_id id) s.objects.live));
    }
  where
    kind : (e : LiveEntity) (b : Bool) → kind_of (cond b (with_what change e) e).what ≡ kind_of e.what
    kind e true = kept e.what
    kind e false = refl

    same : (e : LiveEntity) (b : Bool) → (cond b (with_what change e) e).label ≡ e.label
    same e true = refl
    same e false = refl

    one : (id : Id) (found : Option LiveEntity) → EntityChange by s id found (option_map (changed_at (with_what change) at) found)
    one id None = absent
    one id (Some e) = stays e (changed_at (with_what change) at e) (kind e (has_id at e)) (same e (has_id at e))

-- a new label
find_relabelled : (label : List LabelValue) (at id : Id) (es : List LiveEntity)
    → find (has_id id) (map (changed_at (with_label label) at) es) ≡ option_map (changed_at (with_label label) at) (find (has_id id) es)
find_relabelled label at id [] = refl
find_relabelled label at id (e ∷ es) =
    ap (λ (b : Bool). cond b (Some (changed e)) (find (has_id id) (map changed es))) (same (has_id at e)) ∙ one (has_id id e) (find_relabelled label at id es)
  where
    changed : LiveEntity → LiveEntity
    changed = changed_at (with_label label) at

    same : (b : Bool) → has_id id (cond b (with_label label e) e) ≡ has_id id e
    same true = refl
    same false = refl

    one : (b : Bool) → find (has_id id) (map changed es) ≡ option_map changed (find (has_id id) es)
        → cond b (Some (changed e)) (find (has_id id) (map changed es)) ≡ option_map changed (cond b (Some e) (find (has_id id) es))
    one true rest = refl
    one false rest = rest

by_relabelled : (by : Deed) (s : State) (at : Id) (e : LiveEntity) (request : Request) → by.asked ≡ Some (at, request) → live_at s.objects at ≡ Some e
    → IsAllowed s e request → IsRising 0 s.objects.next s.objects.live → ChangesEntities by s (with_request s (at, request))
by_relabelled by s at e request asked live allowed rising =
    record {
      rising = rising_changed (with_label label) at 0 s.objects.next s.objects.live (λ x. refl) rising;
      next = omega arith;
      each = λ id. rw (find_relabelled label at id s.objects.live) (one id (find (has_id id) s.objects.live) refl);
    }
  where
    label : List LabelValue
    label = relabelled s.specs request (label_at s.objects at)

    -- the entity itself is found
    here : (id : Id) (x : LiveEntity) → at ≡ id → x ≡ e → EntityChange by s id (Some x) (Some (with_label label x))
    here id x is found =
        let new : label ≡ relabelled s.specs request x.label =
        ap (λ (o : Option LiveEntity). relabelled s.specs request (label_of o)) live ∙ ap (λ (y : LiveEntity). relabelled s.specs request y.label) (sym found) in
        let own : by.asked ≡ Some (id, request) = asked ∙ ap (λ (i : Id). Some (i, request)) is in
        gets_label x (with_label label x) request own (subst (λ (y : LiveEntity). IsAllowed s y request) (sym found) allowed) refl new

    by_test : (id : Id) (x : LiveEntity) (b : Bool) → has_id at x ≡ b → find (has_id id) s.objects.live ≡ Some x → EntityChange by s id (Some x) (Some (cond b (with_label label x) x))
    by_test id x true hit found =
        let is : at ≡ id = same_id at id x hit (passes_found (has_id id) s.objects.live x found) in
        here id x is (inside_some x e (sym found ∙ ap (λ (i : Id). live_at s.objects i) (sym is) ∙ live))
    by_test id x false miss found = stays x x refl refl

    one : (id : Id) (found : Option LiveEntity) → find (has_id id) s.objects.live ≡ found → EntityChange by s id found (option_map (changed_at (with_label label) at) found)
    one id None is = absent
    one id (Some x) is = by_test id x (has_id at x) refl is

by_removed : (by : Deed) (s : State) (gone : LiveEntity → Bool) → IsRising 0 s.objects.next s.objects.live → ChangesEntities by s (with_objects s (without gone s.objects))
by_removed by s gone rising =
    record {
      rising = rising_filter kept 0 s.objects.next s.objects.live rising;
      next = omega arith;
      each = λ id. one id (find_filter kept id 0 s.objects.next s.objects.live rising);
    }
  where
    kept : LiveEntity → Bool
    kept e = not (gone e)

    left : (id : Id) (found : Option LiveEntity) → find (has_id id) s.objects.live ≡ found → EntityChange by s id found None
    left id None is = absent
    left id (Some e) is = goes e (find_given id e 0 s.objects.next s.objects.live is rising)

    one : (id : Id) → (find (has_id id) (filter kept s.objects.live) ≡ find (has_id id) s.objects.live) ⊎ (find (has_id id) (filter kept s.objects.live) ≡ None)
        → EntityChange by s id (find (has_id id) s.objects.live) (find (has_id id) (filter kept s.objects.live))
    one id (inl stays_here) = unchanged by s id (find (has_id id) s.objects.live) (find (has_id id) (filter kept s.objects.live)) stays_here
    one id (inr none) = rw none (left id (find (has_id id) s.objects.live) refl)

by_unlinked : (by : Deed) (s : State) (file : Id) → IsRising 0 s.objects.next s.objects.live → ChangesEntities by s (with_objects s (without_vnode file s.objects))
by_unlinked by s file rising =
    record {
      rising = rising_unlinked file s.objects rising;
      next = omega arith;
      each = λ id. one id (live_at s.objects id) (live_at (without_vnode file s.objects) id) refl (found_unlinked file s.objects rising id);
    }
  where
    stays_so : (id : Id) (found : Option LiveEntity) → EntityChange by s id found (option_map (without_open file) found)
    stays_so id None = absent
    stays_so id (Some e) = stays e (without_open file e) (fds_kind (closed_on file) e.what) refl

    left : (id : Id) (found : Option LiveEntity) → live_at s.objects id ≡ found → EntityChange by s id found None
    left id None is = absent
    left id (Some e) is = goes e (find_given id e 0 s.objects.next s.objects.live is rising)

    one : (id : Id) (found found' : Option LiveEntity) → live_at s.objects id ≡ found → (found' ≡ option_map (without_open file) found) ⊎ (found' ≡ None)
        → EntityChange by s id found found'
    one id found found' is (inl kept) = subst (EntityChange by s id found) (sym kept) (stays_so id found)
    one id found found' is (inr none) = subst (EntityChange by s id found) (sym none) (left id found is)

pub changes_entities : (by : Deed) (s s' : State) → StateChange by s s' → IsRising 0 s.objects.next s.objects.live → ChangesEntities by s s'
changes_entities by s s' (same is) rising = by_same by s s' (ap (λ (x : State). x.objects) is) rising
changes_entities by s s' (created from maker name what own live process is) rising =
    subst (ChangesEntities by s) (sym is) (by_created by s from maker name what own live process rising)
changes_entities by s s' (changed change id kept is) rising = subst (ChangesEntities by s) (sym is) (by_changed by s change id kept rising)
changes_entities by s s' (relabels id e request asked live allowed is) rising =
    subst (ChangesEntities by s) (sym is) (by_relabelled by s id e request asked live allowed rising)
changes_entities by s s' (removed gone is) rising = subst (ChangesEntities by s) (sym is) (by_removed by s gone rising)
changes_entities by s s' (unlinked file is) rising = subst (ChangesEntities by s) (sym is) (by_unlinked by s file rising)
changes_entities by s s' (loaded m none is) rising = by_same by s s' (ap (λ (x : State). x.objects) is) rising
changes_entities by s s' (unloaded m ok is) rising = by_same by s s' (ap (λ (x : State). x.objects) is) rising
changes_entities by s s' (set_to m change ok is) rising = by_same by s s' (ap (λ (x : State). x.objects) is) rising

-- Each step keeps it that ids rise and that the first is of a vnode.
pub stays_rooted : (by : Deed) (s s' : State) → ChangesEntities by s s' → IsRooted s.objects → IsRooted s'.objects
stays_rooted by s s' step rooted =
    record {
      rising = step.rising;
      given = omega (arith, step.next, rooted.given);
      vnode = one (live_at s.objects root) (live_at s'.objects root) (step.each root) rooted.vnode;
    }
  where
    one : (found found' : Option LiveEntity) → EntityChange by s root found found' → IfSome found (λ e. kind_of e.what ≡ kinds.Vnode)
        → IfSome found' (λ e. kind_of e.what ≡ kinds.Vnode)
    one _ _ absent vnode = tt
    one _ _ (stays old new kind label) vnode = kind ∙ vnode
    one _ _ (gets_label old new request asked allowed what label) vnode = ap kind_of what ∙ vnode
    one _ _ (comes new maker from own next live process label) vnode = absurd (omega (arith, next, rooted.given))
    one _ _ (goes old given) vnode = tt
