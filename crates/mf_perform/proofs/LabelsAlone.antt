-- A change of labels alone: what is found is the same but for its label, and what suited an effect still does.
use Rattle.std.proofs.Common.{◌≡◌, ℕ, ◌+◌, ◌<◌, Bool, true, false, cond, List, [], ◌∷◌, length, Option, Some, None, IsSome, is_some, option_map, refl, ap, sym, ◌∙◌, subst}
use Rattle.std.proofs.lemmas.List.{length-map}
use Rattle.std.proofs.lemmas.List.Sums.{sum_by-cons}
use Rattle.std.specs.Option.{option_map_or}
use Rattle.std.specs.Prelude.{count_by, find, map, IfSome}
use Rattle.mf_elem.specs.declared.label.LabelValue.{LabelValue}
use Rattle.mf_elem.specs.declared.label.Request.{Request}
use Rattle.mf_objects.specs.declared.id.Id.{Id}
use Rattle.mf_objects.specs.declared.entity.EntityData.{EntityData}
use Rattle.mf_objects.specs.declared.entity.EntityData.TheVariants.{Process, Vnode, Pipe, Socket}
use Rattle.mf_names.specs.declared.limits.TheConstants.{MOST_DESCRIPTORS}
use Rattle.mf_objects.specs.declared.descriptors.Fd.{Fd}
use Rattle.mf_objects.specs.declared.limits.TheConstants.{MOST_ENTITIES}
use Rattle.mf_objects.specs.Descriptors.{fd_in, fds_at, fds_of, lowest_free}
use Rattle.mf_objects.specs.Live.{LiveEntity, Entities, cred_at, cred_of, entry_count, file_at, file_of, has_id, is_entry, is_one_named, live_at, no_cred, no_file}
use Rattle.mf_objects.specs.Lives.{IsLive, IsLiveWhere, is_directory, passes}
use Rattle.mf_objects.proofs.Entities.{changed_at}
use Rattle.mf_objects.specs.Labels.{with_value}
use Rattle.mf_calls.specs.declared.script.Call.{Call}
use Rattle.mf_calls.specs.declared.script.Call.TheVariants as call
use Rattle.mf_plan.specs.declared.state.State.{State}
use Rattle.mf_plan.specs.Effect.{Effect}
use Rattle.mf_plan.specs.Effect.Effect.{Make, Append, Deliver, Empty, Receive, SetMode, Open, Close, Unlink, Relabel, Load, Unload}
use Rattle.mf_perform.specs.Effect.{with_objects}
use Rattle.mf_perform.specs.declared.descriptors.Opening.{Opening}
use Rattle.mf_perform.specs.Found.{effect_found}
use Rattle.mf_perform.specs.Suits.{IsFree, Suits}

-- it keeps all of an entity but its label
pub record KeepsRest (g : LiveEntity → LiveEntity) : Type 0 where
  pub id : (e : LiveEntity) → (g e).id ≡ e.id
  pub name : (e : LiveEntity) → (g e).name ≡ e.name
  pub what : (e : LiveEntity) → (g e).what ≡ e.what

-- so does another value in a label slot of one entity
pub value_keeps : (slot : ℕ) (value : LabelValue) (id : Id) → KeepsRest (changed_at (with_value slot value) id)
value_keeps slot value id =
    record {
      id = λ e. one (λ (x : LiveEntity). x.id) e refl (has_id id e);
      name = λ e. one (λ (x : LiveEntity). x.name) e refl (has_id id e);
      what = λ e. one (λ (x : LiveEntity). x.what) e refl (has_id id e);
    }
  where
    one : {A : Type 0} (read : LiveEntity → A) (e : LiveEntity) → read (with_value slot value e) ≡ read e → (b : Bool) → read (cond b (with_value slot value e) e) ≡ read e
    one read e same true = same
    one read e same false = refl

-- what is found by a test that doesn't look at labels
pub find_mapped : (test : LiveEntity → Bool) (g : LiveEntity → LiveEntity) (es : List LiveEntity) → ((e : LiveEntity) → test (g e) ≡ test e)
    → find test (map g es) ≡ option_map g (find test es)
find_mapped test g [] blind = refl
find_mapped test g (e ∷ es) blind =
    ap (λ (b : Bool). cond b (Some (g e)) (find test (map g es))) (blind e) ∙ one (test e) (find_mapped test g es blind)
  where
    one : (b : Bool) → find test (map g es) ≡ option_map g (find test es)
        → cond b (Some (g e)) (find test (map g es)) ≡ option_map g (cond b (Some e) (find test es))
    one true rest = refl
    one false rest = rest

count_cons : {X : Type 0} (p : X → Bool) (x : X) (xs : List X) → count_by p (x ∷ xs) ≡ cond (p x) 1 0 + count_by p xs
count_cons p x xs = sum_by-cons (λ y. cond (p y) 1 0) x xs

count_mapped : (test : LiveEntity → Bool) (g : LiveEntity → LiveEntity) (es : List LiveEntity) → ((e : LiveEntity) → test (g e) ≡ test e)
    → count_by test (map g es) ≡ count_by test es
count_mapped test g [] blind = refl
count_mapped test g (e ∷ es) blind =
    count_cons test (g e) (map g es)
    ∙ ap (λ (b : Bool). cond b 1 0 + count_by test (map g es)) (blind e)
    ∙ ap (λ (n : ℕ). cond (test e) 1 0 + n) (count_mapped test g es blind)
    ∙ sym (count_cons test e es)

module _ (g : LiveEntity → LiveEntity) (keeps : KeepsRest g) where
  where_mapped : (P : EntityData → Type 0) (found : Option LiveEntity) → IsLiveWhere P found → IsLiveWhere P (option_map g found)
  where_mapped P None holds = holds
  where_mapped P (Some e) holds = subst P (sym (keeps.what e)) holds

  passes_mapped : (test : EntityData → Bool) (found : Option LiveEntity) → passes test (option_map g found) ≡ passes test found
  passes_mapped test None = refl
  passes_mapped test (Some e) = ap test (keeps.what e)

  some_mapped : (found : Option LiveEntity) → IsSome found → IsSome (option_map g found)
  some_mapped None some = cc
  some_mapped (Some e) some = refl

  read_mapped : {A : Type 0} (read : EntityData → A) (none : A) (found : Option LiveEntity)
      → option_map_or (λ (e : LiveEntity). read e.what) (option_map g found) none ≡ option_map_or (λ (e : LiveEntity). read e.what) found none
  read_mapped read none None = refl
  read_mapped read none (Some e) = ap read (keeps.what e)

  module _ (o : Entities) where
    abbrev mapped : Entities
    mapped = record o { live = map g o.live }

    pub at_mapped : (id : Id) → live_at mapped id ≡ option_map g (live_at o id)
    at_mapped id = find_mapped (has_id id) g o.live (λ e. ap (λ (i : Id). has_id id (record e { id = i })) (keeps.id e))

    pub live_mapped : (test : EntityData → Bool) (id : Id) → IsLive test o id → IsLive test mapped id
    live_mapped test id live = ap (passes test) (at_mapped id) ∙ passes_mapped test (live_at o id) ∙ live

    pub holds_mapped : (P : EntityData → Type 0) (id : Id) → IsLiveWhere P (live_at o id) → IsLiveWhere P (live_at mapped id)
    holds_mapped P id holds = subst (IsLiveWhere P) (sym (at_mapped id)) (where_mapped P (live_at o id) holds)

    pub is_mapped : (id : Id) → IsSome (live_at o id) → IsSome (live_at mapped id)
    is_mapped id some = ap (λ (found : Option LiveEntity). is_some found) (at_mapped id) ∙ some_mapped (live_at o id) some

    named : (test : EntityData → Bool) (name : List ℕ) (e : LiveEntity) → is_one_named test name (g e) ≡ is_one_named test name e
    named test name e = rw (keeps.what e, keeps.name e) refl

    none_mapped : (test : EntityData → Bool) (name : List ℕ) → find (is_one_named test name) o.live ≡ None → find (is_one_named test name) mapped.live ≡ None
    none_mapped test name none = find_mapped (is_one_named test name) g o.live (named test name) ∙ ap (option_map g) none

    entries_mapped : (id : Id) → entry_count mapped id ≡ entry_count o id
    entries_mapped id = count_mapped (λ (e : LiveEntity). is_entry id e.what) g o.live (λ e. ap (is_entry id) (keeps.what e))

    cred_mapped : (id : Id) → cred_at mapped id ≡ cred_at o id
    cred_mapped id = ap (λ (found : Option LiveEntity). option_map_or (λ (e : LiveEntity). cred_of e.what) found no_cred) (at_mapped id) ∙ read_mapped cred_of no_cred (live_at o id)

    file_mapped : (id : Id) → file_at mapped id ≡ file_at o id
    file_mapped id = ap (λ (found : Option LiveEntity). option_map_or (λ (e : LiveEntity). file_of e.what) found no_file) (at_mapped id) ∙ read_mapped file_of no_file (live_at o id)

    pub fds_mapped : (id : Id) → fds_at mapped id ≡ fds_at o id
    fds_mapped id = ap (λ (found : Option LiveEntity). option_map_or (λ (e : LiveEntity). fds_of e.what) found []) (at_mapped id) ∙ read_mapped fds_of [] (live_at o id)

    free_mapped : (what : EntityData) (name : List ℕ) → IsFree o what name → IsFree mapped what name
    free_mapped (Process process) name free = none_mapped _ name free
    free_mapped (Vnode vnode) name free = by_parent vnode.parent free
      where
        by_parent : (parent : Option Id) → IfSome parent (λ dir. IsLive is_directory o dir × (find (is_one_named (is_entry dir) name) o.live ≡ None))
            → IfSome parent (λ dir. IsLive is_directory mapped dir × (find (is_one_named (is_entry dir) name) mapped.live ≡ None))
        by_parent None free = tt
        by_parent (Some dir) free = (live_mapped is_directory dir free.0, none_mapped (is_entry dir) name free.1)
    free_mapped (Pipe pipe) name free = none_mapped _ name free
    free_mapped (Socket socket) name free = none_mapped _ name free

  -- What suits an effect

  module _ (s : State) where
    abbrev pub relabelled_alone : State
    relabelled_alone = with_objects s (record s.objects { live = map g s.objects.live })

    -- The table.
    pub still_suits : (e : Effect) → Suits s e → Suits relabelled_alone e
    still_suits (Make name what) suits =
        record {
          few = subst (λ (n : ℕ). n < MOST_ENTITIES) (sym (length-map s.objects.live g)) suits.few;
          free = free_mapped s.objects what name suits.free;
        }
    still_suits (Append id text) suits = holds_mapped s.objects _ id suits
    still_suits (Deliver id text) suits = holds_mapped s.objects _ id suits
    still_suits (Empty id) suits = live_mapped s.objects _ id suits
    still_suits (Receive id) suits = holds_mapped s.objects _ id suits
    still_suits (SetMode id mode) suits = live_mapped s.objects _ id suits
    still_suits (Open id fd) suits =
        record {
          process = live_mapped s.objects _ id suits.process;
          few = subst (λ (fds : List Fd). length fds < MOST_DESCRIPTORS) (sym (fds_mapped s.objects id)) suits.few;
          number = suits.number ∙ ap lowest_free (sym (fds_mapped s.objects id));
          file = live_mapped s.objects _ fd.file suits.file;
        }
    still_suits (Close id n) suits =
        record {
          process = live_mapped s.objects _ id suits.process;
          is_open = ap (λ (fds : List Fd). is_some (fd_in fds n)) (fds_mapped s.objects id) ∙ suits.is_open;
        }
    still_suits (Unlink id) suits =
        record {
          vnode = live_mapped s.objects _ id suits.vnode;
          not_root = suits.not_root;
          empty = entries_mapped s.objects id ∙ suits.empty;
        }
    still_suits (Relabel id request) suits = is_mapped s.objects id suits
    still_suits (Load m) suits = suits
    still_suits (Unload m) suits = suits
    still_suits other suits = tt

    -- effects look at credentials, attributes and descriptors alone
    pub effect_same : (task : List ℕ) (me : Id) (opening : Opening) (c : Call) (found : Option Id) (asked : Option Request)
        → effect_found relabelled_alone task me opening c found asked ≡ effect_found s task me opening c found asked
    effect_same task me opening call.Exit found asked = refl
    effect_same task me opening other found asked = first_of (assumption, simp (cred_mapped s.objects me, file_mapped s.objects, fds_mapped s.objects me))
