-- The entities of the opening state.
use Rattle.std.proofs.Common.{◌≡◌, ℕ, Bool, true, false, cond, List, [], ◌∷◌, ◌++◌, Option, Some, None, get_or, refl, sym, ◌∙◌, subst, arith}
use Rattle.std.specs.Prelude.{find, fold, IfSome}
use Rattle.std.specs.List.{AllByRecursion}
use Rattle.mf_core.proofs.LookedUp.{root_alone, with_task_at}
use Rattle.mf_elem.specs.declared.label.Request.{Request}
use Rattle.mf_elem.specs.Label.{no_request}
use Rattle.mf_item.specs.declared.view.Kind.TheVariants as kinds
use Rattle.mf_policy.specs.declared.labels.Origin.TheVariants.{Boot}
use Rattle.mf_policy.specs.NewLabels.{new_label}
use Rattle.mf_policy.specs.Registration.{Entry}
use Rattle.mf_objects.specs.declared.id.Id.{Id}
use Rattle.mf_objects.specs.declared.entity.EntityData.{EntityData}
use Rattle.mf_objects.specs.Live.{LiveEntity, Entities, has_id, kind_of, live_at}
use Rattle.mf_objects.specs.Changes.{made, with_entity, new_process, new_vnode}
use Rattle.mf_objects.proofs.Shorthands.{root_entity}
use Rattle.mf_objects.proofs.Rising.{rising_push, id_is, id_differs}
use Rattle.mf_calls.specs.declared.script.Task.{Task}
use Rattle.mf_calls.specs.declared.script.FileLine.{FileLine}
use Rattle.mf_calls.specs.declared.script.Script.{Script}
use Rattle.mf_calls.specs.WellFormed.{IsWellFormed}
use Rattle.mf_plan.specs.declared.target.Target.{Target}
use Rattle.mf_plan.specs.declared.target.Target.TheVariants.{Root, Name, Nowhere}
use Rattle.mf_plan.specs.Path.{last_name, lookup_along, root}
use Rattle.mf_plan.specs.Views.{process_named}
use Rattle.mf_core.specs.Opening.{with_file_at, with_file, with_task, booted_specs, opening_objects}
use Rattle.mf_objects.proofs.Finding.{find_push_miss, find_push_hit, find_beyond}
use Rattle.mf_perform.proofs.Rooted.{IsRooted}
use Rattle.mf_lifetimes.proofs.Asked.{AllLetAsk, booted_let, let_nothing}
use Rattle.mf_lifetimes.proofs.Files.{by_place}

-- an entity with the label that the policies give it for what the script asks, as they let it
pub record IsBooted (listed : List Entry) (e : LiveEntity) : Type 0 where
  pub request : Request
  pub label : e.label ≡ new_label listed (kind_of e.what) (Boot request)
  pub let_ask : AllLetAsk (kind_of e.what) request listed

pub record AreBooted (listed : List Entry) (o : Entities) : Type 0 where
  pub rooted : IsRooted o
  pub each : (id : Id) (e : LiveEntity) → live_at o id ≡ Some e → IsBooted listed e

push_booted : (listed : List Entry) (o : Entities) (name : List ℕ) (request : Request) (what : EntityData) → AllLetAsk (kind_of what) request listed → AreBooted listed o
    → AreBooted listed (with_entity o name (new_label listed (kind_of what) (Boot request)) what)
push_booted listed o name request what let_ask booted =
    record {
      rooted = record {
        rising = rising_push 0 o.next o.live new refl booted.rooted.rising;
        given = omega (arith, booted.rooted.given);
        vnode = subst (λ (found : Option LiveEntity). IfSome found (λ e. kind_of e.what ≡ kinds.Vnode)) (sym (find_push_miss (has_id root) o.live new other)) booted.rooted.vnode;
      };
      each = λ id e found. one id e (has_id id new) refl found;
    }
  where
    new : LiveEntity
    new = made o name (new_label listed (kind_of what) (Boot request)) what

    other : has_id root new ≡ false
    other = id_differs root new (λ same. omega (arith, same, booted.rooted.given))

    one : (id : Id) (e : LiveEntity) (b : Bool) → has_id id new ≡ b → find (has_id id) (o.live ++ new ∷ []) ≡ Some e → IsBooted listed e
    one id e true hit found =
        let next : o.next ≡ id.0 = id_is id new hit in
        let there : find (has_id id) (o.live ++ new ∷ []) ≡ Some new = find_push_hit (has_id id) o.live new (find_beyond id 0 o.next o.live (omega arith) booted.rooted.rising) hit in
        let is : new ≡ e = cc in
        subst (IsBooted listed) is (record { request = request; label = refl; let_ask = let_ask })
    one id e false miss found = booted.each id e (sym (find_push_miss (has_id id) o.live new miss) ∙ found)

root_booted : (listed : List Entry) → AreBooted listed (root_alone listed)
root_booted listed =
    record {
      rooted = record { rising = (omega arith, omega arith); given = omega arith; vnode = refl };
      each = λ id e found. one id e (has_id id top) found;
    }
  where
    top : LiveEntity
    top = root_entity (new_label listed kinds.Vnode (Boot no_request))

    one : (id : Id) (e : LiveEntity) (b : Bool) → cond b (Some top) None ≡ Some e → IsBooted listed e
    one id e true found =
        let is : top ≡ e = cc in
        subst (IsBooted listed) is (record { request = no_request; label = refl; let_ask = let_nothing listed })
    one id e false found = cc

file_booted : (listed : List Entry) (o : Entities) (f : FileLine) (target : Target) → AllLetAsk kinds.Vnode f.label listed → AreBooted listed o → AreBooted listed (with_file_at listed o f target)
file_booted listed o f (Name dir None) let_ask booted = push_booted listed o (last_name f.path) f.label (new_vnode dir f.file f.text) let_ask booted
file_booted listed o f (Name dir (Some id)) let_ask booted = booted
file_booted listed o f Root let_ask booted = booted
file_booted listed o f (Nowhere errno) let_ask booted = booted

files_booted : (listed : List Entry) (o : Entities) (fs : List FileLine) → AllByRecursion (λ f. AllLetAsk kinds.Vnode f.label listed) fs → AreBooted listed o → AreBooted listed (fold (with_file listed) o fs)
files_booted listed o [] let_ask booted = booted
files_booted listed o (f ∷ fs) let_ask booted =
    files_booted listed (with_file listed o f) fs let_ask.1 (file_booted listed o f (lookup_along o f.path).target let_ask.0 booted)

task_booted : (listed : List Entry) (o : Entities) (t : Task) (found : Option Id) → AllLetAsk kinds.Process t.label listed → AreBooted listed o → AreBooted listed (with_task_at listed o t found)
task_booted listed o t None let_ask booted = push_booted listed o t.name t.label (new_process t.cred) let_ask booted
task_booted listed o t (Some id) let_ask booted = booted

tasks_booted : (listed : List Entry) (o : Entities) (ts : List Task) → AllByRecursion (λ t. AllLetAsk kinds.Process t.label listed) ts → AreBooted listed o → AreBooted listed (fold (with_task listed) o ts)
tasks_booted listed o [] let_ask booted = booted
tasks_booted listed o (t ∷ ts) let_ask booted =
    tasks_booted listed (with_task listed o t) ts let_ask.1 (task_booted listed o t (process_named o t.name) let_ask.0 booted)

pub opening_booted : (s : Script) → IsWellFormed s → AreBooted (booted_specs s) (opening_objects (booted_specs s) s)
opening_booted s formed =
    let listed : List Entry = booted_specs s in
    let files : AllByRecursion (λ f. AllLetAsk kinds.Vnode f.label listed) s.files =
    by_place (λ f. AllLetAsk kinds.Vnode f.label listed) s.files (λ k d within. booted_let s kinds.Vnode (get_or s.files k d).label (formed.each_file k d within).label) in
    let tasks : AllByRecursion (λ t. AllLetAsk kinds.Process t.label listed) s.tasks =
    by_place (λ t. AllLetAsk kinds.Process t.label listed) s.tasks (λ k d within. booted_let s kinds.Process (get_or s.tasks k d).label (formed.each_task k d within).label) in
    tasks_booted listed (fold (with_file listed) (root_alone listed) s.files) s.tasks tasks
    (files_booted listed (root_alone listed) s.files files (root_booted listed))
