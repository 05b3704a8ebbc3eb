-- The opening state of a well-formed script is within the bounds.
use Rattle.std.proofs.Common.{◌≡◌, ℕ, ◌+◌, ◌<◌, ◌≤◌, ◌^◌, false, List, [], ◌∷◌, length, take, Option, Some, None, slice_index_or, refl, ap, arith}
use Rattle.std.specs.Prelude.{All, fold}
use Rattle.std.specs.List.{AllByRecursion}
use Rattle.std.proofs.lemmas.List.{length-append, take_all}
use Rattle.mf_core.proofs.LookedUp.{root_alone, with_task_at}
use Rattle.mf_errno.specs.declared.module.Module.{Module}
use Rattle.mf_errno.specs.declared.module.Module.TheVariants as modules
use Rattle.mf_elem.specs.Bounds.{IsRequest}
use Rattle.mf_elem.specs.Label.{no_request}
use Rattle.mf_elem.specs.declared.label.LabelValue.{LabelValue}
use Rattle.mf_elem.specs.declared.label.Request.{Request}
use Rattle.mf_elem.specs.declared.label.TheConstants.{SLOTS}
use Rattle.mf_item.specs.declared.view.Kind.TheVariants as kinds
use Rattle.mf_policy.specs.declared.labels.Origin.TheVariants.{Boot}
use Rattle.mf_policy.specs.NewLabels.{new_label}
use Rattle.mf_policy.specs.Registration.{Entry, given_after, with_newest, with_registered}
use Rattle.mf_policy.specs.declared.settings.Change.TheVariants.{Revocation}
use Rattle.mf_names.specs.declared.limits.TheConstants.{CONTENT_LIMIT}
use Rattle.mf_objects.specs.declared.limits.TheConstants.{MOST_ENTITIES}
use Rattle.mf_objects.specs.declared.id.Id.{Id}
use Rattle.mf_objects.specs.declared.entity.EntityData.{EntityData}
use Rattle.mf_objects.specs.Live.{LiveEntity, Entities, kind_of}
use Rattle.mf_objects.specs.Changes.{made, new_process, new_vnode, with_entity}
use Rattle.mf_objects.proofs.Shorthands.{root_entity}
use Rattle.mf_cred.specs.declared.cred.Cred.{Cred}
use Rattle.mf_calls.specs.declared.limits.TheConstants.{UID_MAX}
use Rattle.mf_calls.specs.WellFormed.{IsFormedCred, IsFormedFile, IsFormedTask, IsWellFormed}
use Rattle.mf_calls.specs.declared.script.FileLine.{FileLine}
use Rattle.mf_calls.specs.declared.script.Script.{Script}
use Rattle.mf_calls.specs.declared.script.Task.{Task}
use Rattle.mf_calls.proofs.FewBoots.{few_given}
use Rattle.mf_plan.specs.declared.target.Target.{Target}
use Rattle.mf_plan.specs.declared.target.Target.TheVariants.{Root, Name, Nowhere}
use Rattle.mf_plan.specs.Path.{last_name, lookup_along}
use Rattle.mf_plan.specs.Views.{process_named}
use Rattle.mf_core.specs.Opening.{booted_specs, boots_of, opening_objects, opening_state, registrations_from, with_file, with_file_at, with_task}
use Rattle.mf_core.proofs.Booted.{booted_once}
use Rattle.mf_lifetimes.proofs.Boots.{boots_below, boots_single}
use Rattle.mf_lifetimes.proofs.Listing.{AllBelow, AtMostOne, all_newest, newest}
use Rattle.mf_reading.proofs.Bounded.{AllFit, AreBounded, AreListed, IsBoundedCred, IsBoundedData, IsBoundedSpec, IsBoundedState, IsNamed, IsSlotted, IsUnsetFrom}
use Rattle.mf_reading.proofs.Contents.{no_cred_fits, no_text}
use Rattle.mf_reading.proofs.Effects.{last_component}
use Rattle.mf_reading.proofs.Holding.{added_bounded}
use Rattle.mf_reading.proofs.Labelled.{booted_fit, new_unset}
use Rattle.mf_reading.proofs.Listed.{new_slotted}
use Rattle.mf_lifetimes.proofs.Files.{all_push}
use Rattle.mf_lifetimes.proofs.Settings.{all_changed}
use Rattle.mf_reading.proofs.Lists.{by_place}
use Rattle.mf_reading.proofs.Rules.{fresh_bounded, specs_changed}

-- Policies

-- what is so of each registration at boot
all_booted : (P : Entry → Type 0) → ((m : Module) (given : ℕ) → P (newest m false given)) → (ms : List Module) (specs : List Entry) (given : ℕ) → AllByRecursion P specs
    → AllByRecursion P (fold with_registered specs (registrations_from given ms))
all_booted P each [] specs given all = all
all_booted P each (m ∷ ms) specs given all =
    all_booted P each ms (with_newest (newest m false given) specs) (given_after given m) (all_newest P (newest m false given) specs (each m given) all)

-- the policies as their modules bring them, before the tunable is set
abbrev registered : Script → List Entry
registered s = fold with_registered [] (boots_of s)

whole : (boots : List Module) → take (length boots) boots ≡ boots
whole boots = take_all (length boots) boots (omega arith)

few_numbers : (s : Script) → IsWellFormed s → fold given_after 0 s.boots ≤ SLOTS
few_numbers s formed =
    let few : fold given_after 0 (take (length s.boots) s.boots) ≤ 4 = few_given s.boots (length s.boots) formed.boots in
    omega (arith, few, ap (fold given_after 0) (whole s.boots))

opening_listed : (s : Script) → IsWellFormed s → AreListed (opening_state s)
opening_listed s formed = record {
  booted = refl;
  given = few_numbers s formed;
  below = boots_below s;
  single = boots_single s;
  slotted = all_changed IsSlotted modules.Biba (Revocation s.revocation) (registered s)
      (all_booted (λ entry. IsSlotted entry.0) (λ m given. new_slotted m false given) s.boots [] 0 tt);
}

-- Entities

first_group : (groups : List ℕ) → All (λ group. group ≤ UID_MAX) groups → slice_index_or groups 0 0 < 2 ^ 32
first_group [] each = omega arith
first_group (group ∷ groups) each = omega (arith, each 0 group (omega arith))

formed_cred : (cred : Cred) → IsFormedCred cred → IsBoundedCred cred
formed_cred cred formed = record {
  uid = omega (arith, formed.fits);
  seen = record { uid = omega (arith, formed.real, formed.fits); gid = first_group cred.groups formed.each; mode = omega arith };
}

module _ (listed : List Entry) (given : ℕ) (few : given ≤ SLOTS) (below : AllBelow given listed) (single : (slot : ℕ) → AtMostOne slot listed) where
  -- what is made so far: so many entities at most
  record IsOpened (n : ℕ) (o : Entities) : Type 0 where
    bounded : AreBounded o
    count : length o.live ≤ n
    fit : AllByRecursion (λ e. AllFit listed e.label) o.live
    unset : AllByRecursion (λ e. IsUnsetFrom given e.label) o.live

  weaker : (n m : ℕ) (o : Entities) → n ≤ m → IsOpened n o → IsOpened m o
  weaker n m o more opened = record { bounded = opened.bounded; count = omega (arith, more, opened.count); fit = opened.fit; unset = opened.unset }

  opened_more : (n : ℕ) (o : Entities) (name : List ℕ) (request : Request) (what : EntityData) → n < MOST_ENTITIES → IsRequest request → IsBoundedData what → IsNamed name what
      → IsOpened n o → IsOpened (n + 1) (with_entity o name (new_label listed (kind_of what) (Boot request)) what)
  opened_more n o name request what room asked held named opened =
      let label : List LabelValue = new_label listed (kind_of what) (Boot request) in
      let new : LiveEntity = made o name label what in
      record {
        bounded = added_bounded o name label what (omega (arith, room, opened.count)) held named opened.bounded;
        count = omega (arith, length-append o.live (new ∷ []), opened.count);
        fit = all_push (λ (e : LiveEntity). AllFit listed e.label) o.live new opened.fit (booted_fit listed given few below single (kind_of what) request asked);
        unset = all_push (λ (e : LiveEntity). IsUnsetFrom given e.label) o.live new opened.unset (new_unset listed given few below single (kind_of what) (Boot request));
      }

  root_data : IsBoundedData (root_entity (new_label listed kinds.Vnode (Boot no_request))).what
  root_data = record {
    content = no_text CONTENT_LIMIT;
    messages = tt;
    file = record { uid = omega arith; gid = omega arith; mode = omega arith };
    cred = no_cred_fits;
  }

  root_opened : IsOpened 1 (root_alone listed)
  root_opened = record {
    bounded = record {
      rising = (omega arith, omega arith);
      rooted = (refl, record { entry = λ dir. refl; kind = refl });
      few = omega arith;
      each = (record { held = root_data; named = λ dir entry. cc }, tt);
    };
    count = omega arith;
    fit = (booted_fit listed given few below single kinds.Vnode no_request (record { biba = tt; mls = tt; lomac = tt; partition = tt }), tt);
    unset = (new_unset listed given few below single kinds.Vnode (Boot no_request), tt);
  }

  file_opened : (boots : List Module) (n : ℕ) (o : Entities) (f : FileLine) (target : Target) → (lookup_along o f.path).target ≡ target → IsFormedFile boots f → n < MOST_ENTITIES
      → IsOpened n o → IsOpened (n + 1) (with_file_at listed o f target)
  file_opened boots n o f (Name dir None) is formed room opened =
      opened_more n o (last_name f.path) f.label (new_vnode dir f.file f.text) room formed.label.spelled
      (record {
        content = formed.text;
        messages = tt;
        file = record { uid = omega (arith, formed.uid); gid = omega (arith, formed.gid); mode = omega (arith, formed.mode) };
        cred = no_cred_fits;
      })
      (λ at entry. last_component o f.path dir is formed.path.each) opened
  file_opened boots n o f (Name dir (Some id)) is formed room opened = weaker n (n + 1) o (omega arith) opened
  file_opened boots n o f Root is formed room opened = weaker n (n + 1) o (omega arith) opened
  file_opened boots n o f (Nowhere errno) is formed room opened = weaker n (n + 1) o (omega arith) opened

  files_opened : (boots : List Module) (n : ℕ) (o : Entities) (files : List FileLine) → AllByRecursion (IsFormedFile boots) files → n + length files ≤ MOST_ENTITIES
      → IsOpened n o → IsOpened (n + length files) (fold (with_file listed) o files)
  files_opened boots n o [] formed room opened = weaker n (n + 0) o (omega arith) opened
  files_opened boots n o (f ∷ files) formed room opened =
      weaker (n + 1 + length files) (n + length (f ∷ files)) (fold (with_file listed) (with_file listed o f) files) (omega arith)
      (files_opened boots (n + 1) (with_file listed o f) files formed.1 (omega (arith, room))
      (file_opened boots n o f (lookup_along o f.path).target refl formed.0 (omega (arith, room)) opened))

  task_opened : (boots : List Module) (n : ℕ) (o : Entities) (t : Task) (found : Option Id) → IsFormedTask boots t → n < MOST_ENTITIES
      → IsOpened n o → IsOpened (n + 1) (with_task_at listed o t found)
  task_opened boots n o t None formed room opened =
      opened_more n o t.name t.label (new_process t.cred) room formed.label.spelled
      (let cred = formed_cred t.cred formed.cred in record { content = no_text CONTENT_LIMIT; messages = tt; file = cred.seen; cred = cred })
      (λ dir entry. cc) opened
  task_opened boots n o t (Some id) formed room opened = weaker n (n + 1) o (omega arith) opened

  tasks_opened : (boots : List Module) (n : ℕ) (o : Entities) (tasks : List Task) → AllByRecursion (IsFormedTask boots) tasks → n + length tasks ≤ MOST_ENTITIES
      → IsOpened n o → IsOpened (n + length tasks) (fold (with_task listed) o tasks)
  tasks_opened boots n o [] formed room opened = weaker n (n + 0) o (omega arith) opened
  tasks_opened boots n o (t ∷ tasks) formed room opened =
      weaker (n + 1 + length tasks) (n + length (t ∷ tasks)) (fold (with_task listed) (with_task listed o t) tasks) (omega arith)
      (tasks_opened boots (n + 1) (with_task listed o t) tasks formed.1 (omega (arith, room))
      (task_opened boots n o t (process_named o t.name) formed.0 (omega (arith, room)) opened))

  all_opened : (s : Script) → IsWellFormed s → IsOpened (1 + length s.files + length s.tasks) (opening_objects listed s)
  all_opened s formed =
      tasks_opened s.boots (1 + length s.files) (fold (with_file listed) (root_alone listed) s.files) s.tasks
      (by_place (IsFormedTask s.boots) s.tasks formed.each_task) (omega (arith, formed.files, formed.tasks))
      (files_opened s.boots 1 (root_alone listed) s.files (by_place (IsFormedFile s.boots) s.files formed.each_file) (omega (arith, formed.files)) root_opened)

pub opening_bounded : (s : Script) → IsWellFormed s → IsBoundedState (opening_state s)
opening_bounded s formed =
    let listed = opening_listed s formed in
    let opened = all_opened (booted_specs s) (fold given_after 0 s.boots) listed.given listed.below listed.single s formed in
    record {
      holds = record {
        objects = opened.bounded;
        specs = specs_changed modules.Biba (Revocation s.revocation) (registered s) tt
            (all_booted (λ entry. IsBoundedSpec entry.1) (λ m given. fresh_bounded m) s.boots [] 0 tt);
      };
      listed = listed;
      once = booted_once s formed;
      labelled = record { fit = opened.fit; unset = opened.unset };
    }
