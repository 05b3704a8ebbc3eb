-- What a call changes, where it is done, stays within the bounds: by the effect, and by the call what the effect needs.
use Rattle.std.proofs.Common.{◌≡◌, ℕ, ◌+◌, ◌<◌, ◌≤◌, ◌^◌, Bool, true, false, List, [], ◌∷◌, length, drop, Option, Some, None, Result, Ok, Err, refl, ap, sym, subst, arith}
use Rattle.std.specs.Prelude.{All, IfSome, ◌||◌, if◌then◌else◌, nat_eq, nat_le, not, slice_set}
use Rattle.std.specs.List.{AllByRecursion}
use Rattle.std.proofs.lemmas.List.{length-map}
use Rattle.std.proofs.lemmas.Bool.{leb-false, ltb-false}
use Rattle.std.specs.Option.{ok_or}
use Rattle.mf_errno.specs.declared.errno.Errno.{Errno}
use Rattle.mf_errno.specs.declared.errno.Errno.TheVariants as errno
use Rattle.mf_errno.specs.declared.module.Module.{Module}
use Rattle.mf_errno.specs.declared.module.Module.TheVariants as modules
use Rattle.mf_cred.specs.declared.cred.TheConstants.{FILE_MODE, DIRECTORY_MODE}
use Rattle.mf_elem.specs.declared.label.LabelValue.{LabelValue}
use Rattle.mf_item.specs.Item.{Item}
use Rattle.mf_policy.specs.Lowering.{after_checks}
use Rattle.mf_policy.specs.declared.labels.Origin.TheVariants.{Maker}
use Rattle.mf_policy.specs.declared.settings.Change.{Change}
use Rattle.mf_policy.specs.declared.settings.Change.TheVariants.{RuleAdd, RuleSet, RuleRemove}
use Rattle.mf_policy.specs.NewLabels.{new_label}
use Rattle.mf_policy.specs.Modules.{fresh_of}
use Rattle.mf_policy.specs.Relabelled.{relabelled}
use Rattle.mf_policy.specs.Registration.{is_listed, registration_of}
use Rattle.mf_names.specs.declared.limits.TheConstants.{CONTENT_LIMIT, SCRIPT_LIMIT}
use Rattle.mf_objects.specs.declared.limits.TheConstants.{MOST_ENTITIES, PIPE_LIMIT}
use Rattle.mf_objects.specs.declared.id.Id.{Id}
use Rattle.mf_objects.specs.declared.entity.EntityData.{EntityData}
use Rattle.mf_objects.specs.Live.{LiveEntity, Entities, content_at, content_of, cred_at, has_id, kind_of, label_at, live_at, value_in}
use Rattle.mf_objects.proofs.Entities.{changed_at}
use Rattle.mf_objects.proofs.Shorthands.{reading}
use Rattle.mf_objects.specs.Changes.{appended, cleared, goes_with, new_pipe, new_process, new_socket, new_vnode, with_change, with_message, with_messages, with_mode, with_what, without}
use Rattle.mf_objects.specs.Descriptors.{closed, opened, with_fds}
use Rattle.mf_objects.specs.Labels.{with_value}
use Rattle.mf_calls.specs.declared.script.Call.{Call}
use Rattle.mf_calls.specs.declared.script.Call.TheVariants as call
use Rattle.mf_calls.specs.Names.{is_component}
use Rattle.mf_calls.specs.declared.limits.TheConstants.{MODE_LIMIT}
use Rattle.mf_calls.specs.WellFormed.{IsFormedCall, IsPath, IsText}
use Rattle.mf_plan.specs.declared.plan.Tail.{Tail}
use Rattle.mf_plan.specs.declared.plan.Tail.TheVariants.{Do, Refuse}
use Rattle.mf_plan.specs.declared.state.State.{State}
use Rattle.mf_plan.specs.declared.target.Target.{Target}
use Rattle.mf_plan.specs.declared.target.Target.TheVariants.{Root, Name, Nowhere}
use Rattle.mf_plan.specs.Path.{entry_at, free_at, last_name, lookup_along, lookup_from, root}
use Rattle.mf_plan.specs.Effect.{Effect}
use Rattle.mf_plan.specs.Effect.Effect.{Unchanged, Make, Append, Deliver, Empty, Receive, SetMode, Open, Close, Unlink, End, Relabel, Load, Unload, Set}
use Rattle.mf_plan.specs.Plan.{row_for}
use Rattle.mf_plan.specs.Row.{Row, through}
use Rattle.mf_plan.specs.Rows.{about_of, makes_file, new_file}
use Rattle.mf_plan.specs.Settings.{is_tunable, owner_named}
use Rattle.mf_plan.specs.Ways.{At, way_to}
use Rattle.mf_plan.specs.Ways.Place.{Free}
use Rattle.mf_plan.specs.Views.{is_dir, overfills, process_named}
use Rattle.mf_plan.proofs.LookingUp.{last_entry}
use Rattle.mf_plan.proofs.Finding.{row_by}
use Rattle.mf_perform.specs.Effect.{after, with_data, with_objects}
use Rattle.mf_perform.proofs.Observing.{Observing}
use Rattle.mf_perform.proofs.Observing.Observing.{kept, lowers}
use Rattle.mf_perform.proofs.StateChange.{performed_by}
use Rattle.mf_lifetimes.proofs.Listing.{all_newest, all_without}
use Rattle.mf_reading.proofs.Bounded.{AreBounded, HoldsBounded, IsBoundedData, IsBoundedSpec, IsNamed}
use Rattle.mf_reading.proofs.Contents.{cred_fits, file_fits, no_cred_fits, no_file_fits, no_text}
use Rattle.mf_reading.proofs.Holding.{HasRoom, Keeps, KeepsFirst, added_bounded, appending, changed_bounded, clearing, describing, entry_goes, first_lowered, held_lowered, moding, process_goes, receiving, relabelling, removed_bounded, sending, unlinked_bounded}
use Rattle.mf_reading.proofs.Lists.{by_place}
use Rattle.mf_reading.proofs.Rules.{IsFormedChange, asked_formed, asked_named, fresh_bounded, specs_changed}
use Rattle.mf_text.specs.Results.{and_then}

-- Names at the end of a path

last_of : (name : List ℕ) (names : List (List ℕ)) → AllByRecursion (λ n. is_component n ≡ true) (name ∷ names) → is_component (last_name (name ∷ names)) ≡ true
last_of name [] all = all.0
last_of name (below ∷ names) all = last_of below names all.1

-- where a path leads to a free name, that is a component
pub last_component : (o : Entities) (path : List (List ℕ)) (dir : Id) → (lookup_along o path).target ≡ Name dir None → All (λ n. is_component n ≡ true) path
    → is_component (last_name path) ≡ true
unfolding lookup_from
last_component o [] dir is all = cc
last_component o (name ∷ names) dir is all = last_of name names (by_place (λ n. is_component n ≡ true) (name ∷ names) all)

-- What is made

process_data : (o : Entities) (id : Id) → AreBounded o → IsBoundedData (new_process (cred_at o id))
process_data o id bounded =
    let cred = cred_fits o id bounded in
    record { content = no_text CONTENT_LIMIT; messages = tt; file = cred.seen; cred = cred }

file_data : (o : Entities) (maker dir : Id) (mode : ℕ) (is_dir : Bool) → mode < 2 ^ 16 → AreBounded o → IsBoundedData (new_vnode dir (new_file o maker dir mode is_dir) [])
file_data o maker dir mode is_dir fits bounded =
    record {
      content = no_text CONTENT_LIMIT;
      messages = tt;
      file = record { uid = (cred_fits o maker bounded).uid; gid = (file_fits o dir bounded).gid; mode = fits };
      cred = no_cred_fits;
    }

pipe_data : (maker : Id) → IsBoundedData (new_pipe maker)
pipe_data maker = record { content = no_text CONTENT_LIMIT; messages = tt; file = no_file_fits; cred = no_cred_fits }

socket_data : (maker : Id) → IsBoundedData (new_socket maker)
socket_data maker = record { content = no_text CONTENT_LIMIT; messages = tt; file = no_file_fits; cred = no_cred_fits }

-- What a path leads to

free_target : (target : Target) (dir : Id) → free_at target ≡ Ok dir → target ≡ Name dir None
free_target Root dir is = cc
free_target (Name d None) dir is = cc
free_target (Name d (Some id)) dir is = cc
free_target (Nowhere e) dir is = cc

entry_target : (target : Target) (entry : Id × Id) → entry_at target ≡ Ok entry → target ≡ Name entry.0 (Some entry.1)
entry_target Root entry is = cc
entry_target (Name d None) entry is = cc
entry_target (Name d (Some id)) entry is = cc
entry_target (Nowhere e) entry is = cc

-- a test of the framework didn't refuse
passed : (test : Bool) (e : Errno) (rest : Tail) → (if test then Refuse e else rest) ≡ Do → (test ≡ false) × (rest ≡ Do)
passed true e rest done = cc
passed false e rest done = (refl, done)

-- The table: what an effect needs, so that the state stays within the bounds.
abbrev Fits : Entities → Effect → Type 0
Fits o (Make name what) = (length o.live < MOST_ENTITIES) × IsBoundedData what × IsNamed name what
Fits o (Append id text) = IsText SCRIPT_LIMIT text × ((e : LiveEntity) → live_at o id ≡ Some e → HasRoom text e.what)
Fits o (Deliver id text) = IsText SCRIPT_LIMIT text
Fits o (SetMode id mode) = mode ≤ MODE_LIMIT
Fits o (Unlink id) = KeepsFirst (has_id id) o.live
Fits o (End id) = KeepsFirst (goes_with id) o.live
Fits o (Set m change) = IsFormedChange change
Fits o other = Unit {0}

-- what suits an effect suits it after checks that passed, which change a label alone

module _ (o : Entities) (slot : ℕ) (value : LabelValue) (me : Id) where
  fits_lowered : (effect : Effect) → Fits o effect → Fits (with_change (with_value slot value) o me) effect
  fits_lowered (Make name what) fits = (omega (arith, length-map o.live (changed_at (with_value slot value) me), fits.0), fits.1, fits.2)
  fits_lowered (Append id text) fits = (fits.0, held_lowered slot value me (HasRoom text) o id fits.1)
  fits_lowered (Deliver id text) fits = fits
  fits_lowered (SetMode id mode) fits = fits
  fits_lowered (Unlink id) fits = first_lowered slot value me (has_id id) (λ e. refl) o.live fits
  fits_lowered (End id) fits = first_lowered slot value me (goes_with id) (λ e. refl) o.live fits
  fits_lowered (Set m change) fits = fits
  fits_lowered other fits = tt

fits_observed : {caller : Option Id} {checks : List Item} (s now : State) → Observing caller checks s now → (effect : Effect) → Fits s.objects effect
    → Fits now.objects effect
fits_observed s now (kept is) effect fits = subst (λ (x : State). Fits x.objects effect) (sym is) fits
fits_observed {checks = checks} s now (lowers slot me e lomac caller live process sees is) effect fits =
    subst (λ (x : State). Fits x.objects effect) (sym is) (fits_lowered s.objects slot (after_checks slot (value_in slot e) checks) me effect fits)

-- What is done

module _ (s : State) (holds : HoldsBounded s) where
  changed_holds : (change : EntityData → EntityData) (may : EntityData → Type 0) (id : Id) → Keeps (with_what change) may
      → ((e : LiveEntity) → live_at s.objects id ≡ Some e → may e.what) → HoldsBounded (with_data s id change)
  changed_holds change may id keeps allowed = record { objects = changed_bounded s.objects holds.objects (with_what change) may keeps id allowed; specs = holds.specs }

  removed_holds : (gone : LiveEntity → Bool) → KeepsFirst gone s.objects.live → HoldsBounded (with_objects s (without gone s.objects))
  removed_holds gone keeps = record { objects = removed_bounded s.objects gone keeps holds.objects; specs = holds.specs }

  effect_holds : (me : Id) (effect : Effect) → Fits s.objects effect → HoldsBounded (after s me effect)
  effect_holds me Unchanged fits = holds
  effect_holds me (Make name what) fits = record {
    objects = added_bounded s.objects name (new_label s.specs (kind_of what) (Maker (label_at s.objects me))) what fits.0 fits.1 fits.2 holds.objects;
    specs = holds.specs;
  }
  effect_holds me (Append id text) fits = changed_holds (appended text) (HasRoom text) id (appending text fits.0) fits.1
  effect_holds me (Deliver id text) fits = changed_holds (with_messages (with_message text)) (λ w. Unit {0}) id (sending text fits) (λ e live. tt)
  effect_holds me (Empty id) fits = changed_holds cleared (λ w. Unit {0}) id clearing (λ e live. tt)
  effect_holds me (Receive id) fits = changed_holds (with_messages (drop 1)) (λ w. Unit {0}) id receiving (λ e live. tt)
  effect_holds me (SetMode id mode) fits = changed_holds (with_mode mode) (λ w. Unit {0}) id (moding mode fits) (λ e live. tt)
  effect_holds me (Open id fd) fits = changed_holds (with_fds (opened fd)) (λ w. Unit {0}) id (describing (opened fd)) (λ e live. tt)
  effect_holds me (Close id n) fits = changed_holds (with_fds (closed n)) (λ w. Unit {0}) id (describing (closed n)) (λ e live. tt)
  effect_holds me (Unlink id) fits = record { objects = unlinked_bounded s.objects id fits holds.objects; specs = holds.specs }
  effect_holds me (End id) fits = removed_holds (goes_with id) fits
  effect_holds me (Relabel id request) fits =
      let label : List LabelValue = relabelled s.specs request (label_at s.objects id) in
      record {
        objects = changed_bounded s.objects holds.objects (λ e. record e { label = label }) (λ w. Unit {0}) (relabelling (λ e. label)) id (λ e live. tt);
        specs = holds.specs;
      }
  effect_holds me (Load m) fits = record {
    objects = holds.objects;
    specs = all_newest (λ entry. IsBoundedSpec entry.1) (registration_of m s.booted s.numbers, fresh_of m) s.specs (fresh_bounded m) holds.specs;
  }
  effect_holds me (Unload m) fits = record { objects = holds.objects; specs = all_without (λ entry. IsBoundedSpec entry.1) m s.specs holds.specs }
  effect_holds me (Set m change) fits = record { objects = holds.objects; specs = specs_changed m change s.specs fits holds.specs }

-- the state after checks that passed
pub observed_holds : {caller : Option Id} {checks : List Item} (s now : State) → Observing caller checks s now → HoldsBounded s → HoldsBounded now
observed_holds s now (kept is) holds = subst HoldsBounded (sym is) holds
observed_holds {checks = checks} s now (lowers slot me e lomac caller live process sees is) holds =
    let value : LabelValue = after_checks slot (value_in slot e) checks in
    subst HoldsBounded (sym is)
    (record {
      objects = changed_bounded s.objects holds.objects (with_value slot value) (λ w. Unit {0}) (relabelling (λ x. slice_set x.label slot value)) me (λ x live. tt);
      specs = holds.specs;
    })

-- What suits it

module _ (s : State) (holds : HoldsBounded s) where
  -- bytes fit where the framework doesn't refuse them
  room_at : (most : ℕ) (text : List ℕ) (id : Id) (e : LiveEntity) → most ≤ CONTENT_LIMIT → overfills most s.objects text id ≡ false → live_at s.objects id ≡ Some e
      → HasRoom text e.what
  room_at most text id e small room live =
      let held : content_at s.objects id ≡ content_of e.what = ap (λ (found : Option LiveEntity). reading content_of [] found) live in
      omega (arith, small, ap length held, ltb-false most (length (content_at s.objects id) + length text) room)

  -- one entity more finds room
  few_live : (tail : Tail) → (if nat_le MOST_ENTITIES (length s.objects.live) then Refuse errno.Enfile else tail) ≡ Do → length s.objects.live < MOST_ENTITIES
  few_live tail done = leb-false 1024 (length s.objects.live) (passed (nat_le MOST_ENTITIES (length s.objects.live)) errno.Enfile tail done).0

  -- the change that a setting is to have
  change_formed : (refused : Bool) (m : Option Module) (change : Option Change) (asked : Module × Change)
      → (if refused then Err errno.Eperm else
      and_then (ok_or m errno.Enoent) (λ m. if not (is_listed m s.specs) then Err errno.Enoent else and_then (ok_or change errno.Einval) (λ change. Ok (m, change)))) ≡ Ok asked
      → IfSome change IsFormedChange → IsFormedChange asked.1
  change_formed true m change asked is formed = cc
  change_formed false None change asked is formed = cc
  change_formed false (Some m) change asked is formed = one (is_listed m s.specs) change is formed
    where
      one : (b : Bool) (change : Option Change) → (if not b then Err errno.Enoent else and_then (ok_or change errno.Einval) (λ change. Ok (m, change))) ≡ Ok asked
          → IfSome change IsFormedChange → IsFormedChange asked.1
      one true (Some change) is formed = let same : change ≡ asked.1 = cc in subst IsFormedChange same formed
      one true None is formed = cc
      one false change is formed = cc

  module _ (task name : List ℕ) (me : Id) (named : process_named s.objects name ≡ Some me) where
    -- a setting is changed by root alone, and a tunable by nobody
    abbrev is_kept : Bool → Bool
    is_kept tunable = not (nat_eq (cred_at s.objects me).uid 0) || tunable

    -- a file or directory in a directory where its name is free
    file_made : (path : List (List ℕ)) (mode : ℕ) (is_dir : Bool) (dir : Id) → (way_to s me (Free path)).there ≡ Ok dir → (makes_file s me path mode is_dir dir).tail ≡ Do
        → IsPath path → mode < 2 ^ 16 → Fits s.objects (makes_file s me path mode is_dir dir).effect
    file_made path mode is_dir dir there done formed fits = (
      few_live Do done,
      file_data s.objects me dir mode is_dir fits holds.objects,
      λ at entry. last_component s.objects path dir (free_target (lookup_along s.objects path).target dir there) formed.each,
    )

    -- By call: what is found, and the tests that were passed, fit the effect.
    row_fits : (c : Call) (what : At (about_of s task me c).place) → (way_to s me (about_of s task me c).place).there ≡ Ok what → ((about_of s task me c).row what).tail ≡ Do
        → IsFormedCall c → Fits s.objects ((about_of s task me c).row what).effect
    row_fits (call.Fork child) free there done formed = (few_live Do done, process_data s.objects me holds.objects, λ dir entry. cc)
    row_fits (call.Pipe pipe) free there done formed = (few_live Do done, pipe_data me, λ dir entry. cc)
    row_fits (call.Socket socket) free there done formed = (few_live Do done, socket_data me, λ dir entry. cc)
    row_fits (call.Create path) dir there done formed = file_made path FILE_MODE false dir there done formed (omega arith)
    row_fits (call.Mkdir path) dir there done formed = file_made path DIRECTORY_MODE true dir there done formed (omega arith)
    row_fits (call.Write path text) id there done formed =
        let regular = passed (is_dir s.objects id) errno.Eisdir _ done in
        let room = passed (overfills CONTENT_LIMIT s.objects text id) errno.Efbig Do regular.1 in
        (formed.1, λ e live. room_at CONTENT_LIMIT text id e (omega arith) room.0 live)
    row_fits (call.Fwrite n text) id there done formed =
        let room = passed (overfills CONTENT_LIMIT s.objects text id) errno.Efbig Do done in
        (formed.1, λ e live. room_at CONTENT_LIMIT text id e (omega arith) room.0 live)
    row_fits (call.Pwrite pipe text) id there done formed =
        let room = passed (overfills PIPE_LIMIT s.objects text id) errno.Eagain Do done in
        (formed.1, λ e live. room_at PIPE_LIMIT text id e (omega arith) room.0 live)
    row_fits (call.Unlink path) entry there done formed =
        entry_goes entry.0 entry.1 (last_name path) s.objects.next s.objects.live holds.objects.rising holds.objects.rooted
        (last_entry s.objects path root entry.0 (Some entry.1) (entry_target (lookup_along s.objects path).target entry there))
    row_fits call.Exit none there done formed = process_goes me name s.objects.next s.objects.live holds.objects.rising holds.objects.rooted named
    row_fits (call.Sysctl word value) asked there done formed =
        let change = asked_named s.specs word value in
        change_formed (is_kept (is_tunable s.specs word)) (owner_named word) change asked there (asked_formed s.specs word value)
    row_fits (call.UgidfwAdd rule) asked there done formed =
        change_formed (is_kept false) (Some modules.Bsdextended) (Some (RuleAdd rule)) asked there formed
    row_fits (call.UgidfwSet n rule) asked there done formed =
        change_formed (is_kept false) (Some modules.Bsdextended) (Some (RuleSet n rule)) asked there formed.1
    row_fits (call.UgidfwRemove n) asked there done formed =
        change_formed (is_kept false) (Some modules.Bsdextended) (Some (RuleRemove n)) asked there tt
    row_fits other what there done formed = first_of (assumption formed, search tt)

    call_fits : (c : Call) → IsFormedCall c → (row_for s task c me).tail ≡ Do → Fits s.objects (row_for s task c me).effect
    call_fits c formed done = one (way_to s me (about_of s task me c).place).there refl done
      where
        whole : Result (At (about_of s task me c).place) Errno → Row
        whole there = through (record { checks = (way_to s me (about_of s task me c).place).checks; there = there }) (about_of s task me c).row

        one : (there : Result (At (about_of s task me c).place) Errno) → (way_to s me (about_of s task me c).place).there ≡ there → (whole there).tail ≡ Do
            → Fits s.objects (whole there).effect
        one (Ok what) is done = row_fits c what is done formed
        one (Err e) is done = cc

  -- the state after a call that may be done, from the one after its checks
  pub performed_holds : {by : Option Id} {checks : List Item} (now : State) → Observing by checks s now → (task name : List ℕ) (c : Call) (caller : Option Id)
      → process_named s.objects name ≡ caller → IsFormedCall c → (row_by s task c caller).tail ≡ Do → HoldsBounded (performed_by s now task c caller)
  performed_holds now observed task name c None is formed done = observed_holds s now observed holds
  performed_holds now observed task name c (Some me) is formed done =
      let effect = (row_for s task c me).effect in
      effect_holds now (observed_holds s now observed holds) me effect (fits_observed s now observed effect (call_fits task name me is c formed done))
