-- By place what is found lives and is as the place says; and by call what a call that may be done changes suits its change.
use Rattle.std.proofs.Common.{◌≡◌, ◌≢◌, ℕ, Bool, true, false, cond, not, List, [], ◌∷◌, Option, Some, None, IsSome, is_some, option_map, length, ◌<◌, Result, Ok, Err, refl, ap, sym, subst, ◌∙◌, if◌then◌else◌, arith}
use Rattle.std.specs.Prelude.{◌==◌, All, find, nat_le, nat_lt, option_and_then, IfSome}
use Rattle.std.specs.Option.{option_map_or, ok_or}
use Rattle.std.proofs.lemmas.List.Elements.{All-head, All-tail}
use Rattle.std.proofs.lemmas.Bool.{eqb-false, leb-false, ltb-false}
use Rattle.mf_errno.specs.declared.errno.Errno.{Errno}
use Rattle.mf_errno.specs.declared.errno.Errno.TheVariants as errno
use Rattle.mf_elem.specs.declared.label.Request.{Request}
use Rattle.mf_plan.specs.declared.outline.Check.{Check}
use Rattle.mf_item.specs.declared.operation.CheckOp.TheVariants as op
use Rattle.mf_item.specs.declared.view.Kind.{Kind}
use Rattle.mf_item.specs.declared.view.Kind.TheVariants as kinds
use Rattle.mf_names.specs.declared.limits.TheConstants.{CONTENT_LIMIT, MOST_DESCRIPTORS}
use Rattle.mf_objects.specs.declared.limits.TheConstants.{MOST_ENTITIES, MOST_MESSAGES, PIPE_LIMIT}
use Rattle.mf_objects.specs.declared.id.Id.{Id}
use Rattle.mf_objects.specs.declared.entity.EntityData.{EntityData}
use Rattle.mf_objects.specs.declared.descriptors.Fd.{Fd}
use Rattle.mf_objects.specs.declared.entity.EntityData.TheVariants.{Vnode}
use Rattle.mf_objects.specs.Descriptors.{fd_in, fds_at, fds_of, has_number}
use Rattle.mf_objects.specs.Live.{LiveEntity, Entities, count_at, file_of, has_id, id_of, no_file, is_one_named, is_entry, is_pipe, is_process, is_socket, live_at, live_named}
use Rattle.mf_objects.specs.Lives.{IsLive, is_directory, is_regular, is_vnode, passes}
use Rattle.mf_objects.specs.Population.{AreDescriptors, IsPopulation}
use Rattle.mf_objects.proofs.Belonging.{find_all}
use Rattle.mf_objects.proofs.Laws.{fits_file, fits_pipe, fits_message, has_message, vnode_count}
use Rattle.mf_policy.specs.Loading.{load_fault, load_errno, unload_fault, unload_errno}
use Rattle.mf_calls.specs.declared.script.Call.{Call}
use Rattle.mf_calls.specs.declared.script.Call.TheVariants as call
use Rattle.mf_plan.specs.declared.state.State.{State}
use Rattle.mf_plan.specs.declared.plan.Tail.{Tail}
use Rattle.mf_plan.specs.declared.plan.Tail.TheVariants.{Do, Refuse}
use Rattle.mf_plan.specs.Loading.{load_refusal, unload_refusal}
use Rattle.mf_plan.specs.declared.found.Found.{Found}
use Rattle.mf_plan.specs.Checks.{on}
use Rattle.mf_plan.specs.Found.{AreFound}
use Rattle.mf_plan.specs.Names.{caller_name}
use Rattle.mf_plan.specs.Plan.{row_for}
use Rattle.mf_plan.specs.Path.{last_name}
use Rattle.mf_plan.specs.Relabels.{claimed_in}
use Rattle.mf_plan.specs.Views.{is_dir, overfills, process_named, entity_named}
use Rattle.mf_perform.proofs.Rooted.{named_lives}
use Rattle.mf_perform.proofs.Leading.{caller_lives, dir_lives, file_lives, removable_lives, some_live}
use Rattle.mf_perform.specs.Suits.{Suits}
use Rattle.mf_plan.specs.Ways.Place.{Asking, Caller, Entry, File, Free, Named, Opened, Sockets, Unused}
use Rattle.mf_plan.specs.declared.descriptors.Access.{Access}
use Rattle.mf_plan.specs.Ways.{At, Place, allows, asking, straight, then_way, target_in, way_to, carrying}
use Rattle.mf_plan.specs.Row.{Row, through}
use Rattle.mf_plan.specs.Rows.{about_of}
use Rattle.mf_text.specs.Results.{and_then}

-- Regular files

module _ (o : Entities) (id : Id) where
  by_data : (what : EntityData) → is_vnode what ≡ true → (file_of what).dir ≡ false → is_regular what ≡ true
  by_data (Vnode vnode) is other = ap not other
  by_data other is dir = cc

  by_regular : (what : EntityData) → is_regular what ≡ true → (is_vnode what ≡ true) × ((file_of what).dir ≡ false)
  by_regular (Vnode vnode) is = (refl, not_true vnode.file.dir is)
    where
      not_true : (b : Bool) → not b ≡ true → b ≡ false
      not_true true is = cc
      not_true false is = refl
  by_regular other is = cc

  regular_file : IsLive is_vnode o id → is_dir o id ≡ false → IsLive is_regular o id
  regular_file = one (live_at o id)
    where
      one : (found : Option LiveEntity) → passes is_vnode found ≡ true → (option_map_or (λ e. file_of e.what) found no_file).dir ≡ false → passes is_regular found ≡ true
      one None vnode other = cc
      one (Some e) vnode other = by_data e.what vnode other

  regular_vnode : IsLive is_regular o id → IsLive is_vnode o id
  regular_vnode = one (live_at o id)
    where
      one : (found : Option LiveEntity) → passes is_regular found ≡ true → passes is_vnode found ≡ true
      one None regular = cc
      one (Some e) regular = (by_regular e.what regular).0

  no_directory : IsLive is_regular o id → is_dir o id ≡ false
  no_directory = one (live_at o id)
    where
      one : (found : Option LiveEntity) → passes is_regular found ≡ true → (option_map_or (λ e. file_of e.what) found no_file).dir ≡ false
      one None regular = cc
      one (Some e) regular = (by_regular e.what regular).1

-- each descriptor of a live process is on one
found_fd : (P : Fd → Type 0) (test : Fd → Bool) (fds : List Fd) (fd : Fd) → All P fds → find test fds ≡ Some fd → P fd
found_fd P test [] fd all is = cc
found_fd P test (first ∷ fds) fd all is = one (test first) (found_fd P test fds fd (All-tail P first fds all)) is
  where
    one : (b : Bool) → (find test fds ≡ Some fd → P fd) → cond b (Some first) (find test fds) ≡ Some fd → P fd
    one true rest is = let same : first ≡ fd = cc in subst P same (All-head P first fds all)
    one false rest is = rest is

open_file : (o : Entities) (me : Id) (n : ℕ) (fd : Fd) → IsPopulation o → fd_in (fds_at o me) n ≡ Some fd → IsLive is_regular o fd.file
open_file o me n fd population at = one (live_at o me) refl at
  where
    one : (found : Option LiveEntity) → live_at o me ≡ found → fd_in (option_map_or (λ e. fds_of e.what) found []) n ≡ Some fd → IsLive is_regular o fd.file
    one None is at = cc
    one (Some e) is at =
        found_fd (λ (x : Fd). IsLive is_regular o x.file) (has_number n) (fds_of e.what) fd
        (find_all (λ (x : LiveEntity). AreDescriptors o.live (fds_of x.what)) (has_id me) o.live e population.descriptors is).files at

-- By place: what is found there lives, and is of the kind.

abbrev kind_test : Kind → EntityData → Bool
kind_test kinds.Process what = is_process what
kind_test kinds.Vnode what = is_vnode what
kind_test kinds.Pipe what = is_pipe what
kind_test kinds.Socket what = is_socket what

abbrev Holds : Entities → Id → (place : Place) → At place → Type 0
Holds o me Caller id = IsLive is_process o id
Holds o me (Named kind name) id = IsLive (kind_test kind) o id
Holds o me (Unused kinds.Process name) free = live_named is_process o name ≡ None
Holds o me (Unused kinds.Pipe name) free = live_named is_pipe o name ≡ None
Holds o me (Unused kinds.Socket name) free = live_named is_socket o name ≡ None
Holds o me (File path) id = IsLive is_vnode o id
Holds o me (Free path) dir = IsLive is_directory o dir × (find (is_one_named (is_entry dir) (last_name path)) o.live ≡ None)
Holds o me (Entry path) entry = IsLive is_vnode o entry.1 × (entry.1.0 ≢ 0)
Holds o me (Opened access n) id = IsLive is_regular o id × IsSome (fd_in (fds_at o me) n)
Holds o me (Sockets from to) ends = IsLive is_socket o ends.1
Holds o me (Asking kind text place) asked = Holds o me place asked.1
Holds o me other found = Unit {0}

found_so : {A : Type 0} (P : A → Type 0) (e : Errno) (holder : Option A) (a : A) → IfSome holder P → ok_or holder e ≡ Ok a → P a
found_so P e None a holds is = cc
found_so P e (Some x) a holds is = let same : x ≡ a = cc in subst P same holds

none_held : (holder : Option LiveEntity) (free : Unit {0}) → (if is_some (id_of holder) then Err errno.Eexist else Ok tt) ≡ Ok free → holder ≡ None
none_held None free is = refl
none_held (Some e) free is = cc

no_refusal : (fault : Option Errno) → (option_map_or Refuse fault Do) ≡ Do → fault ≡ None
no_refusal None done = refl
no_refusal (Some e) done = cc

no_errno : {F : Type 0} (errno : F → Errno) (fault : Option F) → option_map errno fault ≡ None → fault ≡ None
no_errno errno None none = refl
no_errno errno (Some f) none = cc

module _ (s : State) (me : Id) (population : IsPopulation s.objects) (lives : IsLive is_process s.objects me) where
  sockets_so : (from to : Option Id) (ends : Id × Id) → IfSome to (λ id. IsLive is_socket s.objects id)
      → (then_way (ok_or from errno.Enoent) (λ from. straight (and_then (ok_or to errno.Enoent) (λ to. Ok (from, to))))).there ≡ Ok ends
      → IsLive is_socket s.objects ends.1
  sockets_so (Some from) (Some to) ends holds is = let same : to ≡ ends.1 = cc in subst (λ (id : Id). IsLive is_socket s.objects id) same holds
  sockets_so (Some from) None ends holds is = cc
  sockets_so None to ends holds is = cc

  same_there : (from to : Option Id) (ends : Id × Id)
      → (then_way (ok_or from errno.Enoent) (λ from. asking (on me op.SocketSend from) (straight (and_then (ok_or to errno.Enoent) (λ to. Ok (from, to)))))).there ≡ Ok ends
      → (then_way (ok_or from errno.Enoent) (λ from. straight (and_then (ok_or to errno.Enoent) (λ to. Ok (from, to))))).there ≡ Ok ends
  same_there (Some from) to ends is = is
  same_there None to ends is = cc

  -- what is open under a number
  opened_so : (access : Access) (n : ℕ) (id : Id) (found : Option Fd) → fd_in (fds_at s.objects me) n ≡ found
      → ok_or (option_map (λ fd. fd.file) (option_and_then (λ fd. if allows access fd then Some fd else None) found)) errno.Ebadf ≡ Ok id
      → IsLive is_regular s.objects id × IsSome (fd_in (fds_at s.objects me) n)
  opened_so access n id None at is = cc
  opened_so access n id (Some fd) at is = by_test (allows access fd) is
    where
      by_test : (b : Bool) → ok_or (option_map (λ fd. fd.file) (if b then Some fd else None)) errno.Ebadf ≡ Ok id
          → IsLive is_regular s.objects id × IsSome (fd_in (fds_at s.objects me) n)
      by_test true is =
          let same : fd.file ≡ id = cc in
          (subst (IsLive is_regular s.objects) same (open_file s.objects me n fd population at), ap (λ (found : Option Fd). is_some found) at)
      by_test false is = cc

  asked_holds : (place : Place) → ((b : At place) → (way_to s me place).there ≡ Ok b → Holds s.objects me place b) → (request : Option Request)
      (checks : List Check) (there : Result (At place) Errno) (found : Request × At place) → (way_to s me place).there ≡ there
      → (then_way (ok_or request errno.Einval) (λ r. carrying r (record { checks = checks; there = there }))).there ≡ Ok found → Holds s.objects me place found.1
  asked_holds place here (Some r) checks (Ok b) found at is = let same : b ≡ found.1 = cc in here found.1 (at ∙ ap Ok same)
  asked_holds place here (Some r) checks (Err e) found at is = cc
  asked_holds place here None checks there found at is = cc

  place_holds : (place : Place) (found : At place) → (way_to s me place).there ≡ Ok found → Holds s.objects me place found
  place_holds Caller id is = let same : me ≡ id = cc in subst (λ (x : Id). IsLive is_process s.objects x) same lives
  place_holds (Named kinds.Process name) id is =
      found_so (λ x. IsLive is_process s.objects x) errno.Esrch (process_named s.objects name) id
      (named_lives is_process s.objects name population.rising) is
  place_holds (Named kinds.Vnode name) id is = cc
  place_holds (Named kinds.Pipe name) id is =
      found_so (λ x. IsLive is_pipe s.objects x) errno.Enoent (entity_named s.objects kinds.Pipe name) id
      (named_lives is_pipe s.objects name population.rising) is
  place_holds (Named kinds.Socket name) id is =
      found_so (λ x. IsLive is_socket s.objects x) errno.Enoent (entity_named s.objects kinds.Socket name) id
      (named_lives is_socket s.objects name population.rising) is
  place_holds (Unused kinds.Process name) free is = none_held (live_named is_process s.objects name) free is
  place_holds (Unused kinds.Pipe name) free is = none_held (live_named is_pipe s.objects name) free is
  place_holds (Unused kinds.Socket name) free is = none_held (live_named is_socket s.objects name) free is
  place_holds (File path) id is = file_lives s.objects population path id is
  place_holds (Free path) dir is = dir_lives s.objects population path dir is
  place_holds (Entry path) entry is = removable_lives s.objects population path entry is
  place_holds (Opened access n) id is = opened_so access n id (fd_in (fds_at s.objects me) n) refl is
  place_holds (Sockets from to) ends is =
      sockets_so (entity_named s.objects kinds.Socket from) (entity_named s.objects kinds.Socket to) ends (named_lives is_socket s.objects to population.rising)
      (same_there (entity_named s.objects kinds.Socket from) (entity_named s.objects kinds.Socket to) ends is)
  place_holds (Asking kind text place) found is =
      asked_holds place (place_holds place) (claimed_in s.specs kind text) (way_to s me place).checks (way_to s me place).there found refl is
  place_holds other found is = tt

  -- so what is said of a row with what holds there is said of the call
  by_row : {A : Type 0} (checks : List Check) (there : Result A Errno) (rest : A → Row)
      → ((a : A) → there ≡ Ok a → (rest a).tail ≡ Do → Suits s (rest a).effect) → (through (record { checks = checks; there = there }) rest).tail ≡ Do
      → Suits s (through (record { checks = checks; there = there }) rest).effect
  by_row checks (Ok a) rest suits done = suits a refl done
  by_row checks (Err e) rest suits done = cc

  passed : (test : Bool) (e : Errno) (rest : Tail) → (if test then Refuse e else rest) ≡ Do → (test ≡ false) × (rest ≡ Do)
  passed true e rest done = cc
  passed false e rest done = (refl, done)

  module _ (task : List ℕ) where
    abbrev mine : (c : Call) → At (about_of s task me c).place → Row
    mine c = (about_of s task me c).row

    has_room : (if nat_le MOST_ENTITIES (length s.objects.live) then Refuse errno.Enfile else Do) ≡ Do → length s.objects.live < MOST_ENTITIES
    has_room done = leb-false 1024 _ (passed (nat_le MOST_ENTITIES (length s.objects.live)) errno.Enfile Do done).0

    -- The table: what suits, by the tests of the row and what holds at the place.
    row_suits : (c : Call) (found : At (about_of s task me c).place) → Holds s.objects me (about_of s task me c).place found → (mine c found).tail ≡ Do
        → Suits s (mine c found).effect
    row_suits (call.Write path text) id holds done =
        let regular = passed (is_dir s.objects id) errno.Eisdir _ done in
        fits_file (length text) s.objects id holds regular.0 (ltb-false 65536 _ (passed (overfills CONTENT_LIMIT s.objects text id) errno.Efbig Do regular.1).0)
    row_suits (call.Unlink path) entry holds done =
        let empty = (passed (nat_lt 0 (count_at s.objects entry.1)) errno.Enotempty Do done).0 in
        record { vnode = holds.0; not_root = holds.1; empty = omega (arith, vnode_count s.objects entry.1 holds.0, ltb-false 0 _ empty) }
    row_suits (call.OpenFd path read write) id holds done =
        let regular = passed (is_dir s.objects id) errno.Eisdir _ done in
        record {
          process = lives;
          few = leb-false 16 _ (passed (nat_le MOST_DESCRIPTORS (length (fds_at s.objects me))) errno.Emfile Do regular.1).0;
          number = refl;
          file = regular_file s.objects id holds regular.0;
        }
    row_suits (call.Fwrite n text) id holds done =
        fits_file (length text) s.objects id (regular_vnode s.objects id holds.0) (no_directory s.objects id holds.0)
        (ltb-false 65536 _ (passed (overfills CONTENT_LIMIT s.objects text id) errno.Efbig Do done).0)
    row_suits (call.Pwrite name text) id holds done =
        fits_pipe (length text) s.objects id holds
        (ltb-false 16384 _ (passed (overfills PIPE_LIMIT s.objects text id) errno.Eagain Do done).0)
    row_suits (call.Send from to text) ends holds done =
        fits_message s.objects ends.1 holds
        (leb-false 16 _ (passed (nat_le MOST_MESSAGES (count_at s.objects ends.1)) errno.Enobufs Do done).0)
    row_suits (call.Recv name) id holds done =
        has_message s.objects id holds (omega (arith, eqb-false _ 0 (passed (count_at s.objects id == 0) errno.Eagain Do done).0))
    row_suits (call.Setpmac text) asked holds done = some_live is_process s.objects asked.1 holds
    row_suits (call.Setfmac text path) asked holds done = some_live is_vnode s.objects asked.1 holds
    row_suits (call.Setpipemac text name) asked holds done = some_live is_pipe s.objects asked.1 holds
    row_suits (call.Setsockmac text name) asked holds done = some_live is_socket s.objects asked.1 holds
    row_suits (call.Kldload name) m holds done = no_errno load_errno (load_fault s.booted s.specs s.numbers m) (no_refusal (load_refusal s m) done)
    row_suits (call.Kldunload name) m holds done = no_errno unload_errno (unload_fault s.specs m) (no_refusal (unload_refusal s m) done)
    row_suits other found holds done = search (has_room, lives)

    call_suits : (c : Call) → (row_for s task c me).tail ≡ Do → Suits s (row_for s task c me).effect
    call_suits c done =
        by_row (way_to s me (about_of s task me c).place).checks (way_to s me (about_of s task me c).place).there (mine c)
        (λ found is there. row_suits c found (place_holds (about_of s task me c).place found is) there) done

pub effect_suits : (s : State) (task : List ℕ) (me : Id) (c : Call) → IsPopulation s.objects → IsLive is_process s.objects me
    → (row_for s task c me).tail ≡ Do → Suits s (row_for s task c me).effect
effect_suits s task me c population lives done = call_suits s me population lives task c done

-- what is found lives
pub target_lives : (o : Entities) (me : Id) (place : Place) (found : At place) → Holds o me place found → IfSome (target_in place found) (λ id. IsSome (live_at o id))
target_lives o me Caller id holds = some_live is_process o id holds
target_lives o me (Named kind name) id holds = some_live (kind_test kind) o id holds
target_lives o me (File path) id holds = some_live is_vnode o id holds
target_lives o me (Free path) dir holds = some_live is_directory o dir holds.0
target_lives o me (Entry path) entry holds = some_live is_vnode o entry.1 holds.0
target_lives o me (Opened access n) id holds = some_live is_regular o id holds.0
target_lives o me (Sockets from to) ends holds = some_live is_socket o ends.1 holds
target_lives o me (Asking kind text place) asked holds = target_lives o me place asked.1 holds
target_lives o me other found holds = tt

pub found_lives : (s : State) (task : List ℕ) (child : Option (List ℕ)) (c : Call) (found : Found) → IsPopulation s.objects → AreFound s task child c found
    → IfSome found.target (λ id. IsSome (live_at s.objects id))
found_lives s task child c found population are =
    let place = (about_of s task are.me c).place in
    subst (λ (target : Option Id). IfSome target (λ id. IsSome (live_at s.objects id))) (sym are.is.target)
    (target_lives s.objects are.me place are.is.what
    (place_holds s are.me population (caller_lives s.objects are.me (caller_name task child) population (sym are.named)) place are.is.what are.is.there))

-- and so does who calls
pub finder_lives : (s : State) (task : List ℕ) (child : Option (List ℕ)) (c : Call) (found : Found) → IsPopulation s.objects → AreFound s task child c found
    → IfSome found.caller (λ me. IsLive is_process s.objects me)
finder_lives s task child c found population are =
    subst (λ (caller : Option Id). IfSome caller (λ me. IsLive is_process s.objects me)) (sym are.caller)
    (caller_lives s.objects are.me (caller_name task child) population (sym are.named))

pub caller_found : (s : State) (task : List ℕ) (child : Option (List ℕ)) (c : Call) (found : Found) → IsPopulation s.objects → AreFound s task child c found
    → IfSome found.caller (λ me. IsSome (live_at s.objects me))
caller_found s task child c found population are = one found.caller (finder_lives s task child c found population are)
  where
    one : (caller : Option Id) → IfSome caller (λ me. IsLive is_process s.objects me) → IfSome caller (λ me. IsSome (live_at s.objects me))
    one None lives = tt
    one (Some me) lives = some_live is_process s.objects me lives
