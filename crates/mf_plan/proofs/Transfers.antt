-- Transfers of the bytes of a file: `read` and `write` open the file right before, and the other calls go through a descriptor.
use Rattle.std.proofs.Common.{◌≡◌, ℕ, Bool, true, false, ◌||◌, cond, nat_le, List, [], ◌∷◌, ◌++◌, length, map, refl, ap, sym, subst, arith}
use Rattle.std.proofs.Common.{Option, Some, None, option_map, option_and_then, Result, Ok, Err}
use Rattle.std.specs.List.{list_any}
use Rattle.std.specs.Option.{ok_or}
use Rattle.mf_text.specs.Results.{and_then}
use Rattle.mf_errno.specs.declared.errno.Errno.{Errno}
use Rattle.mf_errno.specs.declared.errno.Errno.TheVariants as errno
use Rattle.mf_item.specs.declared.operation.CheckOp.{CheckOp}
use Rattle.mf_item.specs.declared.operation.CheckOp.TheVariants as op
use Rattle.mf_item.specs.declared.view.Kind.TheVariants as kinds
use Rattle.mf_names.specs.declared.limits.TheConstants.{CONTENT_LIMIT, MOST_DESCRIPTORS}
use Rattle.mf_policy.specs.Operations.{is_transfer}
use Rattle.mf_objects.specs.declared.id.Id.{Id}
use Rattle.mf_objects.specs.declared.descriptors.Fd.{Fd}
use Rattle.mf_objects.specs.Descriptors.{fd_in, fds_at}
use Rattle.mf_calls.specs.declared.script.Call.{Call}
use Rattle.mf_calls.specs.declared.script.Call.TheVariants as call
use Rattle.mf_plan.specs.declared.descriptors.Access.{Access}
use Rattle.mf_plan.specs.declared.descriptors.Access.TheVariants.{Reading, Writing}
use Rattle.mf_plan.specs.declared.outline.Check.{Check}
use Rattle.mf_plan.specs.declared.plan.Tail.TheVariants.{Do, Refuse}
use Rattle.mf_plan.specs.declared.state.State.{State}
use Rattle.mf_plan.specs.Checks.{on}
use Rattle.mf_plan.specs.Found.{descriptor_at}
use Rattle.mf_plan.specs.Path.{found_at, lookup_along}
use Rattle.mf_plan.specs.Plan.{row_for}
use Rattle.mf_plan.specs.Relabels.{claimed_in}
use Rattle.mf_plan.specs.Row.{Row, if_there, through}
use Rattle.mf_plan.specs.Rows.{about_of, appends, reads}
use Rattle.mf_plan.specs.Views.{entity_named, is_dir, overfills}
use Rattle.mf_plan.specs.Ways.{At, Place, Way, allows, asking, carrying, opened_at, straight, then_way, way_to}
use Rattle.mf_plan.specs.Ways.Place.{File, Free, Entry, Sockets, Asking}

-- the operation that opens a file for this one; itself where it transfers nothing
abbrev pub operation_at_opening : CheckOp → CheckOp
operation_at_opening op.VnodeRead = op.VnodeOpenRead
operation_at_opening op.VnodeWrite = op.VnodeOpenWrite
operation_at_opening other = other

-- a transfer stands right behind the check that opens the same file for the same subject
abbrev pub IsBehindOpening : Option Check → Check → Type 0
IsBehindOpening last check = is_transfer check.op ≡ true → last ≡ Some (record check { op = operation_at_opening check.op })

-- each of the checks does, which come after this one
abbrev pub AreBehindOpenings : Option Check → List Check → Type 0
AreBehindOpenings last [] = Unit {0}
AreBehindOpenings last (check ∷ checks) = IsBehindOpening last check × AreBehindOpenings (Some check) checks

-- the checks of a call that goes through this descriptor: one transfer at most, for which it is open
pub data AreThrough (me : Id) (fd : Fd) : List Check → Type 0 where
  asks_none : AreThrough me fd []
  asks_read : fd.read ≡ true → AreThrough me fd (on me op.VnodeRead fd.file ∷ [])
  asks_write : fd.write ≡ true → AreThrough me fd (on me op.VnodeWrite fd.file ∷ [])

-- the checks that open a file for reading, for writing, or for both
abbrev pub openings : Id → Bool → Bool → Id → List Check
openings me read write file =
    let writing : List Check = cond write (on me op.VnodeOpenWrite file ∷ []) [] in cond read (on me op.VnodeOpenRead file ∷ writing) writing

-- Checks that transfer nothing

abbrev transfers : List Check → Bool
transfers checks = list_any (λ check. is_transfer check.op) checks

none_of : (check : Check) (checks : List Check) → transfers (check ∷ checks) ≡ false
    → (is_transfer check.op ≡ false) × (transfers checks ≡ false)
none_of check checks none = one (is_transfer check.op) refl none
  where
    one : (b : Bool) → is_transfer check.op ≡ b → b || transfers checks ≡ false
        → (is_transfer check.op ≡ false) × (transfers checks ≡ false)
    one false is rest = (is, rest)
    one true is rest = cc

behind : (last : Option Check) (checks : List Check) → transfers checks ≡ false → AreBehindOpenings last checks
behind last [] none = tt
behind last (check ∷ checks) none = let split = none_of check checks none in ((λ transfer. cc), behind (Some check) checks split.1)

-- they may come first
behind_more : (last : Option Check) (first rest : List Check) → transfers first ≡ false
    → ((before : Option Check) → AreBehindOpenings before rest) → AreBehindOpenings last (first ++ rest)
behind_more last [] rest none all = all last
behind_more last (check ∷ first) rest none all =
    let split = none_of check first none in ((λ transfer. cc), behind_more (Some check) first rest split.1 all)

-- so may the way to what a call is about

none_then : {A B : Type 0} (there : Result A Errno) (rest : A → Way B) → ((found : A) → transfers (rest found).checks ≡ false)
    → transfers (then_way there rest).checks ≡ false
none_then (Ok found) rest none = none found
none_then (Err e) rest none = refl

module _ (s : State) (me : Id) where
  none_looked_up : (dirs : List Id) → transfers (map (on me op.VnodeLookup) dirs) ≡ false
  none_looked_up [] = refl
  none_looked_up (dir ∷ dirs) = none_looked_up dirs

  -- from a socket to another
  abbrev sending : List ℕ → Id → Way (Id × Id)
  sending to from =
      asking (on me op.SocketSend from)
      (straight (and_then (ok_or (entity_named s.objects kinds.Socket to) errno.Enoent) (λ to. let ends : Id × Id = (from, to) in Ok ends)))

  none_on_the_way : (place : Place) → transfers (way_to s me place).checks ≡ false
  none_on_the_way (File path) = none_looked_up (lookup_along s.objects path).lookups
  none_on_the_way (Free path) = none_looked_up (lookup_along s.objects path).lookups
  none_on_the_way (Entry path) = none_looked_up (lookup_along s.objects path).lookups
  none_on_the_way (Sockets from to) =
      none_then (ok_or (entity_named s.objects kinds.Socket from) errno.Enoent) (sending to) (λ from. refl)
  none_on_the_way (Asking kind text place) =
      none_then (ok_or (claimed_in s.specs kind text) errno.Einval) (λ request. carrying request (way_to s me place))
      (λ request. none_on_the_way place)
  none_on_the_way other = refl

behind_there : {A : Type 0} (row : A → Row) (there : Result A Errno) (last : Option Check)
    → ((found : A) → AreBehindOpenings last (row found).checks)
    → AreBehindOpenings last (if_there (λ found. (row found).checks) (λ e. []) there)
behind_there row (Ok found) last all = all found
behind_there row (Err e) last all = tt

-- none where a test refuses
unless_refused : (b : Bool) (last : Option Check) (checks : List Check) → AreBehindOpenings last checks
    → AreBehindOpenings last (cond b [] checks)
unless_refused true last checks all = tt
unless_refused false last checks all = all

module _ (s : State) (task : List ℕ) (me : Id) where
  abbrev mine : (c : Call) → At (about_of s task me c).place → Row
  mine c = (about_of s task me c).row

  abbrev way_of : (c : Call) → Way (At (about_of s task me c).place)
  way_of c = way_to s me (about_of s task me c).place

  whole_behind : (c : Call)
      → ((found : At (about_of s task me c).place) (last : Option Check) → AreBehindOpenings last (mine c found).checks)
      → AreBehindOpenings None (row_for s task c me).checks
  whole_behind c all =
      behind_more None (way_of c).checks (if_there (λ found. (mine c found).checks) (λ e. []) (way_of c).there)
      (none_on_the_way s me (about_of s task me c).place)
      (λ last. behind_there (mine c) (way_of c).there last (λ found. all found last))

  -- the row of a call that goes through this descriptor, if it is there
  abbrev through_fd : (Id → Row) → Option Fd → Row
  through_fd row fd = through (straight (ok_or (option_map (λ (fd : Fd). fd.file) fd) errno.Ebadf)) row

  -- through none nothing is asked
  none_opened : (row : Id → Row) (fd : Option Fd) → fd ≡ None → AreBehindOpenings None (through_fd row fd).checks
  none_opened row None is = tt
  none_opened row (Some fd) is = cc

  abbrev moves_bytes : Call → Bool
  moves_bytes (call.Read path) = true
  moves_bytes (call.Write path text) = true
  moves_bytes (call.Fread n) = true
  moves_bytes (call.Fwrite n text) = true
  moves_bytes other = false

  none_moved : (c : Call) → moves_bytes c ≡ false → (found : At (about_of s task me c).place) → transfers (mine c found).checks ≡ false
  none_moved (call.Read path) none found = cc
  none_moved (call.Write path text) none found = cc
  none_moved (call.Fread n) none found = cc
  none_moved (call.Fwrite n text) none found = cc
  none_moved other none found = grind arith

  -- The table: a call that goes through no descriptor opens the file of each transfer.
  pub opened_before : (c : Call) → descriptor_at s me (about_of s task me c).place ≡ None
      → AreBehindOpenings None (row_for s task c me).checks
  opened_before (call.Read path) none =
      whole_behind (call.Read path) (λ id last.
      unless_refused (is_dir s.objects id) last (on me op.VnodeOpenRead id ∷ (reads s me id).checks)
      ((λ transfer. cc), ((λ transfer. refl), tt)))
  opened_before (call.Write path text) none =
      whole_behind (call.Write path text) (λ id last.
      unless_refused (is_dir s.objects id) last (on me op.VnodeOpenWrite id ∷ (appends s me text id).checks) (
        (λ transfer. cc),
        (
          (λ transfer. refl),
          unless_refused (overfills CONTENT_LIMIT s.objects text id) (Some (on me op.VnodeWrite id)) [] tt,
        ),
      ))
  opened_before (call.Fread n) none = none_opened (reads s me) (opened_at s.objects me Reading n) none
  opened_before (call.Fwrite n text) none = none_opened (appends s me text) (opened_at s.objects me Writing n) none
  opened_before other none = whole_behind other (λ found last. behind last (mine other found).checks (none_moved other refl found))

  -- Through a descriptor

  -- it is open for what is done
  allowed : (access : Access) (found : Option Fd) (fd : Fd) → option_and_then (λ fd. cond (allows access fd) (Some fd) None) found ≡ Some fd
      → allows access fd ≡ true
  allowed access None fd is = cc
  allowed access (Some other) fd is = one (allows access other) refl is
    where
      one : (b : Bool) → allows access other ≡ b → cond b (Some other) None ≡ Some fd → allows access fd ≡ true
      one true so is = cc
      one false so is = cc

  abbrev Through : Fd → (Id → Row) → Option Fd → Type 0
  Through fd row found = AreThrough me fd (through_fd row found).checks

  pub through_descriptor : (c : Call) (fd : Fd) → descriptor_at s me (about_of s task me c).place ≡ Some fd
      → AreThrough me fd (row_for s task c me).checks
  through_descriptor (call.Fread n) fd is =
      subst (Through fd (reads s me)) (sym is) (asks_read (allowed Reading (fd_in (fds_at s.objects me) n) fd is))
  through_descriptor (call.Fwrite n text) fd is =
      subst (Through fd (appends s me text)) (sym is) (one (overfills CONTENT_LIMIT s.objects text fd.file))
    where
      one : (b : Bool) → AreThrough me fd (on me op.VnodeWrite fd.file ∷ cond b [] [])
      one true = asks_write (allowed Writing (fd_in (fds_at s.objects me) n) fd is)
      one false = asks_write (allowed Writing (fd_in (fds_at s.objects me) n) fd is)
  through_descriptor (call.Close n) fd is = subst (Through fd (mine (call.Close n))) (sym is) asks_none
  through_descriptor other fd is = cc

  -- The opening of a descriptor

  -- where a file was opened, they were asked
  pub opening_checks : (path : List (List ℕ)) (read write : Bool) (file : Id) → found_at (lookup_along s.objects path).target ≡ Ok file
      → (row_for s task (call.OpenFd path read write) me).tail ≡ Do
      → (row_for s task (call.OpenFd path read write) me).checks
      ≡ map (on me op.VnodeLookup) (lookup_along s.objects path).lookups ++ openings me read write file
  opening_checks path read write file is = by_there (found_at (lookup_along s.objects path).target) is
    where
      row : Id → Row
      row = mine (call.OpenFd path read write)

      looked : List Check
      looked = map (on me op.VnodeLookup) (lookup_along s.objects path).lookups

      by_tests : (dir full reading writing : Bool) (x y : Check) → cond dir (Refuse errno.Eisdir) (cond full (Refuse errno.Emfile) Do) ≡ Do
          → (let later : List Check = cond writing (y ∷ cond full [] []) (cond full [] []) in cond dir [] (cond reading (x ∷ later) later))
          ≡ cond reading (x ∷ cond writing (y ∷ []) []) (cond writing (y ∷ []) [])
      by_tests true full reading writing x y done = cc
      by_tests false true reading writing x y done = cc
      by_tests false false reading writing x y done = refl

      by_there : (there : Result Id Errno) → there ≡ Ok file → if_there (λ id. (row id).tail) Refuse there ≡ Do
          → looked ++ if_there (λ id. (row id).checks) (λ e. []) there ≡ looked ++ openings me read write file
      by_there (Err e) is done = cc
      by_there (Ok id) is done =
          ap (λ (rest : List Check). looked ++ rest)
          (subst (λ (at : Id). (row id).checks ≡ openings me read write at) same
          (by_tests (is_dir s.objects id) full read write (on me op.VnodeOpenRead id) (on me op.VnodeOpenWrite id) done))
        where
          same : id ≡ file
          same = cc

          full : Bool
          full = nat_le MOST_DESCRIPTORS (length (fds_at s.objects me))
