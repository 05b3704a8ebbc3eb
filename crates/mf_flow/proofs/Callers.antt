-- Whose checks those of a call are: the subject of each is the caller; or none moves anything to its subject, as where a socket delivers, and where a
-- call changes the policies.
use Rattle.std.proofs.Common.{◌≡◌, ℕ, Bool, true, false, cond, nat_le, option_map, List, [], ◌∷◌, ◌++◌, map, Option, Some, None, Result, Ok, Err, refl, ◌⊎◌, inl, inr, arith}
use Rattle.std.specs.Option.{option_map_or, ok_or}
use Rattle.std.specs.List.{AllByRecursion}
use Rattle.mf_text.specs.Results.{and_then}
use Rattle.mf_errno.specs.declared.errno.Errno.{Errno}
use Rattle.mf_errno.specs.declared.errno.Errno.TheVariants as errno
use Rattle.mf_errno.specs.declared.module.Module.{Module}
use Rattle.mf_item.specs.declared.operation.CheckOp.TheVariants as op
use Rattle.mf_item.specs.declared.view.Kind.TheVariants as kinds
use Rattle.mf_policy.specs.Loading.{load_errno, load_fault, unload_errno, unload_fault}
use Rattle.mf_policy.specs.Lowering.{observes}
use Rattle.mf_policy.specs.Operations.{row_of}
use Rattle.mf_policy.specs.Settings.{change_in}
use Rattle.mf_policy.specs.declared.settings.Change.{Change}
use Rattle.mf_objects.specs.declared.id.Id.{Id}
use Rattle.mf_objects.specs.declared.limits.TheConstants.{MOST_MESSAGES}
use Rattle.mf_objects.specs.Live.{count_at}
use Rattle.mf_calls.specs.declared.script.Call.{Call}
use Rattle.mf_calls.specs.declared.script.Call.TheVariants as call
use Rattle.mf_calls.specs.Tasks.{is_change}
use Rattle.mf_plan.specs.declared.outline.Check.{Check}
use Rattle.mf_plan.specs.declared.state.State.{State}
use Rattle.mf_plan.specs.Checks.{on}
use Rattle.mf_plan.specs.Path.{lookup_along}
use Rattle.mf_plan.specs.Plan.{row_for}
use Rattle.mf_plan.specs.Relabels.{claimed_in}
use Rattle.mf_plan.specs.Row.{Row, if_there, through}
use Rattle.mf_plan.specs.Rows.{about_of}
use Rattle.mf_plan.specs.Settings.{unless_success}
use Rattle.mf_plan.specs.Views.{entity_named}
use Rattle.mf_plan.specs.Ways.{At, Place, Way, asking, carrying, straight, then_way, way_to}
use Rattle.mf_plan.specs.Ways.Place.{Nothing, Caller, Named, Unused, File, Free, Entry, Opened, Sockets, Listed, Loading, Unloading, Setting, Asking}

-- the subject of the check is this process
abbrev pub IsBy : Id → Check → Type 0
IsBy me check = check.subject ≡ me

-- the check moves nothing to its subject
abbrev pub LooksAway : Check → Type 0
LooksAway check = observes (row_of check.op).movement ≡ false

-- the checks are those of a caller which they may lower, or they lower nobody
abbrev pub AreBy : Id → List Check → Type 0
AreBy me checks = AllByRecursion (IsBy me) checks ⊎ AllByRecursion LooksAway checks

-- Parts of rows

all_joined : (P : Check → Type 0) (xs ys : List Check) → AllByRecursion P xs → AllByRecursion P ys → AllByRecursion P (xs ++ ys)
all_joined P [] ys first second = second
all_joined P (x ∷ xs) ys first second = (first.0, all_joined P xs ys first.1 second)

all_there : {A : Type 0} (P : Check → Type 0) (row : A → Row) (there : Result A Errno) → ((found : A) → AllByRecursion P (row found).checks)
    → AllByRecursion P (if_there (λ found. (row found).checks) (λ e. []) there)
all_there P row (Ok found) all = all found
all_there P row (Err e) all = tt

all_through : {A : Type 0} (P : Check → Type 0) (way : Way A) (row : A → Row) → AllByRecursion P way.checks → ((found : A) → AllByRecursion P (row found).checks)
    → AllByRecursion P (through way row).checks
all_through P way row first all = all_joined P way.checks (if_there (λ found. (row found).checks) (λ e. []) way.there) first (all_there P row way.there all)

-- none where a test refuses
unless_refused : (P : Check → Type 0) (b : Bool) (checks : List Check) → AllByRecursion P checks → AllByRecursion P (cond b [] checks)
unless_refused P true checks all = tt
unless_refused P false checks all = all

-- none, whatever a test says

none_after : (P : Check → Type 0) (b : Bool) → AllByRecursion P (cond b [] [])
none_after P b = unless_refused P b [] tt

none_by : (P : Check → Type 0) (fault : Option Errno) → AllByRecursion P (option_map_or (λ e. []) fault [])
none_by P None = tt
none_by P (Some e) = tt

-- The way to what a call is about

all_then : {A B : Type 0} (P : Check → Type 0) (there : Result A Errno) (rest : A → Way B) → ((found : A) → AllByRecursion P (rest found).checks)
    → AllByRecursion P (then_way there rest).checks
all_then P (Ok found) rest all = all found
all_then P (Err e) rest all = tt

module _ (s : State) (me : Id) where
  -- from a socket to another
  abbrev sending : List ℕ → Id → Way (Id × Id)
  sending to from =
      asking (on me op.SocketSend from) (straight (and_then (ok_or (entity_named s.objects kinds.Socket to) errno.Enoent) (λ to. let ends : Id × Id = (from, to) in Ok ends)))

  lookups_by : (dirs : List Id) → AllByRecursion (IsBy me) (map (on me op.VnodeLookup) dirs)
  lookups_by [] = tt
  lookups_by (dir ∷ dirs) = (refl, lookups_by dirs)

  way_by : (place : Place) → AllByRecursion (IsBy me) (way_to s me place).checks
  way_by Nothing = tt
  way_by Caller = tt
  way_by (Named kind name) = tt
  way_by (Unused kind name) = tt
  way_by (File path) = lookups_by (lookup_along s.objects path).lookups
  way_by (Free path) = lookups_by (lookup_along s.objects path).lookups
  way_by (Entry path) = lookups_by (lookup_along s.objects path).lookups
  way_by (Sockets from to) =
      all_then (IsBy me) (ok_or (entity_named s.objects kinds.Socket from) errno.Enoent) (sending to) (λ from. (refl, tt))
  way_by (Listed m) = tt
  way_by (Loading name) = (refl, tt)
  way_by (Unloading name) = (refl, (refl, tt))
  way_by (Opened access n) = tt
  way_by (Setting tunable m change) = tt
  way_by (Asking kind text place) =
      all_then (IsBy me) (ok_or (claimed_in s.specs kind text) errno.Einval) (λ request. carrying request (way_to s me place)) (λ request. way_by place)

  -- on the way to sockets nothing moves to the caller
  sockets_away : (from to : List ℕ) → AllByRecursion LooksAway (way_to s me (Sockets from to)).checks
  sockets_away from to =
      all_then LooksAway (ok_or (entity_named s.objects kinds.Socket from) errno.Enoent) (sending to) (λ from. (refl, tt))

  module _ (task : List ℕ) where
    abbrev RowHas : (Check → Type 0) → Call → Type 0
    RowHas P c = (found : At (about_of s task me c).place) → AllByRecursion P ((about_of s task me c).row found).checks

    whole_by : (c : Call) → RowHas (IsBy me) c → AreBy me (row_for s task c me).checks
    whole_by c all = inl (all_through (IsBy me) (way_to s me (about_of s task me c).place) (about_of s task me c).row (way_by (about_of s task me c).place) all)

    whole_away : (c : Call) → AllByRecursion LooksAway (way_to s me (about_of s task me c).place).checks → RowHas LooksAway c
        → AllByRecursion LooksAway (row_for s task c me).checks
    whole_away c first all = all_through LooksAway (way_to s me (about_of s task me c).place) (about_of s task me c).row first all

    -- where a policy may refuse a change
    set_away : (asked : Module × Change) → AllByRecursion LooksAway (option_map_or (λ e. []) (unless_success (change_in asked.0 asked.1 s.specs).0.errno) [])
    set_away asked = none_by LooksAway (unless_success (change_in asked.0 asked.1 s.specs).0.errno)

    -- a change of the policies moves nothing to who makes it
    pub change_away : (c : Call) → is_change c ≡ true → AllByRecursion LooksAway (row_for s task c me).checks
    change_away (call.Kldload name) change =
        whole_away (call.Kldload name) (refl, tt) (λ m. (refl, none_by LooksAway (option_map load_errno (load_fault s.booted s.specs s.numbers m))))
    change_away (call.Kldunload name) change =
        whole_away (call.Kldunload name) (refl, (refl, tt)) (λ m. none_by LooksAway (option_map unload_errno (unload_fault s.specs m)))
    change_away (call.Sysctl name value) change = whole_away (call.Sysctl name value) tt set_away
    change_away (call.UgidfwAdd rule) change = whole_away (call.UgidfwAdd rule) tt set_away
    change_away (call.UgidfwSet n rule) change = whole_away (call.UgidfwSet n rule) tt set_away
    change_away (call.UgidfwRemove n) change = whole_away (call.UgidfwRemove n) tt set_away
    change_away other change = cc

    -- the checks of each call
    pub row_by : (c : Call) → AreBy me (row_for s task c me).checks
    row_by (call.Send from to text) =
        inr (whole_away (call.Send from to text) (sockets_away from to)
        (λ ends. (refl, none_after LooksAway (nat_le MOST_MESSAGES (count_at s.objects ends.1)))))
    row_by (call.Kldload name) = inr (change_away (call.Kldload name) refl)
    row_by (call.Kldunload name) = inr (change_away (call.Kldunload name) refl)
    row_by (call.Sysctl name value) = inr (change_away (call.Sysctl name value) refl)
    row_by (call.UgidfwAdd rule) = inr (change_away (call.UgidfwAdd rule) refl)
    row_by (call.UgidfwSet n rule) = inr (change_away (call.UgidfwSet n rule) refl)
    row_by (call.UgidfwRemove n) = inr (change_away (call.UgidfwRemove n) refl)
    row_by other = whole_by other (λ what. first_of (assumption, grind (arith, unless_refused)))
