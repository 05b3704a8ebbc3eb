-- A plan has few checks, so that the number of a denied one fits its field.
use Rattle.std.proofs.Common.{◌≡◌, ℕ, ◌+◌, ◌<◌, ◌≤◌, Bool, true, false, List, [], ◌∷◌, length, map, Option, Some, None, Result, Ok, Err, ap, arith, length-append}
use Rattle.std.specs.Option.{option_map_or, ok_or}
use Rattle.std.specs.Prelude.{if◌then◌else◌, nat_le}
use Rattle.std.proofs.lemmas.List.{length-map}
use Rattle.mf_errno.specs.declared.errno.Errno.{Errno}
use Rattle.mf_errno.specs.declared.errno.Errno.TheVariants as errno
use Rattle.mf_errno.specs.declared.module.Module.{Module}
use Rattle.mf_item.specs.Item.{Item}
use Rattle.mf_item.specs.declared.operation.CheckOp.TheVariants as op
use Rattle.mf_item.specs.declared.view.Kind.TheVariants as kinds
use Rattle.mf_policy.specs.Registration as listing
use Rattle.mf_names.specs.declared.limits.TheConstants.{MOST_DESCRIPTORS}
use Rattle.mf_objects.specs.declared.id.Id.{Id}
use Rattle.mf_objects.specs.Descriptors.{fds_at}
use Rattle.mf_objects.specs.Live.{Entities}
use Rattle.mf_calls.specs.declared.script.Call.{Call}
use Rattle.mf_calls.specs.declared.script.Call.TheVariants as call
use Rattle.mf_calls.specs.WellFormed.{IsFormedCall, IsPath}
use Rattle.mf_plan.specs.declared.state.State.{State}
use Rattle.mf_plan.specs.Names.{caller_name}
use Rattle.mf_plan.specs.Path.{entry_of, going_on, lookup_along, lookup_from, nowhere, root}
use Rattle.mf_plan.specs.declared.outline.Check.{Check}
use Rattle.mf_plan.specs.Checks.{on}
use Rattle.mf_plan.specs.Outline.{item_asking}
use Rattle.mf_plan.specs.Plan.{plan_in, plan_of, row_for, call_row}
use Rattle.mf_plan.specs.Relabels.{claimed_in}
use Rattle.mf_plan.specs.Row.{Row, if_there}
use Rattle.mf_plan.specs.Rows.{about_of}
use Rattle.mf_plan.specs.Ways.{At, Place, Way, asking, straight, then_way, way_to, carrying}
use Rattle.mf_plan.specs.Ways.Place.{Asking, Entry, File, Free, Sockets}
use Rattle.mf_plan.specs.Views.{is_dir, process_named, entity_named}
use Rattle.mf_plan.proofs.Finding.{asked_in_effect, row_by}
use Rattle.mf_plan.proofs.LoweredChecks.{plan_long}
use Rattle.mf_perform.specs.declared.verdict.Denial.{Denial}
use Rattle.mf_perform.specs.Verdict.{denial_at, denial_from}
use Rattle.mf_list.specs.Asked.{answer_to}
use Rattle.mf_text.specs.Results.{and_then}

-- Parts of a row

few_if : (n : ℕ) (test : Bool) (rest : List Check) → length rest ≤ n → length (if test then [] else rest) ≤ n
few_if n true rest few = omega arith
few_if n false rest few = few

-- a check that is made where the test holds is one more at most
one_more : (n : ℕ) (test : Bool) (check : Check) (rest : List Check) → length rest ≤ n → length (if test then check ∷ rest else rest) ≤ n + 1
one_more n true check rest few = omega (arith, few)
one_more n false check rest few = omega (arith, few)

few_by : (n : ℕ) (e : Option Errno) (rest : List Check) → length rest ≤ n → length (option_map_or (λ e. []) e rest) ≤ n
few_by n None rest few = few
few_by n (Some e) rest few = omega arith

few_then : {A B : Type 0} (n : ℕ) (found : Result A Errno) (rest : A → Way B) → ((a : A) → length (rest a).checks ≤ n) → length (then_way found rest).checks ≤ n
few_then n (Ok a) rest few = few a
few_then n (Err e) rest few = omega arith

few_there : {A : Type 0} (n : ℕ) (there : Result A Errno) (row : A → Row) → ((a : A) → length (row a).checks ≤ n)
    → length (if_there (λ (found : A). (row found).checks) (λ e. []) there) ≤ n
few_there n (Ok a) row few = few a
few_there n (Err e) row few = omega arith

-- Paths

few_lookups : (o : Entities) (path : List (List ℕ)) (dir : Id) → length (lookup_from o path dir).lookups ≤ length path
unfolding lookup_from
few_lookups o [] dir = omega arith
few_lookups o (name ∷ []) dir = omega arith
few_lookups o (name ∷ below ∷ rest) dir = by_entry (λ id. few_lookups o (below ∷ rest) id) (entry_of o dir name)
  where
    by_test : (b : Bool) (id : Id) → length (lookup_from o (below ∷ rest) id).lookups ≤ length (below ∷ rest)
        → length (dir ∷ (if b then lookup_from o (below ∷ rest) id else nowhere errno.Enotdir).lookups) ≤ length (name ∷ below ∷ rest)
    by_test true id few = omega (arith, few)
    by_test false id few = omega arith

    by_entry : ((id : Id) → length (lookup_from o (below ∷ rest) id).lookups ≤ length (below ∷ rest)) → (entry : Option Id)
        → length (dir ∷ (going_on o (lookup_from o (below ∷ rest)) entry).lookups) ≤ length (name ∷ below ∷ rest)
    by_entry few None = omega arith
    by_entry few (Some id) = by_test (is_dir o id) id (few id)

few_along : (o : Entities) (me : Id) (path : List (List ℕ)) → IsPath path → length (map (on me op.VnodeLookup) (lookup_along o path).lookups) ≤ 10
few_along o me path is = omega (arith, length-map (lookup_along o path).lookups (on me op.VnodeLookup), few_lookups o path root, is.few)

-- paths of a place that are such as a call may name
abbrev IsFormedPlace : Place → Type 0
IsFormedPlace (File path) = IsPath path
IsFormedPlace (Free path) = IsPath path
IsFormedPlace (Entry path) = IsPath path
IsFormedPlace (Asking kind text place) = IsFormedPlace place
IsFormedPlace other = Unit {0}

-- By place: at most ten checks on the way, and by call: at most two behind.
module _ (s : State) (me : Id) where
  few_on_way : (place : Place) → IsFormedPlace place → length (way_to s me place).checks ≤ 10
  few_on_way (File path) formed = few_along s.objects me path formed
  few_on_way (Free path) formed = few_along s.objects me path formed
  few_on_way (Entry path) formed = few_along s.objects me path formed
  few_on_way (Sockets from to) formed =
      few_then 10 (ok_or (entity_named s.objects kinds.Socket from) errno.Enoent)
      (λ from. asking (on me op.SocketSend from) (straight (and_then (ok_or (entity_named s.objects kinds.Socket to) errno.Enoent) (λ to. Ok (from, to))))) (λ from. omega arith)
  few_on_way (Asking kind text place) formed =
      few_then 10 (ok_or (claimed_in s.specs kind text) errno.Einval) (λ request. carrying request (way_to s me place)) (λ request. few_on_way place formed)
  few_on_way other formed = omega arith

  module _ (task : List ℕ) where
    formed_place : (c : Call) → IsFormedCall c → IsFormedPlace (about_of s task me c).place
    formed_place call.Exit formed = tt
    formed_place other formed = assumption formed

    few_row : (c : Call) (what : At (about_of s task me c).place) → length ((about_of s task me c).row what).checks ≤ 2
    few_row (call.OpenFd path read write) id =
        let full : List Check = if nat_le MOST_DESCRIPTORS (length (fds_at s.objects me)) then [] else [] in
        let writes : List Check = if write then on me op.VnodeOpenWrite id ∷ full else full in
        let reads : List Check = if read then on me op.VnodeOpenRead id ∷ writes else writes in
        let none : length full ≤ 0 = few_if 0 (nat_le MOST_DESCRIPTORS (length (fds_at s.objects me))) [] (omega arith) in
        let few : length writes ≤ 1 = one_more 0 write (on me op.VnodeOpenWrite id) full none in
        few_if 2 (is_dir s.objects id) reads (one_more 1 read (on me op.VnodeOpenRead id) writes few)
    few_row other what = first_of (omega arith, grind arith)

    few_for : (c : Call) → IsFormedCall c → length (row_for s task c me).checks ≤ 12
    few_for c formed =
        let about = about_of s task me c in
        let way = way_to s me about.place in
        let behind : List Check = if_there (λ found. (about.row found).checks) (λ e. []) way.there in
        omega (arith, length-append way.checks behind, few_on_way about.place (formed_place c formed), few_there 2 way.there about.row (few_row c))

few_called : (s : State) (task : List ℕ) (c : Call) (caller : Option Id) → IsFormedCall c → length (row_by s task c caller).checks ≤ 12
few_called s task c None formed = omega arith
few_called s task c (Some me) formed = few_for s me task c formed

-- no call asks for more than a plan has room for
pub few_checks : (s : State) (task : List ℕ) (child : Option (List ℕ)) (c : Call) → IsFormedCall c → length (plan_of s task child c).items ≤ 12
few_checks s task child c formed =
    let row = call_row s task child c in
    let caller = process_named s.objects (caller_name task child) in
    let asked = length-map row.checks (item_asking s.objects (asked_in_effect row.effect)) in
    omega (arith, plan_long s caller (plan_in s row), asked, few_called s task c caller formed)

-- Denials

-- a denial's number is that of one of the checks
pub denied_within : (policies : List listing.Entry) (n : ℕ) (items : List Item) (d : Denial) → denial_from policies n items ≡ Some d → d.item < n + length items
denied_within policies n [] d is = cc
denied_within policies n (item ∷ items) d is =
    one (answer_to policies item).errno (answer_to policies item).by (denial_from policies (n + 1) items) (denied_within policies (n + 1) items d) is
  where
    here : (by : Option Module) (e : Errno) → Some (record { item = n; errno = e; by = by }) ≡ Some d → d.item < n + length (item ∷ items)
    here by e is =
        let same : record { item = n; errno = e; by = by } ≡ d = cc in
        let number : n ≡ d.item = ap (λ (x : Denial). x.item) same in
        omega (arith, number)

    one : (e : Errno) (by : Option Module) (later : Option Denial) → (later ≡ Some d → d.item < n + 1 + length items)
        → denial_at n e by later ≡ Some d → d.item < n + length (item ∷ items)
    one errno.Success by later rest is = omega (arith, rest is)
    one e by later rest is = here by e is
