-- Where a call may be done, the movements of its row's checks lead to what its effect changes.
use Rattle.std.proofs.Common.{◌≡◌, inr, ℕ, Bool, true, false, cond, nat_le, nat_lt, nat_eq, List, [], ◌∷◌, ◌++◌, length, Option, Some, None, Result, Ok, Err, refl, ap, sym, ◌∙◌}
use Rattle.std.specs.Prelude.{IfSome}
use Rattle.std.specs.Option.{ok_or}
use Rattle.mf_text.specs.Results.{and_then}
use Rattle.mf_errno.specs.declared.errno.Errno.{Errno}
use Rattle.mf_errno.specs.declared.errno.Errno.TheVariants as errno
use Rattle.mf_item.specs.declared.operation.CheckOp.TheVariants as op
use Rattle.mf_item.specs.declared.view.Kind.TheVariants as kinds
use Rattle.mf_names.specs.declared.limits.TheConstants.{CONTENT_LIMIT}
use Rattle.mf_objects.specs.declared.limits.TheConstants.{MOST_ENTITIES, MOST_MESSAGES, PIPE_LIMIT}
use Rattle.mf_objects.specs.declared.id.Id.{Id}
use Rattle.mf_objects.specs.Live.{Entities, content_at, count_at}
use Rattle.mf_objects.specs.Titles.{parent_of}
use Rattle.mf_calls.specs.declared.script.Call.{Call}
use Rattle.mf_calls.specs.declared.script.Call.TheVariants as call
use Rattle.mf_plan.specs.declared.outline.Check.{Check}
use Rattle.mf_plan.specs.declared.plan.Tail.{Tail}
use Rattle.mf_plan.specs.declared.plan.Tail.TheVariants.{Do, Refuse}
use Rattle.mf_plan.specs.declared.state.State.{State}
use Rattle.mf_plan.specs.Checks.{on, by_socket}
use Rattle.mf_plan.specs.Effect.{Effect}
use Rattle.mf_plan.specs.Effect.Effect.{Unchanged, Make, Append, Deliver, Empty, Receive, SetMode, Open, Close, Unlink, End, Relabel, Load, Unload, Set}
use Rattle.mf_plan.specs.declared.target.Target.TheVariants.{Name}
use Rattle.mf_plan.specs.Path.{entry_at, entry_of, going_on, lookup_from, nowhere, root}
use Rattle.mf_plan.specs.Plan.{row_for}
use Rattle.mf_plan.specs.Row.{Row, if_there, through}
use Rattle.mf_plan.specs.Rows.{about_of}
use Rattle.mf_plan.specs.Views.{entity_named, is_dir, overfills}
use Rattle.mf_plan.specs.Ways.{At, Way, asking, straight, then_way, way_to}
use Rattle.mf_moves.specs.Moves.{Lead}
use Rattle.mf_moves.proofs.Leads.{all_moves, lead_itself, lead_more, lead_past}

-- under some name the directory has this entry
abbrev pub HoldsSo : Entities → Id → Id → Type 0
HoldsSo o dir id = (name : List ℕ) × (entry_of o dir name ≡ Some id)

-- The table: to what an effect of this process has to be led. What is emptied, or has a message taken, leads to it.
abbrev pub IsReached : Entities → Id → List (Id × Id) → Effect → Type 0
IsReached o me moves (Make name what) = IfSome (parent_of what) (λ dir. Lead moves me dir)
IsReached o me moves (Append id text) = Lead moves me id
IsReached o me moves (Deliver id text) = Lead moves me id
IsReached o me moves (SetMode id mode) = Lead moves me id
IsReached o me moves (Open id fd) = Lead moves me id
IsReached o me moves (Close id n) = Lead moves me id
IsReached o me moves (Unlink id) = Lead moves me id × ((dir : Id) × Lead moves me dir × HoldsSo o dir id)
IsReached o me moves (End id) = id ≡ me
IsReached o me moves (Empty id) = Lead moves id me
IsReached o me moves (Receive id) = Lead moves id me
IsReached o me moves Unchanged = Unit {0}
IsReached o me moves (Relabel id request) = Unit {0}
IsReached o me moves (Load m) = Unit {0}
IsReached o me moves (Unload m) = Unit {0}
IsReached o me moves (Set m change) = Unit {0}

abbrev HasReached : Entities → Id → List Check → Effect → Type 0
HasReached o me checks effect = IsReached o me (all_moves checks) effect

made_more : (first rest : List Check) (me : Id) (parent : Option Id) → IfSome parent (λ dir. Lead (all_moves rest) me dir)
    → IfSome parent (λ dir. Lead (all_moves (first ++ rest)) me dir)
made_more first rest me None lead = tt
made_more first rest me (Some dir) lead = lead_more first rest me dir lead

-- checks that come first take nothing away
more : (o : Entities) (first rest : List Check) (me : Id) (effect : Effect) → HasReached o me rest effect → HasReached o me (first ++ rest) effect
more o first rest me (Make name what) has = made_more first rest me (parent_of what) has
more o first rest me (Append id text) has = lead_more first rest me id has
more o first rest me (Deliver id text) has = lead_more first rest me id has
more o first rest me (SetMode id mode) has = lead_more first rest me id has
more o first rest me (Open id fd) has = lead_more first rest me id has
more o first rest me (Close id n) has = lead_more first rest me id has
more o first rest me (Unlink id) has = (lead_more first rest me id has.0, (has.1.0, lead_more first rest me has.1.0 has.1.1, has.1.2))
more o first rest me (End id) has = has
more o first rest me (Empty id) has = lead_more first rest id me has
more o first rest me (Receive id) has = lead_more first rest id me has
more o first rest me Unchanged has = tt
more o first rest me (Relabel id request) has = tt
more o first rest me (Load m) has = tt
more o first rest me (Unload m) has = tt
more o first rest me (Set m change) has = tt

-- what a row has reached where it may be done
abbrev RowReaches : Entities → Id → Row → Type 0
RowReaches o me row = row.tail ≡ Do → HasReached o me row.checks row.effect

at_there : {A : Type 0} (o : Entities) (me : Id) (way : Way A) (row : A → Row) → ((a : A) → way.there ≡ Ok a → RowReaches o me (row a)) → RowReaches o me (through way row)
at_there {A = A} o me way row all = by_there way.there refl
  where
    by_there : (there : Result A Errno) → way.there ≡ there → if_there (λ a. (row a).tail) Refuse there ≡ Do
        → HasReached o me (way.checks ++ if_there (λ a. (row a).checks) (λ e. []) there) (if_there (λ a. (row a).effect) (λ e. Unchanged) there)
    by_there (Ok a) is done = more o way.checks (row a).checks me (row a).effect (all a is done)
    by_there (Err e) is done = cc

-- a test that refuses
unless : (o : Entities) (test : Bool) (e : Errno) (me : Id) (checks : List Check) (tail : Tail) (effect : Effect) → (tail ≡ Do → HasReached o me checks effect)
    → cond test (Refuse e) tail ≡ Do → HasReached o me (cond test [] checks) effect
unless o true e me checks tail effect all done = cc
unless o false e me checks tail effect all done = all done

-- an entry that was found along a path is held by its directory

held_there : (o : Entities) (dir : Id) (name : List ℕ) (entry : Id × Id) → entry_at (Name dir (entry_of o dir name)) ≡ Ok entry → HoldsSo o entry.0 entry.1
held_there o dir name entry is = one (entry_of o dir name) refl is
  where
    one : (found : Option Id) → entry_of o dir name ≡ found → entry_at (Name dir found) ≡ Ok entry → HoldsSo o entry.0 entry.1
    one None found is = cc
    one (Some id) found is =
        let same : dir ≡ entry.0 = cc in
        let own : id ≡ entry.1 = cc in
        (name, ap (λ (d : Id). entry_of o d name) (sym same) ∙ found ∙ ap (λ (i : Id). Some i) own)

held_from : (o : Entities) (path : List (List ℕ)) (dir : Id) (entry : Id × Id) → entry_at (lookup_from o path dir).target ≡ Ok entry → HoldsSo o entry.0 entry.1
unfolding lookup_from
held_from o [] dir entry is = cc
held_from o (name ∷ []) dir entry is = held_there o dir name entry is
held_from o (name ∷ below ∷ rest) dir entry is = by_entry (λ mid is. held_from o (below ∷ rest) mid entry is) (entry_of o dir name) is
  where
    by_dir : ((mid : Id) → entry_at (lookup_from o (below ∷ rest) mid).target ≡ Ok entry → HoldsSo o entry.0 entry.1) → (mid : Id) (b : Bool)
        → entry_at (cond b (lookup_from o (below ∷ rest) mid) (nowhere errno.Enotdir)).target ≡ Ok entry → HoldsSo o entry.0 entry.1
    by_dir on mid true is = on mid is
    by_dir on mid false is = cc

    by_entry : ((mid : Id) → entry_at (lookup_from o (below ∷ rest) mid).target ≡ Ok entry → HoldsSo o entry.0 entry.1) → (found : Option Id)
        → entry_at (going_on o (lookup_from o (below ∷ rest)) found).target ≡ Ok entry → HoldsSo o entry.0 entry.1
    by_entry on None is = cc
    by_entry on (Some mid) is = by_dir on mid (is_dir o mid) is

-- the check in front leads from the caller to that entity, or from it to the caller

to_object : (checks : List Check) (me id : Id) → Lead ((me, id) ∷ all_moves checks) me id
to_object checks me id = inr (refl, lead_itself (all_moves checks) id)

to_caller : (checks : List Check) (me id : Id) → Lead ((id, me) ∷ all_moves checks) id me
to_caller checks me id = inr (refl, lead_itself (all_moves checks) me)

module _ (s : State) (task : List ℕ) (me : Id) where
  abbrev mine : (c : Call) → At (about_of s task me c).place → Row
  mine c = (about_of s task me c).row

  abbrev way_of : (c : Call) → Way (At (about_of s task me c).place)
  way_of c = way_to s me (about_of s task me c).place

  -- from a socket to another
  abbrev sending : List ℕ → Id → Way (Id × Id)
  sending to from =
      asking (on me op.SocketSend from)
      (straight (and_then (ok_or (entity_named s.objects kinds.Socket to) errno.Enoent) (λ to. let ends : Id × Id = (from, to) in Ok ends)))

  sends : (text : List ℕ) (from to : Option Id)
      → RowReaches s.objects me (through (then_way (ok_or from errno.Enoent) (λ from. asking (on me op.SocketSend from)
      (straight (and_then (ok_or to errno.Enoent) (λ to. let ends : Id × Id = (from, to) in Ok ends)))))
      (mine (call.Send [] [] text)))
  sends text None to done = cc
  sends text (Some from) None done = cc
  sends text (Some from) (Some to) done =
      one (nat_le MOST_MESSAGES (count_at s.objects to)) done
    where
      one : (full : Bool) → cond full (Refuse errno.Enobufs) Do ≡ Do
          → Lead (all_moves (on me op.SocketSend from ∷ by_socket me from op.SocketDeliver to ∷ cond full [] [])) me to
      one full done = inr (refl, inr (refl, lead_itself (all_moves (cond full [] [])) to))

  -- The table.
  pub reaches : (c : Call) → RowReaches s.objects me (row_for s task c me)
  reaches call.Exit = at_there s.objects me (way_of call.Exit) (mine call.Exit) (λ none is done. refl)
  reaches (call.Create path) =
      at_there s.objects me (way_of (call.Create path)) (mine (call.Create path)) (λ dir is done. to_object (cond (nat_le MOST_ENTITIES (length s.objects.live)) [] []) me dir)
  reaches (call.Mkdir path) =
      at_there s.objects me (way_of (call.Mkdir path)) (mine (call.Mkdir path)) (λ dir is done. to_object (cond (nat_le MOST_ENTITIES (length s.objects.live)) [] []) me dir)
  reaches (call.Write path text) =
      at_there s.objects me (way_of (call.Write path text)) (mine (call.Write path text)) (λ id is.
      unless s.objects (is_dir s.objects id) errno.Eisdir me
      (on me op.VnodeOpenWrite id ∷ on me op.VnodeWrite id ∷ cond (overfills CONTENT_LIMIT s.objects text id) [] [])
      (cond (overfills CONTENT_LIMIT s.objects text id) (Refuse errno.Efbig) Do) (Append id text)
      (λ done. lead_past (on me op.VnodeOpenWrite id) (on me op.VnodeWrite id ∷ cond (overfills CONTENT_LIMIT s.objects text id) [] []) me id
      (to_object (cond (overfills CONTENT_LIMIT s.objects text id) [] []) me id)))
  reaches (call.Fwrite n text) =
      at_there s.objects me (way_of (call.Fwrite n text)) (mine (call.Fwrite n text)) (λ id is done.
      to_object (cond (overfills CONTENT_LIMIT s.objects text id) [] []) me id)
  reaches (call.Chmod path mode) = at_there s.objects me (way_of (call.Chmod path mode)) (mine (call.Chmod path mode)) (λ id is done. to_object [] me id)
  reaches (call.Unlink path) =
      at_there s.objects me (way_of (call.Unlink path)) (mine (call.Unlink path)) (λ entry is done. (
        lead_past (on me op.VnodeUnlinkDir entry.0) (on me op.VnodeUnlink entry.1 ∷ cond (nat_lt 0 (count_at s.objects entry.1)) [] []) me entry.1
            (to_object (cond (nat_lt 0 (count_at s.objects entry.1)) [] []) me entry.1),
        (entry.0, to_object (on me op.VnodeUnlink entry.1 ∷ cond (nat_lt 0 (count_at s.objects entry.1)) [] []) me entry.0, held_from s.objects path root entry is),
      ))
  reaches (call.OpenFd path read write) =
      at_there s.objects me (way_of (call.OpenFd path read write)) (mine (call.OpenFd path read write)) (λ id is done.
      lead_itself (all_moves (mine (call.OpenFd path read write) id).checks) me)
  reaches (call.Close n) = at_there s.objects me (way_of (call.Close n)) (mine (call.Close n)) (λ id is done. refl)
  reaches (call.Pread name) =
      at_there s.objects me (way_of (call.Pread name)) (mine (call.Pread name)) (λ id is done.
      to_caller (cond (nat_eq (length (content_at s.objects id)) 0) [] []) me id)
  reaches (call.Pwrite name text) =
      at_there s.objects me (way_of (call.Pwrite name text)) (mine (call.Pwrite name text)) (λ id is done.
      to_object (cond (overfills PIPE_LIMIT s.objects text id) [] []) me id)
  reaches (call.Recv name) =
      at_there s.objects me (way_of (call.Recv name)) (mine (call.Recv name)) (λ id is done. to_caller (cond (nat_eq (count_at s.objects id) 0) [] []) me id)
  reaches (call.Send from to text) = sends text (entity_named s.objects kinds.Socket from) (entity_named s.objects kinds.Socket to)
  reaches other = at_there s.objects me (way_of other) (mine other) (λ a is done. tt)
