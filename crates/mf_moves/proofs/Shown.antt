-- What a call hands back is covered.
use Rattle.std.proofs.Common.{◌≡◌, inl, inr, ℕ, Bool, true, false, not, ◌||◌, cond, nat_eq, List, [], ◌∷◌, ◌++◌, length, map, take, Option, Some, None, option_map, option_and_then, slice_index_or, Result, Ok, Err, refl, ap, sym, ◌∙◌, subst}
use Rattle.std.specs.List.{AllByRecursion}
use Rattle.std.specs.Option.{ok_or, option_map_or}
use Rattle.mf_errno.specs.declared.errno.Errno.{Errno}
use Rattle.mf_errno.specs.declared.errno.Errno.TheVariants as errno
use Rattle.mf_errno.specs.declared.module.Module.{Module}
use Rattle.mf_errno.specs.declared.module.Module.TheVariants as modules
use Rattle.mf_errno.specs.Names.{module_named}
use Rattle.mf_item.specs.declared.operation.CheckOp.TheVariants as op
use Rattle.mf_item.specs.declared.view.Kind.TheVariants as kinds
use Rattle.mf_policy.specs.Modules.{wants_slot}
use Rattle.mf_policy.specs.Registration.{Entry, is_listed, slot_for}
use Rattle.mf_policy.specs.Settings.{change_in, listed_rules}
use Rattle.mf_policy.specs.declared.settings.Change.{Change}
use Rattle.mf_policy.specs.declared.settings.Change.TheVariants.{RuleAdd}
use Rattle.mf_objects.specs.declared.id.Id.{Id}
use Rattle.mf_objects.specs.declared.limits.TheConstants.{MOST_NAMES}
use Rattle.mf_objects.specs.Descriptors.{fd_in, fds_at, fds_of, lowest_free}
use Rattle.mf_objects.specs.declared.descriptors.Fd.{Fd}
use Rattle.mf_objects.specs.Head.{head_of}
use Rattle.mf_objects.specs.Live.{Entities, LiveEntity, content_at, content_of, count_at, count_of, cred_of, entry_count, file_at, file_of, kind_of, live_at, messages_of, no_cred, no_file}
use Rattle.mf_objects.specs.Titles.{in_byte_order, names_at}
use Rattle.mf_calls.specs.declared.script.Call.{Call}
use Rattle.mf_calls.specs.declared.script.Call.TheVariants as call
use Rattle.mf_plan.specs.declared.descriptors.Access.TheVariants.{Reading}
use Rattle.mf_plan.specs.declared.lookup.Lookup.{Lookup}
use Rattle.mf_plan.specs.declared.outline.Check.{Check}
use Rattle.mf_plan.specs.declared.plan.Tail.TheVariants.{Do, Refuse}
use Rattle.mf_plan.specs.declared.reply.Payload.TheVariants as payload
use Rattle.mf_plan.specs.declared.state.State.{State}
use Rattle.mf_plan.specs.Checks.{on}
use Rattle.mf_plan.specs.Names.{caller_name}
use Rattle.mf_plan.specs.Path.{found_at, lookup_along, root}
use Rattle.mf_plan.specs.Payloads.{head, label, label_parts, loaded, message, names}
use Rattle.mf_plan.specs.Plan.{row_for}
use Rattle.mf_plan.specs.Row.{Row, if_there, through}
use Rattle.mf_plan.specs.Rows.{about_of}
use Rattle.mf_plan.specs.Views.{entity_named, is_dir, process_named}
use Rattle.mf_plan.specs.Ways.{At, Way, allows, along, opened_file_at, straight, way_to}
use Rattle.mf_moves.specs.Laws.{ShowsAreCovered}
use Rattle.mf_moves.specs.Moves.{Lead, moves_in}
use Rattle.mf_moves.specs.Alike.{AreAlike, IsSame}
use Rattle.mf_moves.proofs.Done.{done as is_done, handed, moves}
use Rattle.mf_moves.proofs.Leads.{all_moves, lead_itself, lead_more, lead_past}
use Rattle.mf_moves.proofs.Walks.{same_count, same_dir, same_names, same_walk}

-- What is handed back, of an entity that is the same

module _ (s s' : State) (alike : AreAlike s s') (id : Id) (same : IsSame s.objects s'.objects id) where
  same_head : head s.objects id ≡ head s'.objects id
  same_head = ap (λ (found : Option LiveEntity). payload.Head (head_of (option_map_or (λ e. content_of e.what) found []))) same.entity

  same_size : length (content_at s.objects id) ≡ length (content_at s'.objects id)
  same_size = ap (λ (found : Option LiveEntity). length (option_map_or (λ e. content_of e.what) found [])) same.entity

  same_stat : payload.Stat (file_at s.objects id) (length (content_at s.objects id)) ≡ payload.Stat (file_at s'.objects id) (length (content_at s'.objects id))
  same_stat =
      ap (λ (found : Option LiveEntity). payload.Stat (option_map_or (λ e. file_of e.what) found no_file) (length (option_map_or (λ e. content_of e.what) found []))) same.entity

  same_message : message s.objects id ≡ message s'.objects id
  same_message = ap (λ (found : Option LiveEntity). payload.Head (head_of (slice_index_or (option_map_or (λ e. messages_of e.what) found []) 0 []))) same.entity

  same_label : label s id ≡ label s' id
  same_label =
      ap (λ (specs : List Entry). label (record s { specs = specs }) id) alike.specs
      ∙ ap (λ (found : Option LiveEntity). payload.Label (label_parts s'.specs (option_map_or (λ e. kind_of e.what) found kinds.Process) (option_map_or (λ e. e.label) found []))) same.entity

  same_list : names_at s.objects id ≡ names_at s'.objects id
  unfolding names_at
  same_list = ap (λ (all : List (List ℕ)). take MOST_NAMES (in_byte_order all)) (same_names s.objects s'.objects id same)

  same_number : count_at s.objects id ≡ count_at s'.objects id
  same_number =
      ap (λ (n : ℕ). option_map_or (λ e. count_of n e.what) (live_at s.objects id) 0) (same_count s.objects s'.objects id same)
      ∙ ap (λ (found : Option LiveEntity). option_map_or (λ e. count_of (entry_count s'.objects id) e.what) found 0) same.entity

  same_listing : names s.objects id ≡ names s'.objects id
  same_listing =
      ap (λ (b : Bool). cond b (payload.Names (count_at s.objects id) (names_at s.objects id)) payload.None) (same_dir s.objects s'.objects id same)
      ∙ ap (λ (n : ℕ). cond (is_dir s'.objects id) (payload.Names n (names_at s.objects id)) payload.None) same_number
      ∙ ap (λ (all : List (List ℕ)). cond (is_dir s'.objects id) (payload.Names (count_at s'.objects id) all) payload.None) same_list

  pub same_fds : fds_at s.objects id ≡ fds_at s'.objects id
  same_fds = ap (λ (found : Option LiveEntity). option_map_or (λ e. fds_of e.what) found []) same.entity

-- Rows

-- a row that hands back nothing
nothing : {A : Type 0} (way : Way A) (row : A → Row) → ((a : A) → (row a).payload ≡ payload.None) → (through way row).payload ≡ payload.None
nothing {A = A} way row none = by_there way.there
  where
    by_there : (there : Result A Errno) → if_there (λ a. (row a).payload) (λ e. payload.None) there ≡ payload.None
    by_there (Ok a) = none a
    by_there (Err e) = refl

module _ (s s' : State) (task : List ℕ) (me : Id) (alike : AreAlike s s') where
  abbrev o : Entities
  o = s.objects

  abbrev o' : Entities
  o' = s'.objects

  -- all is the same from which these movements lead to the caller
  abbrev AllSame : List Check → Type 0
  AllSame checks = (id : Id) → Lead (all_moves checks) id me → IsSame o o' id

  -- what is found by its name, or through a descriptor, and leads to the caller
  by_name : (found found' : Option Id) (e : Errno) (row row' : Id → Row) → found ≡ found' → ((id : Id) → Lead (all_moves (row id).checks) id me)
      → ((id : Id) → IsSame o o' id → (row id).payload ≡ (row' id).payload) → AllSame (through (straight (ok_or found e)) row).checks
      → (through (straight (ok_or found e)) row).payload ≡ (through (straight (ok_or found' e)) row').payload
  by_name found found' e row row' is leads pays all =
      one found all ∙ ap (λ (x : Option Id). (through (straight (ok_or x e)) row').payload) is
    where
      one : (x : Option Id) → AllSame (through (straight (ok_or x e)) row).checks → (through (straight (ok_or x e)) row).payload ≡ (through (straight (ok_or x e)) row').payload
      one None all = refl
      one (Some id) all = pays id (all id (leads id))

  looked : (dirs : List Id) (rest : List Check) → AllSame (map (on me op.VnodeLookup) dirs ++ rest) → AllByRecursion (IsSame o o') dirs
  looked [] rest all = tt
  looked (dir ∷ dirs) rest all =
      (all dir (inr (refl, lead_itself (all_moves (map (on me op.VnodeLookup) dirs ++ rest)) me)), looked dirs rest (λ id lead. all id (inl lead)))

  -- what is found along a path
  by_path : (path : List (List ℕ)) (row row' : Id → Row) → ((id : Id) → (row id).tail ≡ Do → AllSame (row id).checks → (row id).payload ≡ (row' id).payload)
      → (through (along me found_at (lookup_along o path)) row).tail ≡ Do → AllSame (through (along me found_at (lookup_along o path)) row).checks
      → (through (along me found_at (lookup_along o path)) row).payload ≡ (through (along me found_at (lookup_along o' path)) row').payload
  by_path path row row' pays done all = one (found_at (lookup_along o path).target) refl done all
    where
      one : (there : Result Id Errno) → found_at (lookup_along o path).target ≡ there → if_there (λ id. (row id).tail) Refuse there ≡ Do
          → AllSame (map (on me op.VnodeLookup) (lookup_along o path).lookups ++ if_there (λ id. (row id).checks) (λ e. []) there)
          → if_there (λ id. (row id).payload) (λ e. payload.None) there ≡ if_there (λ id. (row' id).payload) (λ e. payload.None) (found_at (lookup_along o' path).target)
      one (Err e) is done all = cc
      one (Ok id) is done all =
          pays id done (λ x lead. all x (lead_more (map (on me op.VnodeLookup) (lookup_along o path).lookups) (row id).checks x me lead))
          ∙ ap (λ (there : Result Id Errno). if_there (λ id. (row' id).payload) (λ e. payload.None) there)
          (sym (ap (λ (walk : Lookup). found_at walk.target) (same_walk o o' path root id (looked (lookup_along o path).lookups (row id).checks all) is) ∙ is))

  abbrev mine : (c : Call) → At (about_of s task me c).place → Row
  mine c = (about_of s task me c).row

  abbrev mine' : (c : Call) → At (about_of s' task me c).place → Row
  mine' c = (about_of s' task me c).row

  to_caller : (checks : List Check) (id : Id) → Lead ((id, me) ∷ all_moves checks) id me
  to_caller checks id = inr (refl, lead_itself (all_moves checks) me)

  own : (checks : List Check) → AllSame checks → IsSame o o' me
  own checks all = all me (lead_itself (all_moves checks) me)

  unless : (test : Bool) (e : Errno) (checks : List Check) (id : Id) → cond test (Refuse e) Do ≡ Do → Lead (all_moves checks) id me
      → Lead (all_moves (cond test [] checks)) id me
  unless true e checks id done lead = cc
  unless false e checks id done lead = lead

  -- The table.
  pub shows : (c : Call) → (row_for s task c me).tail ≡ Do → AllSame (row_for s task c me).checks → (row_for s task c me).payload ≡ (row_for s' task c me).payload
  shows call.Getpmac done all = same_label s s' alike me (own [] all)
  shows (call.Read path) done all =
      by_path path (mine (call.Read path)) (mine' (call.Read path)) (λ id done all.
      same_head s s' alike id (all id (unless (is_dir o id) errno.Eisdir (on me op.VnodeOpenRead id ∷ on me op.VnodeRead id ∷ []) id done
      (lead_past (on me op.VnodeOpenRead id) (on me op.VnodeRead id ∷ []) id me (to_caller [] id))))) done all
  shows (call.Stat path) done all =
      by_path path (mine (call.Stat path)) (mine' (call.Stat path)) (λ id done all. same_stat s s' alike id (all id (to_caller [] id))) done all
  shows (call.Getfmac path) done all =
      by_path path (mine (call.Getfmac path)) (mine' (call.Getfmac path)) (λ id done all. same_label s s' alike id (all id (to_caller [] id))) done all
  shows (call.Readdir path) done all =
      by_path path (mine (call.Readdir path)) (mine' (call.Readdir path)) (λ id done all.
      same_listing s s' alike id (all id (unless (not (is_dir o id)) errno.Enotdir (on me op.VnodeReaddir id ∷ []) id done (to_caller [] id)))) done all
  shows (call.OpenFd path read write) done all =
      by_path path (mine (call.OpenFd path read write)) (mine' (call.OpenFd path read write)) (λ id done all.
      ap (λ (fds : List Fd). payload.Fd (lowest_free fds)) (same_fds s s' alike me (own (mine (call.OpenFd path read write) id).checks all))) done all
  shows (call.Fread n) done all =
      by_name (opened_file_at o me Reading n) (opened_file_at o' me Reading n) errno.Ebadf (mine (call.Fread n)) (mine' (call.Fread n))
      (ap (λ (fds : List Fd). option_map (λ (fd : Fd). fd.file) (option_and_then (λ (fd : Fd). cond (allows Reading fd) (Some fd) None) (fd_in fds n)))
      (same_fds s s' alike me (own (row_for s task (call.Fread n) me).checks all)))
      (λ id. to_caller [] id) (λ id same. same_head s s' alike id same) all
  shows (call.Pread name) done all =
      by_name (entity_named o kinds.Pipe name) (entity_named o' kinds.Pipe name) errno.Enoent (mine (call.Pread name)) (mine' (call.Pread name)) (alike.names kinds.Pipe name)
      (λ id. to_caller (cond (nat_eq (length (content_at o id)) 0) [] []) id) (λ id same. same_head s s' alike id same) all
  shows (call.Pstat name) done all =
      by_name (entity_named o kinds.Pipe name) (entity_named o' kinds.Pipe name) errno.Enoent (mine (call.Pstat name)) (mine' (call.Pstat name)) (alike.names kinds.Pipe name)
      (λ id. to_caller [] id) (λ id same. ap payload.Size (same_size s s' alike id same)) all
  shows (call.Recv name) done all =
      by_name (entity_named o kinds.Socket name) (entity_named o' kinds.Socket name) errno.Enoent (mine (call.Recv name)) (mine' (call.Recv name)) (alike.names kinds.Socket name)
      (λ id. to_caller (cond (nat_eq (count_at o id) 0) [] []) id) (λ id same. same_message s s' alike id same) all
  shows call.Kldstat done all = ap (λ (specs : List Entry). payload.Modules (map loaded specs)) alike.specs
  shows (call.Kldload name) done all =
      ap (λ (n : ℕ). (if_there (λ (m : Module). payload.Slot (slot_for (wants_slot m) n)) (λ e. payload.None) (ok_or (module_named name) errno.Enoent))) alike.numbers
  shows call.UgidfwList done all =
      ap (λ (specs : List Entry). (if_there (λ (x : Unit {0}). option_map_or payload.Rules (listed_rules specs) payload.None) (λ e. payload.None)
      (cond (is_listed modules.Bsdextended specs) (Ok tt) (Err errno.Enoent)))) alike.specs
  shows (call.UgidfwAdd rule) done all =
      ap (λ (specs : List Entry). (row_for (record s { specs = specs }) task (call.UgidfwAdd rule) me).payload) alike.specs
      ∙ ap (λ (found : Option LiveEntity). if_there (λ (asked : Module × Change). option_map_or payload.Rule (change_in asked.0 asked.1 s'.specs).0.number payload.None) (λ (e : Errno). payload.None)
      (cond (not (nat_eq (option_map_or (λ e. cred_of e.what) found no_cred).uid 0) || false) (Err errno.Eperm)
      (cond (not (is_listed modules.Bsdextended s'.specs)) (Err errno.Enoent) (let asked : Module × Change = (modules.Bsdextended, RuleAdd rule) in Ok asked))))
      (own (row_for s task (call.UgidfwAdd rule) me).checks all).entity
  shows other done all =
      nothing (way_to s me (about_of s task me other).place) (mine other) (λ a. refl)
      ∙ sym (nothing (way_to s' me (about_of s' task me other).place) (mine' other) (λ a. refl))

pub shows_covered : ShowsAreCovered
shows_covered s s' task child c me shown shown' named alike all ok ok' =
    let named' : process_named s'.objects (caller_name task child) ≡ Some me = sym (alike.names kinds.Process (caller_name task child)) ∙ named in
    let is : moves_in s task child c ≡ all_moves (row_for s task c me).checks = moves s task child c me named shown ok in
    sym (handed s task child c me named shown ok)
    ∙ shows s s' task me alike c (is_done s task child c me named shown ok)
    (λ id lead. all id (subst (λ (moves : List (Id × Id)). Lead moves id me) (sym is) lead))
    ∙ handed s' task child c me named' shown' ok'
