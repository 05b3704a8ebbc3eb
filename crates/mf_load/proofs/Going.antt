-- What a line of one task makes of what stands of a load.
use Rattle.std.proofs.Common.{◌≡◌, ◌≢◌, ℕ, ◌<◌, ◌≤◌, ◌+◌, ◌*◌, nat_eq, Bool, true, false, cond, not, ◌&&◌, List, [], ◌∷◌, ◌++◌, Some, None, length, length-append, refl, ap, sym, ◌∙◌, subst, arith, eq-eqb, codes}
use Rattle.std.specs.Prelude.{find, filter, take}
use Rattle.std.specs.List.{AllByRecursion}
use Rattle.std.specs.Str.{bytes_eq}
use Rattle.std.proofs.lemmas.Bool.Decides.{nat_tests}
use Rattle.std.proofs.lemmas.List.{length-map}
use Rattle.mf_errno.specs.declared.errno.Errno.TheVariants as errno
use Rattle.mf_item.specs.declared.operation.CheckOp.TheVariants as op
use Rattle.mf_objects.proofs.Entities.{changed_at}
use Rattle.mf_objects.specs.declared.id.Id.{Id}
use Rattle.mf_objects.specs.Live.{LiveEntity, live_at, has_id, is_one_named, is_entry}
use Rattle.mf_objects.specs.Head.{head_of}
use Rattle.mf_objects.specs.Titles.{entry_names, in_byte_order}
use Rattle.mf_objects.specs.Changes.{appended, with_what, with_change, without}
use Rattle.mf_calls.specs.Generated.{LoadCall, call_of, task_name, scratch_name, is_even}
use Rattle.mf_calls.specs.Generated.{LoadCall as load}
use Rattle.mf_calls.proofs.Loads.{IsDrawn}
use Rattle.mf_plan.specs.declared.state.State.{State}
use Rattle.mf_plan.specs.declared.reply.Payload.TheVariants as payload
use Rattle.mf_plan.specs.declared.reply.Reply.{Reply}
use Rattle.mf_plan.specs.declared.reply.Reply.TheVariants as reply
use Rattle.mf_perform.specs.Effect.{with_objects}
use Rattle.mf_perform.specs.OneCall.{call_reply, call_state}
use Rattle.mf_load.specs.Alone.{Own, with_held, with_scratch, without_scratch, is_other_name, denied, own_reply, own_step}
use Rattle.mf_objects.proofs.Finding.{find_push_hit, find_beyond}
use Rattle.mf_load.proofs.Finding.{find_filter_gone, none_passes, all_push, all_from, one_fewer, only_one, names_push, names_push_other, names_filter, names_stay}
use Rattle.mf_load.proofs.Names.{bytes_same, scratches_differ}
use Rattle.mf_load.proofs.Known.{biba_alone, at, directory_id, file_id, the_scratch, FitsLoad, IsScratch, HasScratch}
use Rattle.mf_load.proofs.Keeping.{pushed, push_fixed, push_scratch, write_fixed, write_scratch, write_names, remove_fixed, remove_scratch, OtherThan, ids_differ}
use Rattle.mf_load.proofs.Totals.{total, total_same, total_at}
use Rattle.mf_load.proofs.Standing.{held_count, one_more, one_less, held_at, held_other, Stands, fixed_same, stands_same, few_live, both_ways, and_false, same_scratch}
use Rattle.mf_load.proofs.Doing.{Does}
use Rattle.mf_load.proofs.Calls.{reads_even, reads_odd, stats_even, stats_odd, lists, writes_even, writes_odd, creates, creates_none, unlinks, unlinks_none}

-- what a line of a task does
pub record Goes (t k : ℕ) (s : State) (own own' : ℕ → Own) (what : LoadCall) : Type 0 where
  pub reply : call_reply s (task_name k) None (call_of k what) ≡ own_reply k (own k) what
  pub specs : (call_state s (task_name k) None (call_of k what)).specs ≡ biba_alone
  pub stands : Stands t (call_state s (task_name k) None (call_of k what)).objects own'

module _ (t k : ℕ) (s : State) (own own' : ℕ → Own) (few : t ≤ 16) (within : k < t) (specs : s.specs ≡ biba_alone) (stands : Stands t s.objects own)
    (room : length (own k).content + 1 ≤ 65536) (others : (u : ℕ) → u ≢ k → own' u ≡ own u) where
  goes : (what : LoadCall) (r : Reply) (s' : State) → Does s (task_name k) (call_of k what) r s' → r ≡ own_reply k (own k) what → s'.specs ≡ biba_alone
      → Stands t s'.objects own' → Goes t k s own own' what
  goes what r s' does is listed after =
      record {
        reply = does.reply ∙ is;
        specs = ap (λ (x : State). x.specs) does.state ∙ listed;
        stands = subst (λ (x : State). Stands t x.objects own') (sym does.state) after;
      }

  -- nothing changes
  stays : own' k ≡ own k → Stands t s.objects own'
  stays same = stands_same t s.objects own own' (λ u. each u (nat_eq u k) refl) stands
    where
      each : (u : ℕ) (b : Bool) → nat_eq u k ≡ b → own' u ≡ own u
      each u true is = let here : u ≡ k = grind (arith, nat_tests) in subst (λ v. own' v ≡ own v) (sym here) same
      each u false differs = others u (grind (arith, nat_tests))

  same_by : (what : LoadCall) (r : Reply) → Does s (task_name k) (call_of k what) r s → r ≡ own_reply k (own k) what → own' k ≡ own k → Goes t k s own own' what
  same_by what r does is same = goes what r s does is specs (stays same)

  reads : own' k ≡ own_step k (own k) load.Read → Goes t k s own own' load.Read
  reads step = one (is_even k) refl
    where
      one : (b : Bool) → is_even k ≡ b → Goes t k s own own' load.Read
      one true even =
          same_by load.Read (reply.Ok (payload.Head (head_of (own k).content))) (reads_even t k s (λ u. (own u).content) within stands.fixed specs even)
          (ap (λ (b : Bool). cond b (reply.Ok (payload.Head (head_of (own k).content))) (denied op.VnodeOpenRead)) (sym even)) step
      one false odd =
          same_by load.Read (denied op.VnodeOpenRead) (reads_odd t k s (λ u. (own u).content) within stands.fixed specs odd)
          (ap (λ (b : Bool). cond b (reply.Ok (payload.Head (head_of (own k).content))) (denied op.VnodeOpenRead)) (sym odd)) step

  stated : Reply
  stated = reply.Ok (payload.Stat (record { uid = 0; gid = 0; mode = 420; dir = false }) (length (own k).content))

  stats : own' k ≡ own_step k (own k) load.Stat → Goes t k s own own' load.Stat
  unfolding stated
  stats step = one (is_even k) refl
    where
      one : (b : Bool) → is_even k ≡ b → Goes t k s own own' load.Stat
      one true even =
          same_by load.Stat stated (stats_even t k s (λ u. (own u).content) within stands.fixed specs even)
          (ap (λ (b : Bool). cond b stated (denied op.VnodeStat)) (sym even)) step
      one false odd =
          same_by load.Stat (denied op.VnodeStat) (stats_odd t k s (λ u. (own u).content) within stands.fixed specs odd)
          (ap (λ (b : Bool). cond b stated (denied op.VnodeStat)) (sym odd)) step

  lists_own : own' k ≡ own_step k (own k) load.Readdir → Goes t k s own own' load.Readdir
  lists_own step =
      same_by load.Readdir (reply.Ok (payload.Names (length (own k).names) (take 16 (in_byte_order (own k).names))))
      (lists t k s (λ u. (own u).content) within stands.fixed specs (own k).names (stands.names k within)) refl step

  -- a byte is written

  -- all else is as it was
  same_rest : own' k ≡ record (own k) { content = (own k).content ++ codes "x" } → (u : ℕ) → ((own' u).held ≡ (own u).held) × ((own' u).names ≡ (own u).names)
  same_rest step u = one (nat_eq u k) refl
    where
      one : (b : Bool) → nat_eq u k ≡ b → ((own' u).held ≡ (own u).held) × ((own' u).names ≡ (own u).names)
      one true is =
          let here : u ≡ k = grind (arith, nat_tests) in
          subst (λ v. ((own' v).held ≡ (own v).held) × ((own' v).names ≡ (own v).names)) (sym here) (ap (λ (x : Own). x.held) step, ap (λ (x : Own). x.names) step)
      one false differs =
          let same : own' u ≡ own u = others u (grind (arith, nat_tests)) in (ap (λ (x : Own). x.held) same, ap (λ (x : Own). x.names) same)

  written_stands : own' k ≡ record (own k) { content = (own k).content ++ codes "x" }
      → Stands t (with_change (with_what (appended (codes "x"))) s.objects (at (file_id k))) own'
  written_stands step =
      record {
        next = stands.next;
        fixed = write_fixed t k s.objects (λ u. (own u).content) (λ u. (own' u).content) (codes "x") within (ap (λ (x : Own). x.content) step)
            (λ u other. ap (λ (x : Own). x.content) (others u other)) stands.fixed;
        names = λ u below. write_names k (at (directory_id u)) s.objects (codes "x") ∙ stands.names u below ∙ sym (same_rest step u).1;
        scratch = λ u j below few_j.
            subst (HasScratch t u j (with_change (with_what (appended (codes "x"))) s.objects (at (file_id k)))) (sym (ap (λ (held : ℕ → Bool). held j) (same_rest step u).0))
            (write_scratch t k u j s.objects (codes "x") ((own u).held j) within (stands.scratch u j below few_j));
        count = length-map s.objects.live (changed_at (with_what (appended (codes "x"))) (at (file_id k))) ∙ stands.count
            ∙ ap (λ n. 3 * t + 1 + n) (total_same t (λ u. held_count (own u).held) (λ u. held_count (own' u).held) (λ u below. ap held_count (sym (same_rest step u).0)));
      }

  writes : own' k ≡ own_step k (own k) load.Write → Goes t k s own own' load.Write
  writes step = one (is_even k) refl
    where
      one : (b : Bool) → is_even k ≡ b → Goes t k s own own' load.Write
      one true even =
          same_by load.Write (denied op.VnodeOpenWrite) (writes_even t k s (λ u. (own u).content) within stands.fixed specs room even)
          (ap (λ (b : Bool). cond b (denied op.VnodeOpenWrite) (reply.Ok payload.None)) (sym even))
          (step ∙ ap (λ (b : Bool). cond b (own k) (record (own k) { content = (own k).content ++ codes "x" })) even)
      one false odd =
          goes load.Write (reply.Ok payload.None) (with_objects s (with_change (with_what (appended (codes "x"))) s.objects (at (file_id k))))
          (writes_odd t k s (λ u. (own u).content) within stands.fixed specs room odd)
          (ap (λ (b : Bool). cond b (denied op.VnodeOpenWrite) (reply.Ok payload.None)) (sym odd)) specs
          (written_stands (step ∙ ap (λ (b : Bool). cond b (own k) (record (own k) { content = (own k).content ++ codes "x" })) odd))

  -- a file is made

  -- no task has written anything
  same_content : (held : ℕ → Bool) (names : List (List ℕ)) → own' k ≡ record (own k) { held = held; names = names } → (u : ℕ) → (own' u).content ≡ (own u).content
  same_content held names step u = one (nat_eq u k) refl
    where
      one : (b : Bool) → nat_eq u k ≡ b → (own' u).content ≡ (own u).content
      one true is = let here : u ≡ k = grind (arith, nat_tests) in subst (λ v. (own' v).content ≡ (own v).content) (sym here) (ap (λ (x : Own). x.content) step)
      one false differs = ap (λ (x : Own). x.content) (others u (grind (arith, nat_tests)))

  module _ (j : ℕ) (few_j : j < 4) (absent : find (is_one_named (is_entry (at (directory_id k))) (scratch_name j)) s.objects.live ≡ None) (held_none : (own k).held j ≡ false)
      (step : own' k ≡ with_scratch (own k) j) where
    new_low : FitsLoad (2 * t + 1) (the_scratch s.objects.next k j).what
    new_low dir same = let is : at (directory_id k) ≡ dir = cc in omega (arith, ap (λ (i : Id). i.0) is)

    new_hit : is_one_named (is_entry (at (directory_id k))) (scratch_name j) (the_scratch s.objects.next k j) ≡ true
    new_hit =
        let here : nat_eq (directory_id k) (directory_id k) ≡ true = eq-eqb (directory_id k) (directory_id k) refl in
        let named : bytes_eq (scratch_name j) (scratch_name j) ≡ true = bytes_same (scratch_name j) (scratch_name j) refl in
        rw (here, named) refl

    new_scratch : IsScratch t k j (pushed s.objects (the_scratch s.objects.next k j))
    new_scratch =
        record {
          id = s.objects.next;
          late = stands.next;
          named = find_push_hit (is_one_named (is_entry (at (directory_id k))) (scratch_name j)) s.objects.live (the_scratch s.objects.next k j) absent new_hit;
          here = find_push_hit (has_id (at s.objects.next)) s.objects.live (the_scratch s.objects.next k j)
              (find_beyond (at s.objects.next) 0 s.objects.next s.objects.live (omega arith) stands.fixed.rising)
              (eq-eqb s.objects.next s.objects.next refl);
          only = all_push (λ e. is_one_named (is_entry (at (directory_id k))) (scratch_name j) e ≡ true → e.id.0 ≡ s.objects.next) s.objects.live (the_scratch s.objects.next k j)
              (all_from (λ e. is_one_named (is_entry (at (directory_id k))) (scratch_name j) e ≡ false)
              (λ e. is_one_named (is_entry (at (directory_id k))) (scratch_name j) e ≡ true → e.id.0 ≡ s.objects.next) s.objects.live
              (λ e miss hit. cc) (none_passes (is_one_named (is_entry (at (directory_id k))) (scratch_name j)) s.objects.live absent)) (λ hit. refl);
        }

    made_scratch : (u i : ℕ) → u < t → i < 4 → HasScratch t u i (pushed s.objects (the_scratch s.objects.next k j)) ((own' u).held i)
    made_scratch u i below few_i = one (nat_eq u k) (nat_eq i j) refl refl
      where
        one : (b c : Bool) → nat_eq u k ≡ b → nat_eq i j ≡ c → HasScratch t u i (pushed s.objects (the_scratch s.objects.next k j)) ((own' u).held i)
        one true true is same =
            let here : u ≡ k = grind (arith, nat_tests) in
            let file : i ≡ j = grind (arith, nat_tests) in
            let held : (own' k).held j ≡ true = ap (λ (x : Own). x.held j) step ∙ held_at (own k).held j true in
            subst (λ v. HasScratch t v i (pushed s.objects (the_scratch s.objects.next k j)) ((own' v).held i)) (sym here)
            (subst (λ l. HasScratch t k l (pushed s.objects (the_scratch s.objects.next k j)) ((own' k).held l)) (sym file)
            (subst (HasScratch t k j (pushed s.objects (the_scratch s.objects.next k j))) (sym held) new_scratch))
        one true false is differs =
            let here : u ≡ k = grind (arith, nat_tests) in
            let file : i ≢ j = grind (arith, nat_tests) in
            let held : (own' k).held i ≡ (own k).held i = ap (λ (x : Own). x.held i) step ∙ held_other (own k).held j i true file in
            let names : bytes_eq (scratch_name j) (scratch_name i) ≡ false = scratches_differ j i few_j few_i (λ same. file (sym same)) in
            let miss : is_one_named (is_entry (at (directory_id k))) (scratch_name i) (the_scratch s.objects.next k j) ≡ false =
            ap (λ (c : Bool). nat_eq (directory_id k) (directory_id k) && c) names ∙ and_false (nat_eq (directory_id k) (directory_id k)) in
            subst (λ v. HasScratch t v i (pushed s.objects (the_scratch s.objects.next k j)) ((own' v).held i)) (sym here)
            (subst (HasScratch t k i (pushed s.objects (the_scratch s.objects.next k j))) (sym held)
            (push_scratch t k i s.objects (the_scratch s.objects.next k j) ((own k).held i) miss (stands.scratch k i within few_i)))
        one false c other file =
            let apart : u ≢ k = grind (arith, nat_tests) in
            let ids : nat_eq (directory_id k) (directory_id u) ≡ false = ids_differ (directory_id k) (directory_id u) (λ same. apart (omega arith)) in
            let miss : is_one_named (is_entry (at (directory_id u))) (scratch_name i) (the_scratch s.objects.next k j) ≡ false =
            ap (λ (c : Bool). c && bytes_eq (scratch_name j) (scratch_name i)) ids in
            subst (HasScratch t u i (pushed s.objects (the_scratch s.objects.next k j))) (sym (ap (λ (x : Own). x.held i) (others u apart)))
            (push_scratch t u i s.objects (the_scratch s.objects.next k j) ((own u).held i) miss (stands.scratch u i below few_i))

    made_count : length (pushed s.objects (the_scratch s.objects.next k j)).live ≡ 3 * t + 1 + total t (λ u. held_count (own' u).held)
    made_count =
        let longer : length (pushed s.objects (the_scratch s.objects.next k j)).live ≡ length s.objects.live + 1 =
        length-append s.objects.live (the_scratch s.objects.next k j ∷ []) in
        let sums = total_at t k (λ u. held_count (own' u).held) (λ u. held_count (own u).held) within (λ u other. ap (λ (x : Own). held_count x.held) (others u other)) in
        let mine : held_count (own' k).held ≡ held_count (own k).held + 1 = ap (λ (x : Own). held_count x.held) step ∙ one_more (own k).held j few_j held_none in
        omega (arith, longer, sums, mine, stands.count)

    made_names : (u : ℕ) → u < t → (b : Bool) → nat_eq u k ≡ b
        → entry_names (at (directory_id u)) (pushed s.objects (the_scratch s.objects.next k j)).live ≡ (own' u).names
    made_names u below true is =
        let here : u ≡ k = grind (arith, nat_tests) in
        subst (λ v. entry_names (at (directory_id v)) (pushed s.objects (the_scratch s.objects.next k j)).live ≡ (own' v).names) (sym here)
        (names_push (at (directory_id k)) s.objects.live (the_scratch s.objects.next k j) (eq-eqb (directory_id k) (directory_id k) refl)
        ∙ ap (λ (ns : List (List ℕ)). ns ++ scratch_name j ∷ []) (stands.names k within) ∙ sym (ap (λ (x : Own). x.names) step))
    made_names u below false differs =
        let other : u ≢ k = grind (arith, nat_tests) in
        names_push_other (at (directory_id u)) s.objects.live (the_scratch s.objects.next k j) (ids_differ (directory_id k) (directory_id u) (λ same. other (omega arith)))
        ∙ stands.names u below ∙ sym (ap (λ (x : Own). x.names) (others u other))

    made_stands : Stands t (pushed s.objects (the_scratch s.objects.next k j)) own'
    made_stands =
        record {
          next = omega (arith, stands.next);
          fixed = fixed_same t (pushed s.objects (the_scratch s.objects.next k j)) (λ u. (own u).content) (λ u. (own' u).content)
              (same_content (with_held (own k).held j true) ((own k).names ++ scratch_name j ∷ []) step)
              (push_fixed t t t s.objects (λ u. (own u).content) (the_scratch s.objects.next k j) refl new_low stands.fixed);
          names = λ u below. made_names u below (nat_eq u k) refl;
          scratch = made_scratch;
          count = made_count;
        }

  makes : (j : ℕ) → j < 4 → own' k ≡ own_step k (own k) (load.Create j) → Goes t k s own own' (load.Create j)
  makes j few_j step = one ((own k).held j) refl (stands.scratch k j within few_j)
    where
      one : (b : Bool) → (own k).held j ≡ b → HasScratch t k j s.objects b → Goes t k s own own' (load.Create j)
      one true held has =
          same_by (load.Create j) (reply.Refused errno.Eexist) (creates_none t k s (λ u. (own u).content) within stands.fixed specs j has)
          (ap (λ (b : Bool). cond b (reply.Refused errno.Eexist) (reply.Ok payload.None)) (sym held))
          (step ∙ ap (λ (b : Bool). cond b (own k) (with_scratch (own k) j)) held)
      one false held has =
          goes (load.Create j) (reply.Ok payload.None) (with_objects s (pushed s.objects (the_scratch s.objects.next k j)))
          (creates t k s (λ u. (own u).content) within stands.fixed specs j has (few_live t s.objects own few stands))
          (ap (λ (b : Bool). cond b (reply.Refused errno.Eexist) (reply.Ok payload.None)) (sym held)) specs
          (made_stands j few_j has held (step ∙ ap (λ (b : Bool). cond b (own k) (with_scratch (own k) j)) held))

  -- a file goes

  module _ (j : ℕ) (few_j : j < 4) (has : IsScratch t k j s.objects) (held_one : (own k).held j ≡ true)
      (step : own' k ≡ without_scratch (own k) j) where
    gone : find (is_one_named (is_entry (at (directory_id k))) (scratch_name j)) (without (has_id (at has.id)) s.objects).live ≡ None
    gone =
        find_filter_gone (is_one_named (is_entry (at (directory_id k))) (scratch_name j)) (λ e. not (has_id (at has.id) e)) s.objects.live
        (all_from (λ e. is_one_named (is_entry (at (directory_id k))) (scratch_name j) e ≡ true → e.id.0 ≡ has.id)
        (λ e. is_one_named (is_entry (at (directory_id k))) (scratch_name j) e ≡ true → not (has_id (at has.id) e) ≡ false) s.objects.live
        (λ e only hit. ap not (eq-eqb e.id.0 has.id (only hit))) has.only)

    apart : (u i : ℕ) → i < 4 → (u ≡ k → i ≡ j → ⊥) → (b : Bool) (one : HasScratch t u i s.objects b) → OtherThan t has.id u i s.objects b one
    apart u i few_i other true one = λ same.
        let here : live_at s.objects (at has.id) ≡ Some (the_scratch one.id u i) =
        subst (λ m. live_at s.objects (at m) ≡ Some (the_scratch one.id u i)) same one.here in
        let both = same_scratch one.id has.id u k i j few_i few_j (sym here ∙ has.here) in
        other both.0 both.1
    apart u i few_i other false one = tt

    left_scratch : (u i : ℕ) → u < t → i < 4 → HasScratch t u i (without (has_id (at has.id)) s.objects) ((own' u).held i)
    left_scratch u i below few_i = one (nat_eq u k) (nat_eq i j) refl refl
      where
        kept : (v : ℕ) → v < t → (v ≡ k → i ≡ j → ⊥) → HasScratch t v i (without (has_id (at has.id)) s.objects) ((own v).held i)
        kept v below_v other =
            remove_scratch t has.id v i s.objects ((own v).held i) (stands.scratch v i below_v few_i)
            (apart v i few_i other ((own v).held i) (stands.scratch v i below_v few_i))

        one : (b c : Bool) → nat_eq u k ≡ b → nat_eq i j ≡ c → HasScratch t u i (without (has_id (at has.id)) s.objects) ((own' u).held i)
        one true true is same =
            let here : u ≡ k = grind (arith, nat_tests) in
            let file : i ≡ j = grind (arith, nat_tests) in
            let held : (own' k).held j ≡ false = ap (λ (x : Own). x.held j) step ∙ held_at (own k).held j false in
            subst (λ v. HasScratch t v i (without (has_id (at has.id)) s.objects) ((own' v).held i)) (sym here)
            (subst (λ l. HasScratch t k l (without (has_id (at has.id)) s.objects) ((own' k).held l)) (sym file)
            (subst (HasScratch t k j (without (has_id (at has.id)) s.objects)) (sym held) gone))
        one true false is differs =
            let here : u ≡ k = grind (arith, nat_tests) in
            let file : i ≢ j = grind (arith, nat_tests) in
            let held : (own' k).held i ≡ (own k).held i = ap (λ (x : Own). x.held i) step ∙ held_other (own k).held j i false file in
            subst (λ v. HasScratch t v i (without (has_id (at has.id)) s.objects) ((own' v).held i)) (sym here)
            (subst (HasScratch t k i (without (has_id (at has.id)) s.objects)) (sym held) (kept k within (λ _ same. file same)))
        one false c other file =
            let apart_u : u ≢ k = grind (arith, nat_tests) in
            subst (HasScratch t u i (without (has_id (at has.id)) s.objects)) (sym (ap (λ (x : Own). x.held i) (others u apart_u)))
            (kept u below (λ same _. apart_u same))

    left_count : length (without (has_id (at has.id)) s.objects).live ≡ 3 * t + 1 + total t (λ u. held_count (own' u).held)
    left_count =
        let fewer : length (without (has_id (at has.id)) s.objects).live + 1 ≡ length s.objects.live =
        one_fewer (at has.id) 0 s.objects.next s.objects.live (the_scratch has.id k j) stands.fixed.rising has.here in
        let sums = total_at t k (λ u. held_count (own' u).held) (λ u. held_count (own u).held) within (λ u other. ap (λ (x : Own). held_count x.held) (others u other)) in
        let mine : held_count (own' k).held + 1 ≡ held_count (own k).held =
        ap (λ (x : Own). held_count x.held + 1) step ∙ one_less (own k).held j few_j held_one in
        omega (arith, fewer, sums, mine, stands.count)

    -- the file that goes is the one of this name in its directory, and no entry of another
    goes_by_name : AllByRecursion (λ e. is_entry (at (directory_id k)) e.what ≡ true → not (has_id (at has.id) e) ≡ is_other_name j e.name) s.objects.live
    goes_by_name =
        both_ways (λ e. has_id (at has.id) e ≡ true → e ≡ the_scratch has.id k j)
        (λ e. is_one_named (is_entry (at (directory_id k))) (scratch_name j) e ≡ true → e.id.0 ≡ has.id)
        (λ e. is_entry (at (directory_id k)) e.what ≡ true → not (has_id (at has.id) e) ≡ is_other_name j e.name) s.objects.live
        (λ e one only inside. by_name e (has_id (at has.id) e) (bytes_eq e.name (scratch_name j)) refl refl one only inside)
        (only_one (at has.id) 0 s.objects.next s.objects.live (the_scratch has.id k j) stands.fixed.rising has.here) has.only
      where
        by_name : (e : LiveEntity) (goes named : Bool) → has_id (at has.id) e ≡ goes → bytes_eq e.name (scratch_name j) ≡ named
            → (has_id (at has.id) e ≡ true → e ≡ the_scratch has.id k j) → (is_one_named (is_entry (at (directory_id k))) (scratch_name j) e ≡ true → e.id.0 ≡ has.id)
            → is_entry (at (directory_id k)) e.what ≡ true → not (has_id (at has.id) e) ≡ not (bytes_eq e.name (scratch_name j))
        by_name e true true hit same one only inside = ap not (hit ∙ sym same)
        by_name e true false hit other one only inside =
            let is : e ≡ the_scratch has.id k j = one hit in
            let same : bytes_eq e.name (scratch_name j) ≡ true = bytes_same e.name (scratch_name j) (ap (λ (x : LiveEntity). x.name) is) in
            cc
        by_name e false true miss same one only inside =
            let child : is_one_named (is_entry (at (directory_id k))) (scratch_name j) e ≡ true =
            ap (λ (b : Bool). b && bytes_eq e.name (scratch_name j)) inside ∙ same in
            let hit : has_id (at has.id) e ≡ true = eq-eqb e.id.0 has.id (only child) in
            cc
        by_name e false false miss other one only inside = ap not (miss ∙ sym other)

    stays_elsewhere : (u : ℕ) → u ≢ k → AllByRecursion (λ e. is_entry (at (directory_id u)) e.what ≡ true → not (has_id (at has.id) e) ≡ true) s.objects.live
    stays_elsewhere u other =
        all_from (λ e. has_id (at has.id) e ≡ true → e ≡ the_scratch has.id k j)
        (λ e. is_entry (at (directory_id u)) e.what ≡ true → not (has_id (at has.id) e) ≡ true) s.objects.live
        (λ e one inside. by_id e (has_id (at has.id) e) refl one inside)
        (only_one (at has.id) 0 s.objects.next s.objects.live (the_scratch has.id k j) stands.fixed.rising has.here)
      where
        by_id : (e : LiveEntity) (b : Bool) → has_id (at has.id) e ≡ b → (has_id (at has.id) e ≡ true → e ≡ the_scratch has.id k j) → is_entry (at (directory_id u)) e.what ≡ true
            → not (has_id (at has.id) e) ≡ true
        by_id e true hit one inside =
            let is : e ≡ the_scratch has.id k j = one hit in
            let there : is_entry (at (directory_id u)) e.what ≡ nat_eq (directory_id k) (directory_id u) = ap (λ (x : LiveEntity). is_entry (at (directory_id u)) x.what) is in
            let apart_ids : nat_eq (directory_id k) (directory_id u) ≡ false = ids_differ (directory_id k) (directory_id u) (λ same. other (omega arith)) in
            cc
        by_id e false miss one inside = ap not miss

    left_names : (u : ℕ) → u < t → (b : Bool) → nat_eq u k ≡ b → entry_names (at (directory_id u)) (without (has_id (at has.id)) s.objects).live ≡ (own' u).names
    left_names u below true is =
        let here : u ≡ k = grind (arith, nat_tests) in
        subst (λ v. entry_names (at (directory_id v)) (without (has_id (at has.id)) s.objects).live ≡ (own' v).names) (sym here)
        (names_filter (at (directory_id k)) (λ e. not (has_id (at has.id) e)) (is_other_name j) s.objects.live goes_by_name
        ∙ ap (filter (is_other_name j)) (stands.names k within) ∙ sym (ap (λ (x : Own). x.names) step))
    left_names u below false differs =
        let other : u ≢ k = grind (arith, nat_tests) in
        names_stay (at (directory_id u)) (λ e. not (has_id (at has.id) e)) s.objects.live (stays_elsewhere u other)
        ∙ stands.names u below ∙ sym (ap (λ (x : Own). x.names) (others u other))

    left_stands : Stands t (without (has_id (at has.id)) s.objects) own'
    left_stands =
        record {
          next = stands.next;
          fixed = fixed_same t (without (has_id (at has.id)) s.objects) (λ u. (own u).content) (λ u. (own' u).content)
              (same_content (with_held (own k).held j false) (filter (is_other_name j) (own k).names) step)
              (remove_fixed t has.id s.objects (λ u. (own u).content) has.late stands.fixed);
          names = λ u below. left_names u below (nat_eq u k) refl;
          scratch = left_scratch;
          count = left_count;
        }

  removes : (j : ℕ) → j < 4 → own' k ≡ own_step k (own k) (load.Unlink j) → Goes t k s own own' (load.Unlink j)
  removes j few_j step = one ((own k).held j) refl (stands.scratch k j within few_j)
    where
      one : (b : Bool) → (own k).held j ≡ b → HasScratch t k j s.objects b → Goes t k s own own' (load.Unlink j)
      one false held has =
          same_by (load.Unlink j) (reply.Refused errno.Enoent) (unlinks_none t k s (λ u. (own u).content) within stands.fixed specs j has)
          (ap (λ (b : Bool). cond b (reply.Ok payload.None) (reply.Refused errno.Enoent)) (sym held))
          (step ∙ ap (λ (b : Bool). cond b (without_scratch (own k) j) (own k)) held)
      one true held has =
          goes (load.Unlink j) (reply.Ok payload.None) (with_objects s (without (has_id (at has.id)) s.objects))
          (unlinks t k s (λ u. (own u).content) within stands.fixed specs j has)
          (ap (λ (b : Bool). cond b (reply.Ok payload.None) (reply.Refused errno.Enoent)) (sym held)) specs
          (left_stands j few_j has held (step ∙ ap (λ (b : Bool). cond b (without_scratch (own k) j) (own k)) held))

  -- every line of the task
  pub line_goes : (what : LoadCall) → IsDrawn what → own' k ≡ own_step k (own k) what → Goes t k s own own' what
  line_goes load.Write drawn step = writes step
  line_goes load.Read drawn step = reads step
  line_goes load.Stat drawn step = stats step
  line_goes load.Readdir drawn step = lists_own step
  line_goes (load.Create j) drawn step = makes j drawn step
  line_goes (load.Unlink j) drawn step = removes j drawn step
