-- Between what contracts see of a core, its script and history, and the run that lies inside.
use Rattle.std.proofs.Common.{◌≡◌, ℕ, ◌<◌, ◌⊎◌, inl, inr, List, [], ◌∷◌, ◌++◌, length, set, Option, IsSome, refl, sym, ◌∙◌, ap, subst, arith, get_or-set_same, get_or-set_other}
use Rattle.std.proofs.lemmas.List.Sums.{fold-append}
use Rattle.mf_calls.specs.declared.script.Line.{Line}
use Rattle.mf_calls.specs.declared.script.Script.{Script}
use Rattle.mf_core.specs.declared.progress.Progress.{Progress}
use Rattle.mf_core.specs.declared.progress.Turn.{Turn}
use Rattle.mf_core.specs.declared.progress.Turn.TheVariants as turns
use Rattle.mf_core.specs.declared.history.Event.{Event}
use Rattle.mf_core.specs.declared.history.History.{History}
use Rattle.mf_core.specs.Log.{Log}
use Rattle.mf_core.specs.Progress.{progress_at, first_progress}
use Rattle.mf_core.specs.Advances.{Advances}
use Rattle.mf_core.specs.LegalHistory.{RunState, MayCome, run_after, next_line, next_reply, opening_run, turn_of}
use Rattle.mf_core.specs.WithEvent.{with_event}
use Rattle.mf_policy.specs.Registration.{Entry}
use Rattle.mf_plan.specs.declared.found.Found.{Found}
use Rattle.mf_plan.specs.declared.outline.Outline.{Outline}
use Rattle.mf_plan.specs.Planned.{Plan}
use Rattle.mf_perform.specs.declared.verdict.Verdict.{Verdict}
use Rattle.mf_perform.specs.Verdict.{verdict_of}
use Rattle.mf_core.specs.NextFound.{IsNextFound, IsNextOutline}
use Rattle.mf_core.specs.Next.{next_plan}
use Rattle.mf_core.specs.Consistency.{IsConsistent}
use Rattle.mf_core.specs.RunView.{RunView}
use Rattle.mf_core.specs.CoreView.{CoreView, progress_of, run_state, specs_of, turn_at}
use Rattle.mf_core.proofs.Consistency.{change_line, consistent_next, entered_line}

module _ (k : CoreView) (v : RunView) (h : History) (is : record { script = v.script; history = h } ≡ k) (consistent : IsConsistent v.script h v.run) where
  -- the state of the run is the one that the history determines
  pub run_state_here : run_state k ≡ v.run
  run_state_here = subst (λ (k : CoreView). run_state k ≡ v.run) is consistent.here

  pub script_here : k.script ≡ v.script
  script_here = sym (ap (λ (k : CoreView). k.script) is)

  pub consistent_here : IsConsistent k.script k.history (run_state k)
  consistent_here =
      subst (λ (k : CoreView). IsConsistent k.script k.history (run_state k)) is
      (subst (λ (r : RunState). IsConsistent v.script h r) (sym consistent.here) consistent)

  pub turn_here : (t : ℕ) (x : Turn) → turn_at k t ≡ x → turn_of v.script v.run.progress t ≡ x
  turn_here t x turn =
      sym (ap (λ (m : RunState). turn_of v.script m.progress t) consistent.here) ∙ subst (λ (k : CoreView). turn_at k t ≡ x) (sym is) turn

  pub turn_same : (t : ℕ) → turn_of v.script v.run.progress t ≡ turn_at k t
  turn_same t = turn_here t (turn_at k t) refl

  -- a task that has entered has a next line, and so has one whose turn is a change

  pub entered_here : (t : ℕ) → turn_at k t ≡ turns.Entered → IsSome (next_line v.script v.run.progress t)
  entered_here t turn =
      let line = entered_line v.script h v.run consistent t (turn_here t turns.Entered turn) in
      subst (λ (o : Option Line). IsSome o) (sym line.1) refl

  pub change_here : (t : ℕ) → turn_at k t ≡ turns.Change → IsSome (next_line v.script v.run.progress t)
  change_here t turn =
      let line = change_line v.script h v.run consistent t (turn_here t turns.Change turn) in
      subst (λ (o : Option Line). IsSome o) (sym line.1) refl

  pub plan_same : (t : ℕ) → next_plan k.script (run_state k) t ≡ next_plan v.script v.run t
  plan_same t =
      ap (λ (m : RunState). next_plan k.script m t) run_state_here ∙ ap (λ (s : Script). next_plan s v.run t) script_here

  pub reply_same : (t : ℕ) → next_reply k.script (run_state k) t ≡ next_reply v.script v.run t
  reply_same t =
      ap (λ (m : RunState). next_reply k.script m t) run_state_here ∙ ap (λ (s : Script). next_reply s v.run t) script_here

  pub line_same : (t : ℕ) → next_line k.script (progress_of k) t ≡ next_line v.script v.run.progress t
  line_same t =
      ap (λ (m : RunState). next_line k.script m.progress t) run_state_here ∙ ap (λ (s : Script). next_line s v.run.progress t) script_here

  -- the verdict of the policies that are listed is that of the run's
  pub judged_here : (listed : List Entry) (plan : Plan) (verdict : Verdict) → verdict ≡ verdict_of listed plan → listed ≡ specs_of k
      → verdict ≡ verdict_of v.run.state.specs plan
  judged_here listed plan verdict judged same =
      judged ∙ ap (λ (es : List Entry). verdict_of es plan) (same ∙ ap (λ (r : RunState). r.state.specs) run_state_here)

  pub outline_same : (t : ℕ) (outline : Outline) → IsNextOutline v.script v.run t outline → IsNextOutline k.script (run_state k) t outline
  outline_same t outline is =
      subst (λ (s : Script). IsNextOutline s (run_state k) t outline) (sym script_here) (subst (λ (m : RunState). IsNextOutline v.script m t outline) (sym run_state_here) is)

  pub outline_here : (t : ℕ) (outline : Outline) → IsNextOutline k.script (run_state k) t outline → IsNextOutline v.script v.run t outline
  outline_here t outline is =
      subst (λ (s : Script). IsNextOutline s v.run t outline) script_here (subst (λ (m : RunState). IsNextOutline k.script m t outline) run_state_here is)

  pub found_same : (t : ℕ) (found : Found) → IsNextFound k.script (run_state k) t found → IsNextFound v.script v.run t found
  found_same t found is =
      subst (λ (s : Script). IsNextFound s v.run t found) script_here (subst (λ (m : RunState). IsNextFound k.script m t found) run_state_here is)

  pub left_here : (t : ℕ) → (turn_at k t ≡ turns.Done) ⊎ (turn_at k t ≡ turns.Entered)
      → (turn_of v.script v.run.progress t ≡ turns.Done) ⊎ (turn_of v.script v.run.progress t ≡ turns.Entered)
  left_here t (inl turn) = inl (turn_here t turns.Done turn)
  left_here t (inr turn) = inr (turn_here t turns.Entered turn)

  pub below_here : (t : ℕ) → t < length k.script.tasks → t < length v.script.tasks
  below_here t lt = subst (λ (k : CoreView). t < length k.script.tasks) (sym is) lt

  -- After one more event

  module _ (v' : RunView) (log : Log) (e : Event) (next : v' ≡ record v { run = run_after v.script v.run e }) (more : log ≡ record h.events { list = h.events.list ++ e ∷ [] }) where
    pub consistent_on : MayCome v.script v.run e → IsConsistent v'.script (record h { events = log }) v'.run
    consistent_on may = rw (next, more) (consistent_next v.script h v.run consistent e may)

    pub event_on : record { script = v'.script; history = record h { events = log } } ≡ record k { history = with_event k.history e }
    event_on =
        let L : RunView → Log → CoreView = λ v l. record { script = v.script; history = record h { events = l } } in
        let K : CoreView → CoreView = λ k. record k { history = with_event k.history e } in
        ap (λ (v : RunView). L v log) next ∙ ap (λ (l : Log). L v l) more ∙ ap K is

-- One more event in the history of a core

module _ (k k' : CoreView) (e : Event) (grown : k' ≡ record k { history = with_event k.history e }) where
  pub state_on : run_state k' ≡ run_after k.script (run_state k) e
  state_on = ap run_state grown ∙ fold-append (run_after k.script) (opening_run k.script) k.history.events.list (e ∷ [])

  pub specs_on : (specs : List _) → (run_after k.script (run_state k) e).state.specs ≡ specs → specs_of k' ≡ specs
  specs_on specs same = ap (λ (r : RunState). r.state.specs) state_on ∙ same

  pub progress_on : (xs : List Progress) → (run_after k.script (run_state k) e).progress ≡ xs → progress_of k' ≡ xs
  progress_on xs same = ap (λ (r : RunState). r.progress) state_on ∙ same

  pub moves_on : (t : ℕ) (y : Progress) → IsConsistent k.script k.history (run_state k) → t < length k.script.tasks
      → (run_after k.script (run_state k) e).progress ≡ set (progress_of k) t y → Advances (progress_of k) (progress_of k') t y
  moves_on t y consistent lt next =
      let all = progress_on (set (progress_of k) t y) next in
      let place : t < length (progress_of k) = omega (arith, consistent.places) in
      record {
        at = ap (λ (xs : List Progress). progress_at xs t) all ∙ get_or-set_same (progress_of k) t y first_progress place;
        others = λ u other. ap (λ (xs : List Progress). progress_at xs u) all ∙ get_or-set_other (progress_of k) t u y first_progress other;
      }
