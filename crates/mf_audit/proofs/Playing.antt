-- A player in the events of a history: so many of them came, one after another.
use Rattle.std.proofs.Common.{◌≡◌, ℕ, ◌+◌, ◌<◌, ◌≤◌, Bool, List, [], ◌∷◌, ◌++◌, length, get_or, take, IsTrue, refl, ap, sym, ◌∙◌, subst, arith}
use Rattle.std.specs.Prelude.{◌↔◌}
use Rattle.std.proofs.lemmas.List.{length-take-le, take_more}
use Rattle.std.proofs.lemmas.List.Sums.{fold-append}
use Rattle.std.proofs.lemmas.Option.{slice_get_read}
use Rattle.std.proofs.Math.Seq.{take-length}
use Rattle.mf_calls.specs.declared.script.Script.{Script}
use Rattle.mf_calls.specs.WellFormed.{IsWellFormed}
use Rattle.mf_core.specs.declared.limits.TheConstants.{MOST_EVENTS}
use Rattle.mf_core.specs.declared.progress.Turn.TheVariants as turn
use Rattle.mf_core.specs.declared.history.Event.{Event}
use Rattle.mf_core.specs.LegalHistory.{AllMayCome, MayCome, RunState, opening_run, run_after, run_state_of, turn_of}
use Rattle.mf_core.specs.RunView.{RunView, run_on}
use Rattle.mf_core.proofs.Laws.{AllMayCome-append}
use Rattle.mf_audit.specs.declared.audit.Audit.TheVariants.{Legal, Wrong}
use Rattle.mf_audit.specs.Lines.{IsEventAudit}
use Rattle.mf_core.proofs.FewLines.{few_events}

-- so many of the events came, and the player is where they lead
pub record IsPlayed (s : Script) (es : List Event) (n : ℕ) (player : RunView) : Type 0 where
  pub now : player ≡ record { script = s; run = run_state_of s (take n es) }
  pub all : AllMayCome s (opening_run s) (take n es)

pub played_none : (s : Script) (es : List Event) (player : RunView) → player ≡ record { script = s; run = opening_run s } → IsPlayed s es 0 player
played_none s es player is = record { now = is; all = tt }

module _ (s : Script) (es : List Event) (n : ℕ) (player : RunView) (played : IsPlayed s es n player) where
  view_of : List Event → RunView
  view_of xs = record { script = s; run = run_state_of s xs }

  pub played_more : (e : Event) (next : RunView) → n < length es → e ≡ get_or es n e → MayCome player.script player.run e → next ≡ run_on player e
      → IsPlayed s es (n + 1) next
  unfolding view_of
  played_more e next within here may goes =
      let more : take (n + 1) es ≡ take n es ++ e ∷ [] = take_more es n e within ∙ ap (λ (x : Event). take n es ++ x ∷ []) (sym here) in
      let may_here : MayCome s (run_state_of s (take n es)) e = subst (λ (v : RunView). MayCome v.script v.run e) played.now may in
      let with_run : RunState → RunView = λ r. record { script = s; run = r } in
      record {
        now = goes ∙ ap (λ (v : RunView). run_on v e) played.now
            ∙ ap with_run (sym (fold-append (run_after s) (opening_run s) (take n es) (e ∷ [])))
            ∙ ap view_of (sym more);
        all = subst (AllMayCome s (opening_run s)) (sym more) (AllMayCome-append s (opening_run s) (take n es) e played.all may_here);
      }

  -- the next event may not come
  pub played_stops : (boots line : ℕ) (e : Event) → n < length es → e ≡ get_or es n e → (MayCome player.script player.run e → ⊥) → line ≡ boots + n + 1
      → IsEventAudit s boots es (Wrong line)
  played_stops boots line e within here not is = (
    n,
    record {
      before = played.all;
      event = e;
      there = slice_get_read es (length es) n e refl within here;
      not = λ may. not (subst (λ (v : RunView). MayCome v.script v.run e) (sym played.now) may);
    },
    is,
  )

  -- all came
  pub played_all : (boots : ℕ) (complete : Bool) → n ≡ length es
      → (IsTrue complete ↔ ((t : ℕ) → t < length player.script.tasks → turn_of player.script player.run.progress t ≡ turn.Finished))
      → IsEventAudit s boots es (Legal complete)
  played_all boots complete end is =
      let all : take n es ≡ es = ap (λ k. take k es) end ∙ take-length es in
      let Complete : RunView → Type 0 = λ v. IsTrue complete ↔ ((t : ℕ) → t < length v.script.tasks → turn_of v.script v.run.progress t ≡ turn.Finished) in
      let now : player ≡ record { script = s; run = run_state_of s es } = subst (λ xs. player ≡ record { script = s; run = run_state_of s xs }) all played.now in
      (subst (AllMayCome s (opening_run s)) all played.all, subst Complete now is)

  -- there is a number for the next line
  pub played_few : IsWellFormed s → n ≤ length es → n ≤ MOST_EVENTS
  played_few formed within = omega (arith, few_events s (take n es) formed played.all, length-take-le n es within)
