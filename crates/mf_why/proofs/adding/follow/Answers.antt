use Rattle.std.proofs.Common.{◌++◌, ap, sym, subst, append-nil, ◌∙◌, string_bytes}
use Rattle.mf_calls.specs.declared.script.Script.{Script}
use Rattle.mf_core.specs.declared.history.Event.{Event}
use Rattle.mf_core.specs.NextFound.{IsNextOutline}
use Rattle.mf_flow.proofs.Followed.{where_ok}
use Rattle.mf_why.specs.WhyText.{event_text}
use Rattle.mf_why.proofs.adding.follow.Goals as goal

pub returns-in-Enter-clause-ok : goal.returns-in-Enter-clause-ok
returns-in-Enter-clause-ok c =
    sym (append-nil (string_bytes c.args.text.now))
    ∙ ap (λ (e : Event). string_bytes c.args.text.now ++ event_text c.args.extent c.args.script.now c.args.run.now.run e) (sym c.in-Enter.is)

pub returns-in-Leave-clause-ok : goal.returns-in-Leave-clause-ok
returns-in-Leave-clause-ok c =
    sym (append-nil (string_bytes c.args.text.now))
    ∙ ap (λ (e : Event). string_bytes c.args.text.now ++ event_text c.args.extent c.args.script.now c.args.run.now.run e) (sym c.in-Leave.is)

pub returns-in_ok-tell-in-Done-clause-ok : goal.returns-in_ok-tell-in-Done-clause-ok
returns-in_ok-tell-in-Done-clause-ok c =
    where_ok c.commit.result
    (c.in_ok-tell-in-Done.ensures.ok
    ∙ ap (λ (e : Event). string_bytes c.args.text.now ++ event_text c.args.extent c.args.script.now c.args.run.now.run e) (sym c.in-Done.is))

pub returns-in_ok-tell-in-Changed-clause-ok : goal.returns-in_ok-tell-in-Changed-clause-ok
returns-in_ok-tell-in-Changed-clause-ok c =
    where_ok c.change.result
    (c.in_ok-tell-in-Changed.ensures.ok
    ∙ ap (λ (e : Event). string_bytes c.args.text.now ++ event_text c.args.extent c.args.script.now c.args.run.now.run e) (sym c.in-Changed.is))

pub commit-requires-clause-outline : goal.commit-requires-clause-outline
commit-requires-clause-outline c =
    subst (λ (x : Script). IsNextOutline x c.args.run.now.run c.in-Done.task c.tell.new.space.outline) (sym c.requires.script) c.in_ok-tell-in-Done.ensures.outline
