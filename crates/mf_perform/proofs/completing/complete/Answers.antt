use Rattle.std.proofs.Common.{◌≡◌, IsSome, ap, sym, ◌∙◌, subst, rules}
use Rattle.std.specs.Prelude.{IfNone, IfSome}
use Rattle.mf_objects.specs.Live.{is_process, is_set, live_at}
use Rattle.mf_objects.specs.Lives.{IsLive}
use Rattle.mf_plan.specs.declared.reply.Reply.{Reply}
use Rattle.mf_plan.specs.declared.state.State.{State}
use Rattle.mf_perform.specs.Effect.{takes_memory}
use Rattle.mf_perform.specs.Found.{after_found, effect_found, effect_of}
use Rattle.mf_perform.specs.Held.{lomac_value, with_lomac_value}
use Rattle.mf_perform.specs.OneCall.{after_reply, observed, performed}
use Rattle.mf_perform.specs.Refused.{is_ok}
use Rattle.mf_perform.specs.Suits.{Suits}
use Rattle.mf_perform.proofs.ByOutline.{as_before, found_so, observed_so, weaker}
use Rattle.mf_perform.proofs.Ready.{ready}
use Rattle.mf_perform.proofs.Suiting.{caller_found, found_lives}
use Rattle.mf_perform.proofs.completing.complete.Goals as goal

pub opening_of-opening-requires-clause-caller : goal.opening_of-opening-requires-clause-caller
opening_of-opening-requires-clause-caller c =
    let s = c.args.state.now in
    let task = c.args.task.now in
    let child = c.args.line.now.child in
    let call = c.args.line.now.call in
    let outline = c.args.outline.now in
    let said = c.args.reply.now in
    let done = ap is_ok c.in-Ok.is in
    let about = found_so s task child call outline said c.requires.outline c.requires.reply done in
    caller_found s task child call outline.found c.live-live.ensures.population about

pub opening_of-opening-requires-clause-file : goal.opening_of-opening-requires-clause-file
opening_of-opening-requires-clause-file c =
    let s = c.args.state.now in
    let task = c.args.task.now in
    let child = c.args.line.now.child in
    let call = c.args.line.now.call in
    let outline = c.args.outline.now in
    let said = c.args.reply.now in
    let done = ap is_ok c.in-Ok.is in
    let about = found_so s task child call outline said c.requires.outline c.requires.reply done in
    found_lives s task child call outline.found c.live-live.ensures.population about

pub perform-requires-clause-caller : goal.perform-requires-clause-caller
perform-requires-clause-caller c =
    let s = c.args.state.now in
    let task = c.args.task.now in
    let child = c.args.line.now.child in
    let call = c.args.line.now.call in
    let outline = c.args.outline.now in
    let said = c.args.reply.now in
    let done = ap is_ok c.in-Ok.is in
    let about = found_so s task child call outline said c.requires.outline c.requires.reply done in
    let r = ready s task child c.opening_of-opening.result call outline.found said c.live-live.ensures.population about c.requires.entry c.opening_of-opening.ensures c.requires.reply done in
    let low : c.lower-before.new.state ≡ observed s task child call =
    c.lower-before.ensures.lowered ∙ observed_so s task child call outline said c.requires.outline c.requires.reply c.requires.entry in
    subst (λ (s : State). IfSome outline.found.caller (λ me. IsLive is_process s.objects me)) (sym low) r.caller

pub perform-requires-clause-suits : goal.perform-requires-clause-suits
perform-requires-clause-suits c =
    let s = c.args.state.now in
    let task = c.args.task.now in
    let child = c.args.line.now.child in
    let call = c.args.line.now.call in
    let outline = c.args.outline.now in
    let said = c.args.reply.now in
    let done = ap is_ok c.in-Ok.is in
    let about = found_so s task child call outline said c.requires.outline c.requires.reply done in
    let r = ready s task child c.opening_of-opening.result call outline.found said c.live-live.ensures.population about c.requires.entry c.opening_of-opening.ensures c.requires.reply done in
    let low : c.lower-before.new.state ≡ observed s task child call =
    c.lower-before.ensures.lowered ∙ observed_so s task child call outline said c.requires.outline c.requires.reply c.requires.entry in
    subst (λ (s : State). IfSome outline.found.caller (λ me.
    Suits s (effect_found s task me c.opening_of-opening.result call outline.found.target outline.found.request)))
    (sym low) r.suits

pub put_back-requires-clause-live : goal.put_back-requires-clause-live
put_back-requires-clause-live c =
    let s = c.args.state.now in
    let task = c.args.task.now in
    let child = c.args.line.now.child in
    let call = c.args.line.now.call in
    let outline = c.args.outline.now in
    let said = c.args.reply.now in
    let done = ap is_ok c.in-Ok.is in
    let about = found_so s task child call outline said c.requires.outline c.requires.reply done in
    let r = ready s task child c.opening_of-opening.result call outline.found said c.live-live.ensures.population about c.requires.entry c.opening_of-opening.ensures c.requires.reply done in
    let low : c.lower-before.new.state ≡ observed s task child call =
    c.lower-before.ensures.lowered ∙ observed_so s task child call outline said c.requires.outline c.requires.reply c.requires.entry in
    subst (λ (s : State). IfSome outline.found.caller (λ me. IsSome (live_at s.objects me))) (sym (c.in-Err.ensures.err ∙ low)) r.live

pub put_back-requires-clause-set : goal.put_back-requires-clause-set
put_back-requires-clause-set c =
    let s = c.args.state.now in
    let task = c.args.task.now in
    let child = c.args.line.now.child in
    let call = c.args.line.now.call in
    let outline = c.args.outline.now in
    let said = c.args.reply.now in
    let done = ap is_ok c.in-Ok.is in
    let about = found_so s task child call outline said c.requires.outline c.requires.reply done in
    let r = ready s task child c.opening_of-opening.result call outline.found said c.live-live.ensures.population about c.requires.entry c.opening_of-opening.ensures c.requires.reply done in
    let low : c.lower-before.new.state ≡ observed s task child call =
    c.lower-before.ensures.lowered ∙ observed_so s task child call outline said c.requires.outline c.requires.reply c.requires.entry in
    let held : is_set (lomac_value s outline.found.caller) ≡ is_set (lomac_value c.perform.new.state outline.found.caller) =
    r.held ∙ ap (λ (s : State). is_set (lomac_value s outline.found.caller)) (sym (c.in-Err.ensures.err ∙ low)) in
    weaker c.lower-before.result (λ value is. ap is_set is ∙ held) c.lower-before.ensures.some

pub returns-in-Err-clause-err : goal.returns-in-Err-clause-err
returns-in-Err-clause-err c =
    let s = c.args.state.now in
    let task = c.args.task.now in
    let child = c.args.line.now.child in
    let call = c.args.line.now.call in
    let outline = c.args.outline.now in
    let said = c.args.reply.now in
    let done = ap is_ok c.in-Ok.is in
    let about = found_so s task child call outline said c.requires.outline c.requires.reply done in
    let r = ready s task child c.opening_of-opening.result call outline.found said c.live-live.ensures.population about c.requires.entry c.opening_of-opening.ensures c.requires.reply done in
    let low : c.lower-before.new.state ≡ observed s task child call =
    c.lower-before.ensures.lowered ∙ observed_so s task child call outline said c.requires.outline c.requires.reply c.requires.entry in
    let caller = outline.found.caller in
    as_before s c.lower-before.new.state c.put_back.new.state caller c.lower-before.result
    (subst (λ (m : State). IfNone c.lower-before.result (c.put_back.new.state ≡ m)) c.in-Err.ensures.err c.put_back.ensures.none)
    (subst (λ (m : State). IfSome c.lower-before.result (λ value. c.put_back.new.state ≡ with_lomac_value value m caller)) c.in-Err.ensures.err c.put_back.ensures.some)
    c.lower-before.ensures.none c.lower-before.ensures.some
    (ap (λ (m : State). with_lomac_value (lomac_value s caller) m caller) low ∙ r.back)

pub returns-in-Err-clause-effect : goal.returns-in-Err-clause-effect
returns-in-Err-clause-effect c = λ none.
    let s = c.args.state.now in
    let task = c.args.task.now in
    let child = c.args.line.now.child in
    let call = c.args.line.now.call in
    let outline = c.args.outline.now in
    let said = c.args.reply.now in
    let done = ap is_ok c.in-Ok.is in
    let about = found_so s task child call outline said c.requires.outline c.requires.reply done in
    let r = ready s task child c.opening_of-opening.result call outline.found said c.live-live.ensures.population about c.requires.entry c.opening_of-opening.ensures c.requires.reply done in
    let low : c.lower-before.new.state ≡ observed s task child call =
    c.lower-before.ensures.lowered ∙ observed_so s task child call outline said c.requires.outline c.requires.reply c.requires.entry in
    c.in-Err.ensures.memory
    (ap (λ (s : State). takes_memory (effect_of s task c.opening_of-opening.result call outline.found)) low ∙ ap takes_memory r.effect ∙ none)

pub returns-in_default-clause-ok : goal.returns-in_default-clause-ok
returns-in_default-clause-ok c =
    let s = c.args.state.now in
    let task = c.args.task.now in
    let child = c.args.line.now.child in
    let call = c.args.line.now.call in
    let outline = c.args.outline.now in
    let said = c.args.reply.now in
    let done = ap is_ok c.in-Ok.is in
    let about = found_so s task child call outline said c.requires.outline c.requires.reply done in
    let r = ready s task child c.opening_of-opening.result call outline.found said c.live-live.ensures.population about c.requires.entry c.opening_of-opening.ensures c.requires.reply done in
    let low : c.lower-before.new.state ≡ observed s task child call =
    c.lower-before.ensures.lowered ∙ observed_so s task child call outline said c.requires.outline c.requires.reply c.requires.entry in
    let before = observed s task child call in
    let after = performed s task child call in
    c.in_default.ensures.ok
    ∙ ap (λ (s : State). after_found s task c.opening_of-opening.result call outline.found) low
    ∙ r.does
    ∙ ap (λ (reply : Reply). after_reply reply before after) (sym c.in-Ok.is ∙ c.requires.reply)

pub returns-in-Denied-clause-ok : goal.returns-in-Denied-clause-ok
returns-in-Denied-clause-ok c =
    let s = c.args.state.now in
    let task = c.args.task.now in
    let child = c.args.line.now.child in
    let call = c.args.line.now.call in
    let before : State = observed s task child call in
    let after : State = performed s task child call in
    let low : c.lower-before-in-Denied.new.state ≡ before =
    c.lower-before-in-Denied.ensures.lowered ∙ observed_so s task child call c.args.outline.now c.args.reply.now c.requires.outline c.requires.reply c.requires.entry in
    let stays : after_reply c.args.reply.now before after ≡ before = search rules in
    low ∙ sym stays ∙ ap (λ (reply : Reply). after_reply reply before after) c.requires.reply
