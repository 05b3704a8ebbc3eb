use Rattle.std.proofs.Common.{◌++◌, map, ap, sym, ◌∙◌}
use Rattle.mf_hist.proofs.Semicolons.{front_then, front_all}
use Rattle.mf_hist.proofs.rules.up_to_semicolon.Goals as goal

pub returns-then-eq : goal.returns-then-eq
returns-then-eq c =
    front_then c.args.words.now (map (λ word. word.now) c.loop-word.front.items) c.in-Some.word.now c.next.new.self c.loop-word.invariant.none (sym c.eq.ensures ∙ c.if-eq.true)
    (c.loop-word.invariant.words ∙ ap (λ ws. map (λ word. word.now) c.loop-word.front.items ++ ws) c.in-Some.ensures.words)

pub returns : goal.returns
returns c = front_all c.args.words.now (map (λ word. word.now) c.loop-word.front.items) c.loop-word.words c.loop-word.invariant.none c.in_default.ensures.words.0 c.loop-word.invariant.words
