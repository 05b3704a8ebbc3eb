use Rattle.std.proofs.Common.{List, ℕ, ap, sym, ◌∙◌, arith, length}
use Rattle.mf_script.proofs.Folding.{blank_is, start, goes_on, refused, at_end}
use Rattle.mf_script.proofs.PlainLines.{lines_plain, next_plain}
use Rattle.mf_script.proofs.SoFar.{starts, line_kept, ends}
use Rattle.mf_script.proofs.reading.read_script.Goals as goal

pub loop-line-init : goal.loop-line-init
loop-line-init c = record {
  so_far = start c.new.result c.new-2.result c.new-3.result c.new-4.result c.args.bytes.now _ c.new.ensures c.new-2.ensures c.new-3.ensures c.new-4.ensures c.of-lines.ensures.lines;
  formed = starts _ (blank_is c.new.result c.new-2.result c.new-3.result c.new-4.result c.new.ensures c.new-2.ensures c.new-3.ensures c.new-4.ensures);
  plain = λ is. rw c.of-lines.ensures.lines (lines_plain c.args.bytes.now (sym c.is_plain_text-plain.ensures ∙ is));
  number = omega (arith, c.of-lines.ensures.few);
}

pub take_line-requires-clause-known : goal.take_line-requires-clause-known
take_line-requires-clause-known c = λ is. (next_plain c.loop-line.lines c.in-Some.line.now _ c.in-Some.ensures.lines (c.loop-line.invariant.plain is)).0

pub returns-in-Err-clause-exact : goal.returns-in-Err-clause-exact
returns-in-Err-clause-exact c =
    refused c.loop-line.script c.loop-line.place c.loop-line.number c.loop-line.lines c.in-Some.line.now _ c.in-Err.refusal c.at_line.result _
    c.in-Some.ensures.lines c.in-Err.ensures c.loop-line.invariant.so_far c.at_line.ensures

pub loop-line-preserved : goal.loop-line-preserved
loop-line-preserved c = record {
  so_far = goes_on c.loop-line.script c.loop-line.place c.loop-line.number c.loop-line.lines c.in-Some.line.now _ c.take_line.new.script c.take_line.new.place _
      c.in-Some.ensures.lines c.in-Ok.ensures c.loop-line.invariant.so_far;
  formed = line_kept c.loop-line.script c.loop-line.place c.in-Some.line.now c.take_line.new.script c.take_line.new.place c.in-Some.ensures.most c.loop-line.invariant.formed c.in-Ok.ensures;
  plain = λ is. (next_plain c.loop-line.lines c.in-Some.line.now _ c.in-Some.ensures.lines (c.loop-line.invariant.plain is)).1;
  number = omega (arith, c.loop-line.invariant.number, ap (λ (ls : List (List ℕ)). length ls) c.in-Some.ensures.lines);
}

pub returns-clause-exact : goal.returns-clause-exact
returns-clause-exact c = at_end c.loop-line.script c.loop-line.place c.loop-line.number c.loop-line.lines _ c.ended.result c.in_default.ensures.lines.0 c.loop-line.invariant.so_far c.ended.ensures

pub returns-clause-formed : goal.returns-clause-formed
returns-clause-formed c = ends c.loop-line.script c.loop-line.place c.loop-line.number c.ended.result c.loop-line.invariant.formed c.ended.ensures
