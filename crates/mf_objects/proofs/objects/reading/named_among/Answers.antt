use Rattle.std.proofs.Common.{sym, ◌∙◌, arith}
use Rattle.mf_objects.specs.declared.id.Id.{Id}
use Rattle.mf_objects.specs.Index.{is_named_at}
use Rattle.mf_objects.proofs.Rising.{find_first}
use Rattle.mf_objects.proofs.Members.{find_none}
use Rattle.mf_objects.proofs.objects.reading.named_among.Goals as goal

pub returns-then-is_named : goal.returns-then-is_named
returns-then-is_named c =
    let first : Id = record { 0 = 0 } in
    sym (find_first (is_named_at c.args.entities.now c.args.group c.args.name.now) c.args.candidates.now c.loop-id.id-index first c.loop-id-test.true
    (sym c.is_named.ensures ∙ c.if-is_named.true) (λ j before. c.loop-id.invariant j first before))

pub returns : goal.returns
returns c =
    sym (find_none (is_named_at c.args.entities.now c.args.group c.args.name.now) c.args.candidates.now (λ k d l. c.loop-id.invariant k d (omega (arith, l, c.loop-id-test.false))))
