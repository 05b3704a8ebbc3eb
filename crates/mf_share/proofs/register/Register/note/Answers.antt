use Rattle.std.proofs.Common.{ap, sym, ◌∙◌}
use Rattle.mf_share.proofs.Registers.{added, adds_moves}
use Rattle.mf_share.proofs.register.Register.note.Goals as goal

pub compare_exchange-found-requires : goal.compare_exchange-found-requires
compare_exchange-found-requires g c =
    let word = c.self.invariant.0 in
    let book = c.self.invariant.2 ∙ sym (ap (λ w. w.book) word) in
    let pen = c.no_pen-pen.ensures in
    let offer = c.plain-offer.ensures in (
      ap (λ w. w.tracked) word,
      book,
      pen.0 ∙ book,
      offer.0,
      rw (ap (λ w. w.key) word, pen.1, offer.1, offer.3) (adds_moves c.self.inside.seen.log c.args.plan.now c.self.inside.len (sym c.self.invariant.1)),
    )

pub returns-then-found-len : goal.returns-then-found-len
returns-then-found-len g c =
    added c.self.inside.seen.log _ _ c.args.plan.now _ _ c.if-found-len.true c.compare_exchange-found.ensures.7 c.self.invariant.1 c.plain-offer.ensures.1
