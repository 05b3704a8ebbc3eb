use Rattle.mf_rule.proofs.Stretches.{marks, marks_rise}
use Rattle.mf_rule.proofs.uid_index.UidIndex.mark.Goals as goal

pub invariant_of-self : goal.invariant_of-self
invariant_of-self c = rw (c.mark_all.ensures) (marks_rise _ _ _ c.self.invariant)

pub returns : goal.returns
returns c = λ uid n last below. let rising = c.self.invariant in
    rw (c.mark_all.ensures, ← c.self.view_is) (marks c.args.number c.args.range.now uid n c.requires.number below last _ rising (rw (c.self.view_is) c.requires.cuts))
