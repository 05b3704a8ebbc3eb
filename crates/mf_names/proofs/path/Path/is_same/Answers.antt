use Rattle.mf_names.proofs.Texts.{paths_decide, texts_differ}
use Rattle.mf_names.proofs.path.Path.is_same.Goals as goal

pub returns-then-may_be_same : goal.returns-then-may_be_same
returns-then-may_be_same c =
    rw (← c.self.view_is, ← c.other.view_is, ← c.as_str.ensures.value, ← c.as_str-then-may_be_same.ensures.value)
    (paths_decide c.as_str.result.now c.as_str-then-may_be_same.result.now _ (rw c.as_str.ensures.value c.self.invariant.begins)
    (rw c.as_str-then-may_be_same.ensures.value c.other.invariant.begins) c.eq.ensures)

pub returns-else-may_be_same : goal.returns-else-may_be_same
returns-else-may_be_same c =
    rw (← c.self.view_is, ← c.other.view_is, ← c.as_bytes.ensures.value, ← c.as_bytes-2.ensures.value)
    (texts_differ c.as_bytes.result.now c.as_bytes-2.result.now c.may_be_same.result (rw c.as_bytes.ensures.value c.self.invariant.begins)
    (rw c.as_bytes-2.ensures.value c.other.invariant.begins) c.may_be_same.ensures c.if-may_be_same.false)
