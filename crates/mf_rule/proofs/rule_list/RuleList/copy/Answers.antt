use Rattle.std.proofs.Common.{◌-◌, arith, sym}
use Rattle.std.proofs.lemmas.List.{length-take, take_all}
use Rattle.std.specs.Prelude.{vec_len}
use Rattle.mf_rule.proofs.FreeSlots.{used_then_free}
use Rattle.mf_rule.proofs.rule_list.RuleList.copy.Goals as goal

pub invariant_of-result : goal.invariant_of-result
invariant_of-result c =
    let none = c.in_ok-slots.ensures in
    let used = c.in_ok-extend_from_slice.ensures in
    let taken = length-take c.self.inside.used c.deref.result.now in
    let is = c.self.invariant in
    let files = c.in_ok-copy.ensures in
    rw (c.in_ok-resize.ensures.items, take_all 250 c.extend_from_slice.new.self.items (omega (arith, none.len, taken, used.len)), used.items, none.items, c.deref.ensures.value, sym (used_then_free c.self.inside.used (250 - vec_len c.extend_from_slice.new.self) c.self.inside.slots.items (omega (arith, none.len, taken, used.len)) is.2))
    (is.0, is.1, is.2, rw (c.in_ok-copy.ensures) is.3, rw (c.in_ok-copy-2.ensures) is.4)

pub returns : goal.returns
returns c =
    let none = c.in_ok-slots.ensures in
    let used = c.in_ok-extend_from_slice.ensures in
    let taken = length-take c.self.inside.used c.deref.result.now in
    rw (c.in_ok-resize.ensures.items, take_all 250 c.extend_from_slice.new.self.items (omega (arith, none.len, taken, used.len)), used.items, none.items, c.deref.ensures.value, ← c.self.view_is)
    (sym (used_then_free c.self.inside.used (250 - vec_len c.extend_from_slice.new.self) c.self.inside.slots.items (omega (arith, none.len, taken, used.len)) c.self.invariant.2))
