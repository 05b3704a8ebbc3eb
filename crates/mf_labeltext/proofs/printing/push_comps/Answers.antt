use Rattle.std.proofs.Common.{◌+◌, string_bytes, ap, sym, subst, ◌∙◌, arith}
use Rattle.std.specs.FinSet as set
use Rattle.mf_elem.specs.Comps.{compartments_of}
use Rattle.mf_labeltext.proofs.Printings.{Printed, nothing_printed, nothing_to_print, printed_not, printed_more, all_printed}
use Rattle.mf_labeltext.proofs.printing.push_comps.Goals as goal
use Rattle.mf_labeltext.proofs.printing.push_comps.Goals.{then-has+in_ok-push_comp, else-has}

pub loop-place-init : goal.loop-place-init
loop-place-init c = nothing_printed (set.contains (compartments_of c.args.comps.now)) (string_bytes c.args.out.now)

pub loop-place-preserved : goal.loop-place-preserved
loop-place-preserved c =
    let test = set.contains (compartments_of c.args.comps.now) in
    let before = string_bytes c.args.out.now in
    let after = string_bytes c.loop-place.out in
    let place = c.loop-place.place in
    elim c.if-has.branch [
      | then-has+in_ok-push_comp w ↦
          let pushed = w.in_ok-push_comp.ensures.ok in
          let present = w.if-has.ensures in
          subst (λ separator. Printed test before (string_bytes c.if-has.out) separator (place + 1)) (sym w.separator-is)
          (printed_more test before after (string_bytes c.if-has.out) c.loop-place.separator place c.loop-place.invariant (sym present) (ap string_bytes w.out-is ∙ pushed))
      | else-has w ↦
          let absent = w.if-has.ensures in
          subst (λ out. Printed test before (string_bytes out) c.if-has.separator (place + 1)) (sym w.out-is)
          (subst (λ separator. Printed test before after separator (place + 1)) (sym w.separator-is)
          (printed_not test before after c.loop-place.separator place c.loop-place.invariant (sym absent)))
    ]

pub returns-clause-ok : goal.returns-clause-ok
returns-clause-ok c = all_printed c.args.comps.now (string_bytes c.args.out.now) (string_bytes c.loop-place.out) c.loop-place.separator c.loop-place.place c.loop-place.invariant (omega arith)

pub returns-then-is_empty-clause-ok : goal.returns-then-is_empty-clause-ok
returns-then-is_empty-clause-ok c = nothing_to_print c.args.comps.now (string_bytes c.args.out.now) (sym c.is_empty.ensures ∙ c.if-is_empty.true)
