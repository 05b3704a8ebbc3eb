use Rattle.std.proofs.Common.{Some, lit<, ap, sym, ◌∙◌}
use Rattle.mf_labeltext.specs.Reading.{parts, comps_from}
use Rattle.mf_labeltext.proofs.Cutting.{text_behind}
use Rattle.mf_labeltext.proofs.CompsReading.{comps_behind, comps_more, comps_last, comps_end}
use Rattle.mf_labeltext.proofs.values.read_comps.Goals as goal

pub returns-in_err-read_compartment : goal.returns-in_err-read_compartment
returns-in_err-read_compartment c =
    let comps = c.loop-first.comps in
    let split = c.in-Some.ensures in
    let read = c.in_err-read_compartment.ensures in
    c.from_residual.ensures
    ∙ ap (comps_behind comps c.in-Some.after.now) read.value
    ∙ sym (comps_more comps c.loop-first.rest.now c.in-Some.first.now c.in-Some.after.now split.cut)
    ∙ c.loop-first.invariant.read

pub loop-first-preserved : goal.loop-first-preserved
loop-first-preserved c =
    let comps = c.loop-first.comps in
    let split = c.in-Some.ensures in
    let read = c.in_ok-read_compartment.ensures in
    record {
      read = ap (λ s. comps_from s (parts 43 c.in-Some.after.now)) c.with-comps.ensures.value
          ∙ ap (comps_behind comps c.in-Some.after.now) read.value
          ∙ sym (comps_more comps c.loop-first.rest.now c.in-Some.first.now c.in-Some.after.now split.cut)
          ∙ c.loop-first.invariant.read;
      text = text_behind 43 c.loop-first.rest.now c.in-Some.first.now c.in-Some.after.now (lit< tt) c.loop-first.invariant.text split.cut;
    }

pub returns-in_err-read_compartment-2 : goal.returns-in_err-read_compartment-2
returns-in_err-read_compartment-2 c =
    let comps = c.loop-first.comps in
    let split = c.in_default.ensures in
    let read = c.in_err-read_compartment-2.ensures in
    c.from_residual-in_err-read_compartment-2.ensures
    ∙ ap (comps_last comps) read.value
    ∙ sym (comps_end comps c.loop-first.rest.now split.cut)
    ∙ c.loop-first.invariant.read

pub returns : goal.returns
returns c =
    let comps = c.loop-first.comps in
    let split = c.in_default.ensures in
    let read = c.in_ok-read_compartment-2.ensures in
    ap Some c.with.ensures.value
    ∙ ap (comps_last comps) read.value
    ∙ sym (comps_end comps c.loop-first.rest.now split.cut)
    ∙ c.loop-first.invariant.read
