use Rattle.std.proofs.Common.{◌≡◌, ◌+◌, ◌++◌, List, ℕ, [], length, ap, sym, subst, ◌∙◌, arith, append-nil}
use Rattle.std.specs.List.{AllByRecursion, flat_map}
use Rattle.mf_policy.specs.declared.registration.Registration.{Registration}
use Rattle.mf_core.specs.declared.history.Event.{Event}
use Rattle.mf_hist.specs.HistoryText.{boot_text, event_text}
use Rattle.mf_hist.specs.Lines.{IsBoot, IsEvent}
use Rattle.mf_hist.proofs.ReadLines.{empty, front_fault, nonempty}
use Rattle.mf_hist.proofs.reading.read_lines.Goals as goal

pub loop-rest-init : goal.loop-rest-init
loop-rest-init c =
    let s = c.args.script.now in
    let text = c.args.text.now in
    let boots = c.args.boots.now in
    let events = c.args.events.now.items in
    record {
      boots = subst (AllByRecursion IsBoot) (sym c.requires.no_boots) tt;
      events = subst (AllByRecursion (IsEvent s)) (sym c.requires.no_events) tt;
      text = sym (ap (λ (rs : List Registration). flat_map boot_text rs ++ flat_map (event_text s) events ++ text) c.requires.no_boots
          ∙ ap (λ (es : List Event). flat_map (event_text s) es ++ text) c.requires.no_events);
      number = omega (arith, ap length c.requires.no_boots, ap length c.requires.no_events);
      within = omega arith;
    }

pub returns-in-Err-NoLine-clause-fault : goal.returns-in-Err-NoLine-clause-fault
returns-in-Err-NoLine-clause-fault c =
    record {
      boots = c.loop-rest.boots;
      events = c.loop-rest.events.items;
      rest = c.loop-rest.rest.now;
      each_boot = c.loop-rest.invariant.boots;
      each_event = c.loop-rest.invariant.events;
      before = c.loop-rest.invariant.text;
      is_next = omega (arith, c.loop-rest.invariant.number);
      some = nonempty c.loop-rest.rest.now c.loop-rest-test.ensures;
      fault = front_fault c.args.script.now c.as_slice.result.now c.loop-rest.events.items c.loop-rest.rest.now c.in-Err-NoLine.field-0 c.in-Err-NoLine.field-0-is c.in-Err-NoLine.ensures c.as_slice.ensures.value;
    }

pub returns-clause-text : goal.returns-clause-text
returns-clause-text c =
    let none : c.loop-rest.rest.now ≡ _ = empty c.loop-rest.rest.now c.loop-rest-test.ensures in
    c.loop-rest.invariant.text
    ∙ ap (λ rest. flat_map boot_text c.loop-rest.boots ++ flat_map (event_text c.args.script.now) c.loop-rest.events.items ++ rest) none
    ∙ append-nil (flat_map boot_text c.loop-rest.boots ++ flat_map (event_text c.args.script.now) c.loop-rest.events.items)
