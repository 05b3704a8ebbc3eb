use Rattle.std.proofs.Common.{◌++◌, ap, sym, ◌∙◌}
use Rattle.std.specs.Prelude.{string_bytes}
use Rattle.std.proofs.lemmas.Result.{on_ok_weaker}
use Rattle.mf_why.specs.ReasonText.{reason_text}
use Rattle.mf_why.proofs.reasons.push_reason.Goals as goal

pub returns-in-Modify-clause-ok : goal.returns-in-Modify-clause-ok
returns-in-Modify-clause-ok c = on_ok_weaker c.push_elems-in-Modify.result (λ h. h ∙ sym (ap (λ r. string_bytes c.args.text.now ++ reason_text r) c.in-Modify.is)) c.push_elems-in-Modify.ensures.ok

pub returns-in-RangeOutside-clause-ok : goal.returns-in-RangeOutside-clause-ok
returns-in-RangeOutside-clause-ok c = on_ok_weaker c.push_ranges.result (λ h. h ∙ sym (ap (λ r. string_bytes c.args.text.now ++ reason_text r) c.in-RangeOutside.is)) c.push_ranges.ensures.ok

pub returns-in-AskedOutside-clause-ok : goal.returns-in-AskedOutside-clause-ok
returns-in-AskedOutside-clause-ok c = on_ok_weaker c.push_bounds-in-AskedOutside.result (λ h. h ∙ sym (ap (λ r. string_bytes c.args.text.now ++ reason_text r) c.in-AskedOutside.is)) c.push_bounds-in-AskedOutside.ensures.ok

pub returns-in-PresentOutside-clause-ok : goal.returns-in-PresentOutside-clause-ok
returns-in-PresentOutside-clause-ok c = on_ok_weaker c.push_bounds-in-PresentOutside.result (λ h. h ∙ sym (ap (λ r. string_bytes c.args.text.now ++ reason_text r) c.in-PresentOutside.is)) c.push_bounds-in-PresentOutside.ensures.ok

pub returns-in-RangeOfObject-clause-ok : goal.returns-in-RangeOfObject-clause-ok
returns-in-RangeOfObject-clause-ok c = on_ok_weaker c.push_ends.result (λ h. h ∙ sym (ap (λ r. string_bytes c.args.text.now ++ reason_text r) c.in-RangeOfObject.is)) c.push_ends.ensures.ok

pub returns-in-AskedAbove-clause-ok : goal.returns-in-AskedAbove-clause-ok
returns-in-AskedAbove-clause-ok c = on_ok_weaker c.push_elems-in-AskedAbove.result (λ h. h ∙ sym (ap (λ r. string_bytes c.args.text.now ++ reason_text r) c.in-AskedAbove.is)) c.push_elems-in-AskedAbove.ensures.ok

pub returns-in-PresentAbove-clause-ok : goal.returns-in-PresentAbove-clause-ok
returns-in-PresentAbove-clause-ok c = on_ok_weaker c.push_elems-in-PresentAbove.result (λ h. h ∙ sym (ap (λ r. string_bytes c.args.text.now ++ reason_text r) c.in-PresentAbove.is)) c.push_elems-in-PresentAbove.ensures.ok

pub returns-in-Unprivileged-clause-ok : goal.returns-in-Unprivileged-clause-ok
returns-in-Unprivileged-clause-ok c = on_ok_weaker c.push_label-in-Unprivileged.result (λ h. h ∙ sym (ap (λ r. string_bytes c.args.text.now ++ reason_text r) c.in-Unprivileged.is)) c.push_label-in-Unprivileged.ensures.ok

pub returns-in-Partitions-clause-ok : goal.returns-in-Partitions-clause-ok
returns-in-Partitions-clause-ok c = on_ok_weaker c.push_numbers.result (λ h. h ∙ sym (ap (λ r. string_bytes c.args.text.now ++ reason_text r) c.in-Partitions.is)) c.push_numbers.ensures.ok

pub returns-in-Users-clause-ok : goal.returns-in-Users-clause-ok
returns-in-Users-clause-ok c = on_ok_weaker c.push_numbers-in-Users.result (λ h. h ∙ sym (ap (λ r. string_bytes c.args.text.now ++ reason_text r) c.in-Users.is)) c.push_numbers-in-Users.ensures.ok
