use Rattle.std.proofs.Common.{◌≡◌, ◌++◌, ℕ, List, Result, Ok, Err, OnOk, string_bytes, ap, ◌∙◌}
use Rattle.std.specs.List.{flat_map}
use Rattle.mf_errno.specs.declared.errno.Errno.{Errno}
use Rattle.mf_errno.specs.Names.{all_errors}
use Rattle.mf_core.specs.declared.history.Event.{Event}
use Rattle.mf_load.specs.Replied.{counted_text, errnos_in, replied_text}
use Rattle.mf_load.proofs.Replied.{counted_texts}
use Rattle.mf_load.proofs.summary.push_replies.Goals as goal

appended : (events : List Event) (replied errnos : List Errno) (old new : List ℕ) → replied ≡ errnos_in events → errnos ≡ all_errors
    → new ≡ old ++ flat_map (counted_text replied) errnos → new ≡ old ++ flat_map (replied_text events) all_errors
appended events replied errnos old new taken all is =
    is
    ∙ ap (λ (es : List Errno). old ++ flat_map (counted_text es) errnos) taken
    ∙ ap (λ (text : List ℕ). old ++ text) (counted_texts events errnos)
    ∙ ap (λ (es : List Errno). old ++ flat_map (replied_text events) es) all

where_ok : {T E A B : Type 0} (result : Result T E) → (A → B) → OnOk result A → OnOk result B
where_ok (Ok value) so holds = so holds
where_ok (Err error) so holds = holds

pub returns : goal.returns
returns c =
    where_ok c.push_counts.result
    (appended c.args.events.now c.deref.result.now c.all.result.now (string_bytes c.args.out.now) (string_bytes c.push_counts.new.out)
    (c.deref.ensures.value ∙ c.in_ok-replied.ensures) c.all.ensures)
    c.push_counts.ensures
