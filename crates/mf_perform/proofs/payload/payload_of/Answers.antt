use Rattle.std.proofs.Common.{◌≡◌, Option, Result, Ok, Err, IfOk, ap, sym, ◌∙◌}
use Rattle.mf_objects.specs.declared.id.Id.{Id}
use Rattle.mf_plan.specs.declared.reply.Payload.{Payload}
use Rattle.mf_plan.proofs.Finding.{row_by}
use Rattle.mf_perform.specs.Effect.{payload_takes_memory}
use Rattle.mf_perform.proofs.Handing.{payload_is}
use Rattle.mf_perform.specs.Found.{payload_found}
use Rattle.mf_perform.proofs.Suiting.{finder_lives, found_lives}
use Rattle.mf_perform.proofs.payload.payload_of.Goals as goal

read_so : {E : Type 0} (o : Result Payload E) (p : Payload) (P : Payload → Type 0) → IfOk o (λ payload. payload ≡ p) → ((payload : Payload) → payload ≡ p → P payload) → IfOk o P
read_so (Ok payload) p P is so = so payload is
read_so (Err e) p P is so = tt

pub read_found-requires-clause-caller : goal.read_found-requires-clause-caller
read_found-requires-clause-caller c =
    let found = c.requires.found in
    finder_lives c.args.state.now found.0 found.1 c.args.call.now c.args.found.now c.live-live.ensures.population found.2

pub read_found-requires-clause-live : goal.read_found-requires-clause-live
read_found-requires-clause-live c =
    let found = c.requires.found in
    found_lives c.args.state.now found.0 found.1 c.args.call.now c.args.found.now c.live-live.ensures.population found.2

pub returns-clause-value : goal.returns-clause-value
returns-clause-value c =
    read_so c.read_found.result _ _ c.read_found.ensures.value
    (λ payload is. λ task child are.
    is ∙ ap (λ (caller : Option Id). payload_found c.args.state.now caller c.args.call.now c.args.found.now.target) are.caller
    ∙ payload_is c.args.state.now task are.me c.args.call.now c.args.found.now are.is
    ∙ ap (λ (by : Option Id). (row_by c.args.state.now task c.args.call.now by).payload) (sym are.named))

pub returns-clause-memory : goal.returns-clause-memory
returns-clause-memory c = λ task child are none.
    c.read_found.ensures.memory
    (ap (λ (caller : Option Id). payload_takes_memory (payload_found c.args.state.now caller c.args.call.now c.args.found.now.target)) are.caller
    ∙ ap payload_takes_memory (payload_is c.args.state.now task are.me c.args.call.now c.args.found.now are.is)
    ∙ ap (λ (by : Option Id). payload_takes_memory (row_by c.args.state.now task c.args.call.now by).payload) (sym are.named) ∙ none)
