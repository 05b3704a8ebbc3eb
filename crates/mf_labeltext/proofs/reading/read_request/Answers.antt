use Rattle.std.proofs.Common.{sym, ◌∙◌}
use Rattle.mf_labeltext.proofs.Requests.{request_spells, spells_request}
use Rattle.mf_labeltext.proofs.Faults.{faults_are}
use Rattle.mf_labeltext.proofs.Formed.{read_is_request}
use Rattle.mf_labeltext.proofs.reading.read_request.Goals as goal

pub returns-clause-spells : goal.returns-clause-spells
returns-clause-spells c = λ request.
    (λ is. request_spells c.args.text.now request (sym c.read_elements.ensures ∙ is), λ spells. c.read_elements.ensures ∙ spells_request c.args.text.now request spells)

pub returns-clause-fault : goal.returns-clause-fault
returns-clause-fault c = λ fault.
    let first = faults_are c.args.text.now fault in
    (λ is. first.0 (sym c.read_elements.ensures ∙ is), λ is. c.read_elements.ensures ∙ first.1 is)

pub returns-clause-formed : goal.returns-clause-formed
returns-clause-formed c = read_is_request c.read_elements.result c.args.text.now (λ request is. request_spells c.args.text.now request (sym c.read_elements.ensures ∙ is))
