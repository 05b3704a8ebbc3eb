use Rattle.std.proofs.Common.{◌++◌, List, ℕ, take, get_or, ap, sym, arith, ◌∙◌, string_bytes}
use Rattle.std.specs.List.{flat_map}
use Rattle.std.proofs.lemmas.List.{flat_map_more, take_more}
use Rattle.mf_text.proofs.Appending.{extends_behind, on_err}
use Rattle.mf_why.specs.Lines.{permit_line}
use Rattle.mf_why.proofs.Entries.{some_entry}
use Rattle.mf_why.proofs.permits.push_permits.Goals as goal

pub loop-policy-preserved : goal.loop-policy-preserved
loop-policy-preserved c =
    let one = permit_line c.args.place.now c.args.number c.args.item.now in
    let listed = c.args.listed.now in
    let n = c.loop-policy.policy in
    c.in_ok-push_permit_of.ensures.ok some_entry
    ∙ ap (λ text. text ++ one (get_or listed n some_entry)) c.loop-policy.invariant
    ∙ flat_map_more one (string_bytes c.args.text.now) (take n listed) (get_or listed n some_entry)
    ∙ ap (λ es. string_bytes c.args.text.now ++ flat_map one es) (sym (take_more listed n some_entry (omega arith)))

pub returns-in_err-push_permit_of-clause-err : goal.returns-in_err-push_permit_of-clause-err
returns-in_err-push_permit_of-clause-err c =
    let so_far : List ℕ = flat_map (permit_line c.args.place.now c.args.number c.args.item.now) (take c.loop-policy.policy c.args.listed.now) in
    on_err c.from_residual.result
    (extends_behind (string_bytes c.args.text.now) so_far (string_bytes c.loop-policy.text) (string_bytes c.push_permit_of.new.text) c.loop-policy.invariant
    c.in_err-push_permit_of.ensures.err)
