use Rattle.std.proofs.Common.{◌++◌, List, ℕ, take, get_or, ap, arith, ◌∙◌, string_bytes}
use Rattle.std.specs.List.{flat_map}
use Rattle.mf_text.proofs.Appending.{extends_behind, on_err}
use Rattle.mf_why.specs.Deniers.{denier}
use Rattle.mf_why.specs.Lines.{denier_text}
use Rattle.mf_why.proofs.Entries.{some_entry}
use Rattle.mf_why.proofs.Texts.{texts_more}
use Rattle.mf_why.proofs.causes.push_deniers.Goals as goal

pub loop-number-preserved : goal.loop-number-preserved
loop-number-preserved c =
    let told = denier_text c.args.place.now in
    let one = denier c.args.by c.args.item.now in
    let listed = c.args.listed.now in
    c.in_ok-push_denier.ensures.ok some_entry
    ∙ ap (λ text. text ++ flat_map told (one (get_or listed c.loop-number.number some_entry))) c.loop-number.invariant
    ∙ texts_more told one (string_bytes c.args.text.now) listed c.loop-number.number some_entry (omega arith)

pub returns-in_err-push_denier-clause-err : goal.returns-in_err-push_denier-clause-err
returns-in_err-push_denier-clause-err c =
    let so_far : List ℕ = flat_map (denier_text c.args.place.now) (flat_map (denier c.args.by c.args.item.now) (take c.loop-number.number c.args.listed.now)) in
    on_err c.from_residual.result
    (extends_behind (string_bytes c.args.text.now) so_far (string_bytes c.loop-number.text) (string_bytes c.push_denier.new.text) c.loop-number.invariant
    c.in_err-push_denier.ensures.err)
