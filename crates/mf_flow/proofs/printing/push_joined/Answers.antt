use Rattle.std.proofs.Common.{◌++◌, List, ℕ, map, take, get_or, ap, sym, ◌∙◌, append_assoc, string_bytes}
use Rattle.std.specs.List.{join_with_byte}
use Rattle.mf_elem.specs.declared.elem.Elem.TheVariants.{Low}
use Rattle.mf_text.proofs.Appending.{extends_behind, on_err}
use Rattle.mf_labeltext.specs.Canonical.{elem_text}
use Rattle.mf_labeltext.specs.Commas.{comma_behind}
use Rattle.mf_labeltext.proofs.Printings.{elements_more}
use Rattle.mf_flow.proofs.printing.push_joined.Goals as goal

pub loop-place-preserved : goal.loop-place-preserved
loop-place-preserved c =
    let place = c.loop-place.place in
    let front : List ℕ = string_bytes c.args.out.now in
    let so_far : List ℕ = join_with_byte 44 (map elem_text (take place c.args.elements.now)) in
    let last : List ℕ = elem_text (get_or c.args.elements.now place Low) in
    c.in_ok-push_next.ensures.ok
    ∙ ap (λ text. text ++ (comma_behind place ++ last)) c.loop-place.invariant
    ∙ append_assoc front so_far (comma_behind place ++ last)
    ∙ ap (λ text. front ++ text) (sym (append_assoc so_far (comma_behind place) last))
    ∙ ap (λ text. front ++ text) (sym (elements_more elem_text c.args.elements.now place Low c.loop-place-test.true))

pub returns-in_err-push_next-clause-err : goal.returns-in_err-push_next-clause-err
returns-in_err-push_next-clause-err c =
    let front : List ℕ = string_bytes c.args.out.now in
    let so_far : List ℕ = join_with_byte 44 (map elem_text (take c.loop-place.place c.args.elements.now)) in
    on_err c.from_residual.result
    (extends_behind front so_far (string_bytes c.loop-place.out) (string_bytes c.push_next.new.out) c.loop-place.invariant c.in_err-push_next.ensures.err)
