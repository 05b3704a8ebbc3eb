use Rattle.std.proofs.Common.{◌++◌, List, ℕ, map, take, get_or, ap, sym, ◌∙◌, append_assoc, string_bytes}
use Rattle.std.specs.List.{join_with_byte}
use Rattle.mf_errno.specs.declared.module.Module.TheVariants.{Biba}
use Rattle.mf_elem.specs.declared.label.LabelValue.TheVariants.{Unset}
use Rattle.mf_labeltext.specs.Canonical.{element_text}
use Rattle.mf_labeltext.specs.Commas.{comma_behind}
use Rattle.mf_text.proofs.Appending.{extends_behind, on_err}
use Rattle.mf_labeltext.proofs.Printings.{elements_more}
use Rattle.mf_labeltext.proofs.printing.push_elements.Goals as goal

pub loop-place-preserved : goal.loop-place-preserved
loop-place-preserved c =
    let place = c.loop-place.place in
    let front : List ℕ = string_bytes c.args.out.now in
    let so_far : List ℕ = join_with_byte 44 (map element_text (take place c.args.parts.now)) in
    let last : List ℕ = element_text (get_or c.args.parts.now place (Biba, Unset)) in
    c.in_ok-push_next_element.ensures.ok
    ∙ ap (λ text. text ++ (comma_behind place ++ last)) c.loop-place.invariant
    ∙ append_assoc front so_far (comma_behind place ++ last)
    ∙ ap (λ text. front ++ text) (sym (append_assoc so_far (comma_behind place) last))
    ∙ ap (λ text. front ++ text) (sym (elements_more element_text c.args.parts.now place (Biba, Unset) c.loop-place-test.true))

pub returns-in_err-push_next_element-clause-err : goal.returns-in_err-push_next_element-clause-err
returns-in_err-push_next_element-clause-err c =
    let front : List ℕ = string_bytes c.args.out.now in
    let so_far : List ℕ = join_with_byte 44 (map element_text (take c.loop-place.place c.args.parts.now)) in
    on_err c.from_residual.result
    (extends_behind front so_far (string_bytes c.loop-place.out) (string_bytes c.push_next_element.new.out) c.loop-place.invariant c.in_err-push_next_element.ensures.err)
