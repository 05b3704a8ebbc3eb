use Rattle.std.proofs.Common.{◌≡◌, ◌++◌, List, ℕ, [], string_bytes, append_assoc, append-nil, ap, sym, ◌∙◌, arith}
use Rattle.std.proofs.lemmas.Grind.{common_steps}
use Rattle.mf_text.proofs.Appending.{extends_behind, on_err}
use Rattle.mf_matrix.proofs.printing.push_rows.Goals as goal

line_more : (front text text' more line : List ℕ) → text ≡ front ++ more → text' ≡ text ++ line → (all : List ℕ) × (text' ≡ front ++ all)
line_more front text text' more line is next = (more ++ line, next ∙ ap (λ (xs : List ℕ). xs ++ line) is ∙ append_assoc front more line)

pub loop-place-init : goal.loop-place-init
loop-place-init c = (λ listed are. sym (append-nil (string_bytes c.args.text.now)), ([], sym (append-nil (string_bytes c.args.text.now))))

pub loop-place-preserved : goal.loop-place-preserved
loop-place-preserved c = (
  λ listed are. grind (arith, common_steps, c.loop-place.invariant.0 listed are, are, c.in_ok-push_row.ensures.ok),
  line_more (string_bytes c.args.text.now) (string_bytes c.loop-place.text) (string_bytes c.push_row.new.text) c.loop-place.invariant.1.0 _ c.loop-place.invariant.1.1
      c.in_ok-push_row.ensures.ok,
)

pub returns-in_err-push_row-clause-err : goal.returns-in_err-push_row-clause-err
returns-in_err-push_row-clause-err c =
    on_err c.from_residual.result
    (extends_behind (string_bytes c.args.text.now) c.loop-place.invariant.1.0 (string_bytes c.loop-place.text) (string_bytes c.push_row.new.text) c.loop-place.invariant.1.1
    c.in_err-push_row.ensures.err)
