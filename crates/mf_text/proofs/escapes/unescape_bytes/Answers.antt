use Rattle.std.proofs.Common.{◌≡◌, [], ◌-◌, length, ap, sym, ◌∙◌}
use Rattle.std.proofs.lemmas.List.{nil_from_length}
use Rattle.std.proofs.lemmas.Bool.{eqb-true}
use Rattle.mf_text.specs.Escape.{bytes_from}
use Rattle.mf_text.proofs.Unescaping.{behind, read_to_end}
use Rattle.mf_text.proofs.escapes.unescape_bytes.Goals as goal

pub returns-clause-ok : goal.returns-clause-ok
returns-clause-ok c =
    let rest = c.loop-rest.rest.now in
    let ended : rest ≡ [] = nil_from_length rest (eqb-true (length rest) 0 (sym c.is_empty.ensures ∙ c.loop-rest-test.false)) in
    sym c.loop-rest.invariant.read ∙ ap (λ text. behind c.loop-rest.bytes.items (bytes_from (length c.args.text.now - length text) text)) ended ∙ read_to_end c.loop-rest.bytes.items (length c.args.text.now - 0)
