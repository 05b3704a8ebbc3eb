use Rattle.std.proofs.Common.{Ok, ap, sym, ◌∙◌}
use Rattle.mf_script.proofs.PathComponents.{components_read, components_refused, path_text, text_parts}
use Rattle.mf_script.proofs.names.components_of.Goals as goal

pub returns-then-not-are_components : goal.returns-then-not-are_components
returns-then-not-are_components c =
    rw c.faulty.ensures (components_refused c.args.behind.now (sym c.are_components.ensures ∙ c.if-not-are_components.true))

pub from_str-requires : goal.from_str-requires
from_str-requires c = path_text c.args.word.now c.args.behind.now c.requires (sym c.are_components.ensures ∙ c.if-not-are_components.false)

pub returns : goal.returns
returns c =
    components_read c.args.behind.now (sym c.are_components.ensures ∙ c.if-not-are_components.false)
    ∙ ap Ok (sym (c.in_ok-path.ensures ∙ text_parts c.args.word.now c.args.behind.now c.requires))
