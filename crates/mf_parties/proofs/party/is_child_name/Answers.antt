use Rattle.std.proofs.Common.{◌∙◌, ap, None, Some}
use Rattle.std.specs.Prelude.{codes}
use Rattle.std.specs.Str.{bytes_eq}
use Rattle.std.proofs.lemmas.Bool.Decides.{Decides-eqb}
use Rattle.std.proofs.lemmas.Slice.Eq.{strip_prefix_is}
use Rattle.mf_parties.proofs.Spelling.{no_front, no_dot, child_rest}
use Rattle.mf_parties.proofs.party.is_child_name.Goals as goal

pub returns-in_default : goal.returns-in_default
returns-in_default c =
    no_front c.args.name.now c.args.task.now c.args.child.now c.as_bytes.result.now c.as_bytes-2.result.now c.as_bytes.ensures.value c.as_bytes-2.ensures.value
    (strip_prefix_is Decides-eqb c.as_bytes.result.now c.as_bytes-2.result.now None c.in_default.ensures.cases)

pub returns-in_default-strip_prefix : goal.returns-in_default-strip_prefix
returns-in_default-strip_prefix c =
    no_dot c.args.name.now c.args.task.now c.args.child.now c.as_bytes.result.now c.as_bytes-2.result.now c.in-Some.rest.now c.as_bytes.ensures.value c.as_bytes-2.ensures.value
    (strip_prefix_is Decides-eqb c.as_bytes.result.now c.as_bytes-2.result.now (Some c.in-Some.rest) c.in-Some.ensures.cases)
    (strip_prefix_is Decides-eqb c.in-Some.rest.now (codes ".") None c.in_default-strip_prefix.ensures.cases)

pub returns : goal.returns
returns c =
    c.eq.ensures
    ∙ ap (bytes_eq c.in-Some-strip_prefix.own.now) c.as_bytes-3.ensures.value
    ∙ child_rest c.args.name.now c.args.task.now c.args.child.now c.as_bytes.result.now c.as_bytes-2.result.now c.in-Some.rest.now c.in-Some-strip_prefix.own.now
    c.as_bytes.ensures.value c.as_bytes-2.ensures.value
    (strip_prefix_is Decides-eqb c.as_bytes.result.now c.as_bytes-2.result.now (Some c.in-Some.rest) c.in-Some.ensures.cases)
    (strip_prefix_is Decides-eqb c.in-Some.rest.now (codes ".") (Some c.in-Some-strip_prefix.own) c.in-Some-strip_prefix.ensures.cases)
