use Rattle.std.proofs.Common.{◌≡◌, None, Option, ap, sym, ◌∙◌, rules}
use Rattle.std.specs.Prelude.{option_copied, unwrap_or}
use Rattle.mf_elem.specs.declared.label.LabelValue.{LabelValue}
use Rattle.mf_elem.specs.declared.label.LabelValue.TheVariants.{Unset}
use Rattle.mf_objects.specs.Lives.{value_at}
use Rattle.mf_perform.proofs.PutBack.{unset, with_own}
use Rattle.mf_perform.proofs.lowering.put.Goals as goal

pub returns-else-is_some : goal.returns-else-is_some
returns-else-is_some c =
    let o = c.args.objects.now in
    let none : option_copied c.value_ref.result ≡ None = search rules in
    let own : value_at o c.args.id c.args.slot ≡ Unset = sym c.value_ref.ensures.value ∙ ap (λ (value : Option LabelValue). unwrap_or value Unset) none in
    sym (with_own o c.args.id c.args.slot c.args.value c.live-live.ensures.population.rising (unset c.args.value (value_at o c.args.id c.args.slot) c.requires.set own))
