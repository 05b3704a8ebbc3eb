use Rattle.std.proofs.Common.{◌≡◌, ap, sym, ◌∙◌}
use Rattle.mf_cred.specs.declared.cred.FileView.{FileView}
use Rattle.mf_objects.specs.Live.{file_at, file_of, no_file}
use Rattle.mf_objects.proofs.Shorthands.{reading}
use Rattle.mf_objects.proofs.Laws.{regular_empty}
use Rattle.mf_objects.proofs.objects.Objects.file.Goals as goal

pub returns-clause-regular : goal.returns-clause-regular
returns-clause-regular c regular =
    let file : c.file.result ≡ file_at c.args.self.now c.args.id = c.file.ensures ∙ sym (ap (reading file_of no_file) c.entity.ensures.shown) in
    regular_empty c.args.self.now c.args.id c.entity.ensures.population (ap (λ (f : FileView). f.dir) (sym file) ∙ regular)
