use Rattle.std.proofs.Common.{List, ap, ◌∙◌}
use Rattle.mf_objects.specs.declared.id.Id.{Id}
use Rattle.mf_objects.specs.Index.{bucket_of, without_last}
use Rattle.mf_objects.proofs.Indexed.{index_undone}
use Rattle.mf_objects.proofs.objects.enroll.Goals as goal

pub returns-in-Err-clause-err : goal.returns-in-Err-clause-err
returns-in-Err-clause-err c =
    let at = bucket_of c.args.group c.args.name.now in (
      c.in-Err.ensures.err,
      c.take_back.ensures ∙ ap (λ (index : List (List Id)). without_last at index) c.in_ok-insert.ensures.ok ∙ index_undone c.args.index.now at c.args.id c.in_ok-insert.ensures.within,
    )
