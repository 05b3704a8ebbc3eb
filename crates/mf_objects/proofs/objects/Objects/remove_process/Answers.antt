use Rattle.std.proofs.Common.{ap, ◌∙◌}
use Rattle.mf_objects.specs.Live.{has_id}
use Rattle.mf_objects.specs.Changes.{without}
use Rattle.mf_objects.proofs.Removing.{process_later, process_left, process_some, left_bare, removed_all}
use Rattle.mf_objects.proofs.objects.Objects.remove_process.Goals as goal

pub place-place-requires : goal.place-place-requires
place-place-requires c = process_some c.remove_made_by.new.self c.args.id (process_left c.args.self.now c.remove_made_by.new.self c.args.id c.remove_made_by.ensures.removed c.requires)

pub remove_at-requires-clause-later : goal.remove_at-requires-clause-later
remove_at-requires-clause-later c =
    process_later c.remove_made_by.new.self c.args.id c.place-place.result c.place-place.ensures c.remove_made_by.ensures.rooted
    (process_left c.args.self.now c.remove_made_by.new.self c.args.id c.remove_made_by.ensures.removed c.requires)

pub remove_at-requires-clause-bare : goal.remove_at-requires-clause-bare
remove_at-requires-clause-bare c d =
    left_bare c.args.self.now c.remove_made_by.new.self c.args.id c.place-place.result d c.remove_made_by.ensures.removed c.requires c.place-place.ensures

pub returns : goal.returns
returns c =
    c.remove_at.ensures.by_id c.args.id c.place-place.ensures.has
    ∙ ap (without (has_id c.args.id)) c.remove_made_by.ensures.removed
    ∙ removed_all c.args.self.now c.args.id
