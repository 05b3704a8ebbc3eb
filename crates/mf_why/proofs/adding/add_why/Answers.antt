use Rattle.mf_text.proofs.Appending.{can_be_undone}
use Rattle.mf_why.proofs.adding.add_why.Goals as goal

pub truncate-requires : goal.truncate-requires
truncate-requires c =
    let appended = c.push_events-appended in
    can_be_undone c.args.text.now appended.new.text c.len-length.result appended.result c.len-length.ensures c.if-is_err.ensures.value appended.ensures.err
