use Rattle.mf_text.proofs.Appending.{can_be_undone}
use Rattle.mf_text.proofs.octal.print_octal.Goals as goal

pub truncate-requires : goal.truncate-requires
truncate-requires c =
    let appended = c.push_octal-appended in
    can_be_undone c.args.out.now appended.new.out c.len-length.result appended.result c.len-length.ensures c.if-is_err.ensures.value appended.ensures.err
