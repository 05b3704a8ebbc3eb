use Rattle.std.proofs.Common.{◌≡◌, ◌++◌, string_bytes, rules}
use Rattle.mf_text.proofs.Appending.{fails_behind}
use Rattle.mf_spelling.specs.Spelling.{call_pieces}
use Rattle.mf_spelling.specs.Canonical.{words_behind}
use Rattle.mf_spelling.specs.Printed.{behind_first, first_alone}
use Rattle.mf_spelling.proofs.Texts.{words_pushed}
use Rattle.mf_spelling.proofs.calls.push_arguments.Goals as goal

second_pushed : (c : goal.After-push_further) → string_bytes c.push_second.new.out ≡ string_bytes c.args.out.now ++ words_behind (first_alone (behind_first (call_pieces c.args.call.now)))
second_pushed c = search rules

pub returns-clause-ok : goal.returns-clause-ok
returns-clause-ok c =
    words_pushed c.push_further.result (string_bytes c.args.out.now) (string_bytes c.push_second.new.out) (string_bytes c.push_further.new.out) (behind_first (call_pieces c.args.call.now))
    (second_pushed c) c.push_further.ensures.ok

pub returns-clause-err : goal.returns-clause-err
returns-clause-err c =
    fails_behind (string_bytes c.args.out.now) _ (string_bytes c.push_second.new.out) (string_bytes c.push_further.new.out) c.push_further.result
    (second_pushed c) c.push_further.ensures.err
