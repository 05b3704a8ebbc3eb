use Rattle.std.proofs.Common.{◌≡◌, ◌++◌, string_bytes, rules}
use Rattle.mf_text.proofs.Appending.{fails_behind}
use Rattle.mf_spelling.proofs.calls.push_call.Goals as goal

name_pushed : (c : goal.After-push_arguments) → string_bytes c.push_str.new.self ≡ string_bytes c.args.out.now ++ c.call_name.result.now
name_pushed c = search rules

pub returns-clause-err : goal.returns-clause-err
returns-clause-err c =
    fails_behind (string_bytes c.args.out.now) c.call_name.result.now (string_bytes c.push_str.new.self) (string_bytes c.push_arguments.new.out) c.push_arguments.result
    (name_pushed c) c.push_arguments.ensures.err
