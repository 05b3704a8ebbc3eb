use Rattle.std.proofs.Common.{◌≡◌, false, eqb, [], ◌∷◌, ◌++◌, length, string_bytes, rules}
use Rattle.mf_text.proofs.Appending.{fails_behind}
use Rattle.mf_spelling.proofs.Texts.{path_pushed}
use Rattle.mf_spelling.proofs.words.push_path.Goals as goal

space_pushed : (c : goal.After-push_components) → string_bytes c.push.new.self ≡ string_bytes c.args.out.now ++ 32 ∷ []
space_pushed c = search rules

some : (c : goal.After-push_components) → eqb (length c.args.names.now) 0 ≡ false
some c = search rules

pub returns-clause-ok : goal.returns-clause-ok
returns-clause-ok c =
    path_pushed c.push_components.result (string_bytes c.args.out.now) (string_bytes c.push.new.self) (string_bytes c.push_components.new.out) c.args.names.now
    (some c) (space_pushed c) c.push_components.ensures.ok

pub returns-clause-err : goal.returns-clause-err
returns-clause-err c =
    fails_behind (string_bytes c.args.out.now) (32 ∷ []) (string_bytes c.push.new.self) (string_bytes c.push_components.new.out) c.push_components.result
    (space_pushed c) c.push_components.ensures.err
