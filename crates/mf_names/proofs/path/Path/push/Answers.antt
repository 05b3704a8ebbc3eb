use Rattle.std.proofs.Common.{◌≡◌, ◌++◌, ◌∷◌, [], arith}
use Rattle.std.specs.Prelude.{string_bytes}
use Rattle.std.specs.Str.{byte}
use Rattle.mf_names.proofs.Texts.{appended, one_more, longer_text}
use Rattle.mf_names.proofs.path.Path.push.Goals as goal

text : (c : goal.In_ok-push_str) → string_bytes c.push_str.new.self ≡ string_bytes c.self.inside.text ++ byte "/" ∷ c.args.component.now
text c =
    let opened : string_bytes c.push.new.self ≡ string_bytes c.self.inside.text ++ byte "/" ∷ [] =
    rw (← c.in_ok-reserve.ensures.bytes, ← c.in_ok-push.ensures.ascii (omega arith)) c.in_ok-push.ensures.bytes in
    appended (string_bytes c.self.inside.text) (string_bytes c.push.new.self) (string_bytes c.push_str.new.self) c.args.component.now opened c.in_ok-push_str.ensures.bytes

pub invariant_of-self-2 : goal.invariant_of-self-2
invariant_of-self-2 c = rw (text c) (longer_text (string_bytes c.self.inside.text) c.args.component.now c.requires.one (rw c.self.view_is c.requires.few) c.self.invariant)

pub returns-clause-ok : goal.returns-clause-ok
returns-clause-ok c = rw (text c, ← c.self.view_is) (one_more (string_bytes c.self.inside.text) c.args.component.now c.requires.one)
