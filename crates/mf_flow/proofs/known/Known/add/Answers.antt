use Rattle.std.proofs.Common.{◌≡◌, ℕ, List, sym, subst, ◌∙◌, arith, length, ap}
use Rattle.std.specs.List.{insert}
use Rattle.mf_flow.specs.declared.known.Numbered.{Numbered}
use Rattle.mf_flow.specs.Listed.{AreNumbered, IsNumberIn}
use Rattle.mf_flow.proofs.Numbering.{goes_in, new_number, numbered_more}
use Rattle.mf_flow.proofs.known.Known.add.Goals as goal

pub returns-clause-numbered : goal.returns-clause-numbered
returns-clause-numbered c =
    let known : List Numbered = c.args.self.now in
    let number : c.len-number.result ≡ length known = omega (arith, c.len-number.ensures, c.self.inside.items.ok.0, ap length c.self.view_is) in
    let x : Numbered = record { element = c.args.element.now; number = length known } in
    let is : c.insert.new.self.items ≡ insert known c.args.place x =
    c.in_ok-insert.ensures.items
    ∙ ap (λ (xs : List Numbered). insert xs c.args.place (record { element = c.args.element.now; number = c.len-number.result })) c.self.view_is
    ∙ ap (λ (n : ℕ). insert known c.args.place (record { element = c.args.element.now; number = n })) number in
    subst AreNumbered (sym is) (numbered_more known c.args.place x c.requires.numbered (goes_in c.args.element.now known c.args.place c.requires.place c.requires.numbered c.requires.other))

pub returns-clause-ok : goal.returns-clause-ok
returns-clause-ok c =
    let known : List Numbered = c.args.self.now in
    let number : c.len-number.result ≡ length known = omega (arith, c.len-number.ensures, c.self.inside.items.ok.0, ap length c.self.view_is) in
    let x : Numbered = record { element = c.args.element.now; number = length known } in
    let is : c.insert.new.self.items ≡ insert known c.args.place x =
    c.in_ok-insert.ensures.items
    ∙ ap (λ (xs : List Numbered). insert xs c.args.place (record { element = c.args.element.now; number = c.len-number.result })) c.self.view_is
    ∙ ap (λ (n : ℕ). insert known c.args.place (record { element = c.args.element.now; number = n })) number in
    subst (λ (n : ℕ). IsNumberIn c.args.element.now n known c.insert.new.self.items) (sym number)
    (subst (λ (xs : List Numbered). IsNumberIn c.args.element.now (length known) known xs) (sym is)
    (new_number known c.args.place x c.requires.numbered (goes_in c.args.element.now known c.args.place c.requires.place c.requires.numbered c.requires.other)))
