use Rattle.std.proofs.Common.{◌≡◌, ℕ, List, Bor, ap, ◌∙◌, arith}
use Rattle.std.specs.List.{insert, position_or_len}
use Rattle.mf_objects.specs.Names.{comes_first}
use Rattle.mf_objects.proofs.FirstNames.{out_of_place, put_in_place, texts, texts_few}
use Rattle.mf_objects.proofs.objects.naming.keep_first.Goals as goal

pub returns-in_ok-insert : goal.returns-in_ok-insert
returns-in_ok-insert c =
    let place : ℕ = c.place_of_name-place.result in
    let at : place ≡ position_or_len (comes_first c.args.name.now) (texts c.args.names.now.items) =
    c.place_of_name-place.ensures ∙ ap (λ (ns : List (Bor (List ℕ))). position_or_len (comes_first c.args.name.now) (texts ns)) c.as_slice.ensures.value in
    ap texts (c.in_ok-insert.ensures.items ∙ ap (λ (ns : List (Bor (List ℕ))). insert ns place c.args.name) c.truncate.ensures.items)
    ∙ put_in_place c.args.names.now.items c.args.name place at c.if-place-lt-MOST_NAMES.true

pub returns-else-place-lt-MOST_NAMES : goal.returns-else-place-lt-MOST_NAMES
returns-else-place-lt-MOST_NAMES c =
    let place : ℕ = c.place_of_name-place.result in
    let at : place ≡ position_or_len (comes_first c.args.name.now) (texts c.args.names.now.items) =
    c.place_of_name-place.ensures ∙ ap (λ (ns : List (Bor (List ℕ))). position_or_len (comes_first c.args.name.now) (texts ns)) c.as_slice.ensures.value in
    out_of_place c.args.names.now.items c.args.name place at c.if-place-lt-MOST_NAMES.false (texts_few c.args.names.now.items 16 c.requires.few)
