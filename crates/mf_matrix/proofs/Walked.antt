-- The parties of the live entities, one after another.
use Rattle.std.proofs.Common.{◌≡◌, ℕ, ◌<◌, ◌+◌, true, List, [], ◌∷◌, ◌++◌, length, map, take, slice_get, Option, Some, None, IfSome, IsSome, refl, ap, sym, ◌∙◌, subst, arith}
use Rattle.std.specs.Prelude.{find}
use Rattle.std.proofs.lemmas.List.{map_push}
use Rattle.mf_objects.specs.declared.id.Id.{Id}
use Rattle.mf_objects.specs.Live.{LiveEntity, Entities, id_of, live_at}
use Rattle.mf_objects.specs.Lives.{is_from}
use Rattle.mf_objects.specs.Population.{IsRising}
use Rattle.mf_objects.proofs.Finding.{find_given}
use Rattle.mf_objects.proofs.Walking.{from_less, next_found, got, there, taken_more}
use Rattle.mf_matrix.specs.declared.parties.Party.{Party}
use Rattle.mf_matrix.specs.Matrix.{parties_in, party_of}

whole : {A : Type 0} (xs : List A) → take (length xs) xs ≡ xs
whole [] = refl
whole (x ∷ xs) = ap (λ (ys : List _). x ∷ ys) (whole xs)

abbrev party_at : Entities → LiveEntity → Party
party_at o e = party_of o e.id

-- the parties of so many are made, and the next entity is the first from a number on
pub record AreWalked (o : Entities) (parties : List Party) (from n : ℕ) : Type 0 where
  pub made : parties ≡ map (party_at o) (take n o.live)
  pub next : find (is_from from) o.live ≡ slice_get o.live n

pub walked_none : (o : Entities) (parties : List Party) → parties ≡ [] → AreWalked o parties 0 0
walked_none o parties none = record { made = none; next = from_start o.live }
  where
    from_start : (es : List LiveEntity) → find (is_from 0) es ≡ slice_get es 0
    from_start [] = refl
    from_start (x ∷ es) = let test : is_from 0 x ≡ true = from_less 0 x.id.0 (omega arith) in rw test refl

-- the entity that is found next is the one in that place
record IsNext (o : Entities) (n : ℕ) (id : Id) : Type 0 where
  e : LiveEntity
  here : slice_get o.live n ≡ Some e
  is : e.id ≡ id

found_next : (o : Entities) (from n : ℕ) (id : Id) → find (is_from from) o.live ≡ slice_get o.live n → Some id ≡ id_of (find (is_from from) o.live) → IsNext o n id
found_next o from n id next found = one (slice_get o.live n) refl (found ∙ ap id_of next)
  where
    one : (x : Option LiveEntity) → slice_get o.live n ≡ x → Some id ≡ id_of x → IsNext o n id
    one None is same = cc
    one (Some e) is same =
        let own : id ≡ e.id = cc in
        record { e = e; here = is; is = sym own }

pub walked_more : (o : Entities) (parties parties' : List Party) (from from' n : ℕ) (found : Option Id) (id : Id) → IsRising 0 o.next o.live
    → AreWalked o parties from n → n < length o.live → found ≡ Some id → found ≡ id_of (find (is_from from) o.live)
    → parties' ≡ parties ++ party_of o id ∷ [] → from' ≡ id.0 + 1 → AreWalked o parties' from' (n + 1)
walked_more o parties parties' from from' n found id rising so_far within some is more next =
    let at : IsNext o n id = found_next o from n id so_far.next (sym some ∙ is) in
    let behind : find (is_from (at.e.id.0 + 1)) o.live ≡ slice_get o.live (n + 1) =
    ap (λ (x : LiveEntity). find (is_from (x.id.0 + 1)) o.live) (sym (got o.live n at.e at.e at.here)) ∙ next_found o.live n 0 o.next at.e within rising in
    record {
      made =
          more ∙ ap (λ (ps : List Party). ps ++ party_of o id ∷ []) so_far.made
          ∙ ap (λ (x : Id). map (party_at o) (take n o.live) ++ party_of o x ∷ []) (sym at.is)
          ∙ sym (map_push (party_at o) (take n o.live) at.e)
          ∙ ap (map (party_at o)) (sym (taken_more o.live n at.e at.here));
      next = ap (λ (k : ℕ). find (is_from k) o.live) (next ∙ ap (λ (x : Id). x.0 + 1) (sym at.is)) ∙ behind;
    }

-- there is a next one
pub not_over : (o : Entities) (parties : List Party) (from n : ℕ) (found : Option Id) → AreWalked o parties from n → n < length o.live
    → found ≡ id_of (find (is_from from) o.live) → IsSome found
not_over o parties from n found so_far within is = one (slice_get o.live n) refl found (is ∙ ap id_of so_far.next)
  where
    one : (x : Option LiveEntity) → slice_get o.live n ≡ x → (found : Option Id) → found ≡ id_of x → IsSome found
    one None none found same = absurd (there o.live n within none)
    one (Some e) some None same = cc
    one (Some e) some (Some id) same = refl

pub all_walked : (o : Entities) (parties : List Party) (from n : ℕ) → AreWalked o parties from n → n ≡ length o.live → parties ≡ parties_in o
all_walked o parties from n so_far all = so_far.made ∙ ap (map (party_at o)) (ap (λ (k : ℕ). take k o.live) all ∙ whole o.live)

-- the id that is found was given
found_given : (o : Entities) (id : Id) (found : Option LiveEntity) → IsRising 0 o.next o.live → live_at o id ≡ found → Some id ≡ id_of found → id.0 < o.next
found_given o id None rising is same = cc
found_given o id (Some e) rising is same = find_given id e 0 o.next o.live is rising

pub given_of : (o : Entities) (from : ℕ) (found : Option Id) (id : Id) → IsRising 0 o.next o.live → found ≡ Some id → found ≡ id_of (find (is_from from) o.live)
    → IfSome found (λ x. live_at o x ≡ find (is_from from) o.live) → id.0 < o.next
given_of o from found id rising some is live =
    let at : live_at o id ≡ find (is_from from) o.live = subst (λ (x : Option Id). IfSome x (λ y. live_at o y ≡ find (is_from from) o.live)) some live in
    found_given o id (live_at o id) rising refl (sym some ∙ is ∙ ap id_of (sym at))
