-- The rows that are kept are the sources of the live entities.
use Rattle.std.proofs.Common.{◌≡◌, ◌≢◌, ℕ, ◌<◌, ◌≤◌, ◌+◌, zero, suc, Bool, true, false, cond, nat_eq, nat_le, List, [], ◌∷◌, ◌++◌, length, set, Option, Some, None, refl, ap, sym, ◌∙◌, subst, arith, length-set, get_or-set_same, get_or-set_other}
use Rattle.std.specs.Prelude.{find, fold}
use Rattle.std.proofs.lemmas.Bool.Decides.{nat_tests}
use Rattle.mf_elem.specs.declared.elem.Elem.{Elem}
use Rattle.mf_elem.specs.Label.{is_equal}
use Rattle.mf_item.specs.Item.{Item}
use Rattle.mf_item.specs.declared.view.ObjectView.{ObjectView}
use Rattle.mf_policy.specs.declared.registration.Registration.{Registration}
use Rattle.mf_policy.specs.Operations.{row_of}
use Rattle.mf_policy.specs.declared.operations.Movement.{Movement}
use Rattle.mf_policy.specs.declared.operations.Movement.TheVariants.{Still, ToSubject, ToObject, BothWays}
use Rattle.mf_list.specs.Asked.{slot_of}
use Rattle.mf_objects.proofs.Entities.{label_of as values_of}
use Rattle.mf_objects.specs.declared.id.Id.{Id}
use Rattle.mf_objects.specs.Live.{LiveEntity, Entities, has_id, id_of, live_at}
use Rattle.mf_objects.specs.Lives.{is_from}
use Rattle.mf_objects.specs.Population.{IsRising}
use Rattle.mf_objects.proofs.Rising.{id_is}
use Rattle.mf_objects.proofs.Finding.{find_before, find_given}
use Rattle.mf_flow.specs.Order.{union}
use Rattle.mf_flow.specs.Rows.{AreKept, AreRows, Rows, set_at, element_of, element_numbered, may_come, set_joined, set_received, rows_between, rows_with, rows_moved}
use Rattle.mf_flow.specs.Sources.{Sets, element_by, held_by, received, moved, moved_by, moves_between}
use Rattle.mf_flow.proofs.Across.{moved_with, moved_by_all, element_at, is_id}
use Rattle.mf_flow.proofs.Orders.{FlowPolicy}
use Rattle.mf_flow.proofs.Bounds.{Fit, FitBy, is_exempt}
use Rattle.mf_flow.proofs.Placing.{union_nothing}
use Rattle.mf_flow.proofs.Elements.{HasElement}
use Rattle.mf_flow.proofs.Flowing.{AllFit}
use Rattle.mf_flow.proofs.Moves.{same_id}

-- each live entity has an element
abbrev pub AllLabelled : Registration → Entities → Type 0
AllLabelled r o = (id : Id) (e : LiveEntity) → live_at o id ≡ Some e → HasElement (element_by r e.label)

-- a party that is exempt from sources has none
abbrev pub AllHeld : Registration → Entities → Sets → Type 0
AllHeld r o sets = (id : Id) → is_exempt (element_at r o id) ≡ true → sets id ≡ []

-- so it is where they are fit
pub fit_held : (p : FlowPolicy) (r : Registration) (o : Entities) (sets : Sets) → AllFit p r o sets → AllHeld r o sets
fit_held p r o sets fit id = one (element_at r o id) (fit id)
  where
    one : (element : Option Elem) → Fit p element (sets id) → is_exempt element ≡ true → sets id ≡ []
    one None none exempt = none
    one (Some own) fit equal = subst (λ (b : Bool). FitBy p own b (sets id)) equal fit

held_nothing : (element : Option Elem) (set : List Elem) → is_exempt element ≡ true → held_by element set ≡ []
held_nothing None set exempt = refl
held_nothing (Some own) set equal = rw equal refl

received_held : (r : Registration) (o : Entities) (to : Id) (given : List Elem) (sets : Sets) → AllHeld r o sets → AllHeld r o (received r o to given sets)
received_held r o to given sets all id = one (is_id id to) refl
  where
    one : (b : Bool) → is_id id to ≡ b → is_exempt (element_at r o id) ≡ true → cond b (held_by (element_at r o to) (union (sets to) given)) (sets id) ≡ []
    one true same exempt =
        held_nothing (element_at r o to) (union (sets to) given) (ap (λ (x : Id). is_exempt (element_at r o x)) (sym (same_id id to same)) ∙ exempt)
    one false other exempt = all id exempt

module _ (r : Registration) (o : Entities) (rising : IsRising 0 o.next o.live) (labelled : AllLabelled r o) where
  -- what a party has after something came to it
  joined_is : (own : Elem) (b : Bool) → is_equal own ≡ b → (mine set given_row given : List Elem) → (b ≡ true → set ≡ []) → mine ≡ set → (from : Option Elem)
      → (is_exempt from ≡ true → given ≡ []) → ((x : Elem) → from ≡ Some x → given_row ≡ given)
      → cond (may_come (Some own) from) (union mine given_row) mine ≡ held_by (Some own) (union set given)
  joined_is own true equal mine set given_row given none is None theirs told = rw equal (is ∙ none refl)
  joined_is own true equal mine set given_row given none is (Some x) theirs told = rw equal (is ∙ none refl)
  joined_is own false plain mine set given_row given none is None theirs told = rw plain (is ∙ sym (ap (union set) (theirs refl) ∙ union_nothing set))
  joined_is own false plain mine set given_row given none is (Some x) theirs told =
      rw plain (ap (λ (xs : List Elem). union xs given_row) is ∙ ap (union set) (told x refl))

  own_row : (sets : Sets) (rows : Rows) (to from : Id) (e : LiveEntity) (given_row given : List Elem) → AllHeld r o sets → AreRows o sets rows → live_at o to ≡ Some e
      → (is_exempt (element_at r o from) ≡ true → given ≡ []) → ((giver : LiveEntity) → live_at o from ≡ Some giver → given_row ≡ given)
      → set_at (set_received (slot_of r) o rows to.0 from.0 given_row) to.0 ≡ held_by (element_at r o to) (union (sets to) given)
  own_row sets rows to from e given_row given held are live theirs told =
      let has : HasElement (element_by r e.label) = labelled to e live in
      let is : element_at r o to ≡ Some has.0 = ap (λ (found : Option LiveEntity). element_by r (values_of found)) live ∙ has.1 in
      get_or-set_same rows to.0 (set_joined (slot_of r) o to.0 from.0 (set_at rows to.0) given_row) [] within
      ∙ subst (λ (element : Option Elem). cond (may_come element (element_at r o from)) (union (set_at rows to.0) given_row) (set_at rows to.0) ≡ held_by element (union (sets to) given)) (sym is)
      (joined_is has.0 (is_equal has.0) refl (set_at rows to.0) (sets to) given_row given (subst (λ (element : Option Elem). is_exempt element ≡ true → sets to ≡ []) is (held to))
      (are.each to e live) (element_at r o from) theirs (given_by (live_at o from) refl))
    where
      within : to.0 < length rows
      within = omega (arith, are.count, find_given to e 0 o.next o.live live rising)

      given_by : (found : Option LiveEntity) → live_at o from ≡ found → (x : Elem) → element_by r (values_of found) ≡ Some x → given_row ≡ given
      given_by None is x some = cc
      given_by (Some giver) is x some = told giver is

  received_rows : (sets : Sets) (rows : Rows) (to from : Id) (given_row given : List Elem) → AllHeld r o sets → AreRows o sets rows
      → (is_exempt (element_at r o from) ≡ true → given ≡ []) → ((giver : LiveEntity) → live_at o from ≡ Some giver → given_row ≡ given)
      → AreRows o (received r o to given sets) (set_received (slot_of r) o rows to.0 from.0 given_row)
  received_rows sets rows to from given_row given held are theirs told =
      record {
        count = length-set rows to.0 (set_joined (slot_of r) o to.0 from.0 (set_at rows to.0) given_row) ∙ are.count;
        each = λ id e live. one id e live (is_id id to) refl;
      }
    where
      one : (id : Id) (e : LiveEntity) → live_at o id ≡ Some e → (b : Bool) → is_id id to ≡ b
          → set_at (set_received (slot_of r) o rows to.0 from.0 given_row) id.0 ≡ cond b (held_by (element_at r o to) (union (sets to) given)) (sets id)
      one id e live true same =
          let here : id ≡ to = same_id id to same in
          let at : live_at o to ≡ Some e = ap (live_at o) (sym here) ∙ live in
          ap (λ (x : Id). set_at (set_received (slot_of r) o rows to.0 from.0 given_row) x.0) here
          ∙ own_row sets rows to from e given_row given held are at theirs told
      one id e live false other =
          let differ : id.0 ≢ to.0 = λ same. differs id.0 to.0 other same in
          get_or-set_other rows to.0 id.0 (set_joined (slot_of r) o to.0 from.0 (set_at rows to.0) given_row) [] differ ∙ are.each id e live
        where
          differs : (a b : ℕ) → nat_eq a b ≡ false → a ≡ b → ⊥
          differs a b test equal = grind (arith, nat_tests)

  between_rows : (sets : Sets) (rows : Rows) (subject object : Id) (movement : Movement) → AllHeld r o sets → AreRows o sets rows
      → AreRows o (moved r o sets (moves_between subject object movement)) (rows_between (slot_of r) o rows movement subject.0 object.0)
  between_rows sets rows subject object Still held are = are
  between_rows sets rows subject object ToSubject held are =
      received_rows sets rows subject object (set_at rows object.0) (sets object) held are (held object) (are.each object)
  between_rows sets rows subject object ToObject held are =
      received_rows sets rows object subject (set_at rows subject.0) (sets subject) held are (held subject) (are.each subject)
  between_rows sets rows subject object BothWays held are =
      received_rows (received r o subject (sets object) sets) (set_received (slot_of r) o rows subject.0 object.0 (set_at rows object.0)) object subject (set_at rows subject.0) (sets subject)
      (received_held r o subject (sets object) sets held)
      (received_rows sets rows subject object (set_at rows object.0) (sets object) held are (held object) (are.each object))
      (held subject) (are.each subject)

  between_held : (sets : Sets) (subject object : Id) (movement : Movement) → AllHeld r o sets → AllHeld r o (moved r o sets (moves_between subject object movement))
  between_held sets subject object Still held = held
  between_held sets subject object ToSubject held = received_held r o subject (sets object) sets held
  between_held sets subject object ToObject held = received_held r o object (sets subject) sets held
  between_held sets subject object BothWays held =
      received_held r o object (sets subject) (received r o subject (sets object) sets) (received_held r o subject (sets object) sets held)

  with_rows : (sets : Sets) (rows : Rows) (movement : Movement) (subject : ℕ) (object : Option ObjectView) → AllHeld r o sets → AreRows o sets rows
      → AreRows o (moved_with r o (record { 0 = subject }) object sets movement) (rows_with (slot_of r) o rows movement subject object)
  with_rows sets rows movement subject None held are = are
  with_rows sets rows movement subject (Some object) held are = between_rows sets rows (record { 0 = subject }) (record { 0 = object.id }) movement held are

  with_held : (sets : Sets) (movement : Movement) (subject : Id) (object : Option ObjectView) → AllHeld r o sets → AllHeld r o (moved_with r o subject object sets movement)
  with_held sets movement subject None held = held
  with_held sets movement subject (Some object) held = between_held sets subject (record { 0 = object.id }) movement held

  -- checks that passed
  pub items_rows : (sets : Sets) (rows : Rows) (items : List Item) → AllHeld r o sets → AreRows o sets rows
      → AreRows o (moved_by_all r o sets items) (fold (rows_moved (slot_of r) o) rows items)
  items_rows sets rows [] held are = are
  items_rows sets rows (item ∷ items) held are =
      items_rows (moved_by r o sets item) (rows_moved (slot_of r) o rows item) items
      (with_held sets (row_of item.op).movement (record { 0 = item.subject.id }) item.object held)
      (with_rows sets rows (row_of item.op).movement item.subject.id item.object held are)

-- The first from a number on

from_test : (n m : ℕ) → n ≤ m → nat_le n m ≡ true
from_test n m l = grind (arith, nat_tests)

not_from : (n m : ℕ) → m < n → nat_le n m ≡ false
not_from n m l = grind (arith, nat_tests)

-- the live entity of an id is the first from its number on
pub first_from : (id : Id) (e : LiveEntity) (least next : ℕ) (es : List LiveEntity) → IsRising least next es → find (has_id id) es ≡ Some e → find (is_from id.0) es ≡ Some e
first_from id e least next [] rising found = cc
first_from id e least next (x ∷ es) rising found = one (has_id id x) refl found (first_from id e (x.id.0 + 1) next es rising.1)
  where
    later : find (has_id id) es ≡ Some e → has_id id x ≡ false → (b : Bool) → is_from id.0 x ≡ b → find (is_from id.0) es ≡ Some e
        → cond b (Some x) (find (is_from id.0) es) ≡ Some e
    later there miss false is rest = rest
    later there miss true is rest =
        let at_least : id.0 ≤ x.id.0 = grind (arith, nat_tests) in
        let before : find (has_id id) es ≡ None = find_before id (x.id.0 + 1) next es (omega arith) rising.1 in
        cc

    one : (b : Bool) → has_id id x ≡ b → cond b (Some x) (find (has_id id) es) ≡ Some e → (find (has_id id) es ≡ Some e → find (is_from id.0) es ≡ Some e)
        → cond (is_from id.0 x) (Some x) (find (is_from id.0) es) ≡ Some e
    one true hit here rest =
        let number : x.id.0 ≡ id.0 = id_is id x hit in
        let test : is_from id.0 x ≡ true = from_test id.0 x.id.0 (omega arith) in
        rw test here
    one false miss here rest = later here miss (is_from id.0 x) refl (rest here)

its_number : (id : Id) (e : LiveEntity) (es : List LiveEntity) → find (has_id id) es ≡ Some e → e.id.0 ≡ id.0
its_number id e [] found = cc
its_number id e (x ∷ es) found = one (has_id id x) refl found (its_number id e es)
  where
    one : (b : Bool) → has_id id x ≡ b → cond b (Some x) (find (has_id id) es) ≡ Some e → (find (has_id id) es ≡ Some e → e.id.0 ≡ id.0) → e.id.0 ≡ id.0
    one true hit here rest =
        let same : x ≡ e = cc in
        ap (λ (y : LiveEntity). y.id.0) (sym same) ∙ id_is id x hit
    one false miss later rest = rest later

-- The entity of a number

-- where the first id from a number on has another number, or none is found, no entity of that number lives
pub gone_at : (o : Entities) (n : ℕ) (found : Option Id) → IsRising 0 o.next o.live → found ≡ id_of (find (is_from n) o.live)
    → ((id : Id) → found ≡ Some id → id.0 ≡ n → ⊥) → live_at o (record { 0 = n }) ≡ None
gone_at o n found rising is other = one (live_at o (record { 0 = n })) refl
  where
    one : (at : Option LiveEntity) → live_at o (record { 0 = n }) ≡ at → at ≡ None
    one None none = refl
    one (Some e) live =
        let first : find (is_from n) o.live ≡ Some e = first_from (record { 0 = n }) e 0 o.next o.live rising live in
        absurd (other e.id (is ∙ ap id_of first) (its_number (record { 0 = n }) e o.live live))

pub absent_at : (slot : ℕ) (o : Entities) (n : ℕ) (found : Option Id) → IsRising 0 o.next o.live → found ≡ id_of (find (is_from n) o.live)
    → ((id : Id) → found ≡ Some id → id.0 ≡ n → ⊥) → None ≡ element_numbered slot o n
absent_at slot o n found rising is other = sym (ap (λ (at : Option LiveEntity). element_of slot (values_of at)) (gone_at o n found rising is other))

pub other_found : (n : ℕ) (id : Id) (number : ℕ) (found : Option Id) → found ≡ Some id → number ≡ id.0 → (number ≡ n → ⊥) → (x : Id) → found ≡ Some x → x.0 ≡ n → ⊥
other_found n id number found is here differs x some at =
    let same : id ≡ x = cc in
    differs (here ∙ ap (λ (y : Id). y.0) same ∙ at)

pub other_number : (n : ℕ) (id : Id) (number : ℕ) (found : Option Id) → found ≡ Some id → number ≡ id.0 → nat_eq number n ≡ false → (x : Id) → found ≡ Some x → x.0 ≡ n → ⊥
other_number n id number found is here test = other_found n id number found is here (differs number n test)
  where
    differs : (a b : ℕ) → nat_eq a b ≡ false → a ≡ b → ⊥
    differs a b test equal = grind (arith, nat_tests)

pub none_found : (n : ℕ) (found : Option Id) → found ≡ None → (x : Id) → found ≡ Some x → x.0 ≡ n → ⊥
none_found n found is x some at = cc

-- Emptied rows

pub kept_itself : (o : Entities) (rows : Rows) → AreKept o rows rows
kept_itself o rows = record { count = refl; each = λ id e live. refl }

pub kept_then : (o : Entities) (rows rows' rows'' : Rows) → AreKept o rows rows' → AreKept o rows' rows'' → AreKept o rows rows''
kept_then o rows rows' rows'' first then =
    record { count = then.count ∙ first.count; each = λ id e live. then.each id e live ∙ first.each id e live }

-- the row of what is gone is emptied
pub kept_more : (o : Entities) (rows rows' rows'' : Rows) (n : ℕ) → AreKept o rows rows' → live_at o (record { 0 = n }) ≡ None → rows'' ≡ set rows' n [] → AreKept o rows rows''
kept_more o rows rows' rows'' n kept gone is =
    subst (AreKept o rows) (sym is)
    (record {
      count = length-set rows' n [] ∙ kept.count;
      each = λ id e live. get_or-set_other rows' n id.0 [] [] (λ same. differs id e live same) ∙ kept.each id e live;
    })
  where
    differs : (id : Id) (e : LiveEntity) → live_at o id ≡ Some e → id.0 ≡ n → ⊥
    differs id e live same =
        let here : live_at o (record { 0 = n }) ≡ Some e = ap (λ (k : ℕ). live_at o (record { 0 = k })) (sym same) ∙ live in
        cc

-- a row behind all, and those before it
pub last_row : (rows : Rows) (new : List Elem) → set_at (rows ++ new ∷ []) (length rows) ≡ new
last_row [] new = refl
last_row (x ∷ rows) new = last_row rows new

pub former_row : (rows : Rows) (new : List Elem) (n : ℕ) → n < length rows → set_at (rows ++ new ∷ []) n ≡ set_at rows n
former_row [] new n within = absurd (omega arith)
former_row (x ∷ rows) new zero within = refl
former_row (x ∷ rows) new (suc n) within = former_row rows new n (omega arith)
