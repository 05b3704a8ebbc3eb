-- The lists of all entities, as their sets change.
use Rattle.std.proofs.Common.{◌≡◌, ℕ, ◌<◌, ◌≤◌, zero, suc, Bool, true, false, cond, ◌||◌, eqb, List, [], ◌∷◌, ◌++◌, Option, Some, None, Result, Ok, Err, OnOk, OnErr, bit_and, length, get_or, set, refl, sym, ap, ◌∙◌, subst, arith}
use Rattle.std.specs.declared.alloc.AllocError.{AllocError}
use Rattle.std.specs.List.{AllByRecursion}
use Rattle.std.proofs.lemmas.Bool.{ne_eqb}
use Rattle.std.proofs.lemmas.List.{length-map, map-append, map-set}
use Rattle.mf_elem.specs.declared.elem.Elem.{Elem}
use Rattle.mf_flow.specs.declared.known.Numbered.{Numbered}
use Rattle.mf_elem.specs.Label.{is_equal}
use Rattle.mf_flow.specs.Order.{union}
use Rattle.mf_flow.specs.Sources.{held_by, own_source}
use Rattle.mf_flow.specs.Listed.{AreNumbered, AreSets, IsJoinedBy, IsNumberIn, IsWithin, KeepsLists, has_bit, listed, row_numbered, rows_of, words_at}
use Rattle.mf_flow.proofs.NumberBits.{all_there, no_bits}
use Rattle.mf_flow.proofs.Numbering.{listed_same, none_listed, union_listed}

-- ---- numbers that were given
pub within_more : (m n : ℕ) (words : List ℕ) → m ≤ n → IsWithin m words → IsWithin n words
within_more m n words more within k over = within k (omega (arith, over))

pub all_more : (m n : ℕ) (sets : List (List ℕ)) → m ≤ n → AllByRecursion (IsWithin m) sets → AllByRecursion (IsWithin n) sets
all_more m n [] more all = tt
all_more m n (words ∷ sets) more all = (within_more m n words more all.0, all_more m n sets more all.1)

pub nothing_within : (m : ℕ) → IsWithin m (0 ∷ [])
nothing_within m n over = no_bits n

get_within : (m : ℕ) (sets : List (List ℕ)) (k : ℕ) → AllByRecursion (IsWithin m) sets → IsWithin m (get_or sets k (0 ∷ []))
get_within m [] k all = nothing_within m
get_within m (words ∷ sets) zero all = all.0
get_within m (words ∷ sets) (suc k) all = get_within m sets k all.1

pub words_within : (m : ℕ) (sets : List (List ℕ)) (number : Option ℕ) → AllByRecursion (IsWithin m) sets → IsWithin m (words_at sets number)
words_within m sets None all = nothing_within m
words_within m sets (Some k) all = get_within m sets k all

set_within : (m : ℕ) (sets : List (List ℕ)) (k : ℕ) (words : List ℕ) → AllByRecursion (IsWithin m) sets → IsWithin m words → AllByRecursion (IsWithin m) (set sets k words)
set_within m [] k words all within = tt
set_within m (x ∷ sets) zero words all within = (within, all.1)
set_within m (x ∷ sets) (suc k) words all within = (all.0, set_within m sets k words all.1 within)

push_within : (m : ℕ) (sets : List (List ℕ)) (words : List ℕ) → AllByRecursion (IsWithin m) sets → IsWithin m words → AllByRecursion (IsWithin m) (sets ++ words ∷ [])
push_within m [] words all within = (within, tt)
push_within m (x ∷ sets) words all within = (all.0, push_within m sets words all.1 within)

-- ---- the rows where more elements are known
pub rows_kept : (old new : List Numbered) (sets : List (List ℕ)) → KeepsLists old new → AllByRecursion (IsWithin (length old)) sets → rows_of new sets ≡ rows_of old sets
rows_kept old new [] keeps all = refl
rows_kept old new (words ∷ sets) keeps all =
    ap (λ (row : List Elem). row ∷ rows_of new sets) (keeps.kept (has_bit words) all.0) ∙ ap (λ (rows : List (List Elem)). listed (has_bit words) old ∷ rows) (rows_kept old new sets keeps all.1)

pub sets_kept : (old new : List Numbered) (sets : List (List ℕ)) → KeepsLists old new → AreSets old sets → AreSets new sets
sets_kept old new sets keeps are = record { numbered = keeps.numbered; within = all_more (length old) (length new) sets keeps.more are.within }

pub kept_itself : (known : List Numbered) → AreNumbered known → KeepsLists known known
kept_itself known are = record { numbered = are; more = omega arith; kept = λ test none. refl }

pub kept_with : (element : Elem) (number : ℕ) (old new : List Numbered) → AreNumbered new → IsNumberIn element number old new → KeepsLists old new
kept_with element number old new are is = record { numbered = are; more = is.more; kept = is.kept }

-- ---- one row
pub row_is : (known : List Numbered) (sets : List (List ℕ)) (k : ℕ) → listed (has_bit (get_or sets k (0 ∷ []))) known ≡ get_or (rows_of known sets) k []
row_is known [] k = none_listed (has_bit (0 ∷ [])) known no_bits
row_is known (words ∷ sets) zero = refl
row_is known (words ∷ sets) (suc k) = row_is known sets k

pub row_at : (known : List Numbered) (sets : List (List ℕ)) (number : Option ℕ) → listed (has_bit (words_at sets number)) known ≡ row_numbered (rows_of known sets) number
row_at known sets None = none_listed (has_bit (0 ∷ [])) known no_bits
row_at known sets (Some k) = row_is known sets k

pub no_row : (known : List Numbered) → listed (has_bit (0 ∷ [])) known ≡ []
no_row known = none_listed (has_bit (0 ∷ [])) known no_bits

-- ---- changes
or_flip : (a b : Bool) → (a || b) ≡ (b || a)
or_flip true true = refl
or_flip true false = refl
or_flip false true = refl
or_flip false false = refl

-- a set with one more element
pub with_one : (element : Elem) (number : ℕ) (old new : List Numbered) (words more : List ℕ) → AreNumbered new → IsNumberIn element number old new → IsWithin (length old) words
    → ((n : ℕ) → has_bit more n ≡ (has_bit words n || eqb n number)) → listed (has_bit more) new ≡ union (element ∷ []) (listed (has_bit words) old)
with_one element number old new words more are is within both =
    listed_same (has_bit more) (λ n. eqb n number || has_bit words n) new (λ n. both n ∙ or_flip (has_bit words n) (eqb n number))
    ∙ sym (union_listed (λ n. eqb n number) (has_bit words) new are)
    ∙ ap (λ (es : List Elem). union es (listed (has_bit words) new)) is.alone
    ∙ ap (union (element ∷ [])) (is.kept (has_bit words) within)

pub with_one_within : (element : Elem) (number : ℕ) (old new : List Numbered) (words more : List ℕ) → IsNumberIn element number old new → IsWithin (length old) words
    → ((n : ℕ) → has_bit more n ≡ (has_bit words n || eqb n number)) → IsWithin (length new) more
with_one_within element number old new words more is within both n over =
    both n ∙ ap (λ (b : Bool). b || eqb n number) (within n (omega (arith, over, is.more))) ∙ ne_eqb n number (λ e. omega (arith, over, is.within, e))

-- a row more
pub rows_push : (old new : List Numbered) (sets : List (List ℕ)) (words : List ℕ) → KeepsLists old new → AreSets old sets → rows_of new (sets ++ words ∷ []) ≡ rows_of old sets ++ listed (has_bit words) new ∷ []
rows_push old new sets words keeps are =
    map-append (λ (ws : List ℕ). listed (has_bit ws) new) sets (words ∷ []) ∙ ap (λ (rows : List (List Elem)). rows ++ listed (has_bit words) new ∷ []) (rows_kept old new sets keeps are.within)

pub sets_push : (old new : List Numbered) (sets : List (List ℕ)) (words : List ℕ) → KeepsLists old new → AreSets old sets → IsWithin (length new) words → AreSets new (sets ++ words ∷ [])
sets_push old new sets words keeps are within =
    record { numbered = keeps.numbered; within = push_within (length new) sets words (all_more (length old) (length new) sets keeps.more are.within) within }

-- another row in a place
pub rows_put : (old new : List Numbered) (sets : List (List ℕ)) (k : ℕ) (words : List ℕ) → KeepsLists old new → AreSets old sets
    → rows_of new (set sets k words) ≡ set (rows_of old sets) k (listed (has_bit words) new)
rows_put old new sets k words keeps are =
    map-set (λ (ws : List ℕ). listed (has_bit ws) new) sets k words ∙ ap (λ (rows : List (List Elem)). set rows k (listed (has_bit words) new)) (rows_kept old new sets keeps are.within)

pub sets_put : (old new : List Numbered) (sets : List (List ℕ)) (k : ℕ) (words : List ℕ) → KeepsLists old new → AreSets old sets → IsWithin (length new) words → AreSets new (set sets k words)
sets_put old new sets k words keeps are within =
    record { numbered = keeps.numbered; within = set_within (length new) sets k words (all_more (length old) (length new) sets keeps.more are.within) within }

-- a row that gets the elements of a set
pub rows_joined : (known : List Numbered) (sets new : List (List ℕ)) (k : ℕ) (given : List ℕ) → AreNumbered known → IsJoinedBy given k sets new
    → rows_of known new ≡ set (rows_of known sets) k (union (get_or (rows_of known sets) k []) (listed (has_bit given) known))
rows_joined known sets new k given are joined =
    let old : List ℕ = get_or sets k (0 ∷ []) in
    ap (rows_of known) joined.is
    ∙ map-set (λ (ws : List ℕ). listed (has_bit ws) known) sets k joined.words
    ∙ ap (set (rows_of known sets) k)
    (listed_same (has_bit joined.words) (λ n. has_bit old n || has_bit given n) known joined.both
    ∙ sym (union_listed (has_bit old) (has_bit given) known are)
    ∙ ap (λ (row : List Elem). union row (listed (has_bit given) known)) (row_is known sets k))

pub sets_joined : (known : List Numbered) (sets new : List (List ℕ)) (k : ℕ) (given : List ℕ) → AreSets known sets → IsWithin (length known) given → IsJoinedBy given k sets new → AreSets known new
sets_joined known sets new k given are within joined =
    record {
      numbered = are.numbered;
      within = subst (AllByRecursion (IsWithin (length known))) (sym joined.is) (set_within (length known) sets k joined.words are.within (λ n over.
          joined.both n ∙ ap (λ (b : Bool). b || has_bit given n) (get_within (length known) sets k are.within n over) ∙ within n over));
    }

-- nothing comes of what is there
pub set_itself : {A : Type 0} (xs : List A) (k : ℕ) (y d : A) → (k < length xs → y ≡ get_or xs k d) → set xs k y ≡ xs
set_itself [] k y d is = refl
set_itself (x ∷ xs) zero y d is = ap (λ z. z ∷ xs) (is (omega arith))
set_itself (x ∷ xs) (suc k) y d is = ap (λ zs. x ∷ zs) (set_itself xs k y d (λ l. is (omega (arith, l))))

pub nothing_comes : (known : List Numbered) (sets : List (List ℕ)) (to from : ℕ) → AreNumbered known
    → (to < length sets → (n : ℕ) → (has_bit (get_or sets to (0 ∷ [])) n || has_bit (get_or sets from (0 ∷ [])) n) ≡ has_bit (get_or sets to (0 ∷ [])) n)
    → set (rows_of known sets) to (union (get_or (rows_of known sets) to []) (get_or (rows_of known sets) from [])) ≡ rows_of known sets
nothing_comes known sets to from are all =
    let mine : List ℕ = get_or sets to (0 ∷ []) in
    let theirs : List ℕ = get_or sets from (0 ∷ []) in
    set_itself (rows_of known sets) to (union (get_or (rows_of known sets) to []) (get_or (rows_of known sets) from [])) [] (λ l.
    ap (λ (row : List Elem). union row (get_or (rows_of known sets) from [])) (sym (row_is known sets to))
    ∙ ap (union (listed (has_bit mine) known)) (sym (row_is known sets from))
    ∙ union_listed (has_bit mine) (has_bit theirs) known are
    ∙ listed_same (λ n. has_bit mine n || has_bit theirs n) (has_bit mine) known (all (omega (arith, l, length-map sets (λ (ws : List ℕ). listed (has_bit ws) known))))
    ∙ row_is known sets to)

-- where there is no set
no_set : (sets : List (List ℕ)) (k : ℕ) → length sets ≤ k → get_or sets k (0 ∷ []) ≡ 0 ∷ []
no_set [] k over = refl
no_set (x ∷ sets) zero over = absurd (omega arith)
no_set (x ∷ sets) (suc k) over = no_set sets k (omega arith)

pub not_joined : (sets : List (List ℕ)) (k : ℕ) (given : List ℕ) → length sets ≤ k → IsJoinedBy given k sets sets
not_joined sets k given over =
    record {
      words = given;
      is = sym (set_itself sets k given (0 ∷ []) (λ l. absurd (omega (arith, l, over))));
      both = λ n. ap (λ (b : Bool). b || has_bit given n) (sym (ap (λ (ws : List ℕ). has_bit ws n) (no_set sets k over) ∙ no_bits n));
    }

or_no : (b c : Bool) → c ≡ false → (b || c) ≡ b
or_no true c none = refl
or_no false c none = none

-- the same, of the lists as they are seen
pub all_there_rows : (known : List Numbered) (sets : List (List ℕ)) (rows : List (List Elem)) (to from : ℕ) (mine theirs : List ℕ) → AreNumbered known → rows_of known sets ≡ rows
    → mine ≡ get_or sets to (0 ∷ []) → theirs ≡ get_or sets from (0 ∷ [])
    → ((k : ℕ) → k < length theirs → bit_and (get_or mine k 0) (get_or theirs k 0) ≡ get_or theirs k 0)
    → set rows to (union (get_or rows to []) (get_or rows from [])) ≡ rows
all_there_rows known sets rows to from mine theirs are seen mine_is theirs_is all =
    subst (λ (rs : List (List Elem)). set rs to (union (get_or rs to []) (get_or rs from [])) ≡ rs) seen
    (nothing_comes known sets to from are (λ l n.
    subst (λ (ws : List ℕ). (has_bit ws n || has_bit (get_or sets from (0 ∷ [])) n) ≡ has_bit ws n) mine_is
    (subst (λ (ws : List ℕ). (has_bit mine n || has_bit ws n) ≡ has_bit mine n) theirs_is (all_there mine theirs all n))))

pub none_to : (known : List Numbered) (sets : List (List ℕ)) (rows : List (List Elem)) (to from : ℕ) → AreNumbered known → rows_of known sets ≡ rows → length sets ≤ to
    → set rows to (union (get_or rows to []) (get_or rows from [])) ≡ rows
none_to known sets rows to from are seen over =
    subst (λ (rs : List (List Elem)). set rs to (union (get_or rs to []) (get_or rs from [])) ≡ rs) seen (nothing_comes known sets to from are (λ l. absurd (omega (arith, l, over))))

pub none_from : (known : List Numbered) (sets : List (List ℕ)) (rows : List (List Elem)) (to from : ℕ) → AreNumbered known → rows_of known sets ≡ rows → length sets ≤ from
    → set rows to (union (get_or rows to []) (get_or rows from [])) ≡ rows
none_from known sets rows to from are seen over =
    subst (λ (rs : List (List Elem)). set rs to (union (get_or rs to []) (get_or rs from [])) ≡ rs) seen
    (nothing_comes known sets to from are (λ l n. or_no (has_bit (get_or sets to (0 ∷ [])) n) (has_bit (get_or sets from (0 ∷ [])) n) (ap (λ (ws : List ℕ). has_bit ws n) (no_set sets from over) ∙ no_bits n)))

pub join_rows : (known : List Numbered) (sets new : List (List ℕ)) (rows : List (List Elem)) (given : List ℕ) (to from : ℕ) → AreNumbered known → rows_of known sets ≡ rows
    → given ≡ get_or sets from (0 ∷ []) → IsJoinedBy given to sets new → rows_of known new ≡ set rows to (union (get_or rows to []) (get_or rows from []))
join_rows known sets new rows given to from are seen is joined =
    rows_joined known sets new to given are joined
    ∙ ap (λ (row : List Elem). set (rows_of known sets) to (union (get_or (rows_of known sets) to []) row)) (ap (λ (ws : List ℕ). listed (has_bit ws) known) is ∙ row_is known sets from)
    ∙ ap (λ (rs : List (List Elem)). set rs to (union (get_or rs to []) (get_or rs from []))) seen

pub exchange_rows : (known : List Numbered) (sets mid new : List (List ℕ)) (rows : List (List Elem)) (mine theirs : List ℕ) (one other : ℕ) → AreNumbered known → rows_of known sets ≡ rows
    → mine ≡ get_or sets one (0 ∷ []) → theirs ≡ get_or sets other (0 ∷ []) → IsJoinedBy theirs one sets mid → IsJoinedBy mine other mid new
    → rows_of known new ≡ set (set rows one (union (get_or rows one []) (get_or rows other []))) other
    (union (get_or (set rows one (union (get_or rows one []) (get_or rows other []))) other []) (get_or rows one []))
exchange_rows known sets mid new rows mine theirs one other are seen mine_is theirs_is first second =
    rows_joined known mid new other mine are second
    ∙ ap (λ (row : List Elem). set (rows_of known mid) other (union (get_or (rows_of known mid) other []) row))
    (ap (λ (ws : List ℕ). listed (has_bit ws) known) mine_is ∙ row_is known sets one ∙ ap (λ (rs : List (List Elem)). get_or rs one []) seen)
    ∙ ap (λ (rs : List (List Elem)). set rs other (union (get_or rs other []) (get_or rows one []))) (join_rows known sets mid rows theirs one other are seen theirs_is first)

pub joined_sets : (known : List Numbered) (sets new : List (List ℕ)) (given : List ℕ) (number : Option ℕ) (k : ℕ) → AreSets known sets → given ≡ words_at sets number → IsJoinedBy given k sets new → AreSets known new
joined_sets known sets new given number k are is joined =
    sets_joined known sets new k given are (subst (IsWithin (length known)) (sym is) (words_within (length known) sets number are.within)) joined

pub either_way : (r : Result (Unit {0}) AllocError) (P Q G : Type 0) → OnOk r P → OnErr r Q → (P → G) → (Q → G) → G
either_way (Ok x) P Q G ok err if_ok if_err = if_ok ok
either_way (Err e) P Q G ok err if_ok if_err = if_err err

-- an element alone
pub own_alone : (own : Option Elem) → held_by own (union (own_source own) []) ≡ own_source own
own_alone None = refl
own_alone (Some element) = one (is_equal element)
  where
    one : (b : Bool) → cond b [] (union (cond b [] (element ∷ [])) []) ≡ cond b [] (element ∷ [])
    one true = refl
    one false = refl
