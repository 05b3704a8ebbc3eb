-- What stands of a load, by what each task has made, and how many files that is.
use Rattle.std.specs.Prelude.{nat_le}
use Rattle.std.proofs.Common.{◌≡◌, ◌≢◌, ℕ, zero, suc, ◌<◌, ◌≤◌, ◌+◌, ◌*◌, nat_eq, Bool, true, false, cond, ◌&&◌, List, [], ◌∷◌, Some, None, length, refl, ap, sym, ◌∙◌, subst, arith, eq-eqb}
use Rattle.std.specs.List.{AllByRecursion}
use Rattle.std.specs.Str.{bytes_eq}
use Rattle.std.proofs.lemmas.Bool.Decides.{nat_tests}
use Rattle.mf_objects.specs.declared.limits.TheConstants.{MOST_ENTITIES}
use Rattle.mf_objects.specs.declared.entity.EntityData.{EntityData}
use Rattle.mf_objects.specs.declared.entity.EntityData.TheVariants.{Process, Vnode, Pipe, Socket}
use Rattle.mf_objects.specs.Live.{LiveEntity, Entities}
use Rattle.mf_objects.specs.Titles.{entry_names}
use Rattle.mf_calls.specs.Generated.{scratch_name}
use Rattle.mf_load.specs.Alone.{Own, with_held}
use Rattle.mf_load.proofs.Names.{bytes_same, scratches_differ}
use Rattle.mf_load.proofs.Known.{at, directory_id, the_scratch, IsFile, IsFixed, HasScratch}
use Rattle.mf_load.proofs.Keeping.{ids_differ}
use Rattle.mf_load.proofs.Totals.{total, total_same, total_most}

-- How many files tasks hold

abbrev number : Bool → ℕ
number true = 1
number false = 0

abbrev pub held_count : (ℕ → Bool) → ℕ
held_count held = number (held 0) + number (held 1) + number (held 2) + number (held 3)

number_most : (b : Bool) → number b ≤ 1
number_most true = omega arith
number_most false = omega arith

held_most : (held : ℕ → Bool) → held_count held ≤ 4
held_most held = omega (arith, number_most (held 0), number_most (held 1), number_most (held 2), number_most (held 3))

pub one_more : (held : ℕ → Bool) (j : ℕ) → j < 4 → held j ≡ false → held_count (with_held held j true) ≡ held_count held + 1
one_more held zero few absent = omega (arith, ap number absent)
one_more held (suc zero) few absent = omega (arith, ap number absent)
one_more held (suc (suc zero)) few absent = omega (arith, ap number absent)
one_more held (suc (suc (suc zero))) few absent = omega (arith, ap number absent)
one_more held (suc (suc (suc (suc j)))) few absent = absurd (omega arith)

pub one_less : (held : ℕ → Bool) (j : ℕ) → j < 4 → held j ≡ true → held_count (with_held held j false) + 1 ≡ held_count held
one_less held zero few there = omega (arith, ap number there)
one_less held (suc zero) few there = omega (arith, ap number there)
one_less held (suc (suc zero)) few there = omega (arith, ap number there)
one_less held (suc (suc (suc zero))) few there = omega (arith, ap number there)
one_less held (suc (suc (suc (suc j)))) few there = absurd (omega arith)

pub held_at : (held : ℕ → Bool) (j : ℕ) (b : Bool) → with_held held j b j ≡ b
held_at held j b = ap (λ (c : Bool). cond c b (held j)) (eq-eqb j j refl)

pub held_other : (held : ℕ → Bool) (j i : ℕ) (b : Bool) → i ≢ j → with_held held j b i ≡ held i
held_other held j i b other = ap (λ (c : Bool). cond c b (held i)) (ids_differ i j other)

-- The load

pub record Stands (t : ℕ) (o : Entities) (own : ℕ → Own) : Type 0 where
  pub next : 3 * t + 1 ≤ o.next
  pub fixed : IsFixed t t t o (λ u. (own u).content)
  pub names : (u : ℕ) → u < t → entry_names (at (directory_id u)) o.live ≡ (own u).names
  pub scratch : (u j : ℕ) → u < t → j < 4 → HasScratch t u j o ((own u).held j)
  pub count : length o.live ≡ 3 * t + 1 + total t (λ u. held_count (own u).held)

-- the contents of files are these as well
pub fixed_same : (t : ℕ) (o : Entities) (content content' : ℕ → List ℕ) → ((u : ℕ) → content' u ≡ content u) → IsFixed t t t o content → IsFixed t t t o content'
fixed_same t o content content' same fixed =
    record {
      rising = fixed.rising;
      root = fixed.root;
      directories = fixed.directories;
      files = λ u within. subst (λ (bytes : List ℕ). IsFile u bytes o) (sym (same u)) (fixed.files u within);
      tasks = fixed.tasks;
      fit = fixed.fit;
    }

pub stands_same : (t : ℕ) (o : Entities) (own own' : ℕ → Own) → ((u : ℕ) → own' u ≡ own u) → Stands t o own → Stands t o own'
stands_same t o own own' same stands =
    record {
      next = stands.next;
      fixed = fixed_same t o (λ u. (own u).content) (λ u. (own' u).content) (λ u. ap (λ (x : Own). x.content) (same u)) stands.fixed;
      names = λ u within. stands.names u within ∙ sym (ap (λ (x : Own). x.names) (same u));
      scratch = λ u j within few. subst (HasScratch t u j o) (sym (ap (λ (x : Own). x.held j) (same u))) (stands.scratch u j within few);
      count = stands.count ∙ ap (λ n. 3 * t + 1 + n)
          (total_same t (λ u. held_count (own u).held) (λ u. held_count (own' u).held) (λ u within. ap (λ (x : Own). held_count x.held) (sym (same u))));
    }

pub few_live : (t : ℕ) (o : Entities) (own : ℕ → Own) → t ≤ 16 → Stands t o own → nat_le MOST_ENTITIES (length o.live) ≡ false
few_live t o own few stands =
    let most : total t (λ u. held_count (own u).held) ≤ 4 * t = total_most t (λ u. held_count (own u).held) (λ u. held_most (own u).held) in
    let count : length o.live ≡ 3 * t + 1 + total t (λ u. held_count (own u).held) = stands.count in
    let under : length o.live < 1024 = omega (arith, most, count) in
    grind (arith, nat_tests)

pub both_ways : (P Q R : LiveEntity → Type 0) (es : List LiveEntity) → ((e : LiveEntity) → P e → Q e → R e) → AllByRecursion P es → AllByRecursion Q es → AllByRecursion R es
both_ways P Q R [] gives first second = tt
both_ways P Q R (e ∷ es) gives first second = (gives e first.0 second.0, both_ways P Q R es gives first.1 second.1)

pub and_false : (b : Bool) → (b && false) ≡ false
and_false true = refl
and_false false = refl

-- one entity is one file
parent_number : EntityData → ℕ
parent_number (Process process) = 0
parent_number (Vnode vnode) = elim vnode.parent [ None ↦ 0 | Some dir ↦ dir.0 ]
parent_number (Pipe pipe) = 0
parent_number (Socket socket) = 0

pub same_scratch : (n m u k i j : ℕ) → i < 4 → j < 4 → Some (the_scratch n u i) ≡ Some (the_scratch m k j) → (u ≡ k) × (i ≡ j)
unfolding parent_number
same_scratch n m u k i j few_i few_j same =
    let is : the_scratch n u i ≡ the_scratch m k j = cc in
    let parents : directory_id u ≡ directory_id k = ap (λ (e : LiveEntity). parent_number e.what) is in
    let names : scratch_name i ≡ scratch_name j = ap (λ (e : LiveEntity). e.name) is in
    let alike : bytes_eq (scratch_name i) (scratch_name j) ≡ true = bytes_same (scratch_name i) (scratch_name j) names in
    (omega (arith, parents), one (nat_eq i j) refl alike)
  where
    one : (b : Bool) → nat_eq i j ≡ b → bytes_eq (scratch_name i) (scratch_name j) ≡ true → i ≡ j
    one true is alike = grind (arith, nat_tests)
    one false differs alike = let apart : bytes_eq (scratch_name i) (scratch_name j) ≡ false = scratches_differ i j few_i few_j (grind (arith, nat_tests)) in cc
