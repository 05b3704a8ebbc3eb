-- Names differ, whatever is done to the entities.
use Rattle.std.proofs.Common.{◌≡◌, ℕ, ◌<◌, ◌&&◌, List, [], ◌∷◌, ◌++◌, Option, Some, None, length, get_or, map, refl, ap, sym, ◌∙◌, subst, arith, zero, suc, Bool, true, false, cond, nat_eq}
use Rattle.std.specs.Prelude.{All, find}
use Rattle.std.specs.Str.{bytes_eq}
use Rattle.std.proofs.lemmas.Bool.{false≢true}
use Rattle.std.proofs.lemmas.Bool.Decides.{nat_tests}
use Rattle.std.proofs.lemmas.Slice.Eq.{bytes_eq-Decides}
use Rattle.std.proofs.lemmas.List.{get_or-map, length-map}
use Rattle.std.proofs.lemmas.List.Elements.{All-nil, All-cons}
use Rattle.std.proofs.lemmas.List.Quantifiers.{all_pairs_push}
use Rattle.mf_objects.proofs.Entities.{changed_at}
use Rattle.mf_objects.specs.declared.id.Id.{Id}
use Rattle.mf_objects.specs.declared.entity.EntityData.{EntityData}
use Rattle.mf_objects.specs.declared.entity.EntityData.TheVariants.{Process, Vnode, Pipe, Socket}
use Rattle.mf_objects.specs.Live.{LiveEntity, has_id}
use Rattle.mf_objects.specs.Lives.{is_held_by}
use Rattle.mf_objects.specs.Population.{NoNamesakes, is_namesake, shares_names, is_entry_beside}
use Rattle.mf_objects.proofs.Belonging.{Stays, AllStay, StaysAt, changed_stays, find_all}

-- what needs another name than the other still does
shares_kept : (w w' other : EntityData) → Stays w w' → shares_names other w' ≡ shares_names other w
shares_kept w w' (Process process) stays = stays.process
shares_kept w w' (Vnode vnode) stays = by_parent vnode.parent
  where
    by_parent : (parent : Option Id) → is_entry_beside parent w' ≡ is_entry_beside parent w
    by_parent None = refl
    by_parent (Some dir) = stays.entry dir
shares_kept w w' (Pipe pipe) stays = stays.pipe
shares_kept w w' (Socket socket) stays = stays.socket

namesake_kept : (x x' y y' : LiveEntity) → Stays x.what x'.what → Stays y.what y'.what → x'.name ≡ x.name → y'.name ≡ y.name
    → is_namesake y'.name y'.what x' ≡ is_namesake y.name y.what x
namesake_kept x x' y y' stays_x stays_y name_x name_y =
    ap (λ (b : Bool). b && bytes_eq x'.name y'.name) (stays_y.names x'.what ∙ shares_kept x.what x'.what y.what stays_x)
    ∙ ap (λ (n : List ℕ). shares_names y.what x.what && bytes_eq n y'.name) name_x
    ∙ ap (λ (n : List ℕ). shares_names y.what x.what && bytes_eq x.name n) name_y

pub changed_name : (change : LiveEntity → LiveEntity) (id : Id) → ((e : LiveEntity) → (change e).name ≡ e.name) → (e : LiveEntity) → (changed_at change id e).name ≡ e.name
changed_name change id names e = one (has_id id e)
  where
    one : (b : Bool) → (cond b (change e) e).name ≡ e.name
    one true = names e
    one false = refl

pub names_mapped : (f : LiveEntity → LiveEntity) (live : List LiveEntity) → ((e : LiveEntity) → (f e).name ≡ e.name) → AllStay f live → NoNamesakes live → NoNamesakes (map f live)
names_mapped f live names stays differ i j d before within =
    let short : j < length live = omega (arith, within, length-map live f) in
    let older : LiveEntity = get_or live i d in
    let newer : LiveEntity = get_or live j d in
    let kept : is_namesake (f newer).name (f newer).what (f older) ≡ is_namesake newer.name newer.what older =
    namesake_kept older (f older) newer (f newer) (stays i d (omega arith)) (stays j d short) (names older) (names newer) in
    rw (get_or-map f live i d d (omega arith), get_or-map f live j d d short) (kept ∙ differ i j d before short)

pub names_changed : (change : LiveEntity → LiveEntity) (id : Id) (live : List LiveEntity) → ((e : LiveEntity) → (change e).name ≡ e.name) → StaysAt change id live
    → NoNamesakes live → NoNamesakes (map (changed_at change id) live)
names_changed change id live names stays differ =
    names_mapped (changed_at change id) live (changed_name change id names) (changed_stays change id live stays) differ

-- nothing that was looked for in vain is there
none_passes : (test : LiveEntity → Bool) (live : List LiveEntity) → find test live ≡ None → All (λ e. test e ≡ false) live
none_passes test [] none = All-nil (λ (e : LiveEntity). test e ≡ false)
none_passes test (e ∷ es) none = one (test e) refl (none_passes test es) none
  where
    one : (b : Bool) → test e ≡ b → (find test es ≡ None → All (λ x. test x ≡ false) es) → cond b (Some e) (find test es) ≡ None → All (λ x. test x ≡ false) (e ∷ es)
    one true is rest some = cc
    one false is rest none = All-cons (λ (x : LiveEntity). test x ≡ false) e es is (rest none)

pub names_push : (live : List LiveEntity) (x : LiveEntity) → NoNamesakes live → find (is_namesake x.name x.what) live ≡ None → NoNamesakes (live ++ x ∷ [])
names_push live x differ free =
    all_pairs_push (λ (older e : LiveEntity). is_namesake e.name e.what older ≡ false) live x differ (none_passes (is_namesake x.name x.what) live free)

pub names_one : (x : LiveEntity) → NoNamesakes (x ∷ [])
names_one x i j d before within = absurd (omega (arith, before, within))

-- One name, one entity

shares_flip : (w other : EntityData) → shares_names w other ≡ shares_names other w
shares_flip (Process process) (Process other) = refl
shares_flip (Process process) (Vnode other) = by_parent other.parent
  where
    by_parent : (parent : Option Id) → false ≡ is_entry_beside parent (Process process)
    by_parent None = refl
    by_parent (Some dir) = refl
shares_flip (Process process) (Pipe other) = refl
shares_flip (Process process) (Socket other) = refl
shares_flip (Vnode vnode) (Process other) = by_parent vnode.parent
  where
    by_parent : (parent : Option Id) → is_entry_beside parent (Process other) ≡ false
    by_parent None = refl
    by_parent (Some dir) = refl
shares_flip (Vnode vnode) (Vnode other) = by_parents vnode.parent other.parent refl refl
  where
    flip : (a b : ℕ) → nat_eq a b ≡ nat_eq b a
    flip a b = grind (arith, nat_tests)

    by_parents : (p q : Option Id) → vnode.parent ≡ p → other.parent ≡ q → is_entry_beside p (Vnode other) ≡ is_entry_beside q (Vnode vnode)
    by_parents None None is_p is_q = refl
    by_parents None (Some d) is_p is_q = ap (is_held_by d) (sym is_p)
    by_parents (Some d) None is_p is_q = ap (is_held_by d) is_q
    by_parents (Some d) (Some b) is_p is_q = ap (is_held_by d) is_q ∙ flip b.0 d.0 ∙ ap (is_held_by b) (sym is_p)
shares_flip (Vnode vnode) (Pipe other) = by_parent vnode.parent
  where
    by_parent : (parent : Option Id) → is_entry_beside parent (Pipe other) ≡ false
    by_parent None = refl
    by_parent (Some dir) = refl
shares_flip (Vnode vnode) (Socket other) = by_parent vnode.parent
  where
    by_parent : (parent : Option Id) → is_entry_beside parent (Socket other) ≡ false
    by_parent None = refl
    by_parent (Some dir) = refl
shares_flip (Pipe pipe) (Process other) = refl
shares_flip (Pipe pipe) (Vnode other) = by_parent other.parent
  where
    by_parent : (parent : Option Id) → false ≡ is_entry_beside parent (Pipe pipe)
    by_parent None = refl
    by_parent (Some dir) = refl
shares_flip (Pipe pipe) (Pipe other) = refl
shares_flip (Pipe pipe) (Socket other) = refl
shares_flip (Socket socket) (Process other) = refl
shares_flip (Socket socket) (Vnode other) = by_parent other.parent
  where
    by_parent : (parent : Option Id) → false ≡ is_entry_beside parent (Socket socket)
    by_parent None = refl
    by_parent (Some dir) = refl
shares_flip (Socket socket) (Pipe other) = refl
shares_flip (Socket socket) (Socket other) = refl

inside_some : (x y : LiveEntity) → Some x ≡ Some y → x ≡ y
inside_some x y e = cc

namesakes : (x y : LiveEntity) → shares_names y.what x.what ≡ true → x.name ≡ y.name → is_namesake y.name y.what x ≡ true
namesakes x y shares same = rw (shares, (bytes_eq-Decides x.name y.name).1 same) refl

-- of live entities, two that need different names and have one name are one
pub one_name : (live : List LiveEntity) (a b : Id) (x y : LiveEntity) → NoNamesakes live → find (has_id a) live ≡ Some x → find (has_id b) live ≡ Some y
    → shares_names y.what x.what ≡ true → x.name ≡ y.name → x ≡ y
one_name [] a b x y differ at_a at_b shares same = cc
one_name (e ∷ es) a b x y differ at_a at_b shares same =
    one (has_id a e) (has_id b e) (λ in_a in_b. one_name es a b x y later in_a in_b shares same) at_a at_b
  where
    younger : All (λ z. is_namesake z.name z.what e ≡ false) es
    younger k d l = differ zero (suc k) d (omega arith) (omega (arith, l))

    later : NoNamesakes es
    later i j d before within = differ (suc i) (suc j) d (omega (arith, before)) (omega (arith, within))

    apart : (z : LiveEntity) (id : Id) → find (has_id id) es ≡ Some z → is_namesake z.name z.what e ≡ false
    apart z id at = find_all (λ (z : LiveEntity). is_namesake z.name z.what e ≡ false) (has_id id) es z younger at

    one : (hit_a hit_b : Bool) → (find (has_id a) es ≡ Some x → find (has_id b) es ≡ Some y → x ≡ y) → cond hit_a (Some e) (find (has_id a) es) ≡ Some x → cond hit_b (Some e) (find (has_id b) es) ≡ Some y → x ≡ y
    one true true rest at_a at_b = sym (inside_some e x at_a) ∙ inside_some e y at_b
    one true false rest at_a at_b =
        let is : e ≡ x = inside_some e x at_a in
        let clash : is_namesake y.name y.what e ≡ true = subst (λ (z : LiveEntity). is_namesake y.name y.what z ≡ true) (sym is) (namesakes x y shares same) in
        absurd (false≢true (sym (apart y b at_b) ∙ clash))
    one false true rest at_a at_b =
        let is : e ≡ y = inside_some e y at_b in
        let clash : is_namesake x.name x.what e ≡ true = subst (λ (z : LiveEntity). is_namesake x.name x.what z ≡ true) (sym is) (namesakes y x (shares_flip x.what y.what ∙ shares) (sym same)) in
        absurd (false≢true (sym (apart x a at_a) ∙ clash))
    one false false rest at_a at_b = rest at_a at_b
