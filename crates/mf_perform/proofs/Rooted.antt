-- What names and paths lead to, where ids rise: it is live, and of the kind that is asked for.
use Rattle.std.proofs.Common.{◌≡◌, ℕ, ◌+◌, ◌<◌, ◌≤◌, Bool, true, false, cond, List, [], ◌∷◌, Option, Some, None, Ok, refl, ap, sym, ◌∙◌, subst, arith, eq-eqb, if◌then◌else◌}
use Rattle.std.specs.Prelude.{find, IfSome, IfNone, IsTrue}
use Rattle.std.proofs.lemmas.Bool.{false≢true}
use Rattle.mf_errno.specs.declared.errno.Errno.TheVariants.{Enotdir}
use Rattle.mf_item.specs.declared.view.Kind.TheVariants as kinds
use Rattle.mf_objects.specs.declared.id.Id.{Id}
use Rattle.mf_objects.specs.declared.entity.EntityData.{EntityData}
use Rattle.mf_objects.specs.declared.entity.EntityData.TheVariants.{Process, Vnode, Pipe, Socket}
use Rattle.mf_objects.specs.Live.{LiveEntity, Entities, has_id, id_of, is_one_named, is_entry, is_pipe, is_process, is_socket, kind_of, live_at, live_named}
use Rattle.mf_objects.specs.Lives.{IsFirstLive, IsLive, is_vnode, passes}
use Rattle.mf_objects.specs.Population.{IsRising}
use Rattle.mf_objects.proofs.Found.{child_kind, kind_found, named_kind}
use Rattle.mf_objects.proofs.Rising.{id_differs}
use Rattle.mf_plan.specs.declared.target.Target.{Target}
use Rattle.mf_plan.specs.declared.target.Target.TheVariants.{Root, Name, Nowhere}
use Rattle.mf_plan.specs.Path.{entry_of, found_at, going_on, nowhere, root, lookup_along, lookup_from}
use Rattle.mf_plan.specs.Views.{is_dir, process_named}

-- Ids rise, the first of them was given, and what has it is a vnode while it lives.
pub record IsRooted (o : Entities) : Type 0 where
  pub rising : IsRising 0 o.next o.live
  pub given : 0 < o.next
  pub vnode : IfSome (live_at o root) (λ e. kind_of e.what ≡ kinds.Vnode)

-- What is found

pub inside_some : {A : Type 0} (a b : A) → Some a ≡ Some b → a ≡ b
inside_some a b is = cc

find_least : (test : LiveEntity → Bool) (least next : ℕ) (es : List LiveEntity) (x : LiveEntity) → IsRising least next es → find test es ≡ Some x → least ≤ x.id.0
find_least test least next [] x rising is = cc
find_least test least next (e ∷ es) x rising is = one (test e) (find_least test (e.id.0 + 1) next es x rising.1) is
  where
    one : (b : Bool) → (find test es ≡ Some x → e.id.0 + 1 ≤ x.id.0) → cond b (Some e) (find test es) ≡ Some x → least ≤ x.id.0
    one true later is = let same : e.id.0 ≡ x.id.0 = ap (λ (l : LiveEntity). l.id.0) (inside_some e x is) in omega (arith, same, rising.0)
    one false later is = omega (arith, later is, rising.0)

-- an id finds again what has it
found_again : (test : LiveEntity → Bool) (least next : ℕ) (es : List LiveEntity) (x : LiveEntity) → IsRising least next es → find test es ≡ Some x → find (has_id x.id) es ≡ Some x
found_again test least next [] x rising is = cc
found_again test least next (e ∷ es) x rising is = one (test e) (found_again test (e.id.0 + 1) next es x rising.1) is
  where
    later : find test es ≡ Some x → e.id.0 + 1 ≤ x.id.0
    later = find_least test (e.id.0 + 1) next es x rising.1

    one : (b : Bool) → (find test es ≡ Some x → find (has_id x.id) es ≡ Some x) → cond b (Some e) (find test es) ≡ Some x → find (has_id x.id) (e ∷ es) ≡ Some x
    one true rest is =
        let hit : has_id x.id e ≡ true = eq-eqb e.id.0 x.id.0 (ap (λ (l : LiveEntity). l.id.0) (inside_some e x is)) in
        rw hit is
    one false rest is =
        let above : e.id.0 + 1 ≤ x.id.0 = later is in
        let miss : has_id x.id e ≡ false = id_differs x.id e (λ (same : e.id.0 ≡ x.id.0). omega (arith, same, above)) in
        rw miss (rest is)

pub is_found : (test : LiveEntity → Bool) (o : Entities) → IsRising 0 o.next o.live → IsFirstLive test o (id_of (find test o.live))
is_found test o rising = record { id = refl; live = again (find test o.live) refl; absent = nothing (find test o.live) }
  where
    nothing : (found : Option LiveEntity) → IfNone (id_of found) (found ≡ None)
    nothing None = refl
    nothing (Some x) = tt

    again : (found : Option LiveEntity) → find test o.live ≡ found → IfSome (id_of found) (λ id. live_at o id ≡ found)
    again None is = tt
    again (Some x) is = found_again test 0 o.next o.live x rising is

-- a process, pipe or socket that is found by its name
pub named_lives : (kind : EntityData → Bool) (o : Entities) (name : List ℕ) → IsRising 0 o.next o.live → IfSome (id_of (live_named kind o name)) (λ id. IsLive kind o id)
named_lives kind o name rising = kind_found (is_one_named kind name) kind (named_kind kind name) o (id_of (live_named kind o name)) (is_found (is_one_named kind name) o rising)

-- a live entity that passes the test has this id
pub record HasKind (test : EntityData → Bool) (o : Entities) (id : Id) : Type 0 where
  pub entity : LiveEntity
  pub live : live_at o id ≡ Some entity
  pub passes : test entity.what ≡ true

pub has_kind : (test : EntityData → Bool) (o : Entities) (id : Id) → IsLive test o id → HasKind test o id
has_kind test o id lives = one (live_at o id) refl lives
  where
    one : (found : Option LiveEntity) → live_at o id ≡ found → IsTrue (passes test found) → HasKind test o id
    one None is lives = absurd (false≢true lives)
    one (Some e) is lives = record { entity = e; live = is; passes = lives }

-- a process that is found by its name
pub named_process : (o : Entities) (name : List ℕ) (id : Id) → process_named o name ≡ Some id → IsRising 0 o.next o.live → HasKind is_process o id
named_process o name id found rising =
    has_kind is_process o id (subst (λ (at : Option Id). IfSome at (λ id. IsLive is_process o id)) found (named_lives is_process o name rising))

pub process_kind : (what : EntityData) → is_process what ≡ true → kind_of what ≡ kinds.Process
process_kind (Process process) is = refl
process_kind other is = cc

pub pipe_kind : (what : EntityData) → is_pipe what ≡ true → kind_of what ≡ kinds.Pipe
pipe_kind (Pipe pipe) is = refl
pipe_kind other is = cc

pub socket_kind : (what : EntityData) → is_socket what ≡ true → kind_of what ≡ kinds.Socket
socket_kind (Socket socket) is = refl
socket_kind other is = cc

pub vnode_kind : (what : EntityData) → is_vnode what ≡ true → kind_of what ≡ kinds.Vnode
vnode_kind (Vnode vnode) is = refl
vnode_kind other is = cc

kind_vnode : (what : EntityData) → kind_of what ≡ kinds.Vnode → is_vnode what ≡ true
kind_vnode (Vnode vnode) is = refl
kind_vnode other is = cc

-- Where a path leads

-- a live vnode is there, or the first id is
abbrev LeadsToVnode : Entities → Target → Type 0
LeadsToVnode o (Name dir entry) = IfSome entry (λ id. IsLive is_vnode o id)
LeadsToVnode o other = Unit {0}

module _ (o : Entities) (rooted : IsRooted o) where
  walk_kind : (path : List (List ℕ)) (from : Id) → LeadsToVnode o (lookup_from o path from).target
  unfolding lookup_from
  walk_kind [] from = tt
  walk_kind (name ∷ []) from = kind_found (is_one_named (is_entry from) name) is_vnode (child_kind from name) o (entry_of o from name) (is_found (is_one_named (is_entry from) name) o rooted.rising)
  walk_kind (name ∷ below ∷ rest) from = by_entry (λ (id : Id). walk_kind (below ∷ rest) id) (entry_of o from name)
    where
      by_test : (b : Bool) (id : Id) → LeadsToVnode o (lookup_from o (below ∷ rest) id).target
          → LeadsToVnode o (if b then lookup_from o (below ∷ rest) id else nowhere Enotdir).target
      by_test true id onwards = onwards
      by_test false id onwards = tt

      by_entry : ((id : Id) → LeadsToVnode o (lookup_from o (below ∷ rest) id).target) → (entry : Option Id)
          → LeadsToVnode o (going_on o (lookup_from o (below ∷ rest)) entry).target
      by_entry onwards None = tt
      by_entry onwards (Some id) = by_test (is_dir o id) id (onwards id)

  -- what lives at a path is a vnode
  pub file_kind : (path : List (List ℕ)) (id : Id) (e : LiveEntity) → found_at (lookup_along o path).target ≡ Ok id → live_at o id ≡ Some e → is_vnode e.what ≡ true
  file_kind path id e found live = by_target (lookup_along o path).target (walk_kind path root) found
    where
      lives : (found : Option LiveEntity) → found ≡ Some e → IsTrue (passes is_vnode found) → is_vnode e.what ≡ true
      lives None is vnode = cc
      lives (Some x) is vnode = ap (λ (y : LiveEntity). is_vnode y.what) (sym (inside_some x e is)) ∙ vnode

      first : (found : Option LiveEntity) → found ≡ Some e → IfSome found (λ x. kind_of x.what ≡ kinds.Vnode) → is_vnode e.what ≡ true
      first None is kind = cc
      first (Some x) is kind = ap (λ (y : LiveEntity). is_vnode y.what) (sym (inside_some x e is)) ∙ kind_vnode x.what kind

      by_target : (target : Target) → LeadsToVnode o target → found_at target ≡ Ok id → is_vnode e.what ≡ true
      by_target Root leads is =
          let same : root ≡ id = cc in
          first (live_at o root) (ap (live_at o) same ∙ live) rooted.vnode
      by_target (Name dir None) leads is = cc
      by_target (Name dir (Some at)) leads is =
          let same : at ≡ id = cc in
          lives (live_at o at) (ap (live_at o) same ∙ live) leads
      by_target (Nowhere errno) leads is = cc
