-- What is read of parties: by a name, and of what is open.
use Rattle.std.proofs.Common.{◌≡◌, ◌≢◌, ◌&&◌, ℕ, arith, refl, Bool, true, false, List, [], ◌∷◌, Option, Some, None, IfSome, ap, sym, ◌∙◌, subst, eq-eqb}
use Rattle.std.specs.Prelude.{find, is_none}
use Rattle.std.specs.Str.{bytes_eq}
use Rattle.std.proofs.lemmas.Bool.{false≢true}
use Rattle.mf_objects.specs.declared.id.Id.{Id}
use Rattle.mf_objects.specs.declared.descriptors.Fd.{Fd}
use Rattle.mf_objects.specs.declared.entity.EntityData.{EntityData}
use Rattle.mf_objects.specs.declared.entity.EntityData.TheVariants.{Process, Vnode, Pipe, Socket}
use Rattle.mf_objects.specs.Live.{LiveEntity, Entities, has_id, live_at, live_named, id_of, is_one_named, is_entry}
use Rattle.mf_objects.specs.Lives.{is_vnode, is_regular, IsLive, IsFirstLive}
use Rattle.mf_objects.specs.Descriptors.{fds_of, fds_at, fd_in}
use Rattle.mf_objects.proofs.Shorthands.{reading}
use Rattle.mf_objects.proofs.Belonging.{find_all}
use Rattle.mf_objects.proofs.DescriptorLaws.{found_all}
use Rattle.mf_objects.proofs.Found.{is_found, kind_found, named_kind, child_kind, passes_found}
use Rattle.mf_parties.specs.Standing.{IsStanding, BeginsWithRoot, AreOnFiles, is_top}

-- What a name names

first_live : (test : LiveEntity → Bool) (o : Entities) (found : Option Id) → IsStanding o → found ≡ id_of (find test o.live) → IsFirstLive test o found
first_live test o found standing is = subst (IsFirstLive test o) (sym is) (is_found test o standing.rising)

pub named_live : (kind : EntityData → Bool) (name : List ℕ) (o : Entities) (found : Option Id) → IsStanding o → found ≡ id_of (live_named kind o name)
    → IfSome found (λ id. IsLive kind o id)
named_live kind name o found standing is =
    kind_found (is_one_named kind name) kind (named_kind kind name) o found (first_live (is_one_named kind name) o found standing is)

pub entry_live : (dir : Id) (name : List ℕ) (o : Entities) (found : Option Id) → IsStanding o → found ≡ id_of (live_named (is_entry dir) o name)
    → IfSome found (λ id. IsLive is_vnode o id)
entry_live dir name o found standing is =
    kind_found (is_one_named (is_entry dir) name) is_vnode (child_kind dir name) o found (first_live (is_one_named (is_entry dir) name) o found standing is)

-- the root is no entry
top_entry : (dir : Id) (w : EntityData) → is_top w ≡ true → is_entry dir w ≡ false
top_entry dir (Process process) top = absurd (false≢true top)
top_entry dir (Vnode vnode) top = by_parent vnode.parent vnode.file.dir top
  where
    by_parent : (parent : Option Id) (d : Bool) → d && is_none parent ≡ true → is_entry dir (Vnode (record vnode { parent = parent })) ≡ false
    by_parent None d top = refl
    by_parent (Some other) true top = absurd (false≢true top)
    by_parent (Some other) false top = absurd (false≢true top)
top_entry dir (Pipe pipe) top = absurd (false≢true top)
top_entry dir (Socket socket) top = absurd (false≢true top)

-- what has the id of the root is the root
pub root_top : (id : Id) (es : List LiveEntity) (e : LiveEntity) → BeginsWithRoot es → id.0 ≡ 0 → find (has_id id) es ≡ Some e → is_top e.what ≡ true
root_top id [] e root first is = absurd root
root_top id (r ∷ es) e root first is =
    let hit : has_id id r ≡ true = eq-eqb r.id.0 id.0 (root.0 ∙ sym first) in
    let here : Some r ≡ Some e = rw hit at is in
    let same : r ≡ e = cc in
    subst (λ (x : LiveEntity). is_top x.what ≡ true) same root.1

pub entry_below : (dir : Id) (name : List ℕ) (o : Entities) (found : Option Id) → IsStanding o → found ≡ id_of (live_named (is_entry dir) o name)
    → IfSome found (λ id. id.0 ≢ 0)
entry_below dir name o found standing is = by_found found (first_live test o found standing is)
  where
    test : LiveEntity → Bool
    test = is_one_named (is_entry dir) name

    first_true : (a b : Bool) → a && b ≡ true → a ≡ true
    first_true true b h = refl
    first_true false b h = h

    by_live : (id : Id) (r : Option LiveEntity) → find test o.live ≡ r → Some id ≡ id_of (find test o.live) → live_at o id ≡ find test o.live → id.0 ≢ 0
    by_live id None at ids live = absurd (cc (ids ∙ ap id_of at))
    by_live id (Some e) at ids live = λ first.
        let top : is_top e.what ≡ true = root_top id o.live e standing.rooted first (live ∙ at) in
        let entry : is_entry dir e.what ≡ true = first_true (is_entry dir e.what) (bytes_eq e.name name) (passes_found test o.live e at) in
        false≢true (sym (top_entry dir e.what top) ∙ entry)

    by_found : (found : Option Id) → IsFirstLive test o found → IfSome found (λ id. id.0 ≢ 0)
    by_found None first = tt
    by_found (Some id) first = by_live id (find test o.live) refl first.id first.live

-- What is open is a live regular file

none_open : (live : List LiveEntity) → AreOnFiles live []
none_open live k d l = absurd (omega arith)

open_at : (o : Entities) (p : Id) → IsStanding o → AreOnFiles o.live (fds_at o p)
open_at o p standing = by_found (live_at o p) refl
  where
    by_found : (r : Option LiveEntity) → live_at o p ≡ r → AreOnFiles o.live (reading fds_of [] r)
    by_found None is = none_open o.live
    by_found (Some e) is = find_all (λ (x : LiveEntity). AreOnFiles o.live (fds_of x.what)) (has_id p) o.live e standing.open_files is

pub fd_regular : (o : Entities) (p : Id) (n : ℕ) (found : Option Fd) → IsStanding o → found ≡ fd_in (fds_at o p) n → IfSome found (λ fd. IsLive is_regular o fd.file)
fd_regular o p n None standing is = tt
fd_regular o p n (Some fd) standing is = found_all (λ (x : Fd). IsLive is_regular o x.file) (fds_at o p) n fd (open_at o p standing) (sym is)
