-- What callers need to know of descriptors: on what they are, and what each change of the live entities makes of those of a process.
use Rattle.std.proofs.Common.{◌≡◌, ◌≢◌, ℕ, ◌||◌, Bool, true, false, not, cond, List, [], ◌∷◌, Option, Some, None, IfSome, Bor, option_map, map, refl, ap, sym, ◌∙◌, subst, nat_eq, inl, inr}
use Rattle.std.specs.Prelude.{All, find, filter}
use Rattle.std.specs.Option.{option_copied, option_or}
use Rattle.std.proofs.lemmas.Bool.{false≢true, eqb-true}
use Rattle.std.proofs.lemmas.List.Folds.{find-append}
use Rattle.std.proofs.lemmas.List.Elements.{All-head, All-tail}
use Rattle.mf_elem.specs.declared.label.LabelValue.{LabelValue}
use Rattle.mf_objects.specs.declared.id.Id.{Id}
use Rattle.mf_objects.specs.declared.descriptors.Fd.{Fd}
use Rattle.mf_objects.specs.declared.entity.EntityData.{EntityData}
use Rattle.mf_objects.specs.declared.entity.EntityData.TheVariants.{Process, Vnode, Pipe, Socket}
use Rattle.mf_objects.specs.Live.{LiveEntity, Entities, has_id, live_at, is_process, is_made_by}
use Rattle.mf_objects.specs.Lives.{passes, is_vnode, is_regular, IsLive}
use Rattle.mf_objects.specs.Changes.{with_entity, without, goes_with, with_change, with_what, appended, cleared, with_messages, with_mode}
use Rattle.mf_objects.specs.Labels.{with_value, with_label}
use Rattle.mf_objects.specs.Descriptors.{fds_of, fds_at, has_number, fd_in, with_fds, closed_on, with_closed_on, without_vnode}
use Rattle.mf_objects.specs.Population.{AreDescriptors, IsPopulation}
use Rattle.mf_objects.proofs.Shorthands.{reading}
use Rattle.mf_objects.proofs.Entities.{changed_at}
use Rattle.mf_objects.proofs.Rising.{id_is, id_differs, changed_id}
use Rattle.mf_objects.proofs.Finding.{find_mapped, find_filter}
use Rattle.mf_objects.proofs.Belonging.{find_all}
use Rattle.mf_objects.proofs.Opened.{described_none}
use Rattle.mf_objects.proofs.Found.{passes_found}
use Rattle.mf_objects.proofs.Removing.{kept_found}

-- On what they are

-- what is true of all descriptors of a process, or of what isn't one
pub descriptors_at : (objects : Entities) (p : Id) → IsPopulation objects → AreDescriptors objects.live (fds_at objects p)
descriptors_at objects p population = by_found (live_at objects p) refl
  where
    by_found : (o : Option LiveEntity) → live_at objects p ≡ o → AreDescriptors objects.live (reading fds_of [] o)
    by_found None is = described_none objects.live [] refl
    by_found (Some e) is = find_all (λ (x : LiveEntity). AreDescriptors objects.live (fds_of x.what)) (has_id p) objects.live e population.descriptors is

-- what is true of all is true of the one of a number
pub found_all : (P : Fd → Type 0) (fds : List Fd) (n : ℕ) (fd : Fd) → All P fds → fd_in fds n ≡ Some fd → P fd
found_all P [] n fd all is = cc
found_all P (x ∷ fds) n fd all is = one (has_number n x) (found_all P fds n fd (All-tail P x fds all)) is
  where
    inside_some : (a b : Fd) → Some a ≡ Some b → a ≡ b
    inside_some a b e = cc

    one : (b : Bool) → (fd_in fds n ≡ Some fd → P fd) → cond b (Some x) (fd_in fds n) ≡ Some fd → P fd
    one true rest is = subst P (inside_some x fd is) (All-head P x fds all)
    one false rest is = rest is

-- the one of a number has it
pub found_number : (fds : List Fd) (n : ℕ) (fd : Fd) → fd_in fds n ≡ Some fd → fd.number ≡ n
found_number [] n fd is = cc
found_number (x ∷ fds) n fd is = one (has_number n x) refl (found_number fds n fd) is
  where
    inside_some : (a b : Fd) → Some a ≡ Some b → a ≡ b
    inside_some a b e = cc

    one : (b : Bool) → has_number n x ≡ b → (fd_in fds n ≡ Some fd → fd.number ≡ n) → cond b (Some x) (fd_in fds n) ≡ Some fd → fd.number ≡ n
    one true hit rest is = ap (λ (other : Fd). other.number) (sym (inside_some x fd is)) ∙ eqb-true x.number n hit
    one false miss rest is = rest is

-- a descriptor is on a live regular file
pub fd_regular : (objects : Entities) (p : Id) (n : ℕ) (fd : Fd) → IsPopulation objects → fd_in (fds_at objects p) n ≡ Some fd → IsLive is_regular objects fd.file
fd_regular objects p n fd population is =
    let are : AreDescriptors objects.live (fds_at objects p) = descriptors_at objects p population in
    found_all (λ (other : Fd). IsLive is_regular objects other.file) (fds_at objects p) n fd are.files is

pub found_regular : (objects : Entities) (p : Id) (n : ℕ) (found : Option (Bor Fd)) → IsPopulation objects → option_copied found ≡ fd_in (fds_at objects p) n
    → IfSome found (λ fd. IsLive is_regular objects fd.now.file)
found_regular objects p n None population is = tt
found_regular objects p n (Some fd) population is = fd_regular objects p n fd.now population (sym is)

regular_vnode : (w : EntityData) → is_regular w ≡ true → is_vnode w ≡ true
regular_vnode (Process process) is = is
regular_vnode (Vnode vnode) is = refl
regular_vnode (Pipe pipe) is = is
regular_vnode (Socket socket) is = is

-- a live regular file is a live vnode
pub live_regular_vnode : (objects : Entities) (id : Id) → IsLive is_regular objects id → IsLive is_vnode objects id
live_regular_vnode objects id live = by_found (live_at objects id) live
  where
    by_found : (o : Option LiveEntity) → passes is_regular o ≡ true → passes is_vnode o ≡ true
    by_found None is = is
    by_found (Some e) is = regular_vnode e.what is

-- Changes that leave descriptors as they are

pub fds_kept : (change : LiveEntity → LiveEntity) (objects : Entities) (at p : Id) → ((e : LiveEntity) → (change e).id ≡ e.id)
    → ((e : LiveEntity) → fds_of (change e).what ≡ fds_of e.what) → fds_at (with_change change objects at) p ≡ fds_at objects p
fds_kept change objects at p ids same =
    ap (reading fds_of []) (find_mapped (changed_at change at) p objects.live (changed_id change at ids)) ∙ by_found (live_at objects p)
  where
    one : (e : LiveEntity) (b : Bool) → fds_of (cond b (change e) e).what ≡ fds_of e.what
    one e true = same e
    one e false = refl

    by_found : (o : Option LiveEntity) → reading fds_of [] (option_map (changed_at change at) o) ≡ reading fds_of [] o
    by_found None = refl
    by_found (Some e) = one e (has_id at e)

pub fds_labelled : (values : List LabelValue) (objects : Entities) (at p : Id) → fds_at (with_change (with_label values) objects at) p ≡ fds_at objects p
fds_labelled values objects at p = fds_kept (with_label values) objects at p (λ e. refl) (λ e. refl)

pub fds_valued : (slot : ℕ) (value : LabelValue) (objects : Entities) (at p : Id) → fds_at (with_change (with_value slot value) objects at) p ≡ fds_at objects p
fds_valued slot value objects at p = fds_kept (with_value slot value) objects at p (λ e. refl) (λ e. refl)

appended_fds : (text : List ℕ) (w : EntityData) → fds_of (appended text w) ≡ fds_of w
appended_fds text (Process process) = refl
appended_fds text (Vnode vnode) = refl
appended_fds text (Pipe pipe) = refl
appended_fds text (Socket socket) = refl

pub fds_appended : (text : List ℕ) (objects : Entities) (at p : Id) → fds_at (with_change (with_what (appended text)) objects at) p ≡ fds_at objects p
fds_appended text objects at p = fds_kept (with_what (appended text)) objects at p (λ e. refl) (λ e. appended_fds text e.what)

cleared_fds : (w : EntityData) → fds_of (cleared w) ≡ fds_of w
cleared_fds (Process process) = refl
cleared_fds (Vnode vnode) = refl
cleared_fds (Pipe pipe) = refl
cleared_fds (Socket socket) = refl

pub fds_cleared : (objects : Entities) (at p : Id) → fds_at (with_change (with_what cleared) objects at) p ≡ fds_at objects p
fds_cleared objects at p = fds_kept (with_what cleared) objects at p (λ e. refl) (λ e. cleared_fds e.what)

messages_fds : (change : List (List ℕ) → List (List ℕ)) (w : EntityData) → fds_of (with_messages change w) ≡ fds_of w
messages_fds change (Process process) = refl
messages_fds change (Vnode vnode) = refl
messages_fds change (Pipe pipe) = refl
messages_fds change (Socket socket) = refl

pub fds_messages : (change : List (List ℕ) → List (List ℕ)) (objects : Entities) (at p : Id)
    → fds_at (with_change (with_what (with_messages change)) objects at) p ≡ fds_at objects p
fds_messages change objects at p = fds_kept (with_what (with_messages change)) objects at p (λ e. refl) (λ e. messages_fds change e.what)

mode_fds : (mode : ℕ) (w : EntityData) → fds_of (with_mode mode w) ≡ fds_of w
mode_fds mode (Process process) = refl
mode_fds mode (Vnode vnode) = refl
mode_fds mode (Pipe pipe) = refl
mode_fds mode (Socket socket) = refl

pub fds_moded : (mode : ℕ) (objects : Entities) (at p : Id) → fds_at (with_change (with_what (with_mode mode)) objects at) p ≡ fds_at objects p
fds_moded mode objects at p = fds_kept (with_what (with_mode mode)) objects at p (λ e. refl) (λ e. mode_fds mode e.what)

-- A new entity that has nothing open

pub fds_made : (objects : Entities) (name : List ℕ) (values : List LabelValue) (what : EntityData) (p : Id) → fds_of what ≡ []
    → fds_at (with_entity objects name values what) p ≡ fds_at objects p
fds_made objects name values what p none =
    let x : LiveEntity = record { id = record { 0 = objects.next }; name = name; label = values; what = what } in
    ap (reading fds_of []) (find-append (has_id p) objects.live (x ∷ [])) ∙ by_found (live_at objects p) x none (has_id p x)
  where
    by_found : (o : Option LiveEntity) (x : LiveEntity) → fds_of x.what ≡ [] → (b : Bool) → reading fds_of [] (option_or o (cond b (Some x) None)) ≡ reading fds_of [] o
    by_found None x none true = none
    by_found None x none false = refl
    by_found (Some e) x none b = refl

-- A change of the descriptors of a process

process_fds : (change : List Fd → List Fd) (w : EntityData) → is_process w ≡ true → fds_of (with_fds change w) ≡ change (fds_of w)
process_fds change (Process process) is = refl
process_fds change (Vnode vnode) is = absurd (false≢true is)
process_fds change (Pipe pipe) is = absurd (false≢true is)
process_fds change (Socket socket) is = absurd (false≢true is)

pub fds_changed_at : (change : List Fd → List Fd) (objects : Entities) (p : Id) → IsLive is_process objects p
    → fds_at (with_change (with_what (with_fds change)) objects p) p ≡ change (fds_at objects p)
fds_changed_at change objects p live =
    let f : LiveEntity → LiveEntity = with_what (with_fds change) in
    ap (reading fds_of []) (find_mapped (changed_at f p) p objects.live (changed_id f p (λ e. refl))) ∙ by_found (live_at objects p) refl live
  where
    by_found : (o : Option LiveEntity) → live_at objects p ≡ o → passes is_process o ≡ true
        → reading fds_of [] (option_map (changed_at (with_what (with_fds change)) p) o) ≡ change (reading fds_of [] o)
    by_found None is live = absurd (false≢true live)
    by_found (Some e) is live =
        let hit : has_id p e ≡ true = passes_found (has_id p) objects.live e is in
        ap (λ (b : Bool). fds_of (cond b (with_what (with_fds change) e) e).what) hit ∙ process_fds change e.what live

pub fds_changed_elsewhere : (change : List Fd → List Fd) (objects : Entities) (p q : Id) → q.0 ≢ p.0
    → fds_at (with_change (with_what (with_fds change)) objects p) q ≡ fds_at objects q
fds_changed_elsewhere change objects p q apart =
    let f : LiveEntity → LiveEntity = with_what (with_fds change) in
    ap (reading fds_of []) (find_mapped (changed_at f p) q objects.live (changed_id f p (λ e. refl))) ∙ by_found (live_at objects q) refl
  where
    by_found : (o : Option LiveEntity) → live_at objects q ≡ o → reading fds_of [] (option_map (changed_at (with_what (with_fds change)) p) o) ≡ reading fds_of [] o
    by_found None is = refl
    by_found (Some e) is =
        let own : e.id.0 ≡ q.0 = id_is q e (passes_found (has_id q) objects.live e is) in
        let miss : has_id p e ≡ false = id_differs p e (λ same. apart (sym own ∙ same)) in
        ap (λ (b : Bool). fds_of (cond b (with_what (with_fds change) e) e).what) miss

-- Some entities go

gone_nothing : (gone : LiveEntity → Bool) (objects : Entities) (p : Id)
    → ((e : LiveEntity) → has_id p e ≡ true → gone e ≡ true → fds_of e.what ≡ []) → find (has_id p) (filter (λ e. not (gone e)) objects.live) ≡ None → fds_at objects p ≡ []
gone_nothing gone objects p nothing none = by_found (live_at objects p) refl
  where
    by_found : (o : Option LiveEntity) → live_at objects p ≡ o → reading fds_of [] o ≡ []
    by_found None is = refl
    by_found (Some e) is = one (gone e) refl
      where
        one : (b : Bool) → gone e ≡ b → fds_of e.what ≡ []
        one true goes = nothing e (passes_found (has_id p) objects.live e is) goes
        one false stays =
            let there : find (has_id p) (filter (λ x. not (gone x)) objects.live) ≡ Some e = kept_found (has_id p) (λ x. not (gone x)) objects.live e is (ap not stays) in
            cc (sym none ∙ there)

-- where what goes under the id has nothing open
pub fds_without : (gone : LiveEntity → Bool) (objects : Entities) (p : Id) → IsPopulation objects
    → ((e : LiveEntity) → has_id p e ≡ true → gone e ≡ true → fds_of e.what ≡ []) → fds_at (without gone objects) p ≡ fds_at objects p
fds_without gone objects p population nothing = elim (find_filter (λ e. not (gone e)) p 0 objects.next objects.live population.rising) [
  | inl same ↦ ap (reading fds_of []) same
  | inr none ↦ ap (reading fds_of []) none ∙ sym (gone_nothing gone objects p nothing none)
]

maker_nothing : (id : Id) (w : EntityData) → is_made_by id w ≡ true → fds_of w ≡ []
maker_nothing id (Process process) made = absurd (false≢true made)
maker_nothing id (Vnode vnode) made = refl
maker_nothing id (Pipe pipe) made = refl
maker_nothing id (Socket socket) made = refl

-- a process that goes leaves the descriptors of the others
pub fds_without_process : (objects : Entities) (id p : Id) → IsPopulation objects → p.0 ≢ id.0 → fds_at (without (goes_with id) objects) p ≡ fds_at objects p
fds_without_process objects id p population apart =
    fds_without (goes_with id) objects p population
    (λ e own goes. maker_nothing id e.what (ap (λ (b : Bool). b || is_made_by id e.what) (sym (id_differs id e (λ same. apart (sym (id_is p e own) ∙ same)))) ∙ goes))

all_gone : (id : Id) (gone : LiveEntity → Bool) (es : List LiveEntity) → ((e : LiveEntity) → has_id id e ≡ true → gone e ≡ true)
    → find (has_id id) (filter (λ e. not (gone e)) es) ≡ None
all_gone id gone [] goes = refl
all_gone id gone (e ∷ es) goes = one (has_id id e) (gone e) refl (goes e) (all_gone id gone es goes)
  where
    one : (hit b : Bool) → has_id id e ≡ hit → (has_id id e ≡ true → b ≡ true) → find (has_id id) (filter (λ x. not (gone x)) es) ≡ None
        → find (has_id id) (cond (not b) (e ∷ filter (λ x. not (gone x)) es) (filter (λ x. not (gone x)) es)) ≡ None
    one hit true is goes rest = rest
    one true false is goes rest = absurd (false≢true (goes is))
    one false false is goes rest = rw is rest

-- and none of its own
pub fds_of_gone : (objects : Entities) (id : Id) → fds_at (without (goes_with id) objects) id ≡ []
fds_of_gone objects id = ap (reading fds_of []) (all_gone id (goes_with id) objects.live (λ e own. ap (λ (b : Bool). b || is_made_by id e.what) own))

-- A vnode goes, with all descriptors on it

closed_what : (file : Id) (w : EntityData) → fds_of (with_fds (closed_on file) w) ≡ closed_on file (fds_of w)
closed_what file (Process process) = refl
closed_what file (Vnode vnode) = refl
closed_what file (Pipe pipe) = refl
closed_what file (Socket socket) = refl

pub fds_closed_on : (file : Id) (objects : Entities) (p : Id) → fds_at (with_closed_on file objects) p ≡ closed_on file (fds_at objects p)
fds_closed_on file objects p =
    ap (reading fds_of []) (find_mapped (with_what (with_fds (closed_on file))) p objects.live (λ e. refl)) ∙ by_found (live_at objects p)
  where
    by_found : (o : Option LiveEntity) → reading fds_of [] (option_map (with_what (with_fds (closed_on file))) o) ≡ closed_on file (reading fds_of [] o)
    by_found None = refl
    by_found (Some e) = closed_what file e.what

still_other : (id p : Id) (es : List LiveEntity) → p.0 ≢ id.0 → find (has_id p) (filter (λ e. not (has_id id e)) es) ≡ find (has_id p) es
still_other id p [] apart = refl
still_other id p (e ∷ es) apart = one (has_id p e) (has_id id e) refl refl (still_other id p es apart)
  where
    one : (here goes : Bool) → has_id p e ≡ here → has_id id e ≡ goes → find (has_id p) (filter (λ x. not (has_id id x)) es) ≡ find (has_id p) es
        → find (has_id p) (cond (not goes) (e ∷ filter (λ x. not (has_id id x)) es) (filter (λ x. not (has_id id x)) es)) ≡ cond here (Some e) (find (has_id p) es)
    one true true is gone rest = absurd (apart (sym (id_is p e is) ∙ id_is id e gone))
    one true false is gone rest = rw is refl
    one false true is gone rest = rest
    one false false is gone rest = rw is rest

pub fds_without_vnode : (objects : Entities) (id p : Id) → p.0 ≢ id.0 → fds_at (without_vnode id objects) p ≡ closed_on id (fds_at objects p)
fds_without_vnode objects id p apart =
    ap (reading fds_of []) (still_other id p (map (with_what (with_fds (closed_on id))) objects.live) apart) ∙ fds_closed_on id objects p

-- of a process, which isn't the vnode
pub process_without_vnode : (objects : Entities) (id p : Id) → IsLive is_vnode objects id → IsLive is_process objects p
    → fds_at (without_vnode id objects) p ≡ closed_on id (fds_at objects p)
process_without_vnode objects id p vnode process = fds_without_vnode objects id p (λ same. both (live_at objects p) process (subst (λ (n : ℕ). passes is_vnode (find (λ e. nat_eq e.id.0 n) objects.live) ≡ true) (sym same) vnode))
  where
    two : (w : EntityData) → is_process w ≡ true → is_vnode w ≡ true → ⊥
    two (Process own) process vnode = false≢true vnode
    two (Vnode own) process vnode = false≢true process
    two (Pipe pipe) process vnode = false≢true process
    two (Socket socket) process vnode = false≢true process

    both : (o : Option LiveEntity) → passes is_process o ≡ true → passes is_vnode o ≡ true → ⊥
    both None process vnode = false≢true process
    both (Some e) process vnode = two e.what process vnode
