-- The descriptors of the processes, through each change of the live entities.
use Rattle.std.proofs.Common.{◌≡◌, ◌≢◌, ℕ, ◌<◌, ◌≤◌, List, [], ◌∷◌, ◌++◌, Some, None, length, get_or, map, remove, refl, ap, sym, ◌∙◌, subst, arith, eq-eqb, IsTrue, Bool, true, false, cond}
use Rattle.std.specs.Prelude.{All, find, filter}
use Rattle.std.proofs.lemmas.Bool.{false≢true}
use Rattle.std.proofs.lemmas.List.{length-append}
use Rattle.std.proofs.lemmas.List.Elements.{All-nil, All-cons, All-push, All-filter, All-map}
use Rattle.std.proofs.lemmas.List.Kept.{AllPairs-filter}
use Rattle.std.proofs.lemmas.List.Quantifiers.{all_pairs_push}
use Rattle.mf_objects.proofs.Entities.{changed_at}
use Rattle.mf_objects.specs.declared.id.Id.{Id}
use Rattle.mf_objects.specs.declared.descriptors.Fd.{Fd}
use Rattle.mf_objects.specs.declared.entity.EntityData.{EntityData}
use Rattle.mf_objects.specs.declared.entity.EntityData.TheVariants.{Process, Vnode, Pipe, Socket}
use Rattle.mf_objects.specs.Live.{LiveEntity, Entities, has_id}
use Rattle.mf_objects.specs.Lives.{passes, is_regular}
use Rattle.mf_objects.specs.Descriptors.{fds_of, has_number, fd_in, opened}
use Rattle.mf_objects.specs.Fits.{MayJoin, IsBare, IsUnopened}
use Rattle.mf_objects.specs.Population.{AreDescriptors}
use Rattle.mf_objects.proofs.Rising.{id_differs, changed_id}
use Rattle.mf_objects.proofs.Belonging.{AllStay, StaysAt, changed_stays, same_id, passes_append, passes_mapped, find_remove, All-remove}

abbrev pub AllDescribed : List LiveEntity → Type 0
AllDescribed live = All (λ e. AreDescriptors live (fds_of e.what)) live

-- where all their files stay
pub described_weaker : (live live' : List LiveEntity) (fds : List Fd)
    → All (λ fd. IsTrue (passes is_regular (find (has_id fd.file) live)) → IsTrue (passes is_regular (find (has_id fd.file) live'))) fds
    → AreDescriptors live fds → AreDescriptors live' fds
described_weaker live live' fds stay are = record { few = are.few; within = are.within; once = are.once; files = λ k d l. stay k d l (are.files k d l) }

-- nothing is open
pub described_none : (live : List LiveEntity) (fds : List Fd) → fds ≡ [] → AreDescriptors live fds
described_none live fds none = subst (AreDescriptors live) (sym none) nothing
  where
    nothing : AreDescriptors live []
    nothing =
        record {
          few = omega arith;
          within = All-nil (λ (fd : Fd). fd.number < 16);
          once = λ i j d before within. absurd (omega (arith, before, within));
          files = All-nil (λ (fd : Fd). IsTrue (passes is_regular (find (has_id fd.file) live)));
        }

-- One entity more, which has nothing open

pub joins_unopened : (objects : Entities) (w : EntityData) → MayJoin objects w → fds_of w ≡ []
joins_unopened objects (Process process) join = join
joins_unopened objects (Vnode vnode) join = refl
joins_unopened objects (Pipe pipe) join = refl
joins_unopened objects (Socket socket) join = refl

pub described_push : (live : List LiveEntity) (x : LiveEntity) → AllDescribed live → fds_of x.what ≡ [] → AllDescribed (live ++ x ∷ [])
described_push live x all none =
    All-push (λ (e : LiveEntity). AreDescriptors (live ++ x ∷ []) (fds_of e.what)) live x
    (λ k d l. longer (fds_of (get_or live k d).what) (all k d l)) (described_none (live ++ x ∷ []) (fds_of x.what) none)
  where
    longer : (fds : List Fd) → AreDescriptors live fds → AreDescriptors (live ++ x ∷ []) fds
    longer fds = described_weaker live (live ++ x ∷ []) fds (λ k d l is. passes_append is_regular (get_or fds k d).file live (x ∷ []) is)

-- One entity less, which no process has open

no_regular : (live : List LiveEntity) (id : Id) → AllDescribed live → passes is_regular (find (has_id id) live) ≡ false → IsUnopened id live
no_regular live id all other k d l i other_fd within same =
    let fd : Fd = get_or (fds_of (get_or live k d).what) i other_fd in
    let file : passes is_regular (find (has_id fd.file) live) ≡ true = (all k d l).files i other_fd within in
    false≢true (sym other ∙ ap (λ (j : Id). passes is_regular (find (has_id j) live)) (same_id id fd.file (sym same)) ∙ file)

pub bare_unopened : (live : List LiveEntity) (id : Id) (w : EntityData) → AllDescribed live → ((test : EntityData → Bool) → passes test (find (has_id id) live) ≡ test w)
    → IsBare live id w → IsUnopened id live
bare_unopened live id (Process process) all is bare = no_regular live id all (is is_regular)
bare_unopened live id (Vnode vnode) all is bare = bare.1
bare_unopened live id (Pipe pipe) all is bare = no_regular live id all (is is_regular)
bare_unopened live id (Socket socket) all is bare = no_regular live id all (is is_regular)

pub described_remove : (live : List LiveEntity) (i : ℕ) (x : LiveEntity) → i < length live → x ≡ get_or live i x → AllDescribed live → IsUnopened x.id live → AllDescribed (remove live i)
described_remove live i x within is all none =
    All-remove (λ (e : LiveEntity). AreDescriptors (remove live i) (fds_of e.what)) live i (λ k d l. shorter (fds_of (get_or live k d).what) (none k d l) (all k d l))
  where
    misses : (file : Id) → file.0 ≢ x.id.0 → has_id file (get_or live i x) ≡ false
    misses file apart = ap (has_id file) (sym is) ∙ id_differs file x (λ same. apart (sym same))

    shorter : (fds : List Fd) → All (λ fd. fd.file.0 ≢ x.id.0) fds → AreDescriptors live fds → AreDescriptors (remove live i) fds
    shorter fds apart =
        described_weaker live (remove live i) fds
        (λ k d l passed. let file : Id = (get_or fds k d).file in ap (passes is_regular) (find_remove (has_id file) live i x within (misses file (apart k d l))) ∙ passed)

-- Entities changed

pub described_mapped : (f : LiveEntity → LiveEntity) (live : List LiveEntity) → ((e : LiveEntity) → (f e).id ≡ e.id) → AllStay f live
    → All (λ e. AreDescriptors live (fds_of (f e).what)) live → AllDescribed (map f live)
described_mapped f live ids stays all =
    All-map (λ (e : LiveEntity). AreDescriptors (map f live) (fds_of e.what)) f live (λ k d l. moved (fds_of (f (get_or live k d)).what) (all k d l))
  where
    moved : (fds : List Fd) → AreDescriptors live fds → AreDescriptors (map f live) fds
    moved fds =
        described_weaker live (map f live) fds (λ k d l is. passes_mapped f is_regular (get_or fds k d).file live ids (λ n e m. (stays n e m).regular) ∙ is)

-- one is changed, whose descriptors are as they are to be
pub fds_changed : (change : LiveEntity → LiveEntity) (id : Id) (live : List LiveEntity) → All (λ e. has_id id e ≡ true → AreDescriptors live (fds_of (change e).what)) live
    → AllDescribed live → All (λ e. AreDescriptors live (fds_of (changed_at change id e).what)) live
fds_changed change id live here all k d l = one (get_or live k d) (has_id id (get_or live k d)) refl (here k d l) (all k d l)
  where
    one : (e : LiveEntity) (b : Bool) → has_id id e ≡ b → (has_id id e ≡ true → AreDescriptors live (fds_of (change e).what)) → AreDescriptors live (fds_of e.what)
        → AreDescriptors live (fds_of (cond b (change e) e).what)
    one e true has here was = here has
    one e false has here was = was

pub described_changed : (change : LiveEntity → LiveEntity) (id : Id) (live : List LiveEntity) → ((e : LiveEntity) → (change e).id ≡ e.id) → StaysAt change id live
    → All (λ e. has_id id e ≡ true → AreDescriptors live (fds_of (change e).what)) live → AllDescribed live → AllDescribed (map (changed_at change id) live)
described_changed change id live ids stays here all =
    described_mapped (changed_at change id) live (changed_id change id ids) (changed_stays change id live stays) (fds_changed change id live here all)

-- Descriptors opened and closed

-- a number that was looked for in vain
other_numbers : (n : ℕ) (fds : List Fd) → fd_in fds n ≡ None → All (λ fd. fd.number ≢ n) fds
other_numbers n [] none = All-nil (λ (fd : Fd). fd.number ≢ n)
other_numbers n (fd ∷ fds) none = one (has_number n fd) refl (other_numbers n fds) none
  where
    one : (b : Bool) → has_number n fd ≡ b → (fd_in fds n ≡ None → All (λ other. other.number ≢ n) fds) → cond b (Some fd) (fd_in fds n) ≡ None → All (λ other. other.number ≢ n) (fd ∷ fds)
    one true hit rest some = cc
    one false miss rest none = All-cons (λ (other : Fd). other.number ≢ n) fd fds (λ same. false≢true (sym miss ∙ eq-eqb fd.number n same)) (rest none)

pub described_opened : (live : List LiveEntity) (fd : Fd) (fds : List Fd) → length fds < 16 → fd.number < 16 → fd_in fds fd.number ≡ None
    → IsTrue (passes is_regular (find (has_id fd.file) live)) → AreDescriptors live fds → AreDescriptors live (opened fd fds)
described_opened live fd fds room below free regular are =
    record {
      few = omega (arith, room, length-append fds (fd ∷ []));
      within = All-push (λ (other : Fd). other.number < 16) fds fd are.within below;
      once = all_pairs_push (λ (first later : Fd). first.number ≢ later.number) fds fd are.once (other_numbers fd.number fds free);
      files = All-push (λ (other : Fd). IsTrue (passes is_regular (find (has_id other.file) live))) fds fd are.files regular;
    }

filtered_fewer : (p : Fd → Bool) (fds : List Fd) → length (filter p fds) ≤ length fds
filtered_fewer p [] = omega arith
filtered_fewer p (fd ∷ fds) = one (p fd) (filtered_fewer p fds)
  where
    one : (b : Bool) → length (filter p fds) ≤ length fds → length (cond b (fd ∷ filter p fds) (filter p fds)) ≤ length (fd ∷ fds)
    one true rest = omega (arith, rest)
    one false rest = omega (arith, rest)

pub described_closed : (live : List LiveEntity) (p : Fd → Bool) (fds : List Fd) → AreDescriptors live fds → AreDescriptors live (filter p fds)
described_closed live p fds are =
    record {
      few = omega (arith, are.few, filtered_fewer p fds);
      within = All-filter p (λ (fd : Fd). fd.number < 16) fds are.within;
      once = AllPairs-filter (λ (fd other : Fd). fd.number ≢ other.number) p fds are.once;
      files = All-filter p (λ (fd : Fd). IsTrue (passes is_regular (find (has_id fd.file) live))) fds are.files;
    }

-- of what a change leaves as it is
pub described_same : (live : List LiveEntity) (fds fds' : List Fd) → fds' ≡ fds → AreDescriptors live fds → AreDescriptors live fds'
described_same live fds fds' same are = subst (AreDescriptors live) (sym same) are
