-- What is true of the parties at any time.
use Rattle.std.specs.Prelude.{◌≡◌, Bool, false, ◌&&◌, is_none, IsTrue, List, [], ◌∷◌, All, find}
use Rattle.mf_objects.specs.declared.descriptors.Fd.{Fd}
use Rattle.mf_objects.specs.declared.entity.EntityData.{EntityData}
use Rattle.mf_objects.specs.declared.entity.EntityData.TheVariants.{Vnode}
use Rattle.mf_objects.specs.Live.{LiveEntity, Entities, has_id}
use Rattle.mf_objects.specs.Lives.{passes, is_regular, IsLive}
use Rattle.mf_objects.specs.Descriptors.{fds_of}
use Rattle.mf_objects.specs.Population.{IsRising}
use Rattle.mf_parties.specs.declared.change.Growth.{Growth}
use Rattle.mf_parties.specs.declared.change.Growth.TheVariants.{Open}

-- a directory that lies in no directory
abbrev pub is_top : EntityData → Bool
is_top (Vnode vnode) = vnode.file.dir && is_none vnode.parent
is_top other = false

-- the first is the root directory, whose id is 0
abbrev pub BeginsWithRoot : List LiveEntity → Type 0
BeginsWithRoot [] = ⊥
BeginsWithRoot (e ∷ es) = (e.id.0 ≡ 0) × IsTrue (is_top e.what)

-- each of the descriptors is on a live regular file
abbrev pub AreOnFiles : List LiveEntity → List Fd → Type 0
AreOnFiles live fds = All (λ fd. IsTrue (passes is_regular (find (has_id fd.file) live))) fds

-- a file that it opens is a live regular file
abbrev pub IsOpenable : Entities → Growth → Type 0
IsOpenable objects (Open fd) = IsLive is_regular objects fd.file
IsOpenable objects other = Unit {0}

-- the ids rise, the root comes first, and what is open is on live regular files
pub record IsStanding (objects : Entities) : Type 0 where
  pub rising : IsRising 0 objects.next objects.live
  pub rooted : BeginsWithRoot objects.live
  pub open_files : All (λ e. AreOnFiles objects.live (fds_of e.what)) objects.live
