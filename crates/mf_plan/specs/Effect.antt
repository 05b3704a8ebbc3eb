-- What a call changes, as a value. What becomes of the state by it says mf_perform specs/Effect.
use Rattle.std.specs.Prelude.{ℕ, List, Option, Some, None}
use Rattle.mf_errno.specs.declared.module.Module.{Module}
use Rattle.mf_elem.specs.declared.label.Request.{Request}
use Rattle.mf_objects.specs.declared.id.Id.{Id}
use Rattle.mf_objects.specs.declared.entity.EntityData.{EntityData}
use Rattle.mf_objects.specs.declared.descriptors.Fd.{Fd}
use Rattle.mf_policy.specs.declared.settings.Change.{Change}

pub data Effect : Type 0 where
  -- nothing; one entity more, with the label that its maker's gives it
  Unchanged : Effect
  Make : List ℕ → EntityData → Effect
  -- bytes go into a file or a pipe; a message into a socket
  Append Deliver : Id → List ℕ → Effect
  -- a pipe is emptied; a socket's oldest message is taken; a file goes; a process goes, with its pipes and sockets
  Empty Receive Unlink End : Id → Effect
  -- a process has one descriptor more; it has that of a number no more
  Open : Id → Fd → Effect
  Close : Id → ℕ → Effect
  -- a file has another mode; an entity the label that it is asked to have
  SetMode : Id → ℕ → Effect
  Relabel : Id → Request → Effect
  -- a module is registered; one is taken off the list; one has another setting
  Load Unload : Module → Effect
  Set : Module → Change → Effect

-- the entity that is relabelled, and what is asked for it
abbrev pub relabelled_by : Effect → Option (Id × Request)
relabelled_by (Relabel id request) = Some (id, request)
relabelled_by other = None
