-- What a call may change of an entity, and what of that is no movement: this model's own (docs/MANUAL.md, SOURCES).
use Rattle.std.specs.Prelude.{◌≡◌, true, List, drop, IfSome, Option, Some, None}
use Rattle.mf_elem.specs.declared.label.LabelValue.{LabelValue}
use Rattle.mf_elem.specs.declared.label.Request.{Request}
use Rattle.mf_objects.specs.declared.id.Id.{Id}
use Rattle.mf_objects.specs.Changes.{cleared, with_messages, with_what}
use Rattle.mf_objects.specs.Descriptors.{closed_on, with_fds}
use Rattle.mf_objects.specs.Labels.{with_label}
use Rattle.mf_objects.specs.Titles.{parent_of}
use Rattle.mf_objects.specs.Live.{LiveEntity, is_made_by}
use Rattle.mf_plan.specs.Effect.{Effect}
use Rattle.mf_plan.specs.Effect.Effect.{Empty, End, Receive, Relabel, Unlink}
use Rattle.mf_moves.specs.Moves.{Lead}

-- An entity before and after a call of this process with this effect and these movements. It is as it was, or is the caller, or the movements
-- lead from the caller to it, and to the directory that it comes into or leaves; or it is one of the rest.
pub data IsCovered (me : Id) (moves : List (Id × Id)) (effect : Effect) (id : Id) : Option LiveEntity → Option LiveEntity → Type 0 where
  same : (found : Option LiveEntity) → IsCovered me moves effect id found found
  itself : (before after : Option LiveEntity) → id ≡ me → IsCovered me moves effect id before after
  -- it stays where it was, under its name and with its label
  reached : (e after : LiveEntity) → Lead moves me id → after.name ≡ e.name → after.label ≡ e.label → parent_of after.what ≡ parent_of e.what
      → IsCovered me moves effect id (Some e) (Some after)
  removed : (e : LiveEntity) → Lead moves me id → IfSome (parent_of e.what) (λ dir. Lead moves me dir) → IsCovered me moves effect id (Some e) None
  -- it is new, and begins with its maker's sources
  comes : (e : LiveEntity) → IfSome (parent_of e.what) (λ dir. Lead moves me dir) → IsCovered me moves effect id None (Some e)
  -- a pipe is emptied, or a socket's oldest message taken, by one to whom the movements lead from it
  emptied : (e : LiveEntity) → effect ≡ Empty id → Lead moves id me → IsCovered me moves effect id (Some e) (Some (with_what cleared e))
  received : (e : LiveEntity) → effect ≡ Receive id → Lead moves id me → IsCovered me moves effect id (Some e) (Some (with_what (with_messages (drop 1)) e))
  -- its label alone is another
  relabelled : (e : LiveEntity) (label : List LabelValue) (request : Request) → effect ≡ Relabel id request
      → IsCovered me moves effect id (Some e) (Some (with_label label e))
  -- it is a pipe or a socket of the process that ends
  goes : (e : LiveEntity) → effect ≡ End me → is_made_by me e.what ≡ true → IsCovered me moves effect id (Some e) None
  -- its descriptors on a file that goes are closed, where the movements lead from the caller to that file
  closed : (e : LiveEntity) (file : Id) → effect ≡ Unlink file → Lead moves me file → IsCovered me moves effect id (Some e) (Some (with_what (with_fds (closed_on file)) e))
