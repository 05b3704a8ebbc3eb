-- The access matrix: what each live process may do to each live entity, as the listed policies answer.
use Rattle.std.specs.Prelude.{Bool, true, false, List, map, filter, Option, Some, None}
use Rattle.std.specs.List.{flat_map}
use Rattle.mf_errno.specs.declared.errno.Errno.TheVariants.{Success}
use Rattle.mf_errno.specs.Same.{is_same}
use Rattle.mf_item.specs.declared.operation.CheckOp.{CheckOp}
use Rattle.mf_item.specs.declared.view.Kind.{Kind}
use Rattle.mf_item.specs.declared.view.Kind.TheVariants as kinds
use Rattle.mf_item.specs.declared.view.ObjectView.{ObjectView}
use Rattle.mf_item.specs.declared.view.SubjectView.{SubjectView}
use Rattle.mf_item.specs.Item.{Item}
use Rattle.mf_policy.specs.Registration.{Entry}
use Rattle.mf_compose.specs.Composition.{composition}
use Rattle.mf_list.specs.Asked.{answers}
use Rattle.mf_objects.specs.declared.id.Id.{Id}
use Rattle.mf_objects.specs.Live.{Entities, cred_at, label_at}
use Rattle.mf_objects.specs.Titles.{title_at}
use Rattle.mf_plan.specs.declared.state.State.{State}
use Rattle.mf_objects.specs.Lives.{view_at}
use Rattle.mf_matrix.specs.declared.letters.Letter.{Letter}
use Rattle.mf_matrix.specs.declared.matrix.Row.{Row}
use Rattle.mf_matrix.specs.declared.parties.Party.{Party}
use Rattle.mf_matrix.specs.Letters.{letters_for}

-- the check of the operation by itself: nothing is asked of a label, and neither a privilege nor a port
abbrev pub check_of : SubjectView → ObjectView → CheckOp → Item
check_of subject object op =
    record { op = op; subject = subject; object = Some object; request = None; privilege = None; port = None }

-- whether the composition of the listed policies' answers to the check of a letter is success; where there is no letter, nothing passes
abbrev pub passes : List Entry → SubjectView → ObjectView → Option Letter → Bool
passes listed subject object None = false
passes listed subject object (Some letter) = is_same Success (composition (answers listed (check_of subject object letter.op)))

-- The live entities

abbrev pub subject_of : Entities → Id → SubjectView
subject_of objects id = record { id = id.0; cred = cred_at objects id; label = label_at objects id }

-- an entity by its id, with its title, and as policies see it
abbrev pub party_of : Entities → Id → Party
party_of objects id =
    record { id = id; title = title_at objects id; subject = subject_of objects id; object = view_at objects id }

-- the live entities by rising id
abbrev pub parties_in : Entities → List Party
parties_in objects = map (λ e. party_of objects e.id) objects.live

abbrev pub is_process_kind : Kind → Bool
is_process_kind kinds.Process = true
is_process_kind other = false

abbrev pub is_process : Party → Bool
is_process party = is_process_kind party.object.kind

-- The rows

-- who does something, and to whom
pub record Pair : Type 0 where
  pub subject : Party
  pub object : Party

abbrev pub pair : Party → Party → Pair
pair subject object = record { subject = subject; object = object }

-- each process with each party, itself too
abbrev pub pairs_of : List Party → List Pair
pairs_of parties = flat_map (λ subject. map (pair subject) parties) (filter is_process parties)

abbrev pub row_of : List Entry → Pair → Row
row_of listed p = record {
  subject = p.subject.id;
  object = p.object.id;
  passed = map (passes listed p.subject.subject p.object.object) (letters_for p.object.object);
}

abbrev pub matrix_in : State → List Row
matrix_in s = map (row_of s.specs) (pairs_of (parties_in s.objects))
