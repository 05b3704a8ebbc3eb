-- What the listed policies allow of a relabel that is made.
use Rattle.std.proofs.Common.{◌≡◌, true, List, Some}
use Rattle.mf_elem.specs.Bounds.{IsRequest}
use Rattle.mf_elem.specs.declared.label.LabelValue.{LabelValue}
use Rattle.mf_elem.specs.declared.label.Request.{Request}
use Rattle.mf_item.specs.declared.view.Kind.{Kind}
use Rattle.mf_item.specs.declared.view.Kind.TheVariants as kinds
use Rattle.mf_item.specs.declared.view.ObjectView.{ObjectView}
use Rattle.mf_item.specs.Item.{Item}
use Rattle.mf_objects.specs.declared.id.Id.{Id}
use Rattle.mf_objects.specs.Live.{LiveEntity, kind_of, live_at}
use Rattle.mf_policy.specs.Claims.{is_claimed}
use Rattle.mf_policy.specs.Operations.{row_of}
use Rattle.mf_policy.specs.declared.operations.Test.TheVariants.{RelabelObject, RelabelCredential}
use Rattle.mf_plan.specs.declared.state.State.{State}
use Rattle.mf_perform.proofs.Granted.{IsGranted}

-- A check of a relabel of an entity with this label and of this kind: by itself where it is a process, or else by a live process.
pub data AsksFor (s : State) (kind : Kind) (label : List LabelValue) (request : Request) (item : Item) : Type 0 where
  of_itself : kind ≡ kinds.Process → (row_of item.op).test ≡ RelabelCredential → item.subject.label ≡ label → AsksFor s kind label request item
  of_object : (kind ≡ kinds.Process → ⊥) → (row_of item.op).test ≡ RelabelObject → (from : Id) (maker : LiveEntity) → live_at s.objects from ≡ Some maker
      → kind_of maker.what ≡ kinds.Process → item.subject.label ≡ maker.label → (object : ObjectView) → item.object ≡ Some object → object.label ≡ label
      → AsksFor s kind label request item

-- A label text can spell the request; the listed policies claim it for the entity, and each lets it be made.
pub record IsAllowed (s : State) (e : LiveEntity) (request : Request) : Type 0 where
  pub spelled : IsRequest request
  pub claimed : is_claimed s.specs (kind_of e.what) request ≡ true
  pub item : Item
  pub asked : item.request ≡ Some request
  pub asks : AsksFor s (kind_of e.what) e.label request item
  pub granted : IsGranted s.specs item
