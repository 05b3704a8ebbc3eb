-- States that are alike for what a call hands back, and for what its errors tell: this model's own.
use Rattle.std.specs.Prelude.{◌≡◌, ℕ, List, filter, length, map}
use Rattle.mf_item.specs.declared.view.Kind.{Kind}
use Rattle.mf_objects.specs.declared.id.Id.{Id}
use Rattle.mf_objects.specs.Live.{Entities, content_at, count_at, cred_at, is_entry, live_at}
use Rattle.mf_objects.specs.Lives.{view_at}
use Rattle.mf_plan.specs.declared.state.State.{State}
use Rattle.mf_plan.specs.Path.{entry_of}
use Rattle.mf_plan.specs.Views.{entity_named}

-- The listed policies with their settings are the same, as many label slots were given, boot has ended in both or in neither, and each name of a
-- process, a pipe or a socket is that of the same one.
pub record AreAlike (s s' : State) : Type 0 where
  pub specs : s.specs ≡ s'.specs
  pub numbers : s.numbers ≡ s'.numbers
  pub booted : s.booted ≡ s'.booted
  pub names : (kind : Kind) (name : List ℕ) → entity_named s.objects kind name ≡ entity_named s'.objects kind name

-- what a directory holds, each with its name
abbrev pub entries_at : Entities → Id → List (Id × List ℕ)
entries_at objects dir = map (λ e. (e.id, e.name)) (filter (λ e. is_entry dir e.what) objects.live)

-- The entity is the same in both, and holds the same entries where it is a directory.
pub record IsSame (o o' : Entities) (id : Id) : Type 0 where
  pub entity : live_at o id ≡ live_at o' id
  pub entries : entries_at o id ≡ entries_at o' id

-- What policies and framework test is the same: of each entity its kind, attributes and label, its credential, its size, and how many messages
-- or entries it has; of each directory the names in it; and how many entities there are.
pub record AreTestedAlike (o o' : Entities) : Type 0 where
  pub views : (id : Id) → view_at o id ≡ view_at o' id
  pub creds : (id : Id) → cred_at o id ≡ cred_at o' id
  pub sizes : (id : Id) → length (content_at o id) ≡ length (content_at o' id)
  pub counts : (id : Id) → count_at o id ≡ count_at o' id
  pub entries : (id : Id) (name : List ℕ) → entry_of o id name ≡ entry_of o' id name
  pub many : length o.live ≡ length o'.live
