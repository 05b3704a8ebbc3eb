-- What is left of each entity where a file goes: what it was, without descriptors on the file.
use Rattle.std.proofs.Common.{◌≡◌, Bool, not, List, None, option_map, refl, ◌∙◌, ◌⊎◌, inl, inr}
use Rattle.std.specs.Prelude.{find, map}
use Rattle.mf_objects.specs.declared.id.Id.{Id}
use Rattle.mf_objects.specs.Changes.{with_what}
use Rattle.mf_objects.specs.Descriptors.{closed_on, with_fds, without_vnode}
use Rattle.mf_objects.specs.Live.{LiveEntity, Entities, has_id, live_at}
use Rattle.mf_objects.specs.Population.{IsRising}
use Rattle.mf_objects.proofs.Finding.{find_filter, rising_filter}
use Rattle.mf_objects.proofs.Rising.{rising_mapped}
use Rattle.mf_perform.proofs.LabelsAlone.{find_mapped}

-- an entity without its descriptors on the file
abbrev pub without_open : Id → LiveEntity → LiveEntity
without_open file e = with_what (with_fds (closed_on file)) e

pub find_closed : (file id : Id) (es : List LiveEntity) → find (has_id id) (map (without_open file) es) ≡ option_map (without_open file) (find (has_id id) es)
find_closed file id es = find_mapped (has_id id) (without_open file) es (λ e. refl)

module _ (file : Id) (o : Entities) (rising : IsRising 0 o.next o.live) where
  abbrev kept : LiveEntity → Bool
  kept e = not (has_id file e)

  rising_closed : IsRising 0 o.next (map (without_open file) o.live)
  rising_closed = rising_mapped (without_open file) 0 o.next o.live (λ e. refl) rising

  pub rising_unlinked : IsRising 0 o.next (without_vnode file o).live
  rising_unlinked = rising_filter kept 0 o.next (map (without_open file) o.live) rising_closed

  -- what is found of an id: what it was, but for those descriptors; or nothing
  pub found_unlinked : (id : Id) → (live_at (without_vnode file o) id ≡ option_map (without_open file) (live_at o id)) ⊎ (live_at (without_vnode file o) id ≡ None)
  found_unlinked id = one (find_filter kept id 0 o.next (map (without_open file) o.live) rising_closed)
    where
      one : (live_at (without_vnode file o) id ≡ find (has_id id) (map (without_open file) o.live)) ⊎ (live_at (without_vnode file o) id ≡ None)
          → (live_at (without_vnode file o) id ≡ option_map (without_open file) (live_at o id)) ⊎ (live_at (without_vnode file o) id ≡ None)
      one (inl stays) = inl (stays ∙ find_closed file id o.live)
      one (inr gone) = inr gone
