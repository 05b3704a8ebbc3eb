-- The live entities at the beginning: the root directory alone.
use Rattle.std.proofs.Common.{◌≡◌, ◌++◌, List, [], ◌∷◌, length, replicate, ap, arith, IsTrue}
use Rattle.std.proofs.lemmas.List.Elements.{All-cons, All-nil}
use Rattle.mf_elem.specs.declared.label.LabelValue.{LabelValue}
use Rattle.mf_slots.specs.Zones.{Contents, MakesLabel}
use Rattle.mf_slots.proofs.ZonesLaws.{set_none, set_makes}
use Rattle.mf_objects.specs.declared.entity.Entity.{Entity}
use Rattle.mf_objects.specs.Live.{LiveEntity, Entities}
use Rattle.mf_objects.specs.Lives.{is_directory}
use Rattle.mf_objects.specs.Descriptors.{fds_of}
use Rattle.mf_objects.specs.Population.{NoBytesIfDirectory, Belongs, AreDescriptors, IsPopulation}
use Rattle.mf_objects.specs.Sound.{live_of}
use Rattle.mf_objects.proofs.Kept.{Becomes}
use Rattle.mf_objects.proofs.Zoned.{exact_push, live_push, exact_none}
use Rattle.mf_objects.proofs.Belonging.{belong_one}
use Rattle.mf_objects.proofs.Names.{names_one}
use Rattle.mf_objects.proofs.Opened.{described_none}

-- these are the live entities of a root with such a label
pub opened : (zones : Contents) (e : Entity) (values : List LabelValue) → length values ≡ 4 → MakesLabel (replicate 4 []) zones e.label values
    → e.id.0 ≡ 0 → IsTrue (is_directory e.what) → Belongs (record { id = e.id; name = e.name; label = values; what = e.what } ∷ []) e.id.0 e.what → NoBytesIfDirectory e.what → fds_of e.what ≡ []
    → Becomes 1 zones ([] ++ e ∷ []) (record { next = 1; live = record { id = e.id; name = e.name; label = values; what = e.what } ∷ [] })
opened zones e values four makes first directory belongs no_bytes unopened =
    let x : LiveEntity = record { id = e.id; name = e.name; label = values; what = e.what } in
    let live : live_of zones ([] ++ e ∷ []) ≡ x ∷ [] = live_push (replicate 4 []) zones [] e values four exact_none makes in
    let P : LiveEntity → Type 0 = λ l. NoBytesIfDirectory l.what in
    let D : LiveEntity → Type 0 = λ l. AreDescriptors (x ∷ []) (fds_of l.what) in
    let alone : IsPopulation (record { next = 1; live = x ∷ [] }) =
    record { rising = (omega arith, omega (arith, first)); rooted = (first, directory); belong = belong_one x belongs; directories = All-cons P x [] no_bytes (All-nil P); names = names_one x; descriptors = All-cons D x [] (described_none (x ∷ []) (fds_of x.what) unopened) (All-nil D) } in
    record {
      sound = record {
        population = rw live alone;
        few = omega arith;
        exact = exact_push (replicate 4 []) zones [] e values exact_none makes;
        set = set_makes (replicate 4 []) zones e.label values set_none makes;
      };
      shows = ap (λ (ls : List LiveEntity). let o : Entities = record { next = 1; live = ls } in o) live;
    }
