-- Words for parts of definitions, which proofs alone use.
use Rattle.std.specs.Option.{option_map_or}
use Rattle.std.specs.Prelude.{ℕ, List, [], ◌++◌, Option, None, codes, reverse, true}
use Rattle.mf_elem.specs.declared.label.LabelValue.{LabelValue}
use Rattle.mf_objects.specs.declared.limits.TheConstants.{ROOT_MODE}
use Rattle.mf_objects.specs.declared.id.Id.{Id}
use Rattle.mf_objects.specs.declared.entity.EntityData.{EntityData}
use Rattle.mf_objects.specs.declared.entity.EntityData.TheVariants.{Vnode}
use Rattle.mf_objects.specs.Live.{LiveEntity, Entities}
use Rattle.mf_objects.specs.Titles.{path_in}

-- what is read of an entity that was found
abbrev pub reading : {A : Type 0} → (EntityData → A) → A → Option LiveEntity → A
reading read none found = option_map_or (λ e. read e.what) found none

-- the path of its directory, a slash and its name, or nothing for the root
abbrev pub below : (Id → List ℕ) → Option Id → List ℕ → List ℕ
below path parent name = option_map_or (λ dir. path dir ++ codes "/" ++ name) parent []

abbrev pub path_at : Entities → Id → List ℕ
path_at objects id = path_in (reverse objects.live) id

-- the root directory
abbrev pub root_entity : List LabelValue → LiveEntity
root_entity values =
    record {
      id = record { 0 = 0 };
      name = [];
      label = values;
      what = Vnode (record { parent = None; file = record { uid = 0; gid = 0; mode = ROOT_MODE; dir = true }; content = [] });
    }
