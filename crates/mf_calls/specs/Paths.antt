-- Paths as lists of components, and the directories that files stand in, by docs/MANUAL.md (THE SCRIPT).
use Rattle.std.specs.Prelude.{ℕ, Bool, ◌&&◌, ◌||◌, ◌-◌, ◌==◌, List, length, take}
use Rattle.std.specs.Cmp.Lexicographic.{pointwise}
use Rattle.std.specs.List.{list_any}
use Rattle.std.specs.Str.{bytes_eq}
use Rattle.mf_calls.specs.declared.script.FileLine.{FileLine}

-- the path of the directory that a path stands in: all components but the last
abbrev pub directory_of : List (List ℕ) → List (List ℕ)
directory_of path = take (length path - 1) path

abbrev pub is_directory_at : List (List ℕ) → FileLine → Bool
is_directory_at path f = f.file.dir && pointwise bytes_eq f.path path

abbrev pub has_directory : List FileLine → List (List ℕ) → Bool
has_directory files path = length path == 0 || list_any (is_directory_at path) files
