-- Which texts are names, components of paths and names of processes, by docs/MANUAL.md (THE SCRIPT).
use Rattle.std.specs.Prelude.{ℕ, Bool, true, false, not, ◌&&◌, ◌||◌, ◌==◌, nat_le, List, [], ◌∷◌, length, codes}
use Rattle.std.specs.List.{list_all, slice_split}
use Rattle.std.specs.Str.{byte, bytes_eq}
use Rattle.std.specs.Char.{is_ascii_alphanumeric, char_set_contains}
use Rattle.mf_names.specs.declared.limits.TheConstants.{NAME_LIMIT}

abbrev pub is_some_text : List ℕ → Bool
is_some_text [] = false
is_some_text (b ∷ bs) = true

abbrev pub is_name_byte : ℕ → Bool
is_name_byte b = is_ascii_alphanumeric b || char_set_contains (codes "_-") b

-- a name is 1 to 32 letters, digits, `_` and `-`
abbrev pub is_name : List ℕ → Bool
is_name w = is_some_text w && nat_le (length w) NAME_LIMIT && list_all is_name_byte w

-- the full name of a process: that of a task, or a task's, a dot and a child's
abbrev pub is_process_name : List ℕ → Bool
is_process_name w = let names = slice_split (λ b. b == byte ".") w in nat_le (length names) 2 && list_all is_name names

abbrev pub is_component_byte : ℕ → Bool
is_component_byte b = is_name_byte b || b == byte "."

-- a component of a path is 1 to 32 bytes of names and dots, and neither `.` nor `..`
abbrev pub is_component : List ℕ → Bool
is_component w = is_some_text w && nat_le (length w) NAME_LIMIT && list_all is_component_byte w && not (bytes_eq w (codes ".")) && not (bytes_eq w (codes ".."))
