-- The names of a directory, and a title behind a text.
use Rattle.std.specs.Prelude.{◌≡◌, ℕ, Bool, min, length, List, ◌++◌, insert, codes}
use Rattle.std.specs.List.{position_or_len}
use Rattle.std.specs.List.Sorted.{IsSorted, IsPermutation}
use Rattle.std.specs.Ordering.{nat_cmp, is_le}
use Rattle.std.specs.Cmp.Lexicographic.{slice_cmp}
use Rattle.mf_objects.specs.declared.limits.TheConstants.{MOST_NAMES}
use Rattle.mf_objects.specs.declared.entity.EntityData.{EntityData}
use Rattle.mf_objects.specs.declared.entity.EntityData.TheVariants.{Process, Vnode, Pipe, Socket}
use Rattle.mf_objects.specs.Titles.{rooted_path}

-- some names are the first of all in byte order: with a rest behind them they are all, in order
pub record IsFirstNames (names all : List (List ℕ)) : Type 0 where
  pub rest : List (List ℕ)
  pub ordered : IsSorted (slice_cmp nat_cmp) (names ++ rest)
  pub same : IsPermutation all (names ++ rest)
  pub most : length names ≡ min MOST_NAMES (length all)

-- the first name isn't after the second
abbrev pub comes_first : List ℕ → List ℕ → Bool
comes_first name other = is_le (slice_cmp nat_cmp name other)

-- names in byte order, with one more in its place
abbrev pub with_name : List ℕ → List (List ℕ) → List (List ℕ)
with_name name names = insert names (position_or_len (comes_first name) names) name

-- some text was appended
pub record IsAppended (old new : List ℕ) : Type 0 where
  pub text : List ℕ
  pub is : new ≡ old ++ text

-- The two parts of a title

-- what it begins with: the kind
abbrev pub prefix_of : EntityData → List ℕ
prefix_of (Process process) = codes "proc:"
prefix_of (Vnode vnode) = codes "vnode:"
prefix_of (Pipe pipe) = codes "pipe:"
prefix_of (Socket socket) = codes "socket:"

-- what follows: the name, or the path of a vnode
abbrev pub own_name : List ℕ → List ℕ → EntityData → List ℕ
own_name path name (Vnode vnode) = rooted_path path
own_name path name other = name
