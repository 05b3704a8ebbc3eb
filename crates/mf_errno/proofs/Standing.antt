-- An error among answers.
use Rattle.std.specs.Prelude.{Bool, List}
use Rattle.std.specs.List.{list_any}
use Rattle.mf_errno.specs.declared.errno.Errno.{Errno}
use Rattle.mf_errno.specs.Same.{is_same}

abbrev pub stands_in : Errno → List Errno → Bool
stands_in e answers = list_any (is_same e) answers
