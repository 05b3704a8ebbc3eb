-- The parts of a rule without tests.
use Rattle.std.specs.Prelude.{false, None}
pub use Rattle.mf_words.specs.Words.{Words}
use Rattle.mf_rule.specs.declared.rule.Side.{Side}
use Rattle.mf_rule.specs.declared.rule.ObjectSide.{ObjectSide}

-- no tests
abbrev pub no_tests : Side
no_tests = record { not = false; uid = None; gid = None }

abbrev pub no_object_tests : ObjectSide
no_object_tests = record { side = no_tests; suid = None; sgid = None; uid_of_subject = None; gid_of_subject = None; types = None }
