-- Which subjects and files a rule matches, and what a list of rules says of the letters that are wanted.
--
-- The tests, `!` and `not`, first match and the letters are those of ugidfw(8) and mac_bsdextended(4). That a uid test looks at the
-- effective, the real and the saved uid, and a gid test at every group, is this model's own choice.
use Rattle.std.specs.Prelude.{ℕ, Bool, true, not, ◌&&◌, ◌||◌, ◌==◌, nat_le, if◌then◌else◌, Option}
use Rattle.std.specs.List.{list_any}
use Rattle.std.specs.Option.{option_map_or}
use Rattle.std.specs.Int.RustNames.{bit_and}
use Rattle.mf_cred.specs.declared.cred.Cred.{Cred}
use Rattle.mf_cred.specs.declared.cred.FileView.{FileView}
use Rattle.mf_cred.specs.Groups.{in_group}
use Rattle.mf_rule.specs.declared.rule.TheConstants.{DIRECTORY, REGULAR}
use Rattle.mf_rule.specs.declared.rule.IdTest.{IdTest}
use Rattle.mf_rule.specs.declared.rule.Side.{Side}
use Rattle.mf_rule.specs.declared.rule.ObjectSide.{ObjectSide}
use Rattle.mf_rule.specs.declared.rule.Rule.{Rule}

-- a test that isn't there holds
abbrev pub if_asked : {A : Type 0} → Option A → (A → Bool) → Bool
if_asked test holds = option_map_or holds test true

-- `!` turns one test, and `not` a whole part
abbrev pub turned : Bool → Bool → Bool
turned not_so holds = if not_so then not holds else holds

-- from the least to the greatest, both included
abbrev pub has : IdTest → ℕ → Bool
has test id = nat_le test.least id && nat_le id test.greatest

-- the effective, the real or the saved uid
abbrev pub has_uid : IdTest → Cred → Bool
has_uid test cred = has test cred.uid || has test cred.ruid || has test cred.svuid

abbrev pub subject_matches : Side → Cred → Bool
subject_matches side cred =
    turned side.not
    (if_asked side.uid (λ test. turned test.not (has_uid test cred))
    && if_asked side.gid (λ test. turned test.not (list_any (has test) cred.groups)))

-- the mode has the bit: 2048 is 4000 in octal (suid), and 1024 is 2000 (sgid)
abbrev pub has_mode_bit : ℕ → FileView → Bool
has_mode_bit bit file = not (bit_and file.mode bit == 0)

-- the file's owner is the subject, by one of its three uids
abbrev pub owns : Cred → FileView → Bool
owns cred file = file.uid == cred.uid || file.uid == cred.ruid || file.uid == cred.svuid

-- a directory where `d` is among the types, any other file where `r` is
abbrev pub has_type : ℕ → Bool → Bool
has_type types dir = not (bit_and types (if dir then DIRECTORY else REGULAR) == 0)

abbrev pub object_tests : ObjectSide → Cred → FileView → Bool
object_tests object cred file =
    if_asked object.side.uid (λ test. turned test.not (has test file.uid))
    && if_asked object.side.gid (λ test. turned test.not (has test file.gid))
    && if_asked object.suid (λ wanted. turned (not wanted) (has_mode_bit 2048 file))
    && if_asked object.sgid (λ wanted. turned (not wanted) (has_mode_bit 1024 file))
    && if_asked object.uid_of_subject (λ wanted. turned (not wanted) (owns cred file))
    && if_asked object.gid_of_subject (λ wanted. turned (not wanted) (in_group cred file.gid))
    && if_asked object.types (λ test. turned test.not (has_type test.types file.dir))

-- a rule matches where both its parts do
abbrev pub matches : Rule → Cred → FileView → Bool
matches rule cred file = subject_matches rule.subject cred && turned rule.object.side.not (object_tests rule.object cred file)
