-- The flags of a rule, read as one.
use Rattle.std.specs.Prelude.{◌≡◌}
use Rattle.mf_rule.specs.declared.rule.ObjectSide.{ObjectSide}

-- the tests without a value are the same
abbrev pub SameFlags : ObjectSide → ObjectSide → Type 0
SameFlags object other =
    (object.suid ≡ other.suid) × (object.sgid ≡ other.sgid) × (object.uid_of_subject ≡ other.uid_of_subject) × (object.gid_of_subject ≡ other.gid_of_subject)
