-- The rules of ugidfw(8), and what each list of words stands for:
--
--     subject [not] [tests] object [not] [tests] mode letters
--
-- A test is a name, with `!` before it where it is turned, and a value behind it where it has one. It stands at most once in a part; the order
-- is free. ugidfw(8) has `jailid`, `filesys` and names of users and groups too, which this model lacks.
use Rattle.std.specs.Prelude.{◌≡◌, ◌⊎◌, ℕ, Bool, not, List, [], ◌∷◌, ◌++◌, Some, None, codes, if◌then◌else◌}
use Rattle.std.specs.List.{flat_map}
use Rattle.mf_rule.specs.Words.{id_range_in, mode_in, types_in}
use Rattle.mf_rule.specs.declared.rule.Side.{Side}
use Rattle.mf_rule.specs.declared.rule.ObjectSide.{ObjectSide}
use Rattle.mf_rule.specs.declared.rule.Rule.{Rule}
use Rattle.mf_rule.specs.Parts.{Words, no_object_tests, no_tests}

-- the mark before what is turned: `!` before a test, and `not` before the tests of a part
abbrev pub marked : List ℕ → Bool → Words → Words
marked mark turned words = if turned then mark ∷ words else words

-- the words are a test of ids: with it, before becomes after
abbrev pub SpellsIdTest : Words → Side → Side → Type 0
SpellsIdTest words before after =
    (turned : Bool) × (w : List ℕ) × (ends : ℕ × ℕ) × (id_range_in w ≡ Some ends)
    × (((words ≡ marked (codes "!") turned (codes "uid" ∷ w ∷ [])) × (before.uid ≡ None) × (after ≡ record before { uid = Some (record { not = turned; least = ends.0; greatest = ends.1 }) }))
    ⊎ ((words ≡ marked (codes "!") turned (codes "gid" ∷ w ∷ [])) × (before.gid ≡ None) × (after ≡ record before { gid = Some (record { not = turned; least = ends.0; greatest = ends.1 }) })))

-- the words are a test that only an object has
abbrev pub SpellsFileTest : Words → ObjectSide → ObjectSide → Type 0
SpellsFileTest words before after =
    (turned : Bool)
    × (((words ≡ marked (codes "!") turned (codes "suid" ∷ [])) × (before.suid ≡ None) × (after ≡ record before { suid = Some (not turned) }))
    ⊎ ((words ≡ marked (codes "!") turned (codes "sgid" ∷ [])) × (before.sgid ≡ None) × (after ≡ record before { sgid = Some (not turned) }))
    ⊎ ((words ≡ marked (codes "!") turned (codes "uid_of_subject" ∷ [])) × (before.uid_of_subject ≡ None) × (after ≡ record before { uid_of_subject = Some (not turned) }))
    ⊎ ((words ≡ marked (codes "!") turned (codes "gid_of_subject" ∷ [])) × (before.gid_of_subject ≡ None) × (after ≡ record before { gid_of_subject = Some (not turned) }))
    ⊎ ((w : List ℕ) × (types : ℕ) × (types_in w ≡ Some types)
    × (words ≡ marked (codes "!") turned (codes "type" ∷ w ∷ [])) × (before.types ≡ None) × (after ≡ record before { types = Some (record { not = turned; types = types }) })))

abbrev pub SpellsObjectTest : Words → ObjectSide → ObjectSide → Type 0
SpellsObjectTest words before after =
    ((side : Side) × SpellsIdTest words before.side side × (after ≡ record before { side = side })) ⊎ SpellsFileTest words before after

-- one test after another
abbrev pub SpellTests : {A : Type 0} → (Words → A → A → Type 0) → List Words → A → A → Type 0
SpellTests SpellsTest [] before after = before ≡ after
SpellTests {A} SpellsTest (test ∷ tests) before after = (next : A) × SpellsTest test before next × SpellTests SpellsTest tests next after

-- the words of a part are its tests, one after another: with them, before becomes after
pub record SpellsPart {A : Type 0} (SpellsTest : Words → A → A → Type 0) (turned : Bool) (words : Words) (before after : A) : Type 0 where
  pub tests : List Words
  pub parted : words ≡ marked (codes "not") turned (flat_map (λ test. test) tests)
  pub each : SpellTests SpellsTest tests before after

-- the words stand for the rule
pub record SpellsRule (words : Words) (rule : Rule) : Type 0 where
  pub subject : Words
  pub object : Words
  pub letters : List ℕ
  pub parted : words ≡ codes "subject" ∷ subject ++ (codes "object" ∷ object ++ (codes "mode" ∷ letters ∷ []))
  pub is_subject : SpellsPart SpellsIdTest rule.subject.not subject (record no_tests { not = rule.subject.not }) rule.subject
  pub is_object : SpellsPart SpellsObjectTest rule.object.side.not object
      (record no_object_tests { side = record no_tests { not = rule.object.side.not } }) rule.object
  pub is_mode : mode_in letters ≡ Some rule.mode

-- a rule that words can stand for
abbrev pub IsRule : Rule → Type 0
IsRule rule = (words : Words) × SpellsRule words rule
