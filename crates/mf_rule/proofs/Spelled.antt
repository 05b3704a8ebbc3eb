-- What the grammar spells is read.
use Rattle.std.proofs.Common.{◌≡◌, ℕ, Bool, true, false, not, List, [], ◌∷◌, ◌++◌, Some, None, Ok, codes, refl, sym, ap, ◌∙◌, subst, append_assoc, inl, inr}
use Rattle.std.specs.List.{flat_map}
use Rattle.mf_rule.specs.declared.rule.Side.{Side}
use Rattle.mf_rule.specs.declared.rule.ObjectSide.{ObjectSide}
use Rattle.mf_rule.specs.declared.rule.Rule.{Rule}
use Rattle.mf_rule.specs.declared.begun.Part.{Part}
use Rattle.mf_rule.specs.declared.begun.Part.TheVariants.{Subject, Object}
use Rattle.mf_rule.specs.declared.begun.Next.TheVariants as next
use Rattle.mf_rule.specs.declared.begun.Begun.{Begun}
use Rattle.mf_rule.specs.Words.{id_range_in, types_in}
use Rattle.mf_rule.specs.RuleGrammar.{SpellsIdTest, SpellsFileTest, SpellsObjectTest, SpellTests, SpellsRule}
use Rattle.mf_rule.proofs.Parts.{marked, with_not, SpellsSubject, SpellsObject}
use Rattle.mf_rule.specs.Parts.{Words, no_object_tests}
use Rattle.mf_rule.specs.Reading.{side_of, with_side, id_test, no_rule, nothing_read, rule_in, read_from}
use Rattle.mf_rule.proofs.Pieces.{begun, open_at, On, on_trans, on_words, mark_step, uid_name, uid_marked, uid_value, put_uid, gid_name, gid_marked, gid_value, put_gid}
use Rattle.mf_rule.proofs.FilePieces.{put_not, not_same, not_step, object_step, mode_step, letters_step, put_suid, suid_name, suid_marked, put_sgid, sgid_name, sgid_marked, put_uid_of_subject, uid_of_subject_name, uid_of_subject_marked, put_gid_of_subject, gid_of_subject_name, gid_of_subject_marked, put_types, type_name, type_marked, type_value, type_test}
use Rattle.mf_rule.proofs.RoundTrips.{begins, ends}

-- the words of a test, with `!` before them or without, by how its name is read, and how behind a mark
marked_on : (part : Part) (b turned : Bool) (rule : Rule) (name : List ℕ) (more ws : Words) (after : Bool → Begun) → On (begun (open_at part b) rule) (name ∷ (more ++ ws)) (after false) ws
    → On (begun (next.Name part) rule) (name ∷ (more ++ ws)) (after true) ws → On (begun (open_at part b) rule) (marked turned (name ∷ more) ++ ws) (after turned) ws
marked_on part b true rule name more ws after plain mark =
    on_trans (begun (open_at part b) rule) (begun (next.Name part) rule) (after true) (codes "!" ∷ name ∷ (more ++ ws)) (name ∷ (more ++ ws)) ws (mark_step part b rule (name ∷ (more ++ ws))) mark
marked_on part b false rule name more ws after plain mark = plain

uid_words : (part : Part) (b turned : Bool) (rule : Rule) (w : List ℕ) (ends : ℕ × ℕ) (ws : Words) → (side_of part rule).uid ≡ None → id_range_in w ≡ Some ends
    → On (begun (open_at part b) rule) (marked turned (codes "uid" ∷ w ∷ []) ++ ws) (begun (open_at part false) (put_uid part rule (Some (id_test turned ends)))) ws
uid_words part b turned rule w ends ws none is =
    marked_on part b turned rule (codes "uid") (w ∷ []) ws (λ turned. begun (open_at part false) (put_uid part rule (Some (id_test turned ends))))
    (on_trans (begun (open_at part b) rule) (begun (next.Uid part false) rule) (begun (next.Test part) (put_uid part rule (Some (id_test false ends)))) (codes "uid" ∷ w ∷ ws) (w ∷ ws) ws
    (uid_name part b rule (w ∷ ws) none) (uid_value part false rule w ends ws is))
    (on_trans (begun (next.Name part) rule) (begun (next.Uid part true) rule) (begun (next.Test part) (put_uid part rule (Some (id_test true ends)))) (codes "uid" ∷ w ∷ ws) (w ∷ ws) ws
    (uid_marked part rule (w ∷ ws) none) (uid_value part true rule w ends ws is))

gid_words : (part : Part) (b turned : Bool) (rule : Rule) (w : List ℕ) (ends : ℕ × ℕ) (ws : Words) → (side_of part rule).gid ≡ None → id_range_in w ≡ Some ends
    → On (begun (open_at part b) rule) (marked turned (codes "gid" ∷ w ∷ []) ++ ws) (begun (open_at part false) (put_gid part rule (Some (id_test turned ends)))) ws
gid_words part b turned rule w ends ws none is =
    marked_on part b turned rule (codes "gid") (w ∷ []) ws (λ turned. begun (open_at part false) (put_gid part rule (Some (id_test turned ends))))
    (on_trans (begun (open_at part b) rule) (begun (next.Gid part false) rule) (begun (next.Test part) (put_gid part rule (Some (id_test false ends)))) (codes "gid" ∷ w ∷ ws) (w ∷ ws) ws
    (gid_name part b rule (w ∷ ws) none) (gid_value part false rule w ends ws is))
    (on_trans (begun (next.Name part) rule) (begun (next.Gid part true) rule) (begun (next.Test part) (put_gid part rule (Some (id_test true ends)))) (codes "gid" ∷ w ∷ ws) (w ∷ ws) ws
    (gid_marked part rule (w ∷ ws) none) (gid_value part true rule w ends ws is))

-- a test of ids of a part
id_words : (part : Part) (b : Bool) (rule : Rule) (test : Words) (after : Side) (ws : Words) → SpellsIdTest test (side_of part rule) after
    → On (begun (open_at part b) rule) (test ++ ws) (begun (open_at part false) (with_side part rule after)) ws
id_words part b rule test after ws (turned, w, ends, range, inl uid) =
    subst (λ side. On (begun (open_at part b) rule) (test ++ ws) (begun (open_at part false) (with_side part rule side)) ws) (sym uid.2)
    (on_words (begun (open_at part b) rule) (begun (open_at part false) (put_uid part rule (Some (id_test turned ends)))) (test ++ ws) (marked turned (codes "uid" ∷ w ∷ []) ++ ws) ws
    (ap (λ t. t ++ ws) uid.0) (uid_words part b turned rule w ends ws uid.1 range))
id_words part b rule test after ws (turned, w, ends, range, inr gid) =
    subst (λ side. On (begun (open_at part b) rule) (test ++ ws) (begun (open_at part false) (with_side part rule side)) ws) (sym gid.2)
    (on_words (begun (open_at part b) rule) (begun (open_at part false) (put_gid part rule (Some (id_test turned ends)))) (test ++ ws) (marked turned (codes "gid" ∷ w ∷ []) ++ ws) ws
    (ap (λ t. t ++ ws) gid.0) (gid_words part b turned rule w ends ws gid.1 range))

suid_words : (b turned : Bool) (rule : Rule) (ws : Words) → rule.object.suid ≡ None
    → On (begun (open_at Object b) rule) (marked turned (codes "suid" ∷ []) ++ ws) (begun (open_at Object false) (put_suid rule (Some (not turned)))) ws
suid_words b turned rule ws none =
    marked_on Object b turned rule (codes "suid") [] ws (λ turned. begun (open_at Object false) (put_suid rule (Some (not turned)))) (suid_name b rule ws none) (suid_marked rule ws none)

sgid_words : (b turned : Bool) (rule : Rule) (ws : Words) → rule.object.sgid ≡ None
    → On (begun (open_at Object b) rule) (marked turned (codes "sgid" ∷ []) ++ ws) (begun (open_at Object false) (put_sgid rule (Some (not turned)))) ws
sgid_words b turned rule ws none =
    marked_on Object b turned rule (codes "sgid") [] ws (λ turned. begun (open_at Object false) (put_sgid rule (Some (not turned)))) (sgid_name b rule ws none) (sgid_marked rule ws none)

uid_of_subject_words : (b turned : Bool) (rule : Rule) (ws : Words) → rule.object.uid_of_subject ≡ None
    → On (begun (open_at Object b) rule) (marked turned (codes "uid_of_subject" ∷ []) ++ ws) (begun (open_at Object false) (put_uid_of_subject rule (Some (not turned)))) ws
uid_of_subject_words b turned rule ws none =
    marked_on Object b turned rule (codes "uid_of_subject") [] ws (λ turned. begun (open_at Object false) (put_uid_of_subject rule (Some (not turned)))) (uid_of_subject_name b rule ws none) (uid_of_subject_marked rule ws none)

gid_of_subject_words : (b turned : Bool) (rule : Rule) (ws : Words) → rule.object.gid_of_subject ≡ None
    → On (begun (open_at Object b) rule) (marked turned (codes "gid_of_subject" ∷ []) ++ ws) (begun (open_at Object false) (put_gid_of_subject rule (Some (not turned)))) ws
gid_of_subject_words b turned rule ws none =
    marked_on Object b turned rule (codes "gid_of_subject") [] ws (λ turned. begun (open_at Object false) (put_gid_of_subject rule (Some (not turned)))) (gid_of_subject_name b rule ws none) (gid_of_subject_marked rule ws none)

type_words : (b turned : Bool) (rule : Rule) (w : List ℕ) (types : ℕ) (ws : Words) → rule.object.types ≡ None → types_in w ≡ Some types
    → On (begun (open_at Object b) rule) (marked turned (codes "type" ∷ w ∷ []) ++ ws) (begun (open_at Object false) (put_types rule (Some (type_test turned types)))) ws
type_words b turned rule w types ws none is =
    marked_on Object b turned rule (codes "type") (w ∷ []) ws (λ turned. begun (open_at Object false) (put_types rule (Some (type_test turned types))))
    (on_trans (begun (open_at Object b) rule) (begun (next.Types false) rule) (begun (next.Test Object) (put_types rule (Some (type_test false types)))) (codes "type" ∷ w ∷ ws) (w ∷ ws) ws
    (type_name b rule (w ∷ ws) none) (type_value false rule w types ws is))
    (on_trans (begun (next.Name Object) rule) (begun (next.Types true) rule) (begun (next.Test Object) (put_types rule (Some (type_test true types)))) (codes "type" ∷ w ∷ ws) (w ∷ ws) ws
    (type_marked rule (w ∷ ws) none) (type_value true rule w types ws is))

abbrev put_object : Rule → ObjectSide → Rule
put_object rule object = record rule { object = object }

-- where the words of a test are others, written so
as_words : (b : Bool) (rule : Rule) (test words : Words) (after made : ObjectSide) (ws : Words) → test ≡ words → after ≡ made
    → On (begun (open_at Object b) rule) (words ++ ws) (begun (open_at Object false) (put_object rule made)) ws → On (begun (open_at Object b) rule) (test ++ ws) (begun (open_at Object false) (put_object rule after)) ws
as_words b rule test words after made ws same is on =
    subst (λ object. On (begun (open_at Object b) rule) (test ++ ws) (begun (open_at Object false) (put_object rule object)) ws) (sym is)
    (on_words (begun (open_at Object b) rule) (begun (open_at Object false) (put_object rule made)) (test ++ ws) (words ++ ws) ws (ap (λ t. t ++ ws) same) on)

file_words : (b : Bool) (rule : Rule) (test : Words) (after : ObjectSide) (ws : Words) → SpellsFileTest test rule.object after
    → On (begun (open_at Object b) rule) (test ++ ws) (begun (open_at Object false) (put_object rule after)) ws
file_words b rule test after ws (turned, inl is) =
    as_words b rule test (marked turned (codes "suid" ∷ [])) after (record rule.object { suid = Some (not turned) }) ws is.0 is.2 (suid_words b turned rule ws is.1)
file_words b rule test after ws (turned, inr (inl is)) =
    as_words b rule test (marked turned (codes "sgid" ∷ [])) after (record rule.object { sgid = Some (not turned) }) ws is.0 is.2 (sgid_words b turned rule ws is.1)
file_words b rule test after ws (turned, inr (inr (inl is))) =
    as_words b rule test (marked turned (codes "uid_of_subject" ∷ [])) after (record rule.object { uid_of_subject = Some (not turned) }) ws is.0 is.2 (uid_of_subject_words b turned rule ws is.1)
file_words b rule test after ws (turned, inr (inr (inr (inl is)))) =
    as_words b rule test (marked turned (codes "gid_of_subject" ∷ [])) after (record rule.object { gid_of_subject = Some (not turned) }) ws is.0 is.2 (gid_of_subject_words b turned rule ws is.1)
file_words b rule test after ws (turned, inr (inr (inr (inr (w, types, letters, words, none, is))))) =
    as_words b rule test (marked turned (codes "type" ∷ w ∷ [])) after (record rule.object { types = Some (type_test turned types) }) ws words is (type_words b turned rule w types ws none letters)

object_words : (b : Bool) (rule : Rule) (test : Words) (after : ObjectSide) (ws : Words) → SpellsObjectTest test rule.object after
    → On (begun (open_at Object b) rule) (test ++ ws) (begun (open_at Object false) (put_object rule after)) ws
object_words b rule test after ws (inl (side, spells, is)) =
    subst (λ object. On (begun (open_at Object b) rule) (test ++ ws) (begun (open_at Object false) (put_object rule object)) ws) (sym is) (id_words Object b rule test side ws spells)
object_words b rule test after ws (inr spells) = file_words b rule test after ws spells

-- ---- tests one after another
abbrev pub flat : List Words → Words
flat tests = flat_map (λ test. test) tests

ids_words : (b : Bool) (rule : Rule) (tests : List Words) (after : Side) (ws : Words) → SpellTests SpellsIdTest tests rule.subject after
    → (c : Bool) × On (begun (open_at Subject b) rule) (flat tests ++ ws) (begun (open_at Subject c) (with_side Subject rule after)) ws
ids_words b rule [] after ws same = (b, subst (λ side. On (begun (open_at Subject b) rule) ws (begun (open_at Subject b) (with_side Subject rule side)) ws) same (λ place. (place, refl)))
ids_words b rule (test ∷ tests) after ws (side, first, others) =
    let more = ids_words false (with_side Subject rule side) tests after ws others in (
      more.0,
      on_words (begun (open_at Subject b) rule) (begun (open_at Subject more.0) (with_side Subject rule after)) ((test ++ flat tests) ++ ws) (test ++ (flat tests ++ ws)) ws (append_assoc test (flat tests) ws)
          (on_trans (begun (open_at Subject b) rule) (begun (open_at Subject false) (with_side Subject rule side)) (begun (open_at Subject more.0) (with_side Subject rule after)) (test ++ (flat tests ++ ws)) (flat tests ++ ws) ws
          (id_words Subject b rule test side (flat tests ++ ws) first) more.1),
    )

objects_words : (b : Bool) (rule : Rule) (tests : List Words) (after : ObjectSide) (ws : Words) → SpellTests SpellsObjectTest tests rule.object after
    → (c : Bool) × On (begun (open_at Object b) rule) (flat tests ++ ws) (begun (open_at Object c) (put_object rule after)) ws
objects_words b rule [] after ws same = (b, subst (λ object. On (begun (open_at Object b) rule) ws (begun (open_at Object b) (put_object rule object)) ws) same (λ place. (place, refl)))
objects_words b rule (test ∷ tests) after ws (object, first, others) =
    let more = objects_words false (put_object rule object) tests after ws others in (
      more.0,
      on_words (begun (open_at Object b) rule) (begun (open_at Object more.0) (put_object rule after)) ((test ++ flat tests) ++ ws) (test ++ (flat tests ++ ws)) ws (append_assoc test (flat tests) ws)
          (on_trans (begun (open_at Object b) rule) (begun (open_at Object false) (put_object rule object)) (begun (open_at Object more.0) (put_object rule after)) (test ++ (flat tests ++ ws)) (flat tests ++ ws) ws
          (object_words b rule test object (flat tests ++ ws) first) more.1),
    )

-- ---- parts
not_words : (part : Part) (rule : Rule) (turned : Bool) (tests ws : Words) → (side_of part rule).not ≡ false
    → (c : Bool) × On (begun (next.First part) rule) (with_not turned tests ++ ws) (begun (open_at part c) (put_not part rule turned)) (tests ++ ws)
not_words part rule true tests ws is = (false, not_step part rule (tests ++ ws))
not_words part rule false tests ws is = (true, λ place. (place, ap (λ b. read_from place b (tests ++ ws)) (not_same part rule is)))

subject_words : (words : Words) (side : Side) (ws : Words) → SpellsSubject words side
    → (c : Bool) × On (begun (next.First Subject) no_rule) (words ++ ws) (begun (open_at Subject c) (record no_rule { subject = side })) ws
subject_words words side ws spells =
    let tests = flat spells.tests in
    let r = put_not Subject no_rule side.not in
    let turned = not_words Subject no_rule side.not tests ws refl in
    let more = ids_words turned.0 r spells.tests side ws spells.each in
    let start = begun (next.First Subject) no_rule in
    let after = begun (open_at Subject more.0) (record no_rule { subject = side }) in (
      more.0,
      on_words start after (words ++ ws) (with_not side.not tests ++ ws) ws (ap (λ t. t ++ ws) spells.parted)
          (on_trans start (begun (open_at Subject turned.0) r) after (with_not side.not tests ++ ws) (tests ++ ws) ws turned.1 more.1),
    )

object_part_words : (rule : Rule) (words : Words) (object : ObjectSide) (ws : Words) → rule.object ≡ no_object_tests → SpellsObject words object
    → (c : Bool) × On (begun (next.First Object) rule) (words ++ ws) (begun (open_at Object c) (put_object rule object)) ws
object_part_words rule words object ws bare spells =
    let tests = flat spells.tests in
    let r = put_not Object rule object.side.not in
    let turned = not_words Object rule object.side.not tests ws (ap (λ o. o.side.not) bare) in
    let more = objects_words turned.0 r spells.tests object ws
    (subst (λ o. SpellTests SpellsObjectTest spells.tests (record o { side = record o.side { not = object.side.not } }) object) (sym bare) spells.each) in
    let start = begun (next.First Object) rule in
    let after = begun (open_at Object more.0) (put_object rule object) in (
      more.0,
      on_words start after (words ++ ws) (with_not object.side.not tests ++ ws) ws (ap (λ t. t ++ ws) spells.parted)
          (on_trans start (begun (open_at Object turned.0) r) after (with_not object.side.not tests ++ ws) (tests ++ ws) ws turned.1 more.1),
    )

-- ---- whole rules
words_on : (words : Words) (rule : Rule) → SpellsRule words rule → On nothing_read words (begun next.End rule) []
words_on words rule spells =
    let last = spells.letters ∷ [] in
    let y = codes "mode" ∷ last in
    let x = codes "object" ∷ spells.object ++ y in
    let q = record no_rule { subject = rule.subject } in
    let z = put_object q rule.object in
    let end = begun next.End rule in
    let start = begun (next.First Subject) no_rule in
    let subject = subject_words spells.subject rule.subject x spells.is_subject in
    let object = object_part_words q spells.object rule.object y refl spells.is_object in
    on_words nothing_read end words (codes "subject" ∷ spells.subject ++ x) [] spells.parted
    (on_trans nothing_read start end (codes "subject" ∷ spells.subject ++ x) (spells.subject ++ x) [] (begins (spells.subject ++ x))
    (on_trans start (begun (open_at Subject subject.0) q) end (spells.subject ++ x) x [] subject.1
    (on_trans (begun (open_at Subject subject.0) q) (begun (next.First Object) q) end x (spells.object ++ y) [] (object_step subject.0 q (spells.object ++ y))
    (on_trans (begun (next.First Object) q) (begun (open_at Object object.0) z) end (spells.object ++ y) y [] object.1
    (on_trans (begun (open_at Object object.0) z) (begun next.Letters z) end y last [] (mode_step object.0 z last) (letters_step z spells.letters rule.mode [] spells.is_mode))))))

pub spelled_is_read : (words : Words) (rule : Rule) → SpellsRule words rule → rule_in words ≡ Ok rule
unfolding rule_in
spelled_is_read words rule spells = let on = words_on words rule spells 0 in on.1 ∙ ends rule on.0
