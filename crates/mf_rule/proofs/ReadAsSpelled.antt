-- What is read is what the grammar spells.
use Rattle.std.proofs.Common.{◌≡◌, ℕ, ◌+◌, Bool, true, false, not, cond, List, [], ◌∷◌, ◌++◌, Some, Ok, Err, codes, refl, sym, ap, ◌∙◌, subst, inl, inr}
use Rattle.std.specs.Str.{bytes_eq}
use Rattle.mf_rule.specs.declared.rule.Side.{Side}
use Rattle.mf_rule.specs.declared.rule.ObjectSide.{ObjectSide}
use Rattle.mf_rule.specs.declared.rule.Rule.{Rule}
use Rattle.mf_rule.specs.declared.begun.Part.{Part}
use Rattle.mf_rule.specs.declared.begun.Part.TheVariants.{Subject, Object}
use Rattle.mf_rule.specs.declared.begun.Next.{Next}
use Rattle.mf_rule.specs.declared.begun.Next.TheVariants as next
use Rattle.mf_rule.specs.declared.begun.Begun.{Begun}
use Rattle.mf_rule.specs.declared.fault.RuleFault.TheVariants.{UnknownWord, BadRange, BadType, BadMode}
use Rattle.mf_rule.specs.Words.{id_range_in, types_in, mode_in}
use Rattle.mf_rule.specs.RuleGrammar.{SpellsIdTest, SpellsObjectTest, SpellTests, SpellsRule}
use Rattle.mf_rule.proofs.Parts.{marked}
use Rattle.mf_rule.specs.Parts.{Words, no_tests, no_object_tests}
use Rattle.mf_rule.specs.Reading.{reads_on, once, side_of, with_not, id_test, no_rule, rule_in, read_from, fitted, tested, test_named, other_test, file_test, flagged, closing_word, behind}
use Rattle.mf_rule.proofs.Pieces.{begun, put_uid, put_gid}
use Rattle.mf_rule.proofs.FilePieces.{put_suid, put_sgid, put_uid_of_subject, put_gid_of_subject, put_types, type_test}
use Rattle.mf_rule.proofs.Spelled.{flat}
use Rattle.mf_rule.proofs.WordsBehind.{way, same_text, once_is, value_is, then_is, SubjectRest, ObjectRest, FirstSubject, FirstObject, PartRest, FirstRest, Holds, After, ok_rule, came, uid_more, gid_more, file_more}

-- ---- the name of a file test
type_step : (place : ℕ) (turned : Bool) (r : Rule) (w : List ℕ) (b : Begun) (ws : Words) (rule : Rule)
    → cond (bytes_eq w (codes "type")) (once place r.object.types (reads_on (next.Types turned) r)) (Err (UnknownWord place)) ≡ Ok b → After b ws rule → ObjectRest r.subject r.object (marked turned (w ∷ ws)) rule
type_step place turned r w b ws rule is after =
    elim (way (bytes_eq w (codes "type")) (once place r.object.types (reads_on (next.Types turned) r)) (Err (UnknownWord place)) (Ok b) is) [
      | inl hit ↦
          let on = once_is place r.object.types (reads_on (next.Types turned) r) b hit.1 in
          subst (λ w. ObjectRest r.subject r.object (marked turned (w ∷ ws)) rule) (sym (same_text w (codes "type") hit.0)) (came (next.Types turned) r b ws rule on.1 after on.0)
      | inr miss ↦ absurd (let no_way = miss.1 in cc)
    ]

gid_of_subject_step : (place : ℕ) (turned : Bool) (r : Rule) (w : List ℕ) (b : Begun) (ws : Words) (rule : Rule)
    → cond (bytes_eq w (codes "gid_of_subject")) (once place r.object.gid_of_subject (flagged (put_gid_of_subject r (Some (not turned))))) (cond (bytes_eq w (codes "type")) (once place r.object.types (reads_on (next.Types turned) r)) (Err (UnknownWord place))) ≡ Ok b
    → After b ws rule → ObjectRest r.subject r.object (marked turned (w ∷ ws)) rule
gid_of_subject_step place turned r w b ws rule is after =
    elim (way (bytes_eq w (codes "gid_of_subject")) (once place r.object.gid_of_subject (flagged (put_gid_of_subject r (Some (not turned))))) (cond (bytes_eq w (codes "type")) (once place r.object.types (reads_on (next.Types turned) r)) (Err (UnknownWord place))) (Ok b) is) [
      | inl hit ↦
          let on = once_is place r.object.gid_of_subject (flagged (put_gid_of_subject r (Some (not turned)))) b hit.1 in
          let none = on.0 in
          subst (λ w. ObjectRest r.subject r.object (marked turned (w ∷ ws)) rule) (sym (same_text w (codes "gid_of_subject") hit.0))
          (file_more (marked turned (codes "gid_of_subject" ∷ [])) turned (codes "gid_of_subject" ∷ []) r (record r.object { gid_of_subject = Some (not turned) }) ws rule refl (turned, inr (inr (inr (inl (refl, none, refl)))))
          (came (next.Test Object) (put_gid_of_subject r (Some (not turned))) b ws rule on.1 after))
      | inr miss ↦ type_step place turned r w b ws rule miss.1 after
    ]

uid_of_subject_step : (place : ℕ) (turned : Bool) (r : Rule) (w : List ℕ) (b : Begun) (ws : Words) (rule : Rule)
    → cond (bytes_eq w (codes "uid_of_subject")) (once place r.object.uid_of_subject (flagged (put_uid_of_subject r (Some (not turned))))) (cond (bytes_eq w (codes "gid_of_subject")) (once place r.object.gid_of_subject (flagged (put_gid_of_subject r (Some (not turned))))) (cond (bytes_eq w (codes "type")) (once place r.object.types (reads_on (next.Types turned) r)) (Err (UnknownWord place)))) ≡ Ok b
    → After b ws rule → ObjectRest r.subject r.object (marked turned (w ∷ ws)) rule
uid_of_subject_step place turned r w b ws rule is after =
    elim (way (bytes_eq w (codes "uid_of_subject")) (once place r.object.uid_of_subject (flagged (put_uid_of_subject r (Some (not turned))))) (cond (bytes_eq w (codes "gid_of_subject")) (once place r.object.gid_of_subject (flagged (put_gid_of_subject r (Some (not turned))))) (cond (bytes_eq w (codes "type")) (once place r.object.types (reads_on (next.Types turned) r)) (Err (UnknownWord place)))) (Ok b) is) [
      | inl hit ↦
          let on = once_is place r.object.uid_of_subject (flagged (put_uid_of_subject r (Some (not turned)))) b hit.1 in
          let none = on.0 in
          subst (λ w. ObjectRest r.subject r.object (marked turned (w ∷ ws)) rule) (sym (same_text w (codes "uid_of_subject") hit.0))
          (file_more (marked turned (codes "uid_of_subject" ∷ [])) turned (codes "uid_of_subject" ∷ []) r (record r.object { uid_of_subject = Some (not turned) }) ws rule refl (turned, inr (inr (inl (refl, none, refl))))
          (came (next.Test Object) (put_uid_of_subject r (Some (not turned))) b ws rule on.1 after))
      | inr miss ↦ gid_of_subject_step place turned r w b ws rule miss.1 after
    ]

sgid_step : (place : ℕ) (turned : Bool) (r : Rule) (w : List ℕ) (b : Begun) (ws : Words) (rule : Rule)
    → cond (bytes_eq w (codes "sgid")) (once place r.object.sgid (flagged (put_sgid r (Some (not turned))))) (cond (bytes_eq w (codes "uid_of_subject")) (once place r.object.uid_of_subject (flagged (put_uid_of_subject r (Some (not turned))))) (cond (bytes_eq w (codes "gid_of_subject")) (once place r.object.gid_of_subject (flagged (put_gid_of_subject r (Some (not turned))))) (cond (bytes_eq w (codes "type")) (once place r.object.types (reads_on (next.Types turned) r)) (Err (UnknownWord place))))) ≡ Ok b
    → After b ws rule → ObjectRest r.subject r.object (marked turned (w ∷ ws)) rule
sgid_step place turned r w b ws rule is after =
    elim (way (bytes_eq w (codes "sgid")) (once place r.object.sgid (flagged (put_sgid r (Some (not turned))))) (cond (bytes_eq w (codes "uid_of_subject")) (once place r.object.uid_of_subject (flagged (put_uid_of_subject r (Some (not turned))))) (cond (bytes_eq w (codes "gid_of_subject")) (once place r.object.gid_of_subject (flagged (put_gid_of_subject r (Some (not turned))))) (cond (bytes_eq w (codes "type")) (once place r.object.types (reads_on (next.Types turned) r)) (Err (UnknownWord place))))) (Ok b) is) [
      | inl hit ↦
          let on = once_is place r.object.sgid (flagged (put_sgid r (Some (not turned)))) b hit.1 in
          let none = on.0 in
          subst (λ w. ObjectRest r.subject r.object (marked turned (w ∷ ws)) rule) (sym (same_text w (codes "sgid") hit.0))
          (file_more (marked turned (codes "sgid" ∷ [])) turned (codes "sgid" ∷ []) r (record r.object { sgid = Some (not turned) }) ws rule refl (turned, inr (inl (refl, none, refl)))
          (came (next.Test Object) (put_sgid r (Some (not turned))) b ws rule on.1 after))
      | inr miss ↦ uid_of_subject_step place turned r w b ws rule miss.1 after
    ]

suid_step : (place : ℕ) (turned : Bool) (r : Rule) (w : List ℕ) (b : Begun) (ws : Words) (rule : Rule)
    → cond (bytes_eq w (codes "suid")) (once place r.object.suid (flagged (put_suid r (Some (not turned))))) (cond (bytes_eq w (codes "sgid")) (once place r.object.sgid (flagged (put_sgid r (Some (not turned))))) (cond (bytes_eq w (codes "uid_of_subject")) (once place r.object.uid_of_subject (flagged (put_uid_of_subject r (Some (not turned))))) (cond (bytes_eq w (codes "gid_of_subject")) (once place r.object.gid_of_subject (flagged (put_gid_of_subject r (Some (not turned))))) (cond (bytes_eq w (codes "type")) (once place r.object.types (reads_on (next.Types turned) r)) (Err (UnknownWord place)))))) ≡ Ok b
    → After b ws rule → ObjectRest r.subject r.object (marked turned (w ∷ ws)) rule
suid_step place turned r w b ws rule is after =
    elim (way (bytes_eq w (codes "suid")) (once place r.object.suid (flagged (put_suid r (Some (not turned))))) (cond (bytes_eq w (codes "sgid")) (once place r.object.sgid (flagged (put_sgid r (Some (not turned))))) (cond (bytes_eq w (codes "uid_of_subject")) (once place r.object.uid_of_subject (flagged (put_uid_of_subject r (Some (not turned))))) (cond (bytes_eq w (codes "gid_of_subject")) (once place r.object.gid_of_subject (flagged (put_gid_of_subject r (Some (not turned))))) (cond (bytes_eq w (codes "type")) (once place r.object.types (reads_on (next.Types turned) r)) (Err (UnknownWord place)))))) (Ok b) is) [
      | inl hit ↦
          let on = once_is place r.object.suid (flagged (put_suid r (Some (not turned)))) b hit.1 in
          let none = on.0 in
          subst (λ w. ObjectRest r.subject r.object (marked turned (w ∷ ws)) rule) (sym (same_text w (codes "suid") hit.0))
          (file_more (marked turned (codes "suid" ∷ [])) turned (codes "suid" ∷ []) r (record r.object { suid = Some (not turned) }) ws rule refl (turned, inl (refl, none, refl))
          (came (next.Test Object) (put_suid r (Some (not turned))) b ws rule on.1 after))
      | inr miss ↦ sgid_step place turned r w b ws rule miss.1 after
    ]

file_step : (place : ℕ) (turned : Bool) (r : Rule) (w : List ℕ) (b : Begun) (ws : Words) (rule : Rule) → file_test place turned r w ≡ Ok b → After b ws rule → ObjectRest r.subject r.object (marked turned (w ∷ ws)) rule
unfolding file_test
file_step place turned r w b ws rule is after = suid_step place turned r w b ws rule is after

other_step : (part : Part) (place : ℕ) (turned : Bool) (r : Rule) (w : List ℕ) (b : Begun) (ws : Words) (rule : Rule) → other_test part place turned r w ≡ Ok b → After b ws rule → PartRest part r (marked turned (w ∷ ws)) rule
other_step Subject place turned r w b ws rule is after = absurd cc
other_step Object place turned r w b ws rule is after = file_step place turned r w b ws rule is after

gid_step : (part : Part) (place : ℕ) (turned : Bool) (r : Rule) (w : List ℕ) (b : Begun) (ws : Words) (rule : Rule)
    → cond (bytes_eq w (codes "gid")) (once place (side_of part r).gid (reads_on (next.Gid part turned) r)) (other_test part place turned r w) ≡ Ok b → After b ws rule → PartRest part r (marked turned (w ∷ ws)) rule
gid_step part place turned r w b ws rule is after =
    elim (way (bytes_eq w (codes "gid")) (once place (side_of part r).gid (reads_on (next.Gid part turned) r)) (other_test part place turned r w) (Ok b) is) [
      | inl hit ↦
          let on = once_is place (side_of part r).gid (reads_on (next.Gid part turned) r) b hit.1 in
          subst (λ w. PartRest part r (marked turned (w ∷ ws)) rule) (sym (same_text w (codes "gid") hit.0)) (came (next.Gid part turned) r b ws rule on.1 after on.0)
      | inr miss ↦ other_step part place turned r w b ws rule miss.1 after
    ]

uid_step : (part : Part) (place : ℕ) (turned : Bool) (r : Rule) (w : List ℕ) (b : Begun) (ws : Words) (rule : Rule)
    → cond (bytes_eq w (codes "uid")) (once place (side_of part r).uid (reads_on (next.Uid part turned) r)) (cond (bytes_eq w (codes "gid")) (once place (side_of part r).gid (reads_on (next.Gid part turned) r)) (other_test part place turned r w)) ≡ Ok b → After b ws rule → PartRest part r (marked turned (w ∷ ws)) rule
uid_step part place turned r w b ws rule is after =
    elim (way (bytes_eq w (codes "uid")) (once place (side_of part r).uid (reads_on (next.Uid part turned) r)) (cond (bytes_eq w (codes "gid")) (once place (side_of part r).gid (reads_on (next.Gid part turned) r)) (other_test part place turned r w)) (Ok b) is) [
      | inl hit ↦
          let on = once_is place (side_of part r).uid (reads_on (next.Uid part turned) r) b hit.1 in
          subst (λ w. PartRest part r (marked turned (w ∷ ws)) rule) (sym (same_text w (codes "uid") hit.0)) (came (next.Uid part turned) r b ws rule on.1 after on.0)
      | inr miss ↦ gid_step part place turned r w b ws rule miss.1 after
    ]

named_step : (part : Part) (place : ℕ) (turned : Bool) (r : Rule) (w : List ℕ) (b : Begun) (ws : Words) (rule : Rule) → test_named place part turned r w ≡ Ok b → After b ws rule → PartRest part r (marked turned (w ∷ ws)) rule
unfolding test_named
named_step part place turned r w b ws rule is after = uid_step part place turned r w b ws rule is after

-- ---- the end of a part
ended : (part : Part) (r : Rule) (ws : Words) (rule : Rule) → Holds (behind part) r ws rule → PartRest part r (closing_word part ∷ ws) rule
ended Subject r ws rule rest = λ bare.
    let first = rest bare in
    record {
      tests = [];
      object = first.object;
      letters = first.letters;
      parted = ap (λ ws. codes "object" ∷ ws) first.parted;
      each = sym first.is_subject;
      is_object = first.is_object;
      is_mode = first.is_mode;
    }
ended Object r ws rule rest =
    record {
      tests = [];
      letters = rest.letters;
      parted = ap (λ ws. codes "mode" ∷ ws) rest.parted;
      each = ap (λ rule. rule.object) rest.is;
      is_subject = sym (ap (λ rule. rule.subject) rest.is);
      is_mode = rest.is_mode ∙ ap (λ rule. Some rule.mode) rest.is;
    }

end_step : (part : Part) (place : ℕ) (r : Rule) (w : List ℕ) (b : Begun) (ws : Words) (rule : Rule)
    → cond (bytes_eq w (closing_word part)) (reads_on (behind part) r) (test_named place part false r w) ≡ Ok b → After b ws rule → PartRest part r (w ∷ ws) rule
end_step part place r w b ws rule is after =
    elim (way (bytes_eq w (closing_word part)) (reads_on (behind part) r) (test_named place part false r w) (Ok b) is) [
      | inl hit ↦ subst (λ w. PartRest part r (w ∷ ws) rule) (sym (same_text w (closing_word part) hit.0)) (ended part r ws rule (came (behind part) r b ws rule hit.1 after))
      | inr miss ↦ named_step part place false r w b ws rule miss.1 after
    ]

test_step : (part : Part) (place : ℕ) (r : Rule) (w : List ℕ) (b : Begun) (ws : Words) (rule : Rule) → tested place part r w ≡ Ok b → After b ws rule → PartRest part r (w ∷ ws) rule
unfolding tested
test_step part place r w b ws rule is after =
    elim (way (bytes_eq w (codes "!")) (reads_on (next.Name part) r) (cond (bytes_eq w (closing_word part)) (reads_on (behind part) r) (test_named place part false r w)) (Ok b) is) [
      | inl hit ↦ subst (λ w. PartRest part r (w ∷ ws) rule) (sym (same_text w (codes "!") hit.0)) (came (next.Name part) r b ws rule hit.1 after)
      | inr miss ↦ end_step part place r w b ws rule miss.1 after
    ]

-- ---- `not` stays as it is under tests
id_keeps : (test : Words) (before after : Side) → SpellsIdTest test before after → after.not ≡ before.not
id_keeps test before after (turned, w, ends, range, inl is) = ap (λ side. side.not) is.2
id_keeps test before after (turned, w, ends, range, inr is) = ap (λ side. side.not) is.2

ids_keep : (tests : List Words) (before after : Side) → SpellTests SpellsIdTest tests before after → after.not ≡ before.not
ids_keep [] before after same = sym (ap (λ side. side.not) same)
ids_keep (test ∷ tests) before after (mid, first, others) = ids_keep tests mid after others ∙ id_keeps test before mid first

object_keeps : (test : Words) (before after : ObjectSide) → SpellsObjectTest test before after → after.side.not ≡ before.side.not
object_keeps test before after (inl (side, spells, is)) = ap (λ object. object.side.not) is ∙ id_keeps test before.side side spells
object_keeps test before after (inr (turned, inl is)) = ap (λ object. object.side.not) is.2
object_keeps test before after (inr (turned, inr (inl is))) = ap (λ object. object.side.not) is.2
object_keeps test before after (inr (turned, inr (inr (inl is)))) = ap (λ object. object.side.not) is.2
object_keeps test before after (inr (turned, inr (inr (inr (inl is))))) = ap (λ object. object.side.not) is.2
object_keeps test before after (inr (turned, inr (inr (inr (inr (w, types, letters, words, none, is)))))) = ap (λ object. object.side.not) is

objects_keep : (tests : List Words) (before after : ObjectSide) → SpellTests SpellsObjectTest tests before after → after.side.not ≡ before.side.not
objects_keep [] before after same = sym (ap (λ object. object.side.not) same)
objects_keep (test ∷ tests) before after (mid, first, others) = objects_keep tests mid after others ∙ object_keeps test before mid first

-- ---- a part from its first word on
abbrev turned_words : Bool → Words → Words
turned_words turned words = cond turned (codes "not" ∷ words) words

turned_append : (turned : Bool) (a ws : Words) → turned_words turned a ++ ws ≡ turned_words turned (a ++ ws)
turned_append true a ws = refl
turned_append false a ws = refl

first_subject : (turned : Bool) (ws : Words) (rule : Rule) → SubjectRest (record no_tests { not = turned }) ws rule → FirstSubject (turned_words turned ws) rule
first_subject turned ws rule rest =
    let keeps = ids_keep rest.tests (record no_tests { not = turned }) rule.subject rest.each in
    let x = codes "object" ∷ rest.object ++ (codes "mode" ∷ rest.letters ∷ []) in
    record {
      subject = turned_words turned (flat rest.tests);
      object = rest.object;
      letters = rest.letters;
      parted = ap (turned_words turned) rest.parted ∙ sym (turned_append turned (flat rest.tests) x);
      is_own = record { tests = rest.tests; parted = ap (λ t. turned_words t (flat rest.tests)) (sym keeps); each = subst (λ t. SpellTests SpellsIdTest rest.tests (record no_tests { not = t }) rule.subject) (sym keeps) rest.each };
      is_object = rest.is_object;
      is_mode = rest.is_mode;
    }

first_object : (turned : Bool) (subject : Side) (ws : Words) (rule : Rule) → ObjectRest subject (record no_object_tests { side = record no_tests { not = turned } }) ws rule → FirstObject subject (turned_words turned ws) rule
first_object turned subject ws rule rest =
    let keeps = objects_keep rest.tests (record no_object_tests { side = record no_tests { not = turned } }) rule.object rest.each in
    record {
      object = turned_words turned (flat rest.tests);
      letters = rest.letters;
      parted = ap (turned_words turned) rest.parted ∙ sym (turned_append turned (flat rest.tests) (codes "mode" ∷ rest.letters ∷ []));
      is_object = record { tests = rest.tests; parted = ap (λ t. turned_words t (flat rest.tests)) (sym keeps); each = subst (λ t. SpellTests SpellsObjectTest rest.tests (record no_object_tests { side = record no_tests { not = t } }) rule.object) (sym keeps) rest.each };
      is_subject = rest.is_subject;
      is_mode = rest.is_mode;
    }

first_not : (part : Part) (r : Rule) (ws : Words) (rule : Rule) → PartRest part (with_not part r) ws rule → FirstRest part r (codes "not" ∷ ws) rule
first_not Subject r ws rule rest = λ bare. first_subject true ws rule (subst (λ r. r.object ≡ no_object_tests → SubjectRest (record r.subject { not = true }) ws rule) bare rest refl)
first_not Object r ws rule rest = λ bare. first_object true r.subject ws rule (subst (λ o. ObjectRest r.subject (record o { side = record o.side { not = true } }) ws rule) bare rest)

first_test : (part : Part) (r : Rule) (ws : Words) (rule : Rule) → PartRest part r ws rule → FirstRest part r ws rule
first_test Subject r ws rule rest = λ bare. first_subject false ws rule (subst (λ r. r.object ≡ no_object_tests → SubjectRest r.subject ws rule) bare rest refl)
first_test Object r ws rule rest = λ bare. first_object false r.subject ws rule (subst (λ o. ObjectRest r.subject o ws rule) bare rest)

-- ---- one word
step : (place : ℕ) (what : Next) (r : Rule) (w : List ℕ) (b : Begun) (ws : Words) (rule : Rule) → fitted place what r w ≡ Ok b → After b ws rule → Holds what r (w ∷ ws) rule
unfolding fitted
step place next.Start r w b ws rule is after =
    elim (way (bytes_eq w (codes "subject")) (reads_on (next.First Subject) r) (Err (UnknownWord place)) (Ok b) is) [
      | inl hit ↦ λ bare.
          let first = came (next.First Subject) r b ws rule hit.1 after bare in
          record {
            subject = first.subject;
            object = first.object;
            letters = first.letters;
            parted = ap (λ w. w ∷ ws) (same_text w (codes "subject") hit.0) ∙ ap (λ ws. codes "subject" ∷ ws) first.parted;
            is_subject = first.is_own;
            is_object = first.is_object;
            is_mode = first.is_mode;
          }
      | inr miss ↦ absurd (let no_way = miss.1 in cc)
    ]
step place (next.First part) r w b ws rule is after =
    elim (way (bytes_eq w (codes "not")) (reads_on (next.Test part) (with_not part r)) (tested place part r w) (Ok b) is) [
      | inl hit ↦ subst (λ w. FirstRest part r (w ∷ ws) rule) (sym (same_text w (codes "not") hit.0)) (first_not part r ws rule (came (next.Test part) (with_not part r) b ws rule hit.1 after))
      | inr miss ↦ first_test part r (w ∷ ws) rule (test_step part place r w b ws rule miss.1 after)
    ]
step place (next.Test part) r w b ws rule is after = test_step part place r w b ws rule is after
step place (next.Name part) r w b ws rule is after = named_step part place true r w b ws rule is after
step place (next.Uid part turned) r w b ws rule is after = λ none.
    let value = value_is (BadRange place) (id_range_in w) (λ ends. reads_on (next.Test part) (put_uid part r (Some (id_test turned ends)))) b is in
    uid_more part turned r w value.0 ws rule value.1 none (came (next.Test part) (put_uid part r (Some (id_test turned value.0))) b ws rule value.2 after)
step place (next.Gid part turned) r w b ws rule is after = λ none.
    let value = value_is (BadRange place) (id_range_in w) (λ ends. reads_on (next.Test part) (put_gid part r (Some (id_test turned ends)))) b is in
    gid_more part turned r w value.0 ws rule value.1 none (came (next.Test part) (put_gid part r (Some (id_test turned value.0))) b ws rule value.2 after)
step place (next.Types turned) r w b ws rule is after = λ none.
    let value = value_is (BadType place) (types_in w) (λ types. reads_on (next.Test Object) (put_types r (Some (type_test turned types)))) b is in
    file_more (marked turned (codes "type" ∷ w ∷ [])) turned (codes "type" ∷ w ∷ []) r (record r.object { types = Some (type_test turned value.0) }) ws rule refl
    (turned, inr (inr (inr (inr (w, value.0, value.1, refl, none, refl)))))
    (came (next.Test Object) (put_types r (Some (type_test turned value.0))) b ws rule value.2 after)
step place next.Letters r w b ws rule is after =
    let value = value_is (BadMode place) (mode_in w) (λ mode. reads_on next.End (record r { mode = mode })) b is in
    let end = came next.End (record r { mode = value.0 }) b ws rule value.2 after in
    record { letters = w; parted = ap (λ ws. w ∷ ws) end.0; mode = value.0; is_mode = value.1; is = end.1 }
step place next.End r w b ws rule is after = absurd cc

-- ---- whole rules
done : (place : ℕ) (what : Next) (r rule : Rule) → read_from place (begun what r) [] ≡ Ok rule → Holds what r [] rule
unfolding read_from
done place next.Start r rule is = absurd cc
done place (next.First part) r rule is = absurd cc
done place (next.Test part) r rule is = absurd cc
done place (next.Name part) r rule is = absurd cc
done place (next.Uid part turned) r rule is = absurd cc
done place (next.Gid part turned) r rule is = absurd cc
done place (next.Types turned) r rule is = absurd cc
done place next.Letters r rule is = absurd cc
done place next.End r rule is = (refl, ok_rule r rule is)

held : (ws : Words) (place : ℕ) (what : Next) (r rule : Rule) → read_from place (begun what r) ws ≡ Ok rule → Holds what r ws rule
unfolding read_from
held [] place what r rule is = done place what r rule is
held (w ∷ ws) place what r rule is =
    let found = then_is (fitted place what r w) (λ more. read_from (place + 1) more ws) rule is in
    step place what r w found.0 ws rule found.1 (held ws (place + 1) found.0.next found.0.rule rule found.2)

pub read_is_spelled : (words : Words) (rule : Rule) → rule_in words ≡ Ok rule → SpellsRule words rule
unfolding rule_in
read_is_spelled words rule is = held words 0 next.Start no_rule rule is refl
