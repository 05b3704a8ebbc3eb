-- What the words behind those that are read stand for, by what comes next; and what is said of them with one test more in front.
use Rattle.std.proofs.Common.{◌≡◌, ◌⊎◌, ℕ, Bool, true, false, cond, List, [], ◌∷◌, ◌++◌, Option, Some, None, Ok, Err, codes, refl, sym, ap, ◌∙◌, subst, append_assoc, inl, inr}
use Rattle.std.specs.Str.{bytes_eq}
use Rattle.std.proofs.lemmas.Slice.Eq.{bytes_eq-Decides}
use Rattle.mf_rule.specs.declared.rule.Side.{Side}
use Rattle.mf_rule.specs.declared.rule.ObjectSide.{ObjectSide}
use Rattle.mf_rule.specs.declared.rule.Rule.{Rule}
use Rattle.mf_rule.specs.declared.begun.Part.{Part}
use Rattle.mf_rule.specs.declared.begun.Part.TheVariants.{Subject, Object}
use Rattle.mf_rule.specs.declared.begun.Next.{Next}
use Rattle.mf_rule.specs.declared.begun.Next.TheVariants as next
use Rattle.mf_rule.specs.declared.begun.Begun.{Begun}
use Rattle.mf_rule.specs.declared.fault.RuleFault.{RuleFault}
use Rattle.mf_rule.specs.Words.{id_range_in, mode_in}
use Rattle.mf_rule.specs.RuleGrammar.{SpellsIdTest, SpellsFileTest, SpellsObjectTest, SpellTests, SpellsRule}
use Rattle.mf_rule.proofs.Parts.{marked, SpellsSubject, SpellsObject}
use Rattle.mf_rule.specs.Parts.{Words, no_object_tests}
use Rattle.mf_text.specs.Results.{and_then}
use Rattle.mf_rule.specs.Reading.{OrFault, reads_on, once, by_value, side_of, id_test, no_rule}
use Rattle.mf_rule.proofs.Pieces.{begun, put_uid, put_gid}
use Rattle.mf_rule.proofs.Spelled.{flat}

-- ---- which way a test went
pub way : {A : Type 0} (b : Bool) (x y z : A) → cond b x y ≡ z → ((b ≡ true) × (x ≡ z)) ⊎ ((b ≡ false) × (y ≡ z))
way true x y z is = inl (refl, is)
way false x y z is = inr (refl, is)

pub same_text : (text word : List ℕ) → bytes_eq text word ≡ true → text ≡ word
same_text text word is = (bytes_eq-Decides text word).0 is

pub once_is : {A : Type 0} (place : ℕ) (test : Option A) (more : OrFault Begun) (b : Begun) → once place test more ≡ Ok b → (test ≡ None) × (more ≡ Ok b)
once_is place None more b is = (refl, is)
once_is place (Some test) more b is = absurd cc

pub value_is : {A : Type 0} (fault : RuleFault) (value : Option A) (more : A → OrFault Begun) (b : Begun) → by_value fault value more ≡ Ok b → (x : A) × (value ≡ Some x) × (more x ≡ Ok b)
value_is fault None more b is = absurd cc
value_is fault (Some x) more b is = (x, refl, is)

pub then_is : (read : OrFault Begun) (more : Begun → OrFault Rule) (rule : Rule) → and_then read more ≡ Ok rule → (b : Begun) × (read ≡ Ok b) × (more b ≡ Ok rule)
then_is (Ok b) more rule is = (b, refl, is)
then_is (Err fault) more rule is = absurd cc

pub marked_append : (turned : Bool) (a ws : Words) → marked turned a ++ ws ≡ marked turned (a ++ ws)
marked_append true a ws = refl
marked_append false a ws = refl

-- ---- what the words behind stand for, by what comes next
-- tests of the subject, and all behind them
pub record SubjectRest (before : Side) (ws : Words) (rule : Rule) : Type 0 where
  pub tests : List Words
  pub object : Words
  pub letters : List ℕ
  pub parted : ws ≡ flat tests ++ (codes "object" ∷ object ++ (codes "mode" ∷ letters ∷ []))
  pub each : SpellTests SpellsIdTest tests before rule.subject
  pub is_object : SpellsObject object rule.object
  pub is_mode : mode_in letters ≡ Some rule.mode

pub record ObjectRest (subject : Side) (before : ObjectSide) (ws : Words) (rule : Rule) : Type 0 where
  pub tests : List Words
  pub letters : List ℕ
  pub parted : ws ≡ flat tests ++ (codes "mode" ∷ letters ∷ [])
  pub each : SpellTests SpellsObjectTest tests before rule.object
  pub is_subject : rule.subject ≡ subject
  pub is_mode : mode_in letters ≡ Some rule.mode

pub record FirstSubject (ws : Words) (rule : Rule) : Type 0 where
  pub subject : Words
  pub object : Words
  pub letters : List ℕ
  pub parted : ws ≡ subject ++ (codes "object" ∷ object ++ (codes "mode" ∷ letters ∷ []))
  pub is_own : SpellsSubject subject rule.subject
  pub is_object : SpellsObject object rule.object
  pub is_mode : mode_in letters ≡ Some rule.mode

pub record FirstObject (subject : Side) (ws : Words) (rule : Rule) : Type 0 where
  pub object : Words
  pub letters : List ℕ
  pub parted : ws ≡ object ++ (codes "mode" ∷ letters ∷ [])
  pub is_object : SpellsObject object rule.object
  pub is_subject : rule.subject ≡ subject
  pub is_mode : mode_in letters ≡ Some rule.mode

pub record LettersRest (r : Rule) (ws : Words) (rule : Rule) : Type 0 where
  pub letters : List ℕ
  pub parted : ws ≡ letters ∷ []
  pub mode : ℕ
  pub is_mode : mode_in letters ≡ Some mode
  pub is : record r { mode = mode } ≡ rule

abbrev pub PartRest : Part → Rule → Words → Rule → Type 0
PartRest Subject r ws rule = r.object ≡ no_object_tests → SubjectRest r.subject ws rule
PartRest Object r ws rule = ObjectRest r.subject r.object ws rule

abbrev pub FirstRest : Part → Rule → Words → Rule → Type 0
FirstRest Subject r ws rule = r ≡ no_rule → FirstSubject ws rule
FirstRest Object r ws rule = r.object ≡ no_object_tests → FirstObject r.subject ws rule

abbrev pub Holds : Next → Rule → Words → Rule → Type 0
Holds next.Start r ws rule = r ≡ no_rule → SpellsRule ws rule
Holds (next.First part) r ws rule = FirstRest part r ws rule
Holds (next.Test part) r ws rule = PartRest part r ws rule
Holds (next.Name part) r ws rule = PartRest part r (codes "!" ∷ ws) rule
Holds (next.Uid part turned) r ws rule = (side_of part r).uid ≡ None → PartRest part r (marked turned (codes "uid" ∷ ws)) rule
Holds (next.Gid part turned) r ws rule = (side_of part r).gid ≡ None → PartRest part r (marked turned (codes "gid" ∷ ws)) rule
Holds (next.Types turned) r ws rule = r.object.types ≡ None → PartRest Object r (marked turned (codes "type" ∷ ws)) rule
Holds next.Letters r ws rule = LettersRest r ws rule
Holds next.End r ws rule = (ws ≡ []) × (r ≡ rule)

abbrev pub After : Begun → Words → Rule → Type 0
After b ws rule = Holds b.next b.rule ws rule

abbrev pub ok : {A : Type 0} → A → OrFault A
ok x = Ok x

pub ok_is : (b c : Begun) → ok b ≡ ok c → b ≡ c
ok_is b c is = cc

pub ok_rule : (r s : Rule) → ok r ≡ ok s → r ≡ s
ok_rule r s is = cc

pub came : (what : Next) (r : Rule) (b : Begun) (ws : Words) (rule : Rule) → reads_on what r ≡ Ok b → After b ws rule → Holds what r ws rule
came what r b ws rule is after = subst (λ b. After b ws rule) (sym (ok_is (begun what r) b is)) after

-- ---- one test more in front
pub subject_more : (test : Words) (before mid : Side) (ws : Words) (rule : Rule) → SpellsIdTest test before mid → SubjectRest mid ws rule → SubjectRest before (test ++ ws) rule
subject_more test before mid ws rule spells rest =
    record {
      tests = test ∷ rest.tests;
      object = rest.object;
      letters = rest.letters;
      parted = ap (λ ws. test ++ ws) rest.parted ∙ sym (append_assoc test (flat rest.tests) (codes "object" ∷ rest.object ++ (codes "mode" ∷ rest.letters ∷ [])));
      each = (mid, spells, rest.each);
      is_object = rest.is_object;
      is_mode = rest.is_mode;
    }

pub object_more : (test : Words) (subject : Side) (before mid : ObjectSide) (ws : Words) (rule : Rule) → SpellsObjectTest test before mid → ObjectRest subject mid ws rule → ObjectRest subject before (test ++ ws) rule
object_more test subject before mid ws rule spells rest =
    record {
      tests = test ∷ rest.tests;
      letters = rest.letters;
      parted = ap (λ ws. test ++ ws) rest.parted ∙ sym (append_assoc test (flat rest.tests) (codes "mode" ∷ rest.letters ∷ []));
      each = (mid, spells, rest.each);
      is_subject = rest.is_subject;
      is_mode = rest.is_mode;
    }

pub uid_more : (part : Part) (turned : Bool) (r : Rule) (w : List ℕ) (ends : ℕ × ℕ) (ws : Words) (rule : Rule) → id_range_in w ≡ Some ends → (side_of part r).uid ≡ None
    → PartRest part (put_uid part r (Some (id_test turned ends))) ws rule → PartRest part r (marked turned (codes "uid" ∷ w ∷ ws)) rule
uid_more Subject turned r w ends ws rule is none rest = λ bare.
    subst (λ ws. SubjectRest r.subject ws rule) (marked_append turned (codes "uid" ∷ w ∷ []) ws)
    (subject_more (marked turned (codes "uid" ∷ w ∷ [])) r.subject (record r.subject { uid = Some (id_test turned ends) }) ws rule (turned, w, ends, is, inl (refl, none, refl)) (rest bare))
uid_more Object turned r w ends ws rule is none rest =
    subst (λ ws. ObjectRest r.subject r.object ws rule) (marked_append turned (codes "uid" ∷ w ∷ []) ws)
    (object_more (marked turned (codes "uid" ∷ w ∷ [])) r.subject r.object (record r.object { side = record r.object.side { uid = Some (id_test turned ends) } }) ws rule
    (inl (record r.object.side { uid = Some (id_test turned ends) }, (turned, w, ends, is, inl (refl, none, refl)), refl)) rest)

pub gid_more : (part : Part) (turned : Bool) (r : Rule) (w : List ℕ) (ends : ℕ × ℕ) (ws : Words) (rule : Rule) → id_range_in w ≡ Some ends → (side_of part r).gid ≡ None
    → PartRest part (put_gid part r (Some (id_test turned ends))) ws rule → PartRest part r (marked turned (codes "gid" ∷ w ∷ ws)) rule
gid_more Subject turned r w ends ws rule is none rest = λ bare.
    subst (λ ws. SubjectRest r.subject ws rule) (marked_append turned (codes "gid" ∷ w ∷ []) ws)
    (subject_more (marked turned (codes "gid" ∷ w ∷ [])) r.subject (record r.subject { gid = Some (id_test turned ends) }) ws rule (turned, w, ends, is, inr (refl, none, refl)) (rest bare))
gid_more Object turned r w ends ws rule is none rest =
    subst (λ ws. ObjectRest r.subject r.object ws rule) (marked_append turned (codes "gid" ∷ w ∷ []) ws)
    (object_more (marked turned (codes "gid" ∷ w ∷ [])) r.subject r.object (record r.object { side = record r.object.side { gid = Some (id_test turned ends) } }) ws rule
    (inl (record r.object.side { gid = Some (id_test turned ends) }, (turned, w, ends, is, inr (refl, none, refl)), refl)) rest)

pub file_more : (test : Words) (turned : Bool) (a : Words) (r : Rule) (mid : ObjectSide) (ws : Words) (rule : Rule) → test ≡ marked turned a → SpellsFileTest test r.object mid
    → ObjectRest r.subject mid ws rule → ObjectRest r.subject r.object (marked turned (a ++ ws)) rule
file_more test turned a r mid ws rule is spells rest =
    subst (λ ws. ObjectRest r.subject r.object ws rule) (ap (λ t. t ++ ws) is ∙ marked_append turned a ws) (object_more test r.subject r.object mid ws rule (inr spells) rest)
