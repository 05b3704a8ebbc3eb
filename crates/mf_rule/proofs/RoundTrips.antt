-- The canonical text of a rule, read back piece after piece.
use Rattle.std.proofs.Common.{◌≡◌, ℕ, ◌+◌, Bool, true, false, not, sym, List, [], ◌∷◌, ◌++◌, Option, Some, None, Ok, codes, refl, ap, ◌∙◌, append-nil, append_assoc}
use Rattle.mf_labeltext.specs.Reading.{parts}
use Rattle.mf_labeltext.proofs.Cutting.{IsFree}
use Rattle.mf_rule.specs.declared.rule.Side.{Side}
use Rattle.mf_rule.specs.declared.rule.ObjectSide.{ObjectSide}
use Rattle.mf_rule.specs.declared.rule.IdTest.{IdTest}
use Rattle.mf_rule.specs.declared.rule.TypeTest.{TypeTest}
use Rattle.mf_rule.specs.declared.rule.Rule.{Rule}
use Rattle.mf_rule.specs.declared.begun.Part.TheVariants.{Subject, Object}
use Rattle.mf_rule.specs.declared.begun.Next.TheVariants as next
use Rattle.mf_rule.specs.Parts.{no_object_tests}
use Rattle.mf_rule.specs.Words.{mode_letters, type_letters}
use Rattle.mf_rule.specs.Canonical.{not_text, id_text, side_text, flag_text, flags_text, types_text, object_text, rule_text, id_range_text, letters_text}
use Rattle.mf_rule.specs.RoundTrip.{AreRanges, IsInBounds}
use Rattle.mf_rule.specs.Reading.{no_rule, nothing_read, rule_in, read_from, fitted}
use Rattle.mf_rule.proofs.Pieces.{tail, Led, word_then, free_by, begun, open_at, On, on_trans, on_words, uid_piece, gid_piece, put_uid, put_gid}
use Rattle.mf_rule.proofs.Letters.{mode_back}
use Rattle.mf_rule.proofs.FilePieces.{Ends, then_piece, led_mark, led_append, put_not, not_piece, object_step, mode_step, letters_step, put_suid, suid_piece, put_sgid, sgid_piece, put_uid_of_subject, uid_of_subject_piece, put_gid_of_subject, gid_of_subject_piece, types_piece}

led_alone : (w : List ℕ) (test : Option IdTest) → ((r : List ℕ) → Led (w ++ r)) → Led (id_text w test)
led_alone w None more = tt
led_alone w (Some test) more = led_mark test.not (w ++ id_range_text test.least test.greatest) (more (id_range_text test.least test.greatest))

led_id : (w : List ℕ) (test : Option IdTest) (x : List ℕ) → Led x → ((r : List ℕ) → Led (w ++ r)) → Led (id_text w test ++ x)
led_id w test x led more = led_append (id_text w test) x (led_alone w test more) led

led_flag : (w : List ℕ) → Led w → (wanted : Option Bool) → (x : List ℕ) → Led x → Led (flag_text w wanted ++ x)
led_flag w led None x led_x = led_x
led_flag w led (Some wanted) x led_x = led_append (flag_text w (Some wanted)) x (led_mark (not wanted) w led) led_x

led_types_alone : (test : Option TypeTest) → Led (types_text test)
led_types_alone None = tt
led_types_alone (Some test) = led_mark test.not (codes " type " ++ letters_text type_letters test.types) refl

led_types : (test : Option TypeTest) (x : List ℕ) → Led x → Led (types_text test ++ x)
led_types None x led_x = led_x
led_types (Some test) x led_x = led_append (types_text (Some test)) x (led_mark test.not (codes " type " ++ letters_text type_letters test.types) refl) led_x

led_bare : (wanted : Option Bool) → Led (flag_text (codes " gid_of_subject") wanted)
led_bare None = tt
led_bare (Some wanted) = led_mark (not wanted) (codes " gid_of_subject") refl

led_not : (turned : Bool) (x : List ℕ) → Led x → Led (not_text turned ++ x)
led_not true x led = refl
led_not false x led = led

led_side : (side : Side) (x : List ℕ) → Led x → Led (side_text side ++ x)
led_side side x led =
    let u = id_text (codes " uid ") side.uid in
    let g = id_text (codes " gid ") side.gid in
    led_append (side_text side) x (led_not side.not (u ++ g) (led_append u g (led_alone (codes " uid ") side.uid (λ r. refl)) (led_alone (codes " gid ") side.gid (λ r. refl)))) led

alone : (w : List ℕ) → IsFree 32 w → parts 32 w ≡ w ∷ []
alone w free = ap (parts 32) (sym (append-nil w)) ∙ word_then w [] free tt

-- ---- the part of the subject, and the ids of the object
abbrev with_subject : Side → Rule
with_subject side = record no_rule { subject = side }

abbrev with_object : Side → ObjectSide → Rule
with_object side object = record (with_subject side) { object = object }

subject_back : (side : Side) (x : List ℕ) → Led x → AreRanges side → Ends (begun (next.First Subject) no_rule) (tail (side_text side ++ x)) Subject (with_subject side) (tail x)
subject_back side x led ok =
    let n = not_text side.not in
    let u = id_text (codes " uid ") side.uid in
    let g = id_text (codes " gid ") side.gid in
    let r = put_not Subject no_rule side.not in
    let s = put_uid Subject r side.uid in
    let t = put_gid Subject s side.gid in
    let led_g : Led (g ++ x) = led_id (codes " gid ") side.gid x led (λ r. refl) in
    let led_u : Led (u ++ (g ++ x)) = led_id (codes " uid ") side.uid (g ++ x) led_g (λ r. refl) in
    let start = begun (next.First Subject) no_rule in
    let whole = then_piece start (tail (n ++ (u ++ (g ++ x)))) (tail (u ++ (g ++ x))) (tail x) Subject r t
    (not_piece Subject no_rule side.not (u ++ (g ++ x)) led_u refl)
    (λ b. then_piece (begun (open_at Subject b) r) (tail (u ++ (g ++ x))) (tail (g ++ x)) (tail x) Subject s t
    (uid_piece Subject b r side.uid (g ++ x) led_g refl ok.uid)
    (λ c. gid_piece Subject c s side.gid x led refl ok.gid)) in (
      whole.0,
      on_words start (begun (open_at Subject whole.0) t) (tail ((n ++ (u ++ g)) ++ x)) (tail (n ++ (u ++ (g ++ x)))) (tail x)
          (ap tail (append_assoc n (u ++ g) x ∙ ap (λ t. n ++ t) (append_assoc u g x))) whole.1,
    )

ids_back : (subject : Side) (side : Side) (x : List ℕ) → Led x → AreRanges side → Ends (begun (next.First Object) (with_subject subject)) (tail (side_text side ++ x)) Object (with_object subject (record no_object_tests { side = side })) (tail x)
ids_back subject side x led ok =
    let n = not_text side.not in
    let u = id_text (codes " uid ") side.uid in
    let g = id_text (codes " gid ") side.gid in
    let r = put_not Object (with_subject subject) side.not in
    let s = put_uid Object r side.uid in
    let t = put_gid Object s side.gid in
    let led_g : Led (g ++ x) = led_id (codes " gid ") side.gid x led (λ r. refl) in
    let led_u : Led (u ++ (g ++ x)) = led_id (codes " uid ") side.uid (g ++ x) led_g (λ r. refl) in
    let start = begun (next.First Object) (with_subject subject) in
    let whole = then_piece start (tail (n ++ (u ++ (g ++ x)))) (tail (u ++ (g ++ x))) (tail x) Object r t
    (not_piece Object (with_subject subject) side.not (u ++ (g ++ x)) led_u refl)
    (λ b. then_piece (begun (open_at Object b) r) (tail (u ++ (g ++ x))) (tail (g ++ x)) (tail x) Object s t
    (uid_piece Object b r side.uid (g ++ x) led_g refl ok.uid)
    (λ c. gid_piece Object c s side.gid x led refl ok.gid)) in (
      whole.0,
      on_words start (begun (open_at Object whole.0) t) (tail ((n ++ (u ++ g)) ++ x)) (tail (n ++ (u ++ (g ++ x)))) (tail x)
          (ap tail (append_assoc n (u ++ g) x ∙ ap (λ t. n ++ t) (append_assoc u g x))) whole.1,
    )

-- ---- the other tests of the object
flags_back : (b : Bool) (subject : Side) (object : ObjectSide) (x : List ℕ) → Led x
    → Ends (begun (open_at Object b) (with_object subject (record no_object_tests { side = object.side }))) (tail (flags_text object ++ x)) Object (with_object subject (record object { types = None })) (tail x)
flags_back b subject object x led =
    let q = with_object subject (record no_object_tests { side = object.side }) in
    let r = put_suid q object.suid in
    let s = put_sgid r object.sgid in
    let t = put_uid_of_subject s object.uid_of_subject in
    let z = put_gid_of_subject t object.gid_of_subject in
    let f = flag_text (codes " suid") object.suid in
    let g = flag_text (codes " sgid") object.sgid in
    let h = flag_text (codes " uid_of_subject") object.uid_of_subject in
    let i = flag_text (codes " gid_of_subject") object.gid_of_subject in
    let led_i : Led (i ++ x) = led_flag (codes " gid_of_subject") refl object.gid_of_subject x led in
    let led_h : Led (h ++ (i ++ x)) = led_flag (codes " uid_of_subject") refl object.uid_of_subject (i ++ x) led_i in
    let led_g : Led (g ++ (h ++ (i ++ x))) = led_flag (codes " sgid") refl object.sgid (h ++ (i ++ x)) led_h in
    let start = begun (open_at Object b) q in
    let whole = then_piece start (tail (f ++ (g ++ (h ++ (i ++ x))))) (tail (g ++ (h ++ (i ++ x)))) (tail x) Object r z
    (suid_piece b q object.suid (g ++ (h ++ (i ++ x))) led_g refl)
    (λ b. then_piece (begun (open_at Object b) r) (tail (g ++ (h ++ (i ++ x)))) (tail (h ++ (i ++ x))) (tail x) Object s z
    (sgid_piece b r object.sgid (h ++ (i ++ x)) led_h refl)
    (λ b. then_piece (begun (open_at Object b) s) (tail (h ++ (i ++ x))) (tail (i ++ x)) (tail x) Object t z
    (uid_of_subject_piece b s object.uid_of_subject (i ++ x) led_i refl)
    (λ b. gid_of_subject_piece b t object.gid_of_subject x led refl))) in (
      whole.0,
      on_words start (begun (open_at Object whole.0) z) (tail ((f ++ (g ++ (h ++ i))) ++ x)) (tail (f ++ (g ++ (h ++ (i ++ x))))) (tail x)
          (ap tail (append_assoc f (g ++ (h ++ i)) x ∙ ap (λ t. f ++ t) (append_assoc g (h ++ i) x ∙ ap (λ t. g ++ t) (append_assoc h i x)))) whole.1,
    )

led_flags : (object : ObjectSide) (x : List ℕ) → Led x → Led (flags_text object ++ x)
led_flags object x led =
    let i = flag_text (codes " gid_of_subject") object.gid_of_subject in
    let h = flag_text (codes " uid_of_subject") object.uid_of_subject in
    let g = flag_text (codes " sgid") object.sgid in
    let f = flag_text (codes " suid") object.suid in
    led_append (f ++ (g ++ (h ++ i))) x
    (led_flag (codes " suid") refl object.suid (g ++ (h ++ i))
    (led_flag (codes " sgid") refl object.sgid (h ++ i) (led_flag (codes " uid_of_subject") refl object.uid_of_subject i (led_bare object.gid_of_subject)))) led

object_back : (rule : Rule) (x : List ℕ) → Led x → IsInBounds rule
    → Ends (begun (next.First Object) (with_subject rule.subject)) (tail (object_text rule.object ++ x)) Object (with_object rule.subject rule.object) (tail x)
object_back rule x led ok =
    let object = rule.object in
    let s = side_text object.side in
    let f = flags_text object in
    let t = types_text object.types in
    let q = with_object rule.subject (record no_object_tests { side = object.side }) in
    let r = with_object rule.subject (record object { types = None }) in
    let z = with_object rule.subject object in
    let led_t : Led (t ++ x) = led_types object.types x led in
    let led_f : Led (f ++ (t ++ x)) = led_flags object (t ++ x) led_t in
    let start = begun (next.First Object) (with_subject rule.subject) in
    let whole = then_piece start (tail (s ++ (f ++ (t ++ x)))) (tail (f ++ (t ++ x))) (tail x) Object q z
    (ids_back rule.subject object.side (f ++ (t ++ x)) led_f ok.object)
    (λ b. then_piece (begun (open_at Object b) q) (tail (f ++ (t ++ x))) (tail (t ++ x)) (tail x) Object r z
    (flags_back b rule.subject object (t ++ x) led_t)
    (λ b. types_piece b r object.types x led refl ok.types)) in (
      whole.0,
      on_words start (begun (open_at Object whole.0) z) (tail ((s ++ (f ++ t)) ++ x)) (tail (s ++ (f ++ (t ++ x)))) (tail x)
          (ap tail (append_assoc s (f ++ t) x ∙ ap (λ t. s ++ t) (append_assoc f t x))) whole.1,
    )

led_object : (object : ObjectSide) (x : List ℕ) → Led x → Led (object_text object ++ x)
led_object object x led =
    let rest = flags_text object ++ types_text object.types in
    led_append (object_text object) x (led_side object.side rest (led_flags object (types_text object.types) (led_types_alone object.types))) led

-- ---- the whole text
pub begins : (ws : List (List ℕ)) → On nothing_read (codes "subject" ∷ ws) (begun (next.First Subject) no_rule) ws
unfolding read_from fitted
begins ws = λ place. (place + 1, refl)

pub ends : (rule : Rule) (place : ℕ) → read_from place (begun next.End rule) [] ≡ Ok rule
unfolding read_from
ends rule place = refl

text_back : (rule : Rule) → IsInBounds rule → On nothing_read (parts 32 (rule_text rule)) (begun next.End rule) []
unfolding rule_text
text_back rule ok =
    let s = side_text rule.subject in
    let o = object_text rule.object in
    let m = letters_text mode_letters rule.mode in
    let letters = mode_back rule.mode ok.mode in
    let y = codes " mode " ++ m in
    let x = codes " object" ++ (o ++ y) in
    let q = with_subject rule.subject in
    let z = with_object rule.subject rule.object in
    let start = begun (next.First Subject) no_rule in
    let end = begun next.End rule in
    let subject = subject_back rule.subject x refl ok.subject in
    let object = object_back rule y refl ok in
    let last = m ∷ [] in
    on_words nothing_read end (parts 32 ((codes "subject" ++ s) ++ ((codes " object" ++ o) ++ y))) (codes "subject" ∷ tail (s ++ x)) []
    (word_then (codes "subject") (s ++ x) (free_by (codes "subject") refl) (led_side rule.subject x refl))
    (on_trans nothing_read start end (codes "subject" ∷ tail (s ++ x)) (tail (s ++ x)) [] (begins (tail (s ++ x)))
    (on_trans start (begun (open_at Subject subject.0) q) end (tail (s ++ x)) (tail x) [] subject.1
    (on_words (begun (open_at Subject subject.0) q) end (tail x) (codes "object" ∷ tail (o ++ y)) [] (word_then (codes "object") (o ++ y) (free_by (codes "object") refl) (led_object rule.object y refl))
    (on_trans (begun (open_at Subject subject.0) q) (begun (next.First Object) q) end (codes "object" ∷ tail (o ++ y)) (tail (o ++ y)) [] (object_step subject.0 q (tail (o ++ y)))
    (on_trans (begun (next.First Object) q) (begun (open_at Object object.0) z) end (tail (o ++ y)) (tail y) [] object.1
    (on_words (begun (open_at Object object.0) z) end (tail y) (codes "mode" ∷ last) []
    (word_then (codes "mode") (32 ∷ m) (free_by (codes "mode") refl) refl ∙ ap (λ ws. codes "mode" ∷ ws) (alone m letters.1))
    (on_trans (begun (open_at Object object.0) z) (begun next.Letters z) end (codes "mode" ∷ last) last [] (mode_step object.0 z last) (letters_step z m rule.mode [] letters.0))))))))

pub text_reads : (rule : Rule) → IsInBounds rule → rule_in (parts 32 (rule_text rule)) ≡ Ok rule
unfolding rule_in
text_reads rule ok = let on = text_back rule ok 0 in on.1 ∙ ends rule on.0
