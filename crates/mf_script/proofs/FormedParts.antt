-- What the grammar reads of a word is well formed.
use Rattle.std.proofs.Common.{All, ◌≡◌, ℕ, suc, ◌+◌, ◌<◌, arith, length-append, ◌==◌, ◌≤◌, ◌||◌, Bool, true, false, if◌then◌else◌, List, [], ◌∷◌, ◌++◌, length, Option, Some, None, Result, Ok, Err, refl, subst, ap, ◌∙◌, lit≤}
use Rattle.std.specs.Prelude.{nat_lt, codes}
use Rattle.std.specs.List.{slice_split}
use Rattle.std.specs.Str.{byte, bytes_eq}
use Rattle.std.specs.Char.{is_ascii_graphic}
use Rattle.std.proofs.lemmas.Bool.{ltb-true}
use Rattle.std.proofs.lemmas.List.Splits.{length-slice_split}
use Rattle.std.proofs.lemmas.List.Elements.{All-nil, All-cons, All-head, All-tail, All-push}
use Rattle.mf_errno.specs.declared.module.Module.{Module}
use Rattle.mf_elem.specs.Label.{no_request}
use Rattle.mf_elem.specs.Bounds.{IsRequest}
use Rattle.mf_elem.specs.declared.label.Request.{Request}
use Rattle.mf_text.specs.Number.{number_in}
use Rattle.mf_text.specs.declared.number.NumberFault.{NumberFault}
use Rattle.mf_text.specs.Escape.{bytes_of}
use Rattle.mf_labeltext.specs.declared.fault.LabelFault.{LabelFault}
use Rattle.mf_labeltext.specs.Reading.{request_in, cut, parts}
use Rattle.mf_labeltext.proofs.Cutting.{IsCut, cut_is}
use Rattle.mf_labeltext.proofs.Requests.{request_spells}
use Rattle.mf_labeltext.proofs.Formed.{spelled_is_request}
use Rattle.mf_names.specs.declared.limits.TheConstants.{MOST_DESCRIPTORS, PATH_LIMIT}
use Rattle.mf_cred.specs.declared.cred.TheConstants.{MOST_GROUPS}
use Rattle.mf_item.specs.declared.view.Kind.{Kind}
use Rattle.mf_rule.specs.declared.fault.RuleFault.{RuleFault}
use Rattle.mf_rule.specs.declared.rule.Rule.{Rule}
use Rattle.mf_rule.specs.declared.rule_list.TheConstants.{MAX_RULES}
use Rattle.mf_rule.specs.declared.ports.TheConstants.{LAST_PORT}
use Rattle.mf_rule.specs.Reading.{rule_in}
use Rattle.mf_rule.specs.RuleGrammar.{IsRule}
use Rattle.mf_rule.proofs.Formed.{read_is_rule}
use Rattle.mf_words.specs.Words.{Words}
use Rattle.mf_calls.specs.declared.limits.TheConstants.{UID_MAX, MODE_LIMIT}
use Rattle.mf_names.specs.declared.limits.TheConstants.{SCRIPT_LIMIT}
use Rattle.mf_calls.specs.Names.{is_name, is_process_name, is_component}
use Rattle.mf_calls.specs.WellFormed.{IsWord, IsPrintable, IsAsked, IsPath, IsText}
use Rattle.mf_script.specs.declared.error.ScriptFault.TheVariants.{UnknownWord, Missing, BadNumber, BadLabel, BadRule, BadText}
use Rattle.mf_script.specs.Readers.{Read, fails, or_fault, by_option}
use Rattle.mf_script.specs.Parts.{all_added, number_to, number_of, descriptor_of, open_mode_of, port_of, with_group, groups_of, simple_name_of, process_of, mode_of, with_component, components_of, behind_root, path_of, any_word, text_of, sides_of, rule_number_of, rule_of}
use Rattle.mf_script.specs.Grammar.{requested, judged_request}
use Rattle.mf_script.proofs.EscapedBytes.{escaped_short, escaped_fit}
use Rattle.mf_script.proofs.NumberLimits.{number_most}
use Rattle.mf_script.proofs.ScriptWords.{both, word_fits}
use Rattle.mf_script.proofs.Yields.{Yields, done, refused, chain, checked, widened}

pub name_formed : (w : List ℕ) → Yields (λ name. is_name name ≡ true) (simple_name_of w)
unfolding simple_name_of
name_formed w = checked _ _ _ (λ e. done e)

number_fits : (most : ℕ) (w : List ℕ) → Yields (λ n. n ≤ most) (number_to most w)
unfolding number_to
number_fits most w = by_number (number_in 10 0 most w) refl where
  by_number : (read : Result ℕ NumberFault) → number_in 10 0 most w ≡ read → Yields (λ n. n ≤ most) (or_fault BadNumber read)
  by_number (Ok n) e = done (number_most 10 0 most w n e)
  by_number (Err fault) e = refused

pub number_formed : (w : List ℕ) → Yields (λ n. n ≤ UID_MAX) (number_of w)
number_formed w = number_fits UID_MAX w

pub rule_number_formed : (w : List ℕ) → Yields (λ n. n < MAX_RULES) (rule_number_of w)
rule_number_formed w = widened (number_fits 249 w) (λ n most. omega (arith, most))

pub descriptor_formed : (w : List ℕ) → Yields (λ n. n < MOST_DESCRIPTORS) (descriptor_of w)
descriptor_formed w = widened (number_fits 15 w) (λ n most. omega (arith, most))

pub port_formed : (w : List ℕ) → Yields (λ port. port ≤ LAST_PORT) (port_of w)
port_formed w = number_fits LAST_PORT w

pub mode_formed : (w : List ℕ) → Yields (λ mode. mode ≤ MODE_LIMIT) (mode_of w)
unfolding mode_of
mode_formed w = by_number (number_in 8 0 MODE_LIMIT w) refl where
  by_number : (read : Result ℕ NumberFault) → number_in 8 0 MODE_LIMIT w ≡ read → Yields (λ mode. mode ≤ MODE_LIMIT) (or_fault BadNumber read)
  by_number (Ok mode) e = done (number_most 8 0 MODE_LIMIT w mode e)
  by_number (Err fault) e = refused

pub open_mode_formed : (w : List ℕ) → Yields (λ mode. (mode.0 || mode.1) ≡ true) (open_mode_of w)
unfolding open_mode_of
open_mode_formed w = by_tests (bytes_eq w (codes "r")) (bytes_eq w (codes "w")) (bytes_eq w (codes "rw")) where
  by_tests : (reads writes both : Bool)
      → Yields (λ (mode : Bool × Bool). (mode.0 || mode.1) ≡ true)
      (by_option (if reads then Some (true, false) else if writes then Some (false, true) else if both then Some (true, true) else None) (fails UnknownWord) Ok)
  by_tests true writes both = done refl
  by_tests false true both = done refl
  by_tests false false true = done refl
  by_tests false false false = refused

pub process_formed : (w : List ℕ) → Yields (λ name. is_process_name name ≡ true) (process_of w)
unfolding process_of
process_formed w = checked _ _ _ (λ e. done e)

pub word_formed : (w : List ℕ) → IsWord w → Yields IsWord (any_word w)
unfolding any_word
word_formed w word = done word

-- what holds of no items yet, and of more whenever of those so far, holds of all
all_added_formed : {A : Type 0} (P : List A → Type 0) (add : List A → List ℕ → Read (List A)) → ((items : List A) (w : List ℕ) → P items → Yields P (add items w))
    → (items : List A) (ws : List (List ℕ)) → P items → Yields P (all_added add items ws)
unfolding all_added
all_added_formed P add step items [] are = done are
all_added_formed P add step items (w ∷ ws) are = chain _ _ (step items w are) (λ more ok. all_added_formed P add step more ws ok)

with_component_formed : (path : List (List ℕ)) (w : List ℕ) → IsPath path → Yields IsPath (with_component path w)
unfolding with_component
with_component_formed path w formed = checked _ _ _ (λ e.
    let tests = both (nat_lt (length path) PATH_LIMIT) (is_component w) e in
    done (record {
      few = omega (arith, ltb-true _ _ tests.0, length-append path (w ∷ []));
      each = All-push (λ name. is_component name ≡ true) path w formed.each tests.1;
    }))

components_formed : (w : List ℕ) → Yields IsPath (components_of w)
unfolding components_of
components_formed w = all_added_formed IsPath with_component with_component_formed [] (parts (byte "/") w) (record { few = lit≤ tt; each = All-nil _ })

behind_root_formed : (w : List ℕ) → Yields IsPath (behind_root w)
unfolding behind_root
behind_root_formed [] = done (record { few = lit≤ tt; each = All-nil _ })
behind_root_formed (b ∷ w) = components_formed (b ∷ w)

pub path_formed : (w : List ℕ) → Yields IsPath (path_of w)
unfolding path_of
path_formed [] = refused
path_formed (b ∷ w) = checked _ _ _ (λ e. behind_root_formed w)

-- Groups

-- groups that fit, and how many there are
record AreGroups (count : ℕ) (groups : List ℕ) : Type 0 where
  counted : length groups ≡ count
  few : length groups ≤ MOST_GROUPS
  each : All (λ group. group ≤ UID_MAX) groups

with_group_formed : (count : ℕ) (groups w : List ℕ) → AreGroups count groups → Yields (AreGroups (suc count)) (with_group groups w)
unfolding with_group
with_group_formed count groups w are = checked _ _ _ (λ e. chain _ _ (number_formed w) (λ group fits.
    let room = ltb-true _ _ e in
    let longer = length-append groups (group ∷ []) in
    done (record { counted = omega (arith, longer, are.counted); few = omega (arith, room, longer); each = All-push (λ group. group ≤ UID_MAX) groups group are.each fits })))

all_groups_formed : (ws : List (List ℕ)) (count : ℕ) (groups : List ℕ) → AreGroups count groups → Yields (AreGroups (count + length ws)) (all_added with_group groups ws)
unfolding all_added
all_groups_formed [] count groups are = done (record { counted = omega (arith, are.counted); few = are.few; each = are.each })
all_groups_formed (w ∷ ws) count groups are = chain _ _ (with_group_formed count groups w are) (λ more ok.
    widened (all_groups_formed ws (suc count) more ok) (λ all got. record { counted = omega (arith, got.counted); few = got.few; each = got.each }))

-- what a task line says of the groups of its credential
pub record AreFormedGroups (groups : List ℕ) : Type 0 where
  pub some : 1 ≤ length groups
  pub few : length groups ≤ MOST_GROUPS
  pub each : All (λ group. group ≤ UID_MAX) groups

pub groups_formed : (w : List ℕ) → Yields AreFormedGroups (groups_of w)
unfolding groups_of parts
groups_formed w =
    widened (all_groups_formed (slice_split (λ b. b == byte ",") w) 0 [] (record { counted = refl; few = lit≤ tt; each = All-nil _ }))
    (λ groups got. record { some = omega (arith, got.counted, length-slice_split (λ b. b == byte ",") w); few = got.few; each = got.each })

-- Requests

asked_formed : (w : List ℕ) → Yields IsRequest (requested w)
unfolding requested
asked_formed w = by_test (bytes_eq w (codes "-")) where
  by_read : (read : Result Request LabelFault) → request_in w ≡ read → Yields IsRequest (or_fault BadLabel read)
  by_read (Ok request) e = done (spelled_is_request w request (request_spells w request e))
  by_read (Err fault) e = refused

  by_test : (t : Bool) → Yields IsRequest (if t then Ok no_request else or_fault BadLabel (request_in w))
  by_test true = done (record { biba = tt; mls = tt; lomac = tt; partition = tt })
  by_test false = by_read (request_in w) refl

pub request_formed : (kind : Kind) (boots : List Module) (w : List ℕ) → Yields (IsAsked kind boots) (judged_request kind boots w)
unfolding judged_request
request_formed kind boots w = chain _ _ (asked_formed w) (λ request spelled. checked _ _ _ (λ e. done (record { spelled = spelled; allowed = e })))

-- Texts

pub bytes_formed : (w : List ℕ) → IsWord w → Yields (IsText SCRIPT_LIMIT) (text_of w)
unfolding text_of
bytes_formed w word = by_read (bytes_of w) refl where
  by_read : (read : Result (List ℕ) ℕ) → bytes_of w ≡ read → Yields (IsText SCRIPT_LIMIT) (or_fault BadText read)
  by_read (Ok bytes) e = done (record { few = omega (arith, escaped_short w bytes e, word.printable.few); each = escaped_fit w bytes (word_fits w word.printable.each) e })
  by_read (Err place) e = refused

-- Settings

-- what holds of all bytes of a text holds of those in front of one of them, and of those behind it
in_front : (P : ℕ → Type 0) (front : List ℕ) (byte : ℕ) (back : List ℕ) → All P (front ++ byte ∷ back) → All P front
in_front P [] byte back each = All-nil P
in_front P (b ∷ front) byte back each = All-cons P b front (All-head P b (front ++ byte ∷ back) each) (in_front P front byte back (All-tail P b (front ++ byte ∷ back) each))

behind : (P : ℕ → Type 0) (front : List ℕ) (byte : ℕ) (back : List ℕ) → All P (front ++ byte ∷ back) → All P back
behind P [] byte back each = All-tail P byte back each
behind P (b ∷ front) byte back each = behind P front byte back (All-tail P b (front ++ byte ∷ back) each)

abbrev IsGraphic : ℕ → Type 0
IsGraphic b = is_ascii_graphic b ≡ true

both_printable : (byte : ℕ) (w front back : List ℕ) → IsWord w → IsCut byte w front back → IsPrintable front × IsPrintable back
both_printable byte w front back word is =
    let each : All IsGraphic (front ++ byte ∷ back) = subst (λ (w : List ℕ). All IsGraphic w) is.whole word.printable.each in
    let long : length w ≡ length front + length (byte ∷ back) = ap (λ (w : List ℕ). length w) is.whole ∙ length-append front (byte ∷ back) in (
      record { each = in_front IsGraphic front byte back each; few = omega (arith, long, word.printable.few) },
      record { each = behind IsGraphic front byte back each; few = omega (arith, long, word.printable.few) },
    )

pub sides_formed : (w : List ℕ) → IsWord w → Yields (λ sides. IsPrintable sides.0 × IsPrintable sides.1) (sides_of w)
unfolding sides_of
sides_formed w word = by_cut (cut (byte "=") w) refl where
  by_cut : (found : Option (List ℕ × List ℕ)) → cut (byte "=") w ≡ found
      → Yields (λ (sides : List ℕ × List ℕ). IsPrintable sides.0 × IsPrintable sides.1) (by_option found (fails Missing) Ok)
  by_cut None e = refused
  by_cut (Some sides) e = done (both_printable (byte "=") w sides.0 sides.1 word (cut_is (byte "=") w sides.0 sides.1 e))

-- Rules

pub rule_formed : (ws : Words) → Yields (λ rule. IsRule rule.0) (rule_of ws)
unfolding rule_of
rule_formed [] = refused
rule_formed (w ∷ ws) = chain _ _ (by_read (rule_in (w ∷ ws)) refl) (λ rule ok. done ok) where
  by_read : (read : Result Rule RuleFault) → rule_in (w ∷ ws) ≡ read → Yields IsRule (or_fault BadRule read)
  by_read (Ok rule) e = done (read_is_rule (w ∷ ws) rule e)
  by_read (Err fault) e = refused
