-- The words of a line that are read spell their pieces.
use Rattle.std.proofs.Common.{◌≡◌, ℕ, Bool, true, false, ◌==◌, List, [], ◌∷◌, ◌++◌, map, Some, Ok, refl, sym, ap, ◌∙◌, inl, inr, codes}
use Rattle.std.specs.Prelude.{if◌then◌else◌, find}
use Rattle.std.specs.List.{AllByRecursion, join_with_byte, slice_split}
use Rattle.std.specs.Str.{byte, bytes_eq}
use Rattle.std.proofs.lemmas.List.{append_assoc, append-nil}
use Rattle.std.proofs.lemmas.List.Splits.{join_with_byte-slice_split}
use Rattle.std.proofs.lemmas.Slice.Eq.{bytes_eq-Decides}
use Rattle.std.proofs.lemmas.Bool.{eqb-true}
use Rattle.mf_errno.specs.Names.{module_named, module_text, all_modules}
use Rattle.mf_errno.specs.Privilege.{privilege_named, privilege_text}
use Rattle.mf_errno.specs.declared.privilege.Priv.TheVariants.{KldLoad, KldUnload, MacPartition, SchedRtprio, SchedIdprio}
use Rattle.mf_elem.specs.declared.label.Request.{Request}
use Rattle.mf_elem.specs.Label.{no_request}
use Rattle.mf_text.specs.Number.{number_in}
use Rattle.mf_text.specs.Escape.{bytes_of}
use Rattle.mf_labeltext.specs.Reading.{parts, cut, request_in}
use Rattle.mf_calls.specs.declared.limits.TheConstants.{UID_MAX, MODE_LIMIT}
use Rattle.mf_script.specs.declared.error.ScriptFault.TheVariants as fault
use Rattle.mf_script.specs.Readers.{or_fault}
use Rattle.mf_script.specs.Parts.{entry_named, any_word, number_to, open_modes, open_mode_of, protocols, protocol_of, mode_of, simple_name_of, process_of, privilege_of, text_of, sides_of, all_added, with_group, groups_of, with_component, components_of, behind_root, path_of}
use Rattle.mf_script.specs.Grammar.{requested}
use Rattle.mf_script.proofs.Yields.{Yields, done, refused, chain, checked, widened}
use Rattle.mf_spelling.specs.Spelling.{Word, Decimal, Octal, Groups, Text, Setting, Label, path, open_mode, protocol, Spells}
use Rattle.mf_spelled.proofs.Lines.{Reads, if_ok, if_some}

pub any_spells : Reads Word any_word
unfolding any_word
any_spells w = done refl

pub name_spells : Reads Word simple_name_of
unfolding simple_name_of
name_spells w = checked _ _ _ (λ e. done refl)

pub process_spells : Reads Word process_of
unfolding process_of
process_spells w = checked _ _ _ (λ e. done refl)

pub number_spells : (most : ℕ) → Reads (Decimal most) (number_to most)
unfolding number_to
number_spells most w = if_ok fault.BadNumber (number_in 10 0 most w) (λ n e. e)

pub mode_spells : Reads Octal mode_of
unfolding mode_of
mode_spells w = if_ok fault.BadNumber (number_in 8 0 MODE_LIMIT w) (λ n e. e)

pub text_spells : Reads Text text_of
unfolding text_of
text_spells w = if_ok fault.BadText (bytes_of w) (λ bytes e. e)

pub sides_spell : Reads (λ sides. Setting sides.0 sides.1) sides_of
unfolding sides_of
sides_spell w = if_some (cut (byte "=") w) _ _ refused (λ sides e. done e)

-- what a table has under a word, where each entry stands under its text
pub named_under : {A : Type 0} (text : A → List ℕ) (w : List ℕ) (x : A) (table : List (List ℕ × A)) → AllByRecursion (λ (entry : List ℕ × A). entry.0 ≡ text entry.1) table
    → entry_named w table ≡ Some x → w ≡ text x
named_under text w x [] named e = cc
named_under text w x (entry ∷ table) named e = by_test (bytes_eq w entry.0) (bytes_eq-Decides w entry.0).0 (named_under text w x table named.1) e where
  by_test : (same : Bool) → (same ≡ true → w ≡ entry.0) → (entry_named w table ≡ Some x → w ≡ text x)
      → (if same then Some entry.1 else entry_named w table) ≡ Some x → w ≡ text x
  by_test true same further h = let here : entry.1 ≡ x = cc in same refl ∙ named.0 ∙ ap text here
  by_test false same further h = further h

pub open_mode_spells : Reads (λ mode. Word (open_mode mode.0 mode.1)) open_mode_of
unfolding open_mode_of
open_mode_spells w =
    if_some (entry_named w open_modes) _ _ refused (λ mode e. done (named_under (λ mode. open_mode mode.0 mode.1) w mode open_modes (refl, (refl, (refl, tt))) e))

pub protocol_spells : Reads (λ tcp. Word (protocol tcp)) protocol_of
unfolding protocol_of
protocol_spells w = if_some (entry_named w protocols) _ _ refused (λ tcp e. done (named_under protocol w tcp protocols (refl, (refl, tt)) e))

-- the word of what a look-up by words finds
found_by : {A : Type 0} (text : A → List ℕ) (xs : List A) (w : List ℕ) (x : A) → find (λ x. bytes_eq (text x) w) xs ≡ Some x → w ≡ text x
found_by text [] w x e = cc
found_by text (y ∷ xs) w x e = by_test (bytes_eq (text y) w) refl (found_by text xs w x) e where
  by_test : (b : Bool) → bytes_eq (text y) w ≡ b → (find (λ x. bytes_eq (text x) w) xs ≡ Some x → w ≡ text x)
      → (if b then Some y else find (λ x. bytes_eq (text x) w) xs) ≡ Some x → w ≡ text x
  by_test true same further e = let here : y ≡ x = cc in sym ((bytes_eq-Decides (text y) w).0 same) ∙ ap text here
  by_test false other further e = further e

pub privilege_spells : Reads (λ p. Word (privilege_text p)) privilege_of
unfolding privilege_of privilege_named
privilege_spells w = if_some (privilege_named w) _ _ refused (λ p e. done (found_by privilege_text (KldLoad ∷ KldUnload ∷ MacPartition ∷ SchedRtprio ∷ SchedIdprio ∷ []) w p e))

pub module_spells : (w : List ℕ) (m : _) → module_named w ≡ Some m → w ≡ module_text m
unfolding module_named
module_spells w m e = found_by module_text all_modules w m e

-- Paths

one_component : (names : List (List ℕ)) (w : List ℕ) → Yields (λ more. more ≡ names ++ w ∷ []) (with_component names w)
unfolding with_component
one_component names w = checked _ _ _ (λ e. done refl)

-- the components that are added are the parts
components_added : (ws names : List (List ℕ)) → Yields (λ all. all ≡ names ++ ws) (all_added with_component names ws)
unfolding all_added
components_added [] names = done (sym (append-nil names))
components_added (w ∷ ws) names = chain _ _ (one_component names w) (λ more is. widened (components_added ws more) (λ all got. got ∙ ap (λ more. more ++ ws) is ∙ append_assoc names (w ∷ []) ws))

path_parts : (w : List ℕ) → Yields (λ names. w ≡ join_with_byte (byte "/") names) (components_of w)
unfolding components_of parts
path_parts w = widened (components_added (slice_split (λ b. b == byte "/") w) []) (λ names is. sym (ap (join_with_byte (byte "/")) is ∙ join_with_byte-slice_split (byte "/") w))

behind_spells : (w : List ℕ) → Yields (λ names. w ≡ join_with_byte (byte "/") names) (behind_root w)
unfolding behind_root
behind_spells [] = done refl
behind_spells (b ∷ w) = path_parts (b ∷ w)

pub path_spells : Reads path path_of
unfolding path_of
path_spells [] = refused
path_spells (b ∷ w) = checked _ _ _ (λ e. widened (behind_spells w) (λ names is. ap (λ b. b ∷ w) (eqb-true b (byte "/") e) ∙ ap (λ w. byte "/" ∷ w) is))

-- Groups

-- the groups so far, and those that the words write
record AreMore (groups : List ℕ) (ws : List (List ℕ)) (all : List ℕ) : Type 0 where
  more : List ℕ
  whole : all ≡ groups ++ more
  read : map (number_in 10 0 UID_MAX) ws ≡ map Ok more

one_group : (groups w : List ℕ) → Yields (AreMore groups (w ∷ [])) (with_group groups w)
unfolding with_group
one_group groups w = checked _ _ _ (λ e. chain _ _ (number_spells UID_MAX w) (λ group is. done (record { more = group ∷ []; whole = refl; read = ap (λ n. n ∷ []) is })))

groups_added : (ws : List (List ℕ)) (groups : List ℕ) → Yields (AreMore groups ws) (all_added with_group groups ws)
unfolding all_added
groups_added [] groups = done (record { more = []; whole = sym (append-nil groups); read = refl })
groups_added (w ∷ ws) groups = chain _ _ (one_group groups w) (λ next first. widened (groups_added ws next) (λ all rest. record {
  more = first.more ++ rest.more;
  whole = rest.whole ∙ ap (λ next. next ++ rest.more) first.whole ∙ append_assoc groups first.more rest.more;
  read = joined first.more rest.more first.read rest.read;
})) where
  joined : (front back : List ℕ) → map (number_in 10 0 UID_MAX) (w ∷ []) ≡ map Ok front → map (number_in 10 0 UID_MAX) ws ≡ map Ok back
      → map (number_in 10 0 UID_MAX) (w ∷ ws) ≡ map Ok (front ++ back)
  joined [] back one rest = cc
  joined (n ∷ []) back one rest = cc
  joined (n ∷ m ∷ front) back one rest = cc

pub groups_spell : Reads Groups groups_of
unfolding groups_of
groups_spell w = widened (groups_added (parts (byte ",") w) []) (λ groups are. are.read ∙ ap (map Ok) (sym are.whole))

-- Labels and rules

pub request_read : Reads Label requested
unfolding requested
request_read w = by_test (bytes_eq w (codes "-")) (bytes_eq-Decides w (codes "-")).0 where
  by_test : (dash : Bool) → (dash ≡ true → w ≡ codes "-") → Yields (λ (request : Request). Spells w (Label request)) (if dash then Ok no_request else or_fault fault.BadLabel (request_in w))
  by_test true same = done (inl (same refl, refl))
  by_test false other = if_ok fault.BadLabel (request_in w) (λ request e. inr e)
