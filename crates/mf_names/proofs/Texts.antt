-- The text of a path and its components.
use Rattle.std.proofs.Common.{◌≡◌, ◌≢◌, ℕ, ◌<◌, ◌==◌, Bool, true, false, not, List, [], ◌∷◌, ◌++◌, length, Option, Some, None, Bor, ne_eqb, refl, ap, sym, ◌∙◌, arith, length-append, append_assoc}
use Rattle.std.specs.Prelude.{MatchOption, is_some}
use Rattle.std.specs.Bool.{Decides}
use Rattle.std.specs.Str.{bytes_eq, byte}
use Rattle.std.proofs.lemmas.Slice.Eq.{bytes_eq-Decides}
use Rattle.std.specs.List.{slice_split, join_with_byte}
use Rattle.std.proofs.lemmas.List.Splits.{length-slice_split, slice_split_none, join_with_byte-slice_split}
use Rattle.mf_names.specs.declared.limits.TheConstants.{PATH_LIMIT}
use Rattle.mf_names.specs.Paths.{is_slash, HasNoSlash, components_behind, components_in, BeginsWithSlash, IsPathText}
use Rattle.mf_names.proofs.Splits.{part_more}

-- the text behind the first slash has the components
pub behind_first : (text : List ℕ) (rest : Option (Bor (List ℕ))) → BeginsWithSlash text → MatchOption rest ((behind : List ℕ) → text ≢ byte "/" ∷ behind) (λ behind. text ≡ byte "/" ∷ behind.now)
    → components_behind rest ≡ components_in text
behind_first [] None begins h = refl
behind_first [] (Some behind) begins h = cc
behind_first (b ∷ text) None begins h = absurd (h text (ap (λ (b : ℕ). b ∷ text) begins))
behind_first (b ∷ text) (Some behind) begins h = let same : text ≡ behind.now = cc in ap (slice_split is_slash) (sym same)

-- a text with one component more
pub one_more : (text component : List ℕ) → HasNoSlash component → components_in (text ++ byte "/" ∷ component) ≡ components_in text ++ component ∷ []
one_more [] component none = slice_split_none is_slash component none
one_more (b ∷ text) component none = part_more is_slash text (byte "/") component refl none

begins_longer : (text component : List ℕ) → BeginsWithSlash text → BeginsWithSlash (text ++ byte "/" ∷ component)
begins_longer [] component begins = refl
begins_longer (b ∷ text) component begins = begins

pub longer_text : (text component : List ℕ) → HasNoSlash component → length (components_in text) < PATH_LIMIT → IsPathText text → IsPathText (text ++ byte "/" ∷ component)
longer_text text component none few is = record {
  begins = begins_longer text component is.begins;
  few = omega (arith, ap length (one_more text component none), length-append (components_in text) (component ∷ []), few);
}

-- what stands there when a slash and then a component were appended
pub appended : (text opened longer component : List ℕ) → opened ≡ text ++ byte "/" ∷ [] → longer ≡ opened ++ component → longer ≡ text ++ byte "/" ∷ component
appended text opened longer component first second = second ∙ ap (λ (front : List ℕ). front ++ component) first ∙ append_assoc text (byte "/" ∷ []) component

-- Texts that are left

some_parts : (text : List ℕ) → 0 < length (slice_split is_slash text)
some_parts text = omega (arith, length-slice_split is_slash text)

pub none_left : (rest : Option (Bor (List ℕ))) (result : Bool) → is_some rest ≡ not result → result ≡ (length (components_behind rest) == 0)
none_left None true e = refl
none_left None false e = cc
none_left (Some text) true e = cc
none_left (Some text) false e = sym (ne_eqb (length (slice_split is_slash text.now)) 0 (λ e. omega (arith, some_parts text.now)))

same_text : (text other : List ℕ) → slice_split is_slash text ≡ slice_split is_slash other → text ≡ other
same_text text other e = sym (join_with_byte-slice_split (byte "/") text) ∙ ap (join_with_byte (byte "/")) e ∙ join_with_byte-slice_split (byte "/") other

pub nothing_decides : (text : List ℕ) → Decides false (slice_split is_slash text ≡ [])
nothing_decides text = (λ e. cc, λ e. absurd (omega (arith, ap length e, some_parts text)))

pub texts_decide : (text other : List ℕ) (result : Bool) → result ≡ bytes_eq text other → Decides result (slice_split is_slash text ≡ slice_split is_slash other)
texts_decide text other result eq = (
  λ e. ap (slice_split is_slash) ((bytes_eq-Decides text other).0 (sym eq ∙ e)),
  λ e. eq ∙ (bytes_eq-Decides text other).1 (same_text text other e),
)

-- Two paths

same_path_text : (text other : List ℕ) → BeginsWithSlash text → BeginsWithSlash other → components_in text ≡ components_in other → text ≡ other
same_path_text [] [] begins other_begins e = refl
same_path_text [] (c ∷ other) begins other_begins e = absurd (omega (arith, ap length e, some_parts other))
same_path_text (b ∷ text) [] begins other_begins e = absurd (omega (arith, ap length e, some_parts text))
same_path_text (b ∷ text) (c ∷ other) begins other_begins e =
    ap (λ (b : ℕ). b ∷ text) (begins ∙ sym other_begins) ∙ ap (λ (text : List ℕ). c ∷ text) (same_text text other e)

pub paths_decide : (text other : List ℕ) (result : Bool) → BeginsWithSlash text → BeginsWithSlash other → result ≡ bytes_eq text other
    → Decides result (components_in text ≡ components_in other)
paths_decide text other result begins other_begins eq = (
  λ e. ap components_in ((bytes_eq-Decides text other).0 (sym eq ∙ e)),
  λ e. eq ∙ (bytes_eq-Decides text other).1 (same_path_text text other begins other_begins e),
)

-- what excludes that the texts are the same excludes that the paths are
pub texts_differ : (text other : List ℕ) (may : Bool) → BeginsWithSlash text → BeginsWithSlash other → (text ≡ other → may ≡ true) → may ≡ false
    → Decides may (components_in text ≡ components_in other)
texts_differ text other may begins other_begins must not = (λ e. cc, λ e. must (same_path_text text other begins other_begins e))
