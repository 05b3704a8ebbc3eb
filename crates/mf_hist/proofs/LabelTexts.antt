-- The canonical text of a label is a word, and is read back.
use Rattle.std.proofs.Common.{◌≡◌, ℕ, Bool, true, false, cond, List, [], ◌∷◌, map, Some, Result, Ok, Err, refl, sym, ap, ◌∙◌, subst, inl, inr}
use Rattle.std.specs.Prelude.{codes}
use Rattle.std.specs.Result.{result_ok}
use Rattle.std.specs.Str.{bytes_eq}
use Rattle.std.proofs.lemmas.Slice.Eq.{bytes_eq-Decides}
use Rattle.mf_elem.specs.Bounds.{IsRequest}
use Rattle.mf_elem.specs.Label.{no_request}
use Rattle.mf_elem.specs.declared.label.LabelValue.{LabelValue}
use Rattle.mf_elem.specs.declared.label.Request.{Request}
use Rattle.mf_errno.specs.declared.module.Module.{Module}
use Rattle.mf_labeltext.specs.Canonical.{canonical_label}
use Rattle.mf_labeltext.specs.Reading.{◌>>=◌, request_in, elements_in, element_in, parts, cut}
use Rattle.mf_labeltext.specs.declared.fault.LabelFault.{LabelFault}
use Rattle.mf_labeltext.proofs.Formed.{spelled_is_request}
use Rattle.mf_labeltext.proofs.Requests.{request_spells}
use Rattle.mf_plan.specs.declared.reply.LabelPart.{LabelPart}
use Rattle.mf_spelling.specs.Spelling.{Label, Spells}
use Rattle.mf_spelling.specs.Canonical.{parts_asked}
use Rattle.mf_spelled.proofs.LabelTexts.{label_word as asked_word, label_back as asked_back}
use Rattle.mf_hist.specs.Lines.{IsLabel, parts_shown}
use Rattle.mf_hist.specs.Reading.{label_in_word}
use Rattle.mf_hist.proofs.Readers.{bind_some, some_is}
use Rattle.mf_hist.proofs.Words.{is_word}

abbrev text_of : List LabelPart → List ℕ
text_of parts = canonical_label (map (λ (part : LabelPart). (part.module, part.value)) parts)

same_pairs : (parts : List (Module × LabelValue)) → map (λ (part : LabelPart). (part.module, part.value)) (map (λ part. record { «module» = part.0; value = part.1 }) parts) ≡ parts
same_pairs [] = refl
same_pairs (part ∷ parts) = ap (λ more. part ∷ more) (same_pairs parts)

-- the text is that of what is asked for
text_is : (parts : List LabelPart) (is : IsLabel parts) → text_of parts ≡ canonical_label (parts_asked is.request)
text_is parts is = ap text_of is.asked ∙ ap canonical_label (same_pairs (parts_asked is.request))

pub label_word : (parts : List LabelPart) → IsLabel parts → is_word (text_of parts) ≡ true
label_word parts is = ap is_word (text_is parts is) ∙ asked_word is.request is.fits

-- It is read back

dash_fails : (r : Request) → request_in (codes "-") ≡ Ok r → ⊥
unfolding request_in elements_in element_in parts cut
dash_fails r e = cc

spelled_back : (w : List ℕ) (r : Request) → Spells w (Label r) → label_in_word w ≡ Some (parts_shown r)
unfolding label_in_word
spelled_back w r (inl none) = ap label_in_word none.0 ∙ sym (ap (λ r. Some (parts_shown r)) none.1)
spelled_back w r (inr is_read) = by_test (bytes_eq w (codes "-")) (bytes_eq-Decides w (codes "-")).0
  where
    by_test : (dash : Bool) → (dash ≡ true → w ≡ codes "-")
        → cond dash (Some []) (result_ok (request_in w) >>= (λ request. Some (parts_shown request))) ≡ Some (parts_shown r)
    by_test true same = absurd (dash_fails r (ap request_in (sym (same refl)) ∙ is_read))
    by_test false other = ap (λ read. result_ok read >>= (λ request. Some (parts_shown request))) is_read

-- the same request, but for policies that no label text names
abbrev named : Request → Request
named r = record r { other = false }

named_fits : (r : Request) → IsRequest r → IsRequest (named r)
named_fits r fits = record { biba = fits.biba; mls = fits.mls; lomac = fits.lomac; partition = fits.partition }

pub label_back : (parts : List LabelPart) → IsLabel parts → label_in_word (text_of parts) ≡ Some parts
label_back parts is =
    ap label_in_word (text_is parts is)
    ∙ spelled_back (canonical_label (parts_asked is.request)) (named is.request) (asked_back (named is.request) (named_fits is.request is.fits) refl)
    ∙ ap Some (sym is.asked)

-- What is read fits

no_label : IsLabel []
no_label = record { request = no_request; asked = refl; fits = record { biba = tt; mls = tt; lomac = tt; partition = tt } }

read_is : (read : Result Request LabelFault) (r : Request) → result_ok read ≡ Some r → read ≡ Ok r
read_is (Ok x) r is = cc
read_is (Err fault) r is = absurd cc

pub label_fits : (w : List ℕ) (parts : List LabelPart) → label_in_word w ≡ Some parts → IsLabel parts
unfolding label_in_word
label_fits w parts is = one (bytes_eq w (codes "-")) is
  where
    one : (b : Bool) → cond b (Some []) (result_ok (request_in w) >>= (λ request. Some (parts_shown request))) ≡ Some parts → IsLabel parts
    one true is = subst IsLabel (some_is [] parts is) no_label
    one false is =
        let found = bind_some (result_ok (request_in w)) (λ request. Some (parts_shown request)) parts is in
        let spells = request_spells w found.0 (read_is (request_in w) found.0 found.1) in
        record { request = found.0; asked = sym (some_is (parts_shown found.0) parts found.2); fits = spelled_is_request w found.0 spells }
