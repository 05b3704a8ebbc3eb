-- The registrations at boot: one after another, and compared.
use Rattle.std.proofs.Common.{◌≡◌, ℕ, suc, ◌+◌, ◌<◌, ◌≤◌, false, List, [], ◌∷◌, ◌++◌, length, get_or, take, Some, slice_get, refl, ap, sym, ◌∙◌, arith}
use Rattle.std.specs.List.{fold}
use Rattle.std.proofs.Math.Seq.{take-length}
use Rattle.std.proofs.lemmas.List.{take_more}
use Rattle.std.proofs.lemmas.List.Sums.{fold-append}
use Rattle.std.proofs.lemmas.Option.{slice_get_read}
use Rattle.mf_errno.specs.declared.module.Module.{Module}
use Rattle.mf_policy.specs.declared.registration.Registration.{Registration}
use Rattle.mf_policy.specs.Registration.{given_after, registration_of}
use Rattle.mf_calls.specs.WellFormed.{AreBoots}
use Rattle.mf_calls.proofs.FewBoots.{few_boots}
use Rattle.mf_core.specs.Opening.{registrations_from}
use Rattle.mf_core.proofs.Boots.{registrations_from-push}
use Rattle.mf_audit.specs.Lines.{Agree}

-- so many modules are registered
pub record AreRegistered (modules : List Module) (n : ℕ) (registrations : List Registration) (given : ℕ) : Type 0 where
  pub registered : registrations ≡ registrations_from 0 (take n modules)
  pub numbers : given ≡ fold given_after 0 (take n modules)

pub registered_more : (modules : List Module) (n : ℕ) (m : Module) (registrations registrations' : List Registration) (given given' : ℕ) → n < length modules
    → m ≡ get_or modules n m → AreRegistered modules n registrations given → registrations' ≡ registrations ++ registration_of m false given ∷ []
    → given' ≡ given_after given m → AreRegistered modules (n + 1) registrations' given'
registered_more modules n m registrations registrations' given given' within here are pushed after =
    let more : take (n + 1) modules ≡ take n modules ++ m ∷ [] = take_more modules n m within ∙ ap (λ (k : Module). take n modules ++ k ∷ []) (sym here) in
    record {
      registered =
          pushed ∙ ap (λ (rs : List Registration). rs ++ registration_of m false given ∷ []) are.registered
          ∙ ap (λ (k : ℕ). registrations_from 0 (take n modules) ++ registration_of m false k ∷ []) are.numbers
          ∙ sym (ap (registrations_from 0) more ∙ registrations_from-push 0 (take n modules) m);
      numbers = after ∙ ap (λ g. given_after g m) are.numbers ∙ sym (ap (fold given_after 0) more ∙ fold-append given_after 0 (take n modules) (m ∷ []));
    }

-- Registrations that are compared

pub agree_more : (ours theirs : List Registration) (n : ℕ) (a b : Registration) → n < length ours → n < length theirs → a ≡ get_or ours n a → b ≡ get_or theirs n b
    → a ≡ b → take n ours ≡ take n theirs → take (n + 1) ours ≡ take (n + 1) theirs
agree_more ours theirs n a b within also here there same so_far =
    take_more ours n a within ∙ ap (λ (r : Registration). take n ours ++ r ∷ []) (sym here)
    ∙ ap (λ (rs : List Registration). rs ++ a ∷ []) so_far ∙ ap (λ (r : Registration). take n theirs ++ r ∷ []) (same ∙ there)
    ∙ sym (take_more theirs n b also)

pub agree_until : (ours theirs : List Registration) (n : ℕ) (a b : Registration) → n < length ours → n < length theirs → a ≡ get_or ours n a → b ≡ get_or theirs n b
    → (a ≡ b → ⊥) → take n ours ≡ take n theirs → Agree ours theirs n
agree_until ours theirs n a b within also here there other so_far =
    record {
      within = omega arith;
      also = omega arith;
      same = so_far;
      differ = λ _ _ same.
          let own : slice_get ours n ≡ Some a = slice_get_read ours (length ours) n a refl within here in
          let their : slice_get theirs n ≡ Some b = slice_get_read theirs (length theirs) n b refl also there in
          other (cc);
    }

pub agree_whole : (ours theirs : List Registration) (n : ℕ) → n ≤ length ours → n ≤ length theirs → (n < length ours → n < length theirs → ⊥)
    → take n ours ≡ take n theirs → Agree ours theirs n
agree_whole ours theirs n within also end so_far = record { within = within; also = also; same = so_far; differ = λ own their same. end own their }

-- registrations that agree to the end of both are the same
pub agree_to_end : (ours theirs : List Registration) (n : ℕ) → Agree ours theirs n → length ours ≤ n → length theirs ≤ n → ours ≡ theirs
agree_to_end ours theirs n agree own their =
    let all : (xs : List Registration) → n ≡ length xs → xs ≡ take n xs = λ xs end. sym (ap (λ k. take k xs) end ∙ take-length xs) in
    all ours (omega (arith, agree.within)) ∙ agree.same ∙ sym (all theirs (omega (arith, agree.also)))

registered_length : (given : ℕ) (modules : List Module) → length (registrations_from given modules) ≡ length modules
registered_length given [] = refl
registered_length given (m ∷ modules) = ap suc (registered_length (given_after given m) modules)

pub few_registered : (modules : List Module) → AreBoots modules → length (registrations_from 0 modules) ≤ 1000
few_registered modules are = omega (arith, registered_length 0 modules, few_boots modules are)
