-- Entries of the list of policies, taken from the front.
use Rattle.std.proofs.Common.{◌≡◌, ℕ, ◌+◌, ◌<◌, false, List, [], ◌∷◌, ◌++◌, None, map, length, get_or, take, ap, sym, ◌∙◌}
use Rattle.std.proofs.lemmas.List.{take_more, map-append}
use Rattle.mf_errno.specs.declared.module.Module.TheVariants as modules
use Rattle.mf_policy.specs.declared.registration.Registration.{Registration}
use Rattle.mf_policy.specs.declared.spec.Spec.TheVariants as means
use Rattle.mf_policy.specs.Registration.{Entry}
use Rattle.mf_plan.specs.declared.reply.Loaded.{Loaded}
use Rattle.mf_plan.specs.Payloads.{loaded}

-- an entry, where one is wanted
abbrev pub some_entry : Entry
some_entry = (record { «module» = modules.Mls; slot = None; fixed = false }, means.Mls)

-- the registration at a place
abbrev pub IsAt : List Entry → ℕ → Registration → Type 0
IsAt es i r = (d : Entry) → r ≡ (get_or es i d).0

-- one module more
pub loaded_more : (es : List Entry) (i : ℕ) (r : Registration) → i < length es → IsAt es i r
    → map loaded (take i es) ++ record { «module» = r.module; slot = r.slot } ∷ [] ≡ map loaded (take (i + 1) es)
loaded_more es i r within at =
    let one : Registration → List Loaded = λ q. record { «module» = q.module; slot = q.slot } ∷ [] in
    ap (λ (q : Registration). map loaded (take i es) ++ one q) (at some_entry)
    ∙ sym (map-append loaded (take i es) (get_or es i some_entry ∷ []))
    ∙ sym (ap (map loaded) (take_more es i some_entry within))
