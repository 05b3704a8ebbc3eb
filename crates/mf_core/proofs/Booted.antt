-- What is listed at the end of boot: the modules as they are registered one after another, none twice, with what the tunable changes.
use Rattle.std.proofs.Common.{◌≡◌, ◌≢◌, ℕ, ◌+◌, ◌<◌, ◌≤◌, suc, Bool, true, false, cond, List, [], ◌∷◌, ◌++◌, length, get_or, take, All, refl, ap, sym, ◌∙◌, subst, arith}
use Rattle.std.specs.List.{fold}
use Rattle.std.proofs.lemmas.List.{take_more}
use Rattle.std.proofs.lemmas.List.Sums.{fold-append}
use Rattle.mf_errno.specs.Same.{same_module}
use Rattle.mf_errno.specs.declared.module.Module.{Module}
use Rattle.mf_errno.specs.declared.module.Module.TheVariants.{Biba}
use Rattle.mf_errno.proofs.Modules.{same_module-is}
use Rattle.mf_policy.specs.declared.registration.Registration.{Registration}
use Rattle.mf_policy.specs.declared.settings.Changed.{Changed}
use Rattle.mf_policy.specs.declared.settings.Change.{Change}
use Rattle.mf_policy.specs.declared.settings.Change.TheVariants.{Revocation}
use Rattle.mf_policy.specs.Modules.{fresh_of}
use Rattle.mf_policy.specs.Registration.{Entry, given_after, is_of, registration_of, with_registered}
use Rattle.mf_policy.specs.Settings.{change_in}
use Rattle.mf_list.specs.Held.{how_many}
use Rattle.mf_list.specs.Lists.{MayLeave}
use Rattle.mf_list.specs.Once.{IsListedOnce}
use Rattle.mf_list.proofs.Counts.{how_many-newest}
use Rattle.mf_list.proofs.Settings.{how_many-changed}
use Rattle.mf_list.proofs.Walk.{changed_static, not_leaving}
use Rattle.mf_calls.specs.declared.script.Script.{Script}
use Rattle.mf_calls.specs.WellFormed.{AreBoots, IsWellFormed}
use Rattle.mf_core.specs.Opening.{booted_specs, boots_of, registrations_from}
use Rattle.mf_core.specs.Policies.{AreOf}
use Rattle.mf_core.proofs.Boots.{registrations_from-push}

-- One module after another

-- so many of the modules are registered
pub record AreLoaded (modules : List Module) (n : ℕ) (specs : List Entry) (given : ℕ) : Type 0 where
  pub specs_are : specs ≡ fold with_registered [] (registrations_from 0 (take n modules))
  pub numbers_are : given ≡ fold given_after 0 (take n modules)

pub loaded_more : (modules : List Module) (n : ℕ) (m : Module) (specs : List Entry) (given : ℕ) (specs' : List Entry) (given' : ℕ) → n < length modules
    → m ≡ get_or modules n m → AreLoaded modules n specs given → specs' ≡ with_registered specs (registration_of m false given) → given' ≡ given_after given m
    → AreLoaded modules (n + 1) specs' given'
loaded_more modules n m specs given specs' given' within here loaded specs_are numbers_are =
    let r : Registration = registration_of m false given in
    let more : take (n + 1) modules ≡ take n modules ++ m ∷ [] = take_more modules n m within ∙ ap (λ (k : Module). take n modules ++ k ∷ []) (sym here) in
    record {
      specs_are =
          specs_are ∙ ap (λ (es : List Entry). with_registered es r) loaded.specs_are
          ∙ ap (λ (k : ℕ). with_registered (fold with_registered [] (registrations_from 0 (take n modules))) (registration_of m false k)) loaded.numbers_are
          ∙ sym (fold-append with_registered [] (registrations_from 0 (take n modules)) (registration_of m false (fold given_after 0 (take n modules)) ∷ []))
          ∙ sym (ap (fold with_registered []) (ap (registrations_from 0) more ∙ registrations_from-push 0 (take n modules) m));
      numbers_are = numbers_are ∙ ap (λ g. given_after g m) loaded.numbers_are ∙ sym (ap (fold given_after 0) more ∙ fold-append given_after 0 (take n modules) (m ∷ []));
    }

-- No module is listed twice

-- a module is registered as often as it is booted
registered_times : (m : Module) (es : List Entry) (given : ℕ) (ms : List Module)
    → how_many (is_of m) (fold with_registered es (registrations_from given ms)) ≡ how_many (is_of m) es + how_many (same_module m) ms
registered_times m es given [] = omega arith
registered_times m es given (x ∷ ms) =
    let r : Registration = registration_of x false given in
    omega (arith, registered_times m (with_registered es r) (given_after given x) ms, how_many-newest (is_of m) (r, fresh_of x) es)

absent : (m : Module) (ms : List Module) → ((j : ℕ) (d : Module) → j < length ms → m ≢ get_or ms j d) → how_many (same_module m) ms ≡ 0
absent m [] differ = refl
absent m (x ∷ ms) differ = one (same_module m x) refl (absent m ms (λ j d within. differ (suc j) d (omega (arith, within))))
  where
    one : (b : Bool) → same_module m x ≡ b → how_many (same_module m) ms ≡ 0 → cond b 1 0 + how_many (same_module m) ms ≡ 0
    one true same rest = absurd (differ 0 x (omega arith) (same_module-is m x same))
    one false other rest = omega (arith, rest)

distinct_once : (m : Module) (ms : List Module) → AreBoots ms → how_many (same_module m) ms ≤ 1
distinct_once m [] differ = omega arith
distinct_once m (x ∷ ms) differ =
    one (same_module m x) refl (distinct_once m ms (λ i j d before within. differ (suc i) (suc j) d (omega (arith, before)) (omega (arith, within))))
  where
    one : (b : Bool) → same_module m x ≡ b → how_many (same_module m) ms ≤ 1 → cond b 1 0 + how_many (same_module m) ms ≤ 1
    one true same rest =
        let is : m ≡ x = same_module-is m x same in
        let none : how_many (same_module m) ms ≡ 0 =
        absent m ms (λ j d within. subst (λ (y : Module). y ≢ get_or ms j d) (sym is) (differ 0 (suc j) d (omega arith) (omega (arith, within)))) in
        omega (arith, none)
    one false other rest = omega (arith, rest)

pub registered_once : (s : Script) → IsWellFormed s → IsListedOnce (fold with_registered [] (boots_of s))
registered_once s formed m = omega (arith, registered_times m [] 0 s.boots, distinct_once m s.boots formed.boots)

pub booted_once : (s : Script) → IsWellFormed s → IsListedOnce (booted_specs s)
booted_once s formed m =
    omega (arith, how_many-changed m Biba (Revocation s.revocation) (fold with_registered [] (boots_of s)), registered_once s formed m)

-- The lists

-- the list after the change that the tunable makes
changed_by : (s : Script) (specs specs' : List Entry) (change : Change) (answer : Changed) → change ≡ Revocation s.revocation
    → (answer, specs') ≡ change_in Biba change specs → specs' ≡ (change_in Biba (Revocation s.revocation) specs).1
changed_by s specs specs' change answer is changed =
    ap (λ (p : Changed × List Entry). p.1) changed ∙ ap (λ (c : Change). (change_in Biba c specs).1) is

-- what the tunable changes of the static list makes the lists those of the end of boot
pub tuned : (s : Script) (boots : List Registration) (fixed fixed' list : List Entry) (catalogue : List Module) (change : Change) (answer : Changed)
    → boots ≡ boots_of s → AreOf (fold with_registered [] boots) fixed list catalogue → All MayLeave list → change ≡ Revocation s.revocation
    → (answer, fixed') ≡ change_in Biba change fixed → AreOf (booted_specs s) fixed' list catalogue
tuned s boots fixed fixed' list catalogue change answer own policies leaving is changed =
    let tunable : Change = Revocation s.revocation in
    let walked : fixed' ++ list ≡ (change_in Biba tunable (fixed ++ list)).1 =
    ap (λ (es : List Entry). es ++ list) (changed_by s fixed fixed' change answer is changed)
    ∙ sym (ap (λ (p : Changed × List Entry). p.1) (changed_static Biba tunable fixed list (not_leaving Biba list leaving refl))) in
    record {
      listed = walked ∙ ap (λ (es : List Entry). (change_in Biba tunable es).1) policies.listed
          ∙ ap (λ (rs : List Registration). (change_in Biba tunable (fold with_registered [] rs)).1) own;
      held = λ m.
          let same = ap (how_many (is_of m)) walked ∙ how_many-changed m Biba tunable (fixed ++ list) in
          omega (arith, same, policies.held m);
    }
