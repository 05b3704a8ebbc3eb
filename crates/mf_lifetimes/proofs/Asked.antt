-- That the listed policies let a well-formed script ask what it asks.
use Rattle.std.proofs.Common.{◌≡◌, ℕ, true, false, List, [], ◌∷◌, refl}
use Rattle.std.specs.Prelude.{fold}
use Rattle.std.specs.List.{AllByRecursion, list_all}
use Rattle.std.proofs.lemmas.Bool.{and_parts}
use Rattle.mf_errno.specs.declared.module.Module.{Module}
use Rattle.mf_errno.specs.declared.module.Module.TheVariants.{Biba}
use Rattle.mf_elem.specs.declared.label.Request.{Request}
use Rattle.mf_elem.specs.Bounds.{IsRequest}
use Rattle.mf_elem.specs.Label.{no_request}
use Rattle.mf_item.specs.declared.view.Kind.{Kind}
use Rattle.mf_item.specs.declared.view.Kind.TheVariants as kinds
use Rattle.mf_policy.specs.declared.settings.Change.TheVariants.{Revocation}
use Rattle.mf_policy.specs.Modules.{may_ask}
use Rattle.mf_policy.specs.Registration.{Entry, given_after, with_newest, with_registered}
use Rattle.mf_calls.specs.declared.script.Script.{Script}
use Rattle.mf_calls.specs.WellFormed.{IsAsked}
use Rattle.mf_calls.specs.Boots.{names_booted}
use Rattle.mf_core.specs.Opening.{boots_of, booted_specs, registrations_from}
use Rattle.mf_lifetimes.proofs.Listing.{newest, all_newest}
use Rattle.mf_lifetimes.proofs.Settings.{all_changed}

-- each listed policy lets a script ask this for an entity of that kind
abbrev AllMayAsk : Kind → Request → List Entry → Type 0
AllMayAsk kind request listed = AllByRecursion (λ entry. may_ask entry.0.module kind request ≡ true) listed

-- and a label text can spell it
abbrev pub AllLetAsk : Kind → Request → List Entry → Type 0
AllLetAsk kind request listed = IsRequest request × AllMayAsk kind request listed

all_let : (kind : Kind) (request : Request) (ms : List Module) (listed : List Entry) (given : ℕ) → list_all (λ m. may_ask m kind request) ms ≡ true
    → AllMayAsk kind request listed → AllMayAsk kind request (fold with_registered listed (registrations_from given ms))
all_let kind request [] listed given may all = all
all_let kind request (m ∷ ms) listed given may all =
    let both = and_parts (may_ask m kind request) (list_all (λ n. may_ask n kind request) ms) may in
    all_let kind request ms (with_newest (newest m false given) listed) (given_after given m) both.1
    (all_newest (λ entry. may_ask entry.0.module kind request ≡ true) (newest m false given) listed both.0 all)

-- so do the policies that the script boots
pub booted_let : (s : Script) (kind : Kind) (request : Request) → IsAsked kind s.boots request → AllLetAsk kind request (booted_specs s)
booted_let s kind request asked =
    let may = (and_parts (names_booted s.boots request) (list_all (λ m. may_ask m kind request) s.boots) asked.allowed).1 in
    let registered = all_let kind request s.boots [] 0 may tt in
    (asked.spelled, all_changed (λ r. may_ask r.module kind request ≡ true) Biba (Revocation s.revocation) (fold with_registered [] (boots_of s)) registered)

-- any policy lets a script ask nothing for a file
nothing_asked : (m : Module) → may_ask m kinds.Vnode no_request ≡ true
nothing_asked Biba = refl
nothing_asked other = refl

all_let_nothing : (listed : List Entry) → AllMayAsk kinds.Vnode no_request listed
all_let_nothing [] = tt
all_let_nothing (entry ∷ listed) = (nothing_asked entry.0.module, all_let_nothing listed)

pub let_nothing : (listed : List Entry) → AllLetAsk kinds.Vnode no_request listed
let_nothing listed = (record { biba = tt; mls = tt; lomac = tt; partition = tt }, all_let_nothing listed)
