-- That the lists and the catalogue together hold the same modules as before.
use Rattle.std.proofs.Common.{◌≡◌, List, Option, Some, None, Result, Ok, Err, IfOk, OnErr, find, refl, ap, ◌∙◌, arith}
use Rattle.mf_errno.specs.Same.{same_module}
use Rattle.mf_errno.specs.declared.module.Module.{Module}
use Rattle.mf_policy.specs.declared.registration.Registration.{Registration}
use Rattle.mf_policy.specs.declared.settings.Change.{Change}
use Rattle.mf_policy.specs.declared.settings.Changed.{Changed}
use Rattle.mf_policy.specs.Modules.{fresh_of}
use Rattle.mf_policy.specs.Registration.{Entry, is_of}
use Rattle.mf_policy.specs.Settings.{change_of}
use Rattle.std.specs.declared.alloc.AllocError.{AllocError}
use Rattle.mf_list.specs.Held.{how_many}
use Rattle.mf_list.specs.Once.{IsHeldOnce, times_held}
use Rattle.mf_list.specs.Registration.{Enters, Unregisters, change_in}
use Rattle.mf_policy.proofs.ByEntry.{change_at}
use Rattle.mf_list.proofs.Counts.{how_many-spec, how_many-newest, how_many-push, how_many-without_entry, how_many-without_module}

-- a policy that is attached leaves the catalogue
pub held_after_attaching : (m : Module) (r : Registration) (listed listed' : List Entry) (catalogue catalogue' : List Module)
    → Enters r listed listed' catalogue catalogue'
    → times_held m listed' catalogue' ≡ times_held m listed catalogue
held_after_attaching m r listed listed' catalogue catalogue' moves =
    let more = ap (how_many (is_of m)) moves.entries ∙ how_many-newest (is_of m) (r, fresh_of r.module) listed in
    let left = how_many-without_module m r.module catalogue moves.was_in_catalogue in
    let rest = ap (how_many (same_module m)) moves.modules in
    omega (arith, more, left, rest)

-- a policy that is detached goes back into the catalogue
pub held_after_detaching : (m k : Module) (listed listed' : List Entry) (catalogue catalogue' : List Module)
    → Unregisters k listed listed' catalogue catalogue'
    → times_held m listed' catalogue' ≡ times_held m listed catalogue
held_after_detaching m k listed listed' catalogue catalogue' moves =
    let left = how_many-without_entry m k listed moves.was_listed in
    let fewer = ap (how_many (is_of m)) moves.entries in
    let rest = ap (how_many (same_module m)) moves.modules ∙ how_many-push (same_module m) catalogue k in
    omega (arith, left, fewer, rest)

pub once_after_attaching : (r : Registration) (listed listed' : List Entry) (catalogue catalogue' : List Module)
    → Enters r listed listed' catalogue catalogue' → IsHeldOnce listed catalogue → IsHeldOnce listed' catalogue'
once_after_attaching r listed listed' catalogue catalogue' moves once = λ m. omega (arith, once m, held_after_attaching m r listed listed' catalogue catalogue' moves)

pub once_after_detaching : (k : Module) (listed listed' : List Entry) (catalogue catalogue' : List Module)
    → Unregisters k listed listed' catalogue catalogue' → IsHeldOnce listed catalogue → IsHeldOnce listed' catalogue'
once_after_detaching k listed listed' catalogue catalogue' moves once = λ m. omega (arith, once m, held_after_detaching m k listed listed' catalogue catalogue' moves)

changed_at : (m k : Module) (change : Change) (entries : List Entry) (o : Option Entry) → how_many (is_of m) (change_at k change entries o).1 ≡ how_many (is_of m) entries
changed_at m k change entries None = refl
changed_at m k change entries (Some entry) = how_many-spec m k (change_of entry.1 change).1 entries

pub listed_after_change : (m k : Module) (change : Change) (list list' : List Entry) (o : Result Changed AllocError)
    → IfOk o (λ changed. (changed, list') ≡ change_in k change list)
    → OnErr o (list' ≡ list)
    → how_many (is_of m) list' ≡ how_many (is_of m) list
listed_after_change m k change list list' (Ok changed) is err =
    ap (λ (p : Changed × List Entry). how_many (is_of m) p.1) is ∙ changed_at m k change list (find (is_of k) list)
listed_after_change m k change list list' (Err e) ok same = ap (how_many (is_of m)) same
