-- How a relabel ends, once what its text asks for is claimed.
use Rattle.std.proofs.Common.{◌≡◌, ℕ, List, Option, Some, None, IsSome, Result, Ok, Err, refl, ap, subst, ◌∙◌}
use Rattle.std.specs.Option.{ok_or}
use Rattle.mf_elem.specs.declared.label.Request.{Request}
use Rattle.mf_errno.specs.declared.errno.Errno.{Errno}
use Rattle.mf_errno.specs.declared.errno.Errno.TheVariants as errno
use Rattle.mf_item.specs.declared.view.Kind.{Kind}
use Rattle.mf_objects.specs.declared.id.Id.{Id}
use Rattle.mf_policy.specs.Registration.{Entry}
use Rattle.mf_plan.specs.declared.outline.Check.{Check}
use Rattle.mf_plan.specs.Ended.{Ended, end_in}
use Rattle.mf_plan.specs.Relabels.{claimed_in}
use Rattle.mf_plan.specs.Row.{ask, relabel_by, through, does_nothing}
use Rattle.mf_plan.specs.Ways.{Way, then_way, carrying}

-- the row of a relabel, by what its text asks for and the way to what it relabels
abbrev pub relabel_end : Option Request → Way Id → (Id → Check) → Ended
relabel_end claim way check =
    end_in (through (then_way (ok_or claim errno.Einval) (λ request. carrying request way)) (relabel_by check))

by_claim : (claim : Option Request) (way : Way Id) (check : Id → Check) → IsSome claim → end_in (through way (λ id. ask (check id) does_nothing)) ≡ relabel_end claim way check
by_claim None way check some = cc
by_claim (Some request) way check some = by_there way.there
  where
    by_there : (there : Result Id Errno) → end_in (through (record { checks = way.checks; there = there }) (λ id. ask (check id) does_nothing))
        ≡ end_in (through (carrying request (record { checks = way.checks; there = there })) (relabel_by check))
    by_there (Ok id) = refl
    by_there (Err e) = refl

-- it asks what it would ask if it asked for nothing
pub claimed : (listed : List Entry) (kind : Kind) (text read : List ℕ) (asked : Option Request) (way : Way Id) (check : Id → Check)
    → read ≡ text → asked ≡ claimed_in listed kind read → IsSome asked → end_in (through way (λ id. ask (check id) does_nothing)) ≡ relabel_end (claimed_in listed kind text) way check
claimed listed kind text read asked way check same is some =
    by_claim (claimed_in listed kind text) way check (subst (λ (claim : Option Request). IsSome claim) (is ∙ ap (claimed_in listed kind) same) some)
