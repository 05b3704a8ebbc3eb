-- The policies' verdict on a plan: the walk over its checks, of which the first that is denied ends the call, as in the kernel.
use Rattle.std.specs.Prelude.{ℕ, ◌+◌, List, [], ◌∷◌, Option, Some, None}
use Rattle.mf_errno.specs.declared.errno.Errno.{Errno}
use Rattle.mf_errno.specs.declared.errno.Errno.TheVariants.{Success}
use Rattle.mf_errno.specs.declared.module.Module.{Module}
use Rattle.mf_item.specs.Item.{Item}
use Rattle.mf_policy.specs.Registration.{Entry}
use Rattle.mf_plan.specs.Planned.{Plan}
use Rattle.mf_perform.specs.declared.verdict.Denial.{Denial}
use Rattle.mf_perform.specs.declared.verdict.Verdict.{Verdict}
use Rattle.mf_list.specs.Asked.{answer_to}

abbrev pub denial_at : ℕ → Errno → Option Module → Option Denial → Option Denial
denial_at n Success by later = later
denial_at n errno by later = Some (record { item = n; errno = errno; by = by })

-- the denial of the first of the checks that is denied, where they count from n
abbrev pub denial_from : List Entry → ℕ → List Item → Option Denial
denial_from policies n [] = None
denial_from policies n (i ∷ is) = denial_at n (answer_to policies i).errno (answer_to policies i).by (denial_from policies (n + 1) is)

-- the verdict of these policies on a plan
abbrev pub verdict_of : List Entry → Plan → Verdict
verdict_of policies p = record { denied = denial_from policies 1 p.items }
