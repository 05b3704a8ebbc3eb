-- What the listed policies answer together, as sys/security/mac/mac_framework.c composes it; and whether a subject has a privilege, as priv_check(9)
-- has it. That a denial names who decided is this model's own.
use Rattle.std.specs.Prelude.{ℕ, Bool, true, false, if◌then◌else◌, ◌&&◌, ◌||◌, ◌==◌, List, map, Option, Some, None, option_map, option_and_then, slice_get, unwrap_or}
use Rattle.std.specs.List.{list_any}
use Rattle.mf_errno.specs.declared.errno.Errno.{Errno}
use Rattle.mf_errno.specs.declared.errno.Errno.TheVariants.{Success, Eperm}
use Rattle.mf_errno.specs.declared.privilege.Priv.{Priv}
use Rattle.mf_errno.specs.Same.{is_same}
use Rattle.mf_errno.specs.declared.module.Module.{Module}
use Rattle.mf_cred.specs.declared.cred.Cred.{Cred}
use Rattle.mf_item.specs.Item.{Item}
use Rattle.mf_item.specs.declared.operation.CheckOp.{CheckOp}
use Rattle.mf_item.specs.declared.operation.CheckOp.TheVariants as op
use Rattle.mf_compose.specs.Composition.{composition, decider}
use Rattle.mf_policy.specs.declared.registration.Registration.{Registration}
use Rattle.mf_policy.specs.Answer.{answer, grants}
use Rattle.mf_policy.specs.Registration.{Entry}
use Rattle.mf_list.specs.declared.ask.Answer.{Answer}

-- the label slot of a registration; 0 for one that has none, where it isn't looked at
abbrev pub slot_of : Registration → ℕ
slot_of r = unwrap_or r.slot 0

-- what one listed policy answers
abbrev pub answer_of : Item → Entry → Errno
answer_of item entry = answer entry.1 (slot_of entry.0) item

-- the answers in walk order
abbrev pub answers : List Entry → Item → List Errno
answers entries item = map (answer_of item) entries

-- the module of the policy in that place of the walk
abbrev pub module_at : List Entry → ℕ → Option Module
module_at entries place = option_map (λ entry. entry.0.module) (slice_get entries place)

-- the composition of all answers, and the policy that decides it
abbrev pub composed : List Entry → Item → Answer
composed entries item =
    record { errno = composition (answers entries item); by = option_and_then (module_at entries) (decider (answers entries item)) }

-- whether a listed policy grants that credential a privilege; where none is asked for, nobody grants it
abbrev pub grant_of : Option Priv → Cred → Entry → Bool
grant_of None cred entry = false
grant_of (Some privilege) cred entry = grants entry.1 cred privilege

-- whether the subject has the privilege that is asked for: root has each, and others have what some policy grants
abbrev pub has_privilege : List Entry → Item → Bool
has_privilege entries item = item.subject.cred.uid == 0 || list_any (grant_of item.privilege item.subject.cred) entries

-- the answer about a privilege, by the composition of the policies' answers and by whether the subject has it; a refusal is EPERM
-- whatever they answered, and nobody decides it
abbrev pub privilege_answer : Errno → Bool → Answer
privilege_answer errno has = record { errno = if is_same Success errno && has then Success else Eperm; by = None }

-- whether an operation asks for a privilege
abbrev pub asks_privilege : CheckOp → Bool
asks_privilege op.Priv = true
asks_privilege other = false

-- the answer to an item: the composition of all answers, and about a privilege the rule for privileges
abbrev pub answer_to : List Entry → Item → Answer
answer_to entries item =
    if asks_privilege item.op then privilege_answer (composition (answers entries item)) (has_privilege entries item) else composed entries item
