-- Which processes a subject sees by mac_seeotheruids(4), and which ports it may bind a socket to by mac_portacl(4). A process is seen as an
-- object by its real uid and its first group; a port is one of TCP, or else of UDP.
use Rattle.std.specs.Prelude.{ℕ, Bool, true, false, not, ◌&&◌, ◌||◌, ◌==◌, nat_lt, if◌then◌else◌, List, Option, Some, slice_index_or}
use Rattle.std.specs.List.{list_any}
use Rattle.mf_errno.specs.declared.errno.Errno.{Errno}
use Rattle.mf_errno.specs.declared.errno.Errno.TheVariants.{Success, Eperm}
use Rattle.mf_cred.specs.declared.cred.Cred.{Cred}
use Rattle.mf_cred.specs.declared.cred.FileView.{FileView}
use Rattle.mf_cred.specs.Groups.{in_group}
use Rattle.mf_item.specs.declared.operation.CheckOp.{CheckOp}
use Rattle.mf_item.specs.declared.operation.CheckOp.TheVariants as op
use Rattle.mf_rule.specs.declared.ports.PortRule.{PortRule}

-- whether a process does the operation to another
abbrev pub is_on_process : CheckOp → Bool
is_on_process op.ProcVisible = true
is_on_process op.ProcSignal = true
is_on_process op.ProcDebug = true
is_on_process op.ProcSched = true
is_on_process other = false

-- Whether a subject sees a process: one of its own real uid; with the settings, one of its own primary group, the first, any where it is in the
-- specific group, and any where it is root.
abbrev pub may_see : Bool → Bool → ℕ → Bool → Cred → FileView → Bool
may_see primarygroup specific gid suser subject process =
    subject.ruid == process.uid || primarygroup && slice_index_or subject.groups 0 0 == process.gid
    || specific && in_group subject gid || suser && subject.uid == 0

-- Whether a subject may bind a port: one above those that are guarded; with the settings, one that the kernel chooses, and any where it is root;
-- and one for which there is a rule, by one of its groups or by its effective uid.
abbrev pub may_bind : List PortRule → ℕ → Bool → Bool → Cred → Bool × ℕ → Bool
may_bind rules port_high suser autoport cred port =
    nat_lt port_high port.1 || autoport && port.1 == 0 || suser && cred.uid == 0
    || list_any (λ rule. (if rule.tcp then port.0 else not port.0) && rule.port == port.1 && (if rule.group then in_group cred rule.id else cred.uid == rule.id)) rules

-- the answer to the binding of a port, by whether the subject may; every other check passes
abbrev pub binding_answer : (Bool × ℕ → Bool) → CheckOp → Option (Bool × ℕ) → Errno
binding_answer may op.SocketBind (Some port) = if may port then Success else Eperm
binding_answer may op port = Success
