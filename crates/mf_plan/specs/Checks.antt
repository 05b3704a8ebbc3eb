-- The shapes of checks, which name entities by their ids alone.
use Rattle.std.specs.Prelude.{ℕ, Bool, Some, None}
use Rattle.mf_errno.specs.declared.privilege.Priv.{Priv}
use Rattle.mf_item.specs.declared.operation.CheckOp.{CheckOp}
use Rattle.mf_item.specs.declared.operation.CheckOp.TheVariants as op
use Rattle.mf_objects.specs.declared.id.Id.{Id}
use Rattle.mf_plan.specs.declared.outline.Check.{Check}

-- the check of what the caller does to an entity; of a privilege of the caller; and of the caller alone

abbrev pub on : Id → CheckOp → Id → Check
on me op id = record { op = op; caller = me; subject = me; object = Some id; privilege = None; port = None }

abbrev pub for_privilege : Id → Priv → Check
for_privilege me p = record { op = op.Priv; caller = me; subject = me; object = None; privilege = Some p; port = None }

abbrev pub by_itself : Id → CheckOp → Check
by_itself me op = record { op = op; caller = me; subject = me; object = None; privilege = None; port = None }

-- the check of what a socket of the caller does to another
abbrev pub by_socket : Id → Id → CheckOp → Id → Check
by_socket me socket op id = record { op = op; caller = me; subject = socket; object = Some id; privilege = None; port = None }

-- the check of a binding of a socket to a port, of TCP or else of UDP
abbrev pub binding : Id → Bool → ℕ → Id → Check
binding me tcp port id = record (on me op.SocketBind id) { port = Some (tcp, port) }
