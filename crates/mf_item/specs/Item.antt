-- A check that the policies are asked for: one call of an entry point of mac(9), with what policies look at, the labels that a relabel asks
-- for, the privilege that is asked for and the port that a socket is bound to among it.
use Rattle.std.specs.Prelude.{ℕ, Bool, Option}
use Rattle.mf_errno.specs.declared.privilege.Priv.{Priv}
use Rattle.mf_elem.specs.declared.label.Request.{Request}
use Rattle.mf_item.specs.declared.operation.CheckOp.{CheckOp}
use Rattle.mf_item.specs.declared.view.ObjectView.{ObjectView}
use Rattle.mf_item.specs.declared.view.SubjectView.{SubjectView}

pub record Item : Type 0 where
  pub op : CheckOp
  pub subject : SubjectView
  pub object : Option ObjectView
  pub request : Option Request
  pub privilege : Option Priv
  -- of a binding whether it is of TCP, and not of UDP, and the port
  pub port : Option (Bool × ℕ)
