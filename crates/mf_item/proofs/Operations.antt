-- Names tell the operations apart, and each operation is found by its name.
use Rattle.std.proofs.Common.{◌≡◌, ◌≢◌, ℕ, false, List, [], ◌∷◌, Some, None, refl, sym, ap, ◌∙◌}
use Rattle.std.specs.Prelude.{find}
use Rattle.std.specs.Str.{bytes_eq}
use Rattle.mf_errno.proofs.Modules.{differs}
use Rattle.mf_item.specs.Operation.{operation_text}
use Rattle.mf_item.specs.Named.{operation_named, all_operations}
use Rattle.mf_item.specs.declared.operation.CheckOp.{CheckOp}
use Rattle.mf_item.specs.declared.operation.CheckOp.TheVariants as op

-- each operation is found by its own name
pub own_name : (o : CheckOp) → operation_named (operation_text o) ≡ Some o
unfolding operation_named
own_name op.VnodeLookup = refl
own_name op.VnodeOpenRead = refl
own_name op.VnodeOpenWrite = refl
own_name op.VnodeRead = refl
own_name op.VnodeWrite = refl
own_name op.VnodeExec = refl
own_name op.VnodeStat = refl
own_name op.VnodeReaddir = refl
own_name op.VnodeCreate = refl
own_name op.VnodeUnlinkDir = refl
own_name op.VnodeUnlink = refl
own_name op.VnodeSetmode = refl
own_name op.VnodeRelabel = refl
own_name op.PipeRead = refl
own_name op.PipeWrite = refl
own_name op.PipeStat = refl
own_name op.PipeRelabel = refl
own_name op.SocketSend = refl
own_name op.SocketDeliver = refl
own_name op.SocketReceive = refl
own_name op.SocketVisible = refl
own_name op.SocketRelabel = refl
own_name op.SocketBind = refl
own_name op.CredRelabel = refl
own_name op.ProcVisible = refl
own_name op.ProcSignal = refl
own_name op.ProcDebug = refl
own_name op.ProcSched = refl
own_name op.KldLoad = refl
own_name op.KldUnload = refl
own_name op.Priv = refl

found_once : (o p : CheckOp) → Some o ≡ Some p → o ≡ p
found_once o p h = cc

-- two operations of one name are one
pub names_differ : (o p : CheckOp) → operation_text o ≡ operation_text p → o ≡ p
names_differ o p same = found_once o p (sym (own_name o) ∙ ap operation_named same ∙ own_name p)

found_nowhere : (text : List ℕ) → ((o : CheckOp) → text ≢ operation_text o) → (os : List CheckOp) → find (λ o. bytes_eq (operation_text o) text) os ≡ None
found_nowhere text other [] = refl
found_nowhere text other (o ∷ os) =
    let here : bytes_eq (operation_text o) text ≡ false = differs (operation_text o) text (other o) in
    let later = found_nowhere text other os in
    rw here later

-- no operation is found by a text that is no operation's name
pub no_name : (text : List ℕ) → ((o : CheckOp) → text ≢ operation_text o) → operation_named text ≡ None
unfolding operation_named
no_name text other = found_nowhere text other all_operations
