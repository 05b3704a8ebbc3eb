-- The operation of a name.
use Rattle.std.specs.Prelude.{ℕ, List, [], ◌∷◌, Option, find}
use Rattle.std.specs.Str.{bytes_eq}
use Rattle.mf_item.specs.declared.operation.CheckOp.{CheckOp}
use Rattle.mf_item.specs.declared.operation.CheckOp.TheVariants as op
use Rattle.mf_item.specs.Operation.{operation_text}

-- all of them
abbrev pub all_operations : List CheckOp
all_operations =
    op.VnodeLookup ∷ op.VnodeOpenRead ∷ op.VnodeOpenWrite ∷ op.VnodeRead ∷ op.VnodeWrite ∷ op.VnodeExec ∷ op.VnodeStat ∷ op.VnodeReaddir ∷ op.VnodeCreate ∷ op.VnodeUnlinkDir ∷ op.VnodeUnlink ∷ op.VnodeSetmode ∷ op.VnodeRelabel ∷ op.PipeRead ∷ op.PipeWrite ∷ op.PipeStat ∷ op.PipeRelabel ∷ op.SocketSend ∷ op.SocketDeliver ∷ op.SocketReceive ∷ op.SocketVisible ∷ op.SocketRelabel ∷ op.SocketBind ∷ op.CredRelabel ∷ op.ProcVisible ∷ op.ProcSignal ∷ op.ProcDebug ∷ op.ProcSched ∷ op.KldLoad ∷ op.KldUnload ∷ op.Priv ∷ []

-- the operation of that name
unfoldable pub operation_named : List ℕ → Option CheckOp
operation_named name = find (λ o. bytes_eq (operation_text o) name) all_operations
