use Rattle.std.proofs.Common.{◌≢◌, sym, rules}
use Rattle.mf_item.specs.Operation.{operation_text}
use Rattle.mf_item.specs.Named.{operation_named}
use Rattle.mf_item.specs.declared.operation.CheckOp.{CheckOp}
use Rattle.mf_item.specs.declared.operation.CheckOp.TheVariants as op
use Rattle.mf_item.proofs.Operations.{no_name}
use Rattle.mf_item.proofs.operation.CheckOp.from_name.Goals as goal

pub returns-in_default : goal.returns-in_default
returns-in_default c =
    let text = c.args.name.now in
    let other = c.in_default in
    let each : (o : CheckOp) → text ≢ operation_text o = λ o. elim o as (λ k. text ≢ operation_text k) [
      | op.VnodeLookup ↦ other.not-vnode_lookup
      | op.VnodeOpenRead ↦ other.not-vnode_open_read
      | op.VnodeOpenWrite ↦ other.not-vnode_open_write
      | op.VnodeRead ↦ other.not-vnode_read
      | op.VnodeWrite ↦ other.not-vnode_write
      | op.VnodeExec ↦ other.not-vnode_exec
      | op.VnodeStat ↦ other.not-vnode_stat
      | op.VnodeReaddir ↦ other.not-vnode_readdir
      | op.VnodeCreate ↦ other.not-vnode_create
      | op.VnodeUnlinkDir ↦ other.not-vnode_unlink_dir
      | op.VnodeUnlink ↦ other.not-vnode_unlink
      | op.VnodeSetmode ↦ other.not-vnode_setmode
      | op.VnodeRelabel ↦ other.not-vnode_relabel
      | op.PipeRead ↦ other.not-pipe_read
      | op.PipeWrite ↦ other.not-pipe_write
      | op.PipeStat ↦ other.not-pipe_stat
      | op.PipeRelabel ↦ other.not-pipe_relabel
      | op.SocketSend ↦ other.not-socket_send
      | op.SocketDeliver ↦ other.not-socket_deliver
      | op.SocketReceive ↦ other.not-socket_receive
      | op.SocketVisible ↦ other.not-socket_visible
      | op.SocketRelabel ↦ other.not-socket_relabel
      | op.SocketBind ↦ other.not-socket_bind
      | op.CredRelabel ↦ other.not-cred_relabel
      | op.ProcVisible ↦ other.not-proc_visible
      | op.ProcSignal ↦ other.not-proc_signal
      | op.ProcDebug ↦ other.not-proc_debug
      | op.ProcSched ↦ other.not-proc_sched
      | op.KldLoad ↦ other.not-kld_load
      | op.KldUnload ↦ other.not-kld_unload
      | op.Priv ↦ other.not-priv
    ] in
    sym (no_name text each)

pub returns-in-pipe_write : goal.returns-in-pipe_write
unfolding operation_named
returns-in-pipe_write c = search rules
