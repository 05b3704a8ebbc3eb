-- The table of operations: what Biba, MLS and LOMAC test, what the partition policy tests, the letters that rules about files look at,
-- which way information moves, and which operations transfer the bytes of an open file.
--
-- The directions of flow are those of mac_biba(4), mac_mls(4) and mac_lomac(4), the letters those of mac_bsdextended(4), and that processes of
-- different partitions don't see each other is mac_partition(4)'s. Which operation is tested in which way, and with which error, is
-- this model's own choice.
use Rattle.std.specs.Prelude.{ℕ, ◌+◌, Bool, true, false, Option, Some, None}
use Rattle.mf_errno.specs.declared.errno.Errno.TheVariants.{Enoent, Esrch, Eacces}
use Rattle.mf_item.specs.declared.operation.CheckOp.{CheckOp}
use Rattle.mf_item.specs.declared.operation.CheckOp.TheVariants as op
use Rattle.mf_rule.specs.declared.rule.TheConstants.{ADMINISTER, READ, STAT, WRITE, EXECUTE}
use Rattle.mf_policy.specs.declared.operations.Test.{Test}
use Rattle.mf_policy.specs.declared.operations.Test.TheVariants.{Observe, Modify, ObserveAndModify, SameLevel, RelabelObject, RelabelCredential, GuardModules, Pass}
use Rattle.mf_policy.specs.declared.operations.PartitionTest.{PartitionTest}
use Rattle.mf_policy.specs.declared.operations.PartitionTest.TheVariants.{Agree, Join, Ignore}
use Rattle.mf_policy.specs.declared.operations.Movement.{Movement}
use Rattle.mf_policy.specs.declared.operations.Movement.TheVariants.{Still, ToSubject, ToObject, BothWays}
use Rattle.mf_policy.specs.declared.operations.Row.{Row}

abbrev pub row : Test → PartitionTest → Option ℕ → Movement → Row
row test partition letters movement =
    record { test = test; partition = partition; letters = letters; movement = movement; transfer = false }

-- the row of a transfer of bytes through an open file
abbrev pub as_transfer : Row → Row
as_transfer row = record row { transfer = true }

-- The table: operation, test of Biba, MLS and LOMAC, test of the partition policy, letters (None where rules about files aren't asked, 0 where
-- they are asked for no letter), movement.
abbrev pub row_of : CheckOp → Row
row_of op.VnodeLookup = row (Observe Eacces) Ignore (Some EXECUTE) ToSubject
row_of op.VnodeOpenRead = row (Observe Eacces) Ignore (Some READ) ToSubject
row_of op.VnodeOpenWrite = row Modify Ignore (Some WRITE) ToObject
row_of op.VnodeRead = as_transfer (row (Observe Eacces) Ignore (Some 0) ToSubject)
row_of op.VnodeWrite = as_transfer (row Modify Ignore (Some 0) ToObject)
row_of op.VnodeExec = row (Observe Eacces) Ignore (Some (READ + EXECUTE)) ToSubject
row_of op.VnodeStat = row (Observe Eacces) Ignore (Some STAT) ToSubject
row_of op.VnodeReaddir = row (Observe Eacces) Ignore (Some READ) ToSubject
row_of op.VnodeCreate = row Modify Ignore (Some WRITE) ToObject
row_of op.VnodeUnlinkDir = row Modify Ignore (Some WRITE) ToObject
row_of op.VnodeUnlink = row Modify Ignore (Some WRITE) ToObject
row_of op.VnodeSetmode = row Modify Ignore (Some ADMINISTER) ToObject
row_of op.VnodeRelabel = row RelabelObject Ignore None Still
row_of op.PipeRead = row (Observe Eacces) Ignore None ToSubject
row_of op.PipeWrite = row Modify Ignore None ToObject
row_of op.PipeStat = row (Observe Eacces) Ignore None ToSubject
row_of op.PipeRelabel = row RelabelObject Ignore None Still
row_of op.SocketSend = row Modify Ignore None ToObject
row_of op.SocketDeliver = row SameLevel Ignore None ToObject
row_of op.SocketReceive = row (Observe Eacces) Ignore None ToSubject
row_of op.SocketVisible = row (Observe Enoent) (Agree Enoent) None Still
row_of op.SocketRelabel = row RelabelObject Ignore None Still
row_of op.SocketBind = row Pass Ignore None Still
row_of op.CredRelabel = row RelabelCredential Join None Still
row_of op.ProcVisible = row (Observe Esrch) (Agree Esrch) None Still
row_of op.ProcSignal = row ObserveAndModify (Agree Esrch) None ToObject
row_of op.ProcDebug = row ObserveAndModify (Agree Esrch) None BothWays
row_of op.ProcSched = row ObserveAndModify (Agree Esrch) None ToObject
row_of op.KldLoad = row GuardModules Ignore None Still
row_of op.KldUnload = row GuardModules Ignore None Still
row_of op.Priv = row Pass Ignore None Still

-- whether it is a transfer of bytes through an open file
abbrev pub is_transfer : CheckOp → Bool
is_transfer op = (row_of op).transfer
