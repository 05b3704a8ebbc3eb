-- The letters of the matrix: what may be done to an object of each kind. Which these are is this model's own.
use Rattle.std.specs.Prelude.{ℕ, Bool, true, false, List, [], ◌∷◌, Option, Some, None, codes, slice_index_or}
use Rattle.mf_item.specs.declared.operation.CheckOp.{CheckOp}
use Rattle.mf_item.specs.declared.operation.CheckOp.TheVariants as op
use Rattle.mf_item.specs.declared.view.Kind.{Kind}
use Rattle.mf_item.specs.declared.view.Kind.TheVariants as kinds
use Rattle.mf_item.specs.declared.view.ObjectView.{ObjectView}
use Rattle.mf_matrix.specs.declared.letters.Letter.{Letter}

abbrev pub letter : List ℕ → CheckOp → Option Letter
letter sign op = Some (record { sign = slice_index_or sign 0 0; op = op })

abbrev pub file_letters : Bool → List (Option Letter)
file_letters true =
    letter (codes "r") op.VnodeReaddir ∷ letter (codes "w") op.VnodeCreate ∷ letter (codes "x") op.VnodeLookup ∷ letter (codes "s") op.VnodeStat ∷ []
file_letters false =
    letter (codes "r") op.VnodeOpenRead ∷ letter (codes "w") op.VnodeOpenWrite ∷ letter (codes "x") op.VnodeExec ∷ letter (codes "s") op.VnodeStat ∷ []

abbrev pub kind_letters : Kind → Bool → List (Option Letter)
kind_letters kinds.Vnode dir = file_letters dir
kind_letters kinds.Pipe dir =
    letter (codes "r") op.PipeRead ∷ letter (codes "w") op.PipeWrite ∷ letter (codes "s") op.PipeStat ∷ None ∷ []
kind_letters kinds.Socket dir =
    letter (codes "r") op.SocketReceive ∷ letter (codes "w") op.SocketSend ∷ letter (codes "v") op.SocketVisible ∷ None ∷ []
kind_letters kinds.Process dir =
    letter (codes "v") op.ProcVisible ∷ letter (codes "g") op.ProcSignal ∷ letter (codes "d") op.ProcDebug ∷ letter (codes "c") op.ProcSched ∷ []

-- the letters of an object, in four places; a pipe or a socket has none in the last
abbrev pub letters_for : ObjectView → List (Option Letter)
letters_for object = kind_letters object.kind object.file.dir
