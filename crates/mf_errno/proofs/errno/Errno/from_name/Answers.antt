use Rattle.std.proofs.Common.{◌≢◌, sym}
use Rattle.mf_errno.specs.Names.{error_text}
use Rattle.mf_errno.specs.declared.errno.Errno.{Errno}
use Rattle.mf_errno.specs.declared.errno.Errno.TheVariants.{Success, Eperm, Enoent, Esrch, Ebadf, Edeadlk, Enomem, Eacces, Ebusy, Eexist, Enotdir, Eisdir, Einval, Enfile, Emfile, Efbig, Eagain, Enobufs, Enotempty}
use Rattle.mf_errno.proofs.Errors.{no_name}
use Rattle.mf_errno.proofs.errno.Errno.from_name.Goals as goal

pub returns-in_default : goal.returns-in_default
returns-in_default c =
    let text = c.args.name.now in
    let other = c.in_default in
    let each : (e : Errno) → text ≢ error_text e = λ e. elim e as (λ k. text ≢ error_text k) [
      | Success ↦ other.not-ok
      | Eperm ↦ other.not-EPERM
      | Enoent ↦ other.not-ENOENT
      | Esrch ↦ other.not-ESRCH
      | Ebadf ↦ other.not-EBADF
      | Edeadlk ↦ other.not-EDEADLK
      | Enomem ↦ other.not-ENOMEM
      | Eacces ↦ other.not-EACCES
      | Ebusy ↦ other.not-EBUSY
      | Eexist ↦ other.not-EEXIST
      | Enotdir ↦ other.not-ENOTDIR
      | Eisdir ↦ other.not-EISDIR
      | Einval ↦ other.not-EINVAL
      | Enfile ↦ other.not-ENFILE
      | Emfile ↦ other.not-EMFILE
      | Efbig ↦ other.not-EFBIG
      | Eagain ↦ other.not-EAGAIN
      | Enobufs ↦ other.not-ENOBUFS
      | Enotempty ↦ other.not-ENOTEMPTY
    ] in
    sym (no_name text each)
