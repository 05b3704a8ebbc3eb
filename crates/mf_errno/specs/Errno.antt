-- The numbers of the errors, as errno(2) has them.
use Rattle.std.specs.Prelude.{◌≡◌, ℕ, List, Option, find}
use Rattle.mf_errno.specs.declared.errno.Errno.{Errno}
use Rattle.mf_errno.specs.declared.errno.Errno.TheVariants.{Success, Eperm, Enoent, Esrch, Ebadf, Edeadlk, Enomem, Eacces, Ebusy, Eexist, Enotdir, Eisdir, Einval, Enfile, Emfile, Efbig, Eagain, Enobufs, Enotempty}
use Rattle.mf_errno.specs.Names.{error_text, all_errors}
use Rattle.std.specs.Str.{bytes_eq}

-- the number of errno(2), and 0 for success
abbrev pub number_of : Errno → ℕ
number_of Success = 0
number_of Eperm = 1
number_of Enoent = 2
number_of Esrch = 3
number_of Ebadf = 9
number_of Edeadlk = 11
number_of Enomem = 12
number_of Eacces = 13
number_of Ebusy = 16
number_of Eexist = 17
number_of Enotdir = 20
number_of Eisdir = 21
number_of Einval = 22
number_of Enfile = 23
number_of Emfile = 24
number_of Efbig = 27
number_of Eagain = 35
number_of Enobufs = 55
number_of Enotempty = 66

-- no two errors have one number
abbrev pub NumbersDiffer : Type 0
NumbersDiffer = (a b : Errno) → number_of a ≡ number_of b → a ≡ b

-- no two errors have one name
abbrev pub NamesDiffer : Type 0
NamesDiffer = (a b : Errno) → error_text a ≡ error_text b → a ≡ b

-- the error of that name
unfoldable pub errno_named : List ℕ → Option Errno
errno_named name = find (λ e. bytes_eq (error_text e) name) all_errors
