-- The names of the errors, as errno(2) has them and a history prints them, and of the modules, as their manual pages have them. The name of
-- success is this model's own.
use Rattle.std.specs.Prelude.{ℕ, List, [], ◌∷◌, ◌++◌, Option, find, codes}
use Rattle.std.specs.Str.{bytes_eq}
use Rattle.mf_errno.specs.declared.errno.Errno.{Errno}
use Rattle.mf_errno.specs.declared.errno.Errno.TheVariants.{Success, Eperm, Enoent, Esrch, Ebadf, Edeadlk, Enomem, Eacces, Ebusy, Eexist, Enotdir, Eisdir, Einval, Enfile, Emfile, Efbig, Eagain, Enobufs, Enotempty}
use Rattle.mf_errno.specs.declared.module.Module.{Module}
use Rattle.mf_errno.specs.declared.module.Module.TheVariants.{Biba, Mls, Lomac, Partition, Bsdextended, Priority, Seeotheruids, Portacl}

abbrev pub error_text : Errno → List ℕ
error_text Success = codes "ok"
error_text Eperm = codes "EPERM"
error_text Enoent = codes "ENOENT"
error_text Esrch = codes "ESRCH"
error_text Ebadf = codes "EBADF"
error_text Edeadlk = codes "EDEADLK"
error_text Enomem = codes "ENOMEM"
error_text Eacces = codes "EACCES"
error_text Ebusy = codes "EBUSY"
error_text Eexist = codes "EEXIST"
error_text Enotdir = codes "ENOTDIR"
error_text Eisdir = codes "EISDIR"
error_text Einval = codes "EINVAL"
error_text Enfile = codes "ENFILE"
error_text Emfile = codes "EMFILE"
error_text Efbig = codes "EFBIG"
error_text Eagain = codes "EAGAIN"
error_text Enobufs = codes "ENOBUFS"
error_text Enotempty = codes "ENOTEMPTY"

-- all of them, by their numbers
abbrev pub all_errors : List Errno
all_errors = Success ∷ Eperm ∷ Enoent ∷ Esrch ∷ Ebadf ∷ Edeadlk ∷ Enomem ∷ Eacces ∷ Ebusy ∷ Eexist ∷ Enotdir ∷ Eisdir ∷ Einval ∷ Enfile ∷ Emfile ∷ Efbig ∷ Eagain ∷ Enobufs ∷ Enotempty ∷ []

-- the policy of a module, as label texts name it
abbrev pub policy_text : Module → List ℕ
policy_text Biba = codes "biba"
policy_text Mls = codes "mls"
policy_text Lomac = codes "lomac"
policy_text Partition = codes "partition"
policy_text Bsdextended = codes "bsdextended"
policy_text Priority = codes "priority"
policy_text Seeotheruids = codes "seeotheruids"
policy_text Portacl = codes "portacl"

abbrev pub module_text : Module → List ℕ
module_text m = codes "mac_" ++ policy_text m

abbrev pub all_modules : List Module
all_modules = Biba ∷ Mls ∷ Lomac ∷ Partition ∷ Bsdextended ∷ Priority ∷ Seeotheruids ∷ Portacl ∷ []

unfoldable pub module_named : List ℕ → Option Module
module_named name = find (λ m. bytes_eq (module_text m) name) all_modules
