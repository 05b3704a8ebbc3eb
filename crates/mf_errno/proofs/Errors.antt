-- Numbers and names tell the errors apart, and each error is found by its name.
use Rattle.std.proofs.Common.{◌≡◌, ◌≢◌, ℕ, true, false, List, [], ◌∷◌, Option, Some, None, refl, sym, ap, ◌∙◌}
use Rattle.std.specs.Prelude.{find, nat_eq}
use Rattle.std.specs.Str.{bytes_eq}
use Rattle.std.proofs.lemmas.Slice.Eq.{bytes_eq-Decides}
use Rattle.mf_errno.specs.Errno.{number_of, errno_named}
use Rattle.mf_errno.specs.Same.{is_same}
use Rattle.mf_errno.specs.Names.{error_text, all_errors}
use Rattle.mf_errno.specs.declared.errno.Errno.{Errno}
use Rattle.mf_errno.specs.declared.errno.Errno.TheVariants.{Success, Eperm, Enoent, Esrch, Ebadf, Edeadlk, Enomem, Eacces, Ebusy, Eexist, Enotdir, Eisdir, Einval, Enfile, Emfile, Efbig, Eagain, Enobufs, Enotempty}
use Rattle.mf_errno.proofs.Modules.{differs}

errno_numbered : ℕ → Option Errno
errno_numbered n = find (λ e. nat_eq (number_of e) n) all_errors

own_number : (e : Errno) → errno_numbered (number_of e) ≡ Some e
unfolding errno_numbered
own_number Success = refl
own_number Eperm = refl
own_number Enoent = refl
own_number Esrch = refl
own_number Ebadf = refl
own_number Edeadlk = refl
own_number Enomem = refl
own_number Eacces = refl
own_number Ebusy = refl
own_number Eexist = refl
own_number Enotdir = refl
own_number Eisdir = refl
own_number Einval = refl
own_number Enfile = refl
own_number Emfile = refl
own_number Efbig = refl
own_number Eagain = refl
own_number Enobufs = refl
own_number Enotempty = refl

-- each error is found by its own name
pub own_name : (e : Errno) → errno_named (error_text e) ≡ Some e
unfolding errno_named
own_name Success = refl
own_name Eperm = refl
own_name Enoent = refl
own_name Esrch = refl
own_name Ebadf = refl
own_name Edeadlk = refl
own_name Enomem = refl
own_name Eacces = refl
own_name Ebusy = refl
own_name Eexist = refl
own_name Enotdir = refl
own_name Eisdir = refl
own_name Einval = refl
own_name Enfile = refl
own_name Emfile = refl
own_name Efbig = refl
own_name Eagain = refl
own_name Enobufs = refl
own_name Enotempty = refl

found_once : (e f : Errno) → Some e ≡ Some f → e ≡ f
found_once e f h = cc

-- two errors of one number are one
pub numbers_differ : (e f : Errno) → number_of e ≡ number_of f → e ≡ f
numbers_differ e f same = found_once e f (sym (own_number e) ∙ ap errno_numbered same ∙ own_number f)

-- two errors of one name are one
pub names_differ : (e f : Errno) → error_text e ≡ error_text f → e ≡ f
names_differ e f same = found_once e f (sym (own_name e) ∙ ap errno_named same ∙ own_name f)

pub is_same-is : (e f : Errno) → is_same e f ≡ true → e ≡ f
is_same-is e f h = names_differ e f ((bytes_eq-Decides (error_text e) (error_text f)).0 h)

pub is_same-refl : (e : Errno) → is_same e e ≡ true
is_same-refl Success = refl
is_same-refl Eperm = refl
is_same-refl Enoent = refl
is_same-refl Esrch = refl
is_same-refl Ebadf = refl
is_same-refl Edeadlk = refl
is_same-refl Enomem = refl
is_same-refl Eacces = refl
is_same-refl Ebusy = refl
is_same-refl Eexist = refl
is_same-refl Enotdir = refl
is_same-refl Eisdir = refl
is_same-refl Einval = refl
is_same-refl Enfile = refl
is_same-refl Emfile = refl
is_same-refl Efbig = refl
is_same-refl Eagain = refl
is_same-refl Enobufs = refl
is_same-refl Enotempty = refl

found_nowhere : (text : List ℕ) → ((e : Errno) → text ≢ error_text e) → (es : List Errno) → find (λ e. bytes_eq (error_text e) text) es ≡ None
found_nowhere text other [] = refl
found_nowhere text other (e ∷ es) = let here : bytes_eq (error_text e) text ≡ false = differs (error_text e) text (other e) in let later = found_nowhere text other es in rw here later

-- no error is found by a text that is no error's name
pub no_name : (text : List ℕ) → ((e : Errno) → text ≢ error_text e) → errno_named text ≡ None
unfolding errno_named
no_name text other = found_nowhere text other all_errors
