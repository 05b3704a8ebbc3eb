-- An errno stands among the errnos of the replies as often as events reply with it.
use Rattle.std.proofs.Common.{◌≡◌, ◌+◌, Bool, cond, List, [], ◌∷◌, ◌++◌, refl, ap, ◌∙◌, sym, arith}
use Rattle.std.specs.Prelude.{count_by}
use Rattle.std.specs.List.{flat_map}
use Rattle.std.proofs.lemmas.List.Sums.{sum_by-cons}
use Rattle.mf_errno.specs.declared.errno.Errno.{Errno}
use Rattle.mf_errno.specs.Same.{is_same}
use Rattle.mf_core.specs.declared.history.Event.{Event}
use Rattle.mf_core.specs.declared.history.Event.TheVariants as event
use Rattle.mf_load.specs.Counts.{errno_of, replies_with, reply_count}
use Rattle.mf_load.specs.Replied.{errnos_in, counted_text, replied_text}
use Rattle.mf_load.specs.Summary.{count_text}

count_cons : {X : Type 0} (p : X → Bool) (x : X) (xs : List X) → count_by p (x ∷ xs) ≡ cond (p x) 1 0 + count_by p xs
count_cons p x xs = sum_by-cons (λ y. cond (p y) 1 0) x xs

pub counted : (e : Errno) (es : List Event) → count_by (is_same e) (errnos_in es) ≡ reply_count e es
counted e [] = refl
counted e (event.Enter t ∷ es) = omega (arith, counted e es, count_cons (replies_with e) (event.Enter t) es)
counted e (event.Done t line reply ∷ es) =
    count_cons (is_same e) (errno_of reply) (errnos_in es)
    ∙ ap (λ n. cond (is_same e (errno_of reply)) 1 0 + n) (counted e es)
    ∙ sym (count_cons (replies_with e) (event.Done t line reply) es)
counted e (event.Leave t ∷ es) = omega (arith, counted e es, count_cons (replies_with e) (event.Leave t) es)
counted e (event.Changed t line reply ∷ es) =
    count_cons (is_same e) (errno_of reply) (errnos_in es)
    ∙ ap (λ n. cond (is_same e (errno_of reply)) 1 0 + n) (counted e es)
    ∙ sym (count_cons (replies_with e) (event.Changed t line reply) es)

pub counted_texts : (es : List Event) (errnos : List Errno) → flat_map (counted_text (errnos_in es)) errnos ≡ flat_map (replied_text es) errnos
counted_texts es [] = refl
counted_texts es (e ∷ errnos) =
    ap (λ n. count_text e n ++ flat_map (counted_text (errnos_in es)) errnos) (counted e es)
    ∙ ap (λ rest. replied_text es e ++ rest) (counted_texts es errnos)
