-- That the errors that are told compose to the answer.
use Rattle.std.proofs.Common.{◌≡◌, false, ◌||◌, List, [], ◌∷◌, ◌++◌, Option, Some, None, map, refl, sym, ap, ◌∙◌}
use Rattle.std.specs.Prelude.{if◌then◌else◌}
use Rattle.std.specs.List.{flat_map, list_any}
use Rattle.std.specs.Option.{option_map_or}
use Rattle.mf_errno.specs.declared.errno.Errno.{Errno}
use Rattle.mf_errno.specs.declared.errno.Errno.TheVariants.{Success, Edeadlk, Einval, Esrch, Enoent, Eacces, Eperm}
use Rattle.mf_errno.specs.declared.module.Module.{Module}
use Rattle.mf_errno.specs.Same.{is_same}
use Rattle.mf_compose.specs.Composition.{composition, last_failure}
use Rattle.mf_item.specs.Item.{Item}
use Rattle.mf_policy.specs.Registration.{Entry}
use Rattle.mf_list.specs.Asked.{answer_of, slot_of}
use Rattle.mf_answers.specs.declared.reasons.Reason.{Reason}
use Rattle.mf_answers.specs.Reasons.{errno_by, errno_of, reason}
use Rattle.mf_answers.proofs.Errnos.{by_reason}
use Rattle.mf_why.specs.Deniers.{Denier, denier, mark_of, other_reasons}
use Rattle.mf_why.specs.Laws.{DeniersCompose, errno_told}

alone : (x : Errno) → x ≡ (if is_same Success x then Success else x)
alone Success = refl
alone other = refl

module _ (item : Item) (by : Option Module) where
  abbrev errors : List Denier → List Errno
  errors told = map errno_told told

  abbrev err : Entry → Errno
  err entry = errno_by (reason entry.1 (slot_of entry.0) item)

  abbrev told_of : Entry → Option Reason → List Denier
  told_of entry o =
      option_map_or
      (λ why. (record { «module» = entry.0.module; mark = mark_of by entry.0.module; reason = why; others = other_reasons entry.1 item why }) ∷ []) o []

  any_told : (e : Errno) → is_same e Success ≡ false → (entries : List Entry) → list_any (is_same e) (errors (flat_map (denier by item) entries)) ≡ list_any (is_same e) (map err entries)
  any_told e other [] = refl
  any_told e other (entry ∷ entries) = one (reason entry.1 (slot_of entry.0) item) (any_told e other entries)
    where
      one : (o : Option Reason) → list_any (is_same e) (errors (flat_map (denier by item) entries)) ≡ list_any (is_same e) (map err entries)
          → list_any (is_same e) (errors (told_of entry o ++ flat_map (denier by item) entries)) ≡ (is_same e (errno_by o) || list_any (is_same e) (map err entries))
      one None rest = rw other rest
      one (Some r) rest = ap (λ b. is_same e (errno_of r) || b) rest

  last_told : (entries : List Entry) → last_failure (errors (flat_map (denier by item) entries)) ≡ last_failure (map err entries)
  last_told [] = refl
  last_told (entry ∷ entries) = one (reason entry.1 (slot_of entry.0) item) (last_told entries)
    where
      one : (o : Option Reason) → last_failure (errors (flat_map (denier by item) entries)) ≡ last_failure (map err entries)
          → last_failure (errors (told_of entry o ++ flat_map (denier by item) entries))
          ≡ (if is_same Success (last_failure (map err entries)) then errno_by o else last_failure (map err entries))
      one None rest = rest ∙ alone (last_failure (map err entries))
      one (Some r) rest = ap (λ x. if is_same Success x then errno_of r else x) rest

  mapped : (entries : List Entry) → map err entries ≡ map (answer_of item) entries
  mapped [] = refl
  mapped (entry ∷ entries) = ap (λ x. x ∷ map err entries) (sym (by_reason entry.1 (slot_of entry.0) item)) ∙ ap (λ xs. answer_of item entry ∷ xs) (mapped entries)

  pub compose : (entries : List Entry) → composition (errors (flat_map (denier by item) entries)) ≡ composition (map err entries)
  unfolding composition
  compose entries =
      rw (any_told Edeadlk refl entries) (rw (any_told Einval refl entries) (rw (any_told Esrch refl entries) (rw (any_told Enoent refl entries)
      (rw (any_told Eacces refl entries) (rw (any_told Eperm refl entries) (rw (last_told entries) refl))))))

pub deniers_compose : DeniersCompose
deniers_compose listed by item = compose item by listed ∙ ap composition (mapped item by listed)
