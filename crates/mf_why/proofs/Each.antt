-- That each listed policy that denies is told, with its answer.
use Rattle.std.proofs.Common.{◌≡◌, Bool, true, false, not, cond, List, [], ◌∷◌, ◌++◌, Option, Some, None, map, refl, sym, ap, ◌∙◌}
use Rattle.std.specs.Prelude.{is_none}
use Rattle.std.specs.List.{filter}
use Rattle.std.specs.Option.{option_map_or}
use Rattle.mf_errno.specs.declared.errno.Errno.{Errno}
use Rattle.mf_errno.specs.declared.errno.Errno.TheVariants.{Success}
use Rattle.mf_errno.specs.declared.module.Module.{Module}
use Rattle.mf_errno.specs.Same.{is_same}
use Rattle.mf_item.specs.Item.{Item}
use Rattle.mf_policy.specs.Registration.{Entry}
use Rattle.mf_list.specs.Asked.{answer_of, slot_of}
use Rattle.mf_answers.specs.declared.reasons.Reason.{Reason}
use Rattle.mf_answers.specs.Reasons.{errno_by, reason}
use Rattle.mf_answers.proofs.Denying.{reasons_deny}
use Rattle.mf_answers.proofs.Errnos.{by_reason}
use Rattle.mf_why.specs.Deniers.{Denier, deniers, mark_of, other_reasons}
use Rattle.mf_why.specs.Laws.{EachDenierIsTold, denies, module_answer, module_told}

module _ (item : Item) (by : Option Module) where
  abbrev told_of : Entry → Option Reason → List Denier
  told_of entry o =
      option_map_or
      (λ why. (record { «module» = entry.0.module; mark = mark_of by entry.0.module; reason = why; others = other_reasons entry.1 item why }) ∷ []) o []

  pub each : (entries : List Entry) → map module_told (deniers entries by item) ≡ map (module_answer item) (filter (denies item) entries)
  each [] = refl
  each (entry ∷ entries) =
      one (reason entry.1 (slot_of entry.0) item) (is_same Success (answer_of item entry)) (by_reason entry.1 (slot_of entry.0) item)
      (reasons_deny entry.1 (slot_of entry.0) item) (each entries)
    where
      one : (o : Option Reason) (passes : Bool) → answer_of item entry ≡ errno_by o → is_none o ≡ passes
          → map module_told (deniers entries by item) ≡ map (module_answer item) (filter (denies item) entries)
          → map module_told (told_of entry o ++ deniers entries by item)
          ≡ map (module_answer item) (cond (not passes) (entry ∷ filter (denies item) entries) (filter (denies item) entries))
      one None true is none rest = rest
      one (Some why) false is none rest =
          ap (λ (errno : Errno). (entry.0.module, errno) ∷ map module_told (deniers entries by item)) (sym is)
          ∙ ap (λ told. module_answer item entry ∷ told) rest
      one None false is none rest = cc
      one (Some why) true is none rest = cc

pub each_denier_is_told : EachDenierIsTold
each_denier_is_told listed by item = each item by listed
