use Rattle.std.proofs.Common.{◌≡◌, ℕ, ◌<◌, false, get_or}
use Rattle.mf_objects.specs.declared.id.Id.{Id}
use Rattle.mf_objects.specs.Index.{is_named_at}
use Rattle.mf_objects.proofs.objects.reading.named_among.Given as goal

abbrev pub invariant-loop-id : goal.invariant-loop-id
invariant-loop-id l = (k : ℕ) (d : Id) → k < l.id-index → is_named_at l.entities l.group l.name (get_or l.candidates k d) ≡ false
