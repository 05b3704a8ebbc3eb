use Rattle.std.proofs.Common.{Ok, refl, string_bytes}
use Rattle.mf_top.proofs.Told.{told_itself}
use Rattle.mf_top.proofs.write.write_outcome.Goals as goal

pub returns-in-Ok : goal.returns-in-Ok
returns-in-Ok g c = rw c.in-Ok.is (told_itself _ (Ok (string_bytes c.in-Ok.text)) _ _ _ refl c.as_str.ensures.value c.write_text.ensures)
