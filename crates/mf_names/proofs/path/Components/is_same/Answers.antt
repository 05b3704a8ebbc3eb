use Rattle.mf_names.proofs.Texts.{nothing_decides, texts_decide}
use Rattle.mf_names.proofs.path.Components.is_same.Goals as goal

pub returns-in-None-rest : goal.returns-in-None-rest
returns-in-None-rest c = rw (← c.self.view_is, ← c.other.view_is, c.in-Some.is, c.in-None-rest.is) (nothing_decides c.in-Some.text.now)

pub returns-in-Some-rest : goal.returns-in-Some-rest
returns-in-Some-rest c =
    rw (← c.self.view_is, ← c.other.view_is, c.in-Some.is, c.in-Some-rest.is) (texts_decide c.in-Some.text.now c.in-Some-rest.other_text.now c.eq.result c.eq.ensures)
