use Rattle.std.specs.Str.{byte}
use Rattle.std.proofs.Common.{Some, None, arith}
use Rattle.mf_names.proofs.Splits.{last_part}
use Rattle.mf_names.proofs.path.Components.split_last.Goals as goal

pub returns-in-None : goal.returns-in-None
returns-in-None c = rw (← c.self.view_is, c.in_ok-rest.was) (last_part (byte "/") c.in_ok-rest.rest.now None (omega arith) c.in-None.ensures.cases)

pub returns-in-Some : goal.returns-in-Some
returns-in-Some c =
    rw (← c.self.view_is, c.in_ok-rest.was) (last_part (byte "/") c.in_ok-rest.rest.now (Some (c.in-Some.before, c.in-Some.last)) (omega arith) c.in-Some.ensures.cases)
