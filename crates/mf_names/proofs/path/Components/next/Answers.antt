use Rattle.std.specs.Str.{byte}
use Rattle.std.proofs.Common.{Some, None, arith}
use Rattle.mf_names.proofs.Splits.{first_part}
use Rattle.mf_names.proofs.path.Components.next.Goals as goal

pub returns-in-None : goal.returns-in-None
returns-in-None c = rw (← c.self.view_is, c.in_ok-rest.was) (first_part (byte "/") c.in_ok-rest.rest.now None (omega arith) c.in-None.ensures.cases)

pub returns-in-Some : goal.returns-in-Some
returns-in-Some c =
    rw (← c.self.view_is, c.in_ok-rest.was) (first_part (byte "/") c.in_ok-rest.rest.now (Some (c.in-Some.component, c.in-Some.after)) (omega arith) c.in-Some.ensures.cases)
