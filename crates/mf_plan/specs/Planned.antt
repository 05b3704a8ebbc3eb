-- A plan, as contracts see it: this model's own.
use Rattle.std.specs.Prelude.{List, []}
use Rattle.mf_item.specs.Item.{Item}
use Rattle.mf_plan.specs.declared.plan.Tail.{Tail}
use Rattle.mf_plan.specs.declared.plan.Tail.TheVariants.{Do}

-- the checks of a call as policies see them, in the order in which they are asked, and its end
pub record Plan : Type 0 where
  pub items : List Item
  pub tail : Tail

-- the plan of a call that asks nothing and is done
abbrev pub proceed : Plan
proceed = record { items = []; tail = Do }
