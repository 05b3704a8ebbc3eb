-- The three policies that go by an order of elements, each by its name.
use Rattle.mf_policy.specs.Answer.{LatticePolicy, biba, mls, lomac}
use Rattle.mf_answers.specs.declared.order.Order.{Order}
use Rattle.mf_answers.specs.declared.order.Order.TheVariants.{Biba, Mls, Lomac}

-- the policy of that name
abbrev pub policy_of : Order → LatticePolicy
policy_of Biba = biba
policy_of Mls = mls
policy_of Lomac = lomac
