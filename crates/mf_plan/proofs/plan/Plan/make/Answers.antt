use Rattle.mf_plan.proofs.plan.Plan.make.Goals as goal

pub returns-clause-outline : goal.returns-clause-outline
returns-clause-outline c =
    record {
      plan = c.make.ensures.plan;
      live = c.make.ensures.live;
      caller = c.make.ensures.caller;
      lives = c.make.ensures.lives;
      found = c.make.ensures.found;
    }
