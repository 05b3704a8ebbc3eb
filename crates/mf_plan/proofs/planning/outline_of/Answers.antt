use Rattle.mf_plan.proofs.planning.outline_of.Goals as goal

pub returns : goal.returns
returns c =
    record {
      plan = c.make.ensures.plan;
      live = c.make.ensures.live;
      caller = c.make.ensures.caller;
      lives = c.make.ensures.lives;
      found = c.make.ensures.found;
    }
