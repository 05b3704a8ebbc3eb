-- What a kernel's policies are seen as.
use Rattle.std.specs.Prelude.{List}
use Rattle.mf_errno.specs.declared.module.Module.{Module}
use Rattle.mf_policy.specs.Registration.{Entry}

-- the dynamic list, and the modules that aren't listed
pub record PoliciesView : Type 0 where
  pub list : List Entry
  pub catalogue : List Module
