-- What one listed policy lets pass; inner contracts alone cite this.
use Rattle.std.specs.Prelude.{Bool}
use Rattle.mf_errno.specs.declared.errno.Errno.TheVariants.{Success}
use Rattle.mf_errno.specs.Same.{is_same}
use Rattle.mf_item.specs.Item.{Item}
use Rattle.mf_policy.specs.Registration.{Entry}
use Rattle.mf_list.specs.Asked.{answer_of}

abbrev pub lets_pass : Item → Entry → Bool
lets_pass item entry = is_same Success (answer_of item entry)
