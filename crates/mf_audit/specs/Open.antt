-- How a descriptor has to be open. Inner contracts alone cite this.
use Rattle.mf_plan.specs.declared.descriptors.Access.{Access}
use Rattle.mf_plan.specs.declared.descriptors.Access.TheVariants as access
use Rattle.mf_audit.specs.declared.ways.Access.{Access as Wanted}
use Rattle.mf_audit.specs.declared.ways.Access.TheVariants as wanted

abbrev pub access_of : Wanted → Access
access_of wanted.Reading = access.Reading
access_of wanted.Writing = access.Writing
access_of wanted.Any = access.Any
