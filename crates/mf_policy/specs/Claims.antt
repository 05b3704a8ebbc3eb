-- Which requests to change a label are claimed: each part of a request has to be one that a listed policy takes for that kind of entity, by maclabel(7) and
-- mac_set_proc(3). That mac_partition takes requests for processes alone, though it labels sockets too, is the manner of FreeBSD's module.
use Rattle.std.specs.Prelude.{Bool, true, false, not, ◌&&◌, ◌||◌, List}
use Rattle.std.specs.List.{list_all}
use Rattle.mf_errno.specs.Names.{all_modules}
use Rattle.mf_errno.specs.declared.module.Module.{Module}
use Rattle.mf_elem.specs.declared.label.Request.{Request}
use Rattle.mf_item.specs.declared.view.Kind.{Kind}
use Rattle.mf_policy.specs.declared.modules.Labelling.{Labelling}
use Rattle.mf_policy.specs.declared.modules.Labelling.TheVariants.{Nothing, Ranges, Elements, Partitions}
use Rattle.mf_policy.specs.Modules.{facts_of, is_named, is_process_kind}
use Rattle.mf_policy.specs.Registration.{Entry, is_listed}

-- whether a policy that labels so takes requests to change the label of an entity of that kind
abbrev pub takes_by : Labelling → Kind → Bool
takes_by Nothing kind = false
takes_by (Ranges process other) kind = true
takes_by (Elements element) kind = true
takes_by Partitions kind = is_process_kind kind

-- the request has no part for the module's policy, or that is listed and takes it; a range for an object is taken too, and refused later
abbrev pub claims_part : List Entry → Kind → Request → Module → Bool
claims_part listed kind request m = not (is_named m request) || (is_listed m listed && takes_by (facts_of m).labels kind)

-- whether the listed policies claim the whole request for an entity of that kind
abbrev pub is_claimed : List Entry → Kind → Request → Bool
is_claimed listed kind request = not request.other && list_all (claims_part listed kind request) all_modules
