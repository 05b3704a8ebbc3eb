-- Which modules a script boots, and what it may ask of their policies, by docs/MANUAL.md (THE SCRIPT, LABELS).
use Rattle.std.specs.Prelude.{Bool, not, ◌&&◌, ◌||◌, List}
use Rattle.std.specs.List.{list_all, list_any}
use Rattle.mf_errno.specs.declared.module.Module.{Module}
use Rattle.mf_errno.specs.Same.{same_module}
use Rattle.mf_errno.specs.Names.{all_modules}
use Rattle.mf_elem.specs.declared.label.Request.{Request}
use Rattle.mf_item.specs.declared.view.Kind.{Kind}
use Rattle.mf_policy.specs.Modules.{is_named, may_ask}

abbrev pub is_booted : List Module → Module → Bool
is_booted boots m = list_any (same_module m) boots

-- each policy that the request names is booted
abbrev pub names_booted : List Module → Request → Bool
names_booted boots request = list_all (λ m. not (is_named m request) || is_booted boots m) all_modules && not request.other

-- what such a script may ask for an entity of that kind: it names no other policy, and each takes what it asks and gives a valid label
abbrev pub may_ask_for : Kind → List Module → Request → Bool
may_ask_for kind boots request = names_booted boots request && list_all (λ booted. may_ask booted kind request) boots
