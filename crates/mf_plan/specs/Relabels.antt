-- What a label text asks for that setpmac(8), setfmac(8), mac_set_proc(3) or mac_set_fd(3) is given, by docs/MANUAL.md (RELABELLING).
use Rattle.std.specs.Prelude.{ℕ, if◌then◌else◌, List, Option, Some, None, option_and_then}
use Rattle.std.specs.Result.{result_ok}
use Rattle.mf_elem.specs.declared.label.Request.{Request}
use Rattle.mf_item.specs.declared.view.Kind.{Kind}
use Rattle.mf_labeltext.specs.Reading.{request_in}
use Rattle.mf_policy.specs.Claims.{is_claimed}
use Rattle.mf_policy.specs.Registration.{Entry}

-- the request, where the listed policies claim all of it for an entity of that kind
abbrev pub if_claimed : List Entry → Kind → Request → Option Request
if_claimed listed kind request = if is_claimed listed kind request then Some request else None

-- what a label text asks for, where it can be read and is claimed
abbrev pub claimed_in : List Entry → Kind → List ℕ → Option Request
claimed_in listed kind text = option_and_then (if_claimed listed kind) (result_ok (request_in text))
