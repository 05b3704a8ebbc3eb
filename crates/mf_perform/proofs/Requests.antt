-- What a call asks of a label is a request that a label text can spell.
use Rattle.std.proofs.Common.{◌≡◌, ℕ, Bool, true, false, List, Option, Some, None, Result, Ok, Err, refl, subst}
use Rattle.std.specs.Prelude.{if◌then◌else◌, option_and_then}
use Rattle.std.specs.Result.{result_ok}
use Rattle.mf_elem.specs.Bounds.{IsRequest}
use Rattle.mf_elem.specs.declared.label.Request.{Request}
use Rattle.mf_item.specs.declared.view.Kind.{Kind}
use Rattle.mf_labeltext.specs.Reading.{request_in}
use Rattle.mf_labeltext.specs.declared.fault.LabelFault.{LabelFault}
use Rattle.mf_labeltext.proofs.Formed.{spelled_is_request}
use Rattle.mf_labeltext.proofs.Requests.{request_spells}
use Rattle.mf_policy.specs.Claims.{is_claimed}
use Rattle.mf_policy.specs.Registration.{Entry}
use Rattle.mf_plan.specs.Relabels.{claimed_in, if_claimed}

read_request : (text : List ℕ) (request : Request) → result_ok (request_in text) ≡ Some request → IsRequest request
read_request text request is = one (request_in text) refl is
  where
    one : (read : Result Request LabelFault) → request_in text ≡ read → result_ok read ≡ Some request → IsRequest request
    one (Ok found) at some =
        let same : found ≡ request = cc in
        subst IsRequest same (spelled_is_request text found (request_spells text found at))
    one (Err fault) at some = cc

pub claimed_request : (listed : List Entry) (kind : Kind) (text : List ℕ) (request : Request) → claimed_in listed kind text ≡ Some request → IsRequest request
claimed_request listed kind text request is = one (result_ok (request_in text)) refl is
  where
    by_test : (b : Bool) (read : Request) → (if b then Some read else None) ≡ Some request → read ≡ request
    by_test true read some = cc
    by_test false read none = cc

    one : (read : Option Request) → result_ok (request_in text) ≡ read → option_and_then (if_claimed listed kind) read ≡ Some request → IsRequest request
    one None at some = cc
    one (Some read) at some = subst IsRequest (by_test (is_claimed listed kind read) read some) (read_request text read at)
