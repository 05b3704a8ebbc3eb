use Rattle.std.proofs.Common.{◌≡◌, ℕ, List, ◌⊎◌, inl, inr}
use Rattle.mf_objects.specs.declared.id.Id.{Id}
use Rattle.mf_calls.specs.declared.script.Call.{Call}
use Rattle.mf_calls.specs.declared.script.Call.TheVariants as call
use Rattle.mf_plan.specs.declared.state.State.{State}
use Rattle.mf_plan.specs.Ended.{Ended, end_by, end_for}
use Rattle.mf_plan.proofs.asking.ask_on_file.Goals as goal

-- `create` and `mkdir` end alike
made : (s : State) (task : List ℕ) (me : Id) (path : List (List ℕ)) (c : Call) (end : Ended) → (c ≡ call.Create path) ⊎ (c ≡ call.Mkdir path)
    → end ≡ end_for s me (call.Create path) → end ≡ end_by s task me c
made s task me path c end (inl is) same = rw is same
made s task me path c end (inr is) same = rw is same

pub returns-in-Create-clause-row : goal.returns-in-Create-clause-row
returns-in-Create-clause-row c =
    made c.args.state.now c.args._task.now c.args.caller c.in-Create.path c.args.call.now _ c.in-Create.is c.create.ensures.row

pub returns-in-Chmod-clause-row : goal.returns-in-Chmod-clause-row
returns-in-Chmod-clause-row c = rw c.in-Chmod.is c.on_file-in-Chmod.ensures.row

pub returns-in-Setfmac-clause-row : goal.returns-in-Setfmac-clause-row
returns-in-Setfmac-clause-row c = rw c.in-Setfmac.is c.relabel_file.ensures.row
