-- What a script says of its tasks by their numbers, nothing where there is none of a number, and which calls are changes, which wait until no
-- entry is open: this model's own.
use Rattle.std.specs.Prelude.{ℕ, Bool, true, false, List, [], Option, unwrap_or, option_map, slice_get}
use Rattle.std.specs.List.{position}
use Rattle.std.specs.Str.{bytes_eq}
use Rattle.mf_calls.specs.declared.script.Call.{Call}
use Rattle.mf_calls.specs.declared.script.Call.TheVariants as call
use Rattle.mf_calls.specs.declared.script.Line.{Line}
use Rattle.mf_calls.specs.declared.script.Script.{Script}

abbrev pub lines_of : Script → ℕ → List Line
lines_of s t = unwrap_or (option_map (λ task. task.lines) (slice_get s.tasks t)) []

abbrev pub name_of : Script → ℕ → List ℕ
name_of s t = unwrap_or (option_map (λ task. task.name) (slice_get s.tasks t)) []

-- the number of the first task of that name
abbrev pub task_named : Script → List ℕ → Option ℕ
task_named s name = position (λ task. bytes_eq task.name name) s.tasks

-- whether the call changes the list of policies or a policy's settings, and so isn't an entry
abbrev pub is_change : Call → Bool
is_change (call.Kldload name) = true
is_change (call.Kldunload name) = true
is_change (call.Sysctl name value) = true
is_change (call.UgidfwAdd rule) = true
is_change (call.UgidfwSet n rule) = true
is_change (call.UgidfwRemove n) = true
is_change other = false

abbrev pub lists_rules : Call → Bool
lists_rules call.UgidfwList = true
lists_rules other = false
