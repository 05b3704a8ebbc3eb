-- The history with one event more; inner contracts alone cite this.
use Rattle.std.specs.Prelude.{[], ◌∷◌, ◌++◌}
use Rattle.mf_core.specs.declared.history.Event.{Event}
use Rattle.mf_core.specs.declared.history.History.{History}

-- the history with one more event
abbrev pub with_event : History → Event → History
with_event h e = record h { events = record h.events { list = h.events.list ++ e ∷ [] } }
