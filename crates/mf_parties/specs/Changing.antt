-- What changes one party.
use Rattle.std.specs.Prelude.{drop}
use Rattle.mf_objects.specs.Live.{LiveEntity}
use Rattle.mf_objects.specs.Changes.{with_what, appended, cleared, with_message, with_messages, with_mode}
use Rattle.mf_objects.specs.Descriptors.{with_fds, opened, closed}
use Rattle.mf_objects.specs.Labels.{with_value, with_label}
use Rattle.mf_parties.specs.declared.change.Change.{Change}
use Rattle.mf_parties.specs.declared.change.Change.TheVariants as changes
use Rattle.mf_parties.specs.declared.change.Growth.{Growth}
use Rattle.mf_parties.specs.declared.change.Growth.TheVariants as growths

-- after a change that takes no memory
abbrev pub changed : Change → LiveEntity → LiveEntity
changed changes.Empty = with_what cleared
changed changes.Receive = with_what (with_messages (drop 1))
changed (changes.Mode mode) = with_what (with_mode mode)
changed (changes.Close number) = with_what (with_fds (closed number))
changed (changes.Label values) = with_label values
changed (changes.Value slot value) = with_value slot value

-- after one that takes memory
abbrev pub grown : Growth → LiveEntity → LiveEntity
grown (growths.Bytes bytes) = with_what (appended bytes.now)
grown (growths.Message message) = with_what (with_messages (with_message message))
grown (growths.Open file) = with_what (with_fds (opened file))
