-- The words of a reason, by docs/MANUAL.md (WHY): the test that should have held, and the two sides that it compares.
use Rattle.std.specs.Option.{option_map_or}
use Rattle.std.specs.Prelude.{ℕ, Bool, if◌then◌else◌, List, ◌++◌, Option, Some, codes}
use Rattle.std.specs.Fmt.{decimal}
use Rattle.mf_elem.specs.declared.elem.Elem.{Elem}
use Rattle.mf_labeltext.specs.Canonical.{elem_text}
use Rattle.mf_rule.specs.Canonical.{letters_text}
use Rattle.mf_rule.specs.Words.{mode_letters}
use Rattle.mf_answers.specs.declared.reasons.Reason.{Reason}
use Rattle.mf_answers.specs.declared.reasons.Reason.TheVariants as why

-- an element, or a dash
abbrev pub maybe_text : Option Elem → List ℕ
maybe_text element = option_map_or elem_text element (codes "-")

-- the two ends of a range, or a dash
abbrev pub ends_text : Option (Elem × Elem) → List ℕ
ends_text ends = option_map_or (λ ends. elem_text ends.0 ++ (codes "-" ++ elem_text ends.1)) ends (codes "-")

abbrev pub protocol_text : Bool → List ℕ
protocol_text tcp = if tcp then codes "tcp " else codes "udp "

-- two sides, each behind its words

abbrev pub elems_text : List ℕ → Elem → List ℕ → Elem → List ℕ
elems_text words element others other = words ++ elem_text element ++ (others ++ elem_text other)

abbrev pub bounds_text : List ℕ → Option Elem → List ℕ → Option (Elem × Elem) → List ℕ
bounds_text words element others ends = words ++ maybe_text element ++ (others ++ ends_text ends)

abbrev pub numbers_text : List ℕ → ℕ → List ℕ → ℕ → List ℕ
numbers_text words number others other = words ++ decimal number ++ (others ++ decimal other)

-- a rule about files, the letters that are wanted, and those that it gives
abbrev pub rule_text : ℕ → ℕ → ℕ → List ℕ
rule_text number wanted given =
    codes "rule " ++ decimal number ++ (codes " wants " ++ letters_text mode_letters wanted ++ (codes " gives " ++ letters_text mode_letters given))

abbrev pub reason_text : Reason → List ℕ
reason_text (why.Observe subject object errno) = elems_text (codes "observe subject ") subject (codes " object ") object
reason_text (why.Modify subject object) = elems_text (codes "modify subject ") subject (codes " object ") object
reason_text (why.Level subject object) = elems_text (codes "level subject ") subject (codes " object ") object
reason_text (why.LeavesOut element asked) = bounds_text (codes "fit element ") element (codes " asked ") asked
reason_text (why.RangeOutside asked own) = codes "range asked " ++ ends_text asked ++ (codes " own " ++ ends_text own)
reason_text (why.AskedOutside asked own) = bounds_text (codes "element asked ") asked (codes " own ") own
reason_text (why.PresentOutside object own) = bounds_text (codes "present object ") (Some object) (codes " own ") own
reason_text (why.RangeOfObject asked) = codes "plain asked " ++ ends_text asked
reason_text (why.AsksEqual own) = bounds_text (codes "equal subject ") own.effective (codes " own ") own.range
reason_text (why.AskedAbove subject asked) = elems_text (codes "dominate subject ") subject (codes " asked ") asked
reason_text (why.PresentAbove subject object) = elems_text (codes "dominate subject ") subject (codes " object ") object
reason_text (why.EqualAbove subject) = codes "equal subject " ++ elem_text subject
reason_text (why.Unprivileged own) = bounds_text (codes "privileged subject ") own.effective (codes " own ") own.range
reason_text (why.Partitions subject object errno) = numbers_text (codes "partition subject ") subject (codes " object ") object
reason_text (why.Joins asked uid) = numbers_text (codes "join asked ") asked (codes " uid ") uid
reason_text (why.Rule number wanted given) = rule_text number wanted given
reason_text (why.Users subject object) = numbers_text (codes "user subject ") subject (codes " object ") object
reason_text (why.Port tcp port uid) = codes "port " ++ protocol_text tcp ++ decimal port ++ (codes " uid " ++ decimal uid)
