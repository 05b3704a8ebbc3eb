-- What an audit says of a history for a script: whether it is legal, and else the first of its lines that is wrong. Lines count from 1.
use Rattle.std.proofs.Common.{inl, inr}
use Rattle.std.specs.Prelude.{◌≡◌, ◌⊎◌, ◌↔◌, ℕ, ◌-◌, ◌<◌, List, ◌++◌, map, take, IsTrue}
use Rattle.mf_policy.specs.declared.registration.Registration.{Registration}
use Rattle.mf_calls.specs.declared.script.Script.{Script}
use Rattle.mf_core.specs.declared.history.Event.{Event}
use Rattle.mf_core.specs.declared.history.History.{History}
use Rattle.mf_core.specs.LegalHistory.{IsComplete, IsLegal}
use Rattle.mf_audit.specs.declared.audit.Audit.{Audit}
use Rattle.mf_audit.specs.declared.audit.Audit.TheVariants.{Legal, Wrong}

-- the lines of a history: its registrations at boot, then its events
abbrev pub lines_of : History → List (Registration ⊎ Event)
lines_of h = map inl h.boots ++ map inr h.events.list

-- Its first lines, so many, are those of a legal history. Where it has fewer lines, that one has no more either.
abbrev pub BeginsLegally : Script → History → ℕ → Type 0
BeginsLegally s h n = (g : History) × IsLegal s g × (take n (lines_of h) ≡ take n (lines_of g))

-- It is legal, and complete or not; or it begins legally up to a line, and with that line no longer.
abbrev pub IsAudit : Script → History → Audit → Type 0
IsAudit s h (Legal complete) = IsLegal s h × (IsTrue complete ↔ IsComplete s h)
IsAudit s h (Wrong line) = (0 < line) × BeginsLegally s h (line - 1) × ¬ BeginsLegally s h line
