-- A party and its steps: a log, a cosigner or a mirror with its journal, and what becomes of its
-- records.
use Rattle.std.specs.Prelude.{ℕ, Bool, true, false, List, [], ◌∷◌, ◌++◌, length, Option, Some}
use Rattle.std.specs.Prelude.{None, if◌then◌else◌}
use Rattle.byte_formats.specs.Types.{Text}
use Rattle.party_history.specs.declared.start.PartyStart.{PartyStart}
use Rattle.party_history.specs.declared.step.PartyStep.{PartyStep}
use Rattle.party_history.specs.declared.step.PartyStep.TheVariants.{Begin, MakeDurable, Release}
use Rattle.party_history.specs.declared.step.PartyStep.TheVariants.{Stop}

-- How it began, the records that are durable after its first one, at most one that is pending, the
-- numbers of the released ones, and whether the last durable one may be released. The first record
-- has number 0, so the last durable one has as number how many are durable.
pub record HistoryState : Type 0 where
  pub start : PartyStart
  pub durable : List Text
  pub pending : Option Text
  pub released : List ℕ
  pub may_release : Bool

-- it has begun, and no more
abbrev pub fresh_party : PartyStart → HistoryState
fresh_party start =
    record { start = start; durable = []; pending = None; released = []; may_release = false }

-- These records, and the pending one where there is one.
abbrev pub with_pending : List Text → Option Text → List Text
with_pending list None = list
with_pending list (Some body) = list ++ body ∷ []

-- a record begins
abbrev pub begin : Text → HistoryState → HistoryState
begin body s = record s { pending = Some body }

-- the pending record becomes durable
abbrev pub make_durable : HistoryState → HistoryState
make_durable s =
    record s { durable = with_pending s.durable s.pending; pending = None; may_release = true }

-- the last durable record is released
abbrev pub release : HistoryState → HistoryState
release s = record s { released = s.released ++ length s.durable ∷ []; may_release = false }

-- it stops: a pending record becomes durable or is gone
abbrev pub stop : Bool → HistoryState → HistoryState
stop kept s = record s {
  durable = if kept then with_pending s.durable s.pending else s.durable;
  pending = None;
  may_release = false;
}

-- the party that takes a step
abbrev pub party_of_step : PartyStep → ℕ
party_of_step (Begin party body) = party
party_of_step (MakeDurable party) = party
party_of_step (Release party) = party
party_of_step (Stop party kept) = party
