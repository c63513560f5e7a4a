-- Executions: what happens to a file system, one run after the other, with stops of the machine
-- between the runs and in the middle of one, with programs that are killed, and with other files
-- that change between runs. What happens to one journal are events of it.
use Rattle.std.specs.Prelude.{◌≡◌, ◌⊎◌, true, List, [], ◌∷◌}
use Rattle.byte_formats.specs.Types.{HashFunction, Text}
use Rattle.disk_core.specs.declared.disk.Disk.{Ghosts as Disks}
use Rattle.mtc_io.specs.declared.sink.Sink.{Ghosts as Sinks}
use Rattle.mtc_room.specs.declared.room.Room.{Ghosts as Rooms}
use Rattle.file_events.specs.Events.{all_released, FirstHolds, WereHeld}
use Rattle.file_events.specs.Histories.{RepresentsPending}
use Rattle.file_events.specs.Owners.{journal_file}
pub use Rattle.file_events.specs.Worlds.{Run, FileEvent}
use Rattle.file_events.specs.Worlds.{Program, breaks_off, own_events, states_of, FileOwner}
use Rattle.party_history.specs.Laws.{LeadsTo, released_bodies}
use Rattle.party_history.specs.Parties.{HistoryState}
use Rattle.party_history.specs.Rules.{AreRecords, StartsWith, may_follow}
use Rattle.party_history.specs.declared.start.PartyStart.{PartyStart}
use Rattle.party_history.specs.declared.step.PartyStep.{PartyStep}
use Rattle.mtc_top.specs.Concluded.{Prints, PrintsPrefix}
use Rattle.mtc_top.specs.Run.{HasRun, journals}

-- The program over these files and outputs, as that of events.
abbrev pub program : {R S D O E : Type 0} → HashFunction → Rooms R S D → Disks D → Sinks O
    → Sinks E → Program
program {R} {S} {D} {O} {E} h rooms disks outs errs = record {
  R = R;
  S = S;
  D = D;
  O = O;
  E = E;
  rooms = rooms;
  disks = disks;
  outs = outs;
  HasRun = λ old run. HasRun h rooms disks outs errs run.words old run.room run.out
      run.out_after run.err run.err_after run.status;
  journals = λ old run. journals h rooms disks outs errs run.words old run.room run.out
      run.out_after run.err run.err_after;
}

-- A prefix of this text went out of the run: the whole with status 0, and with 6 what came before
-- standard output failed.
pub record HasPrinted (p : Program) (run : Run p.R p.O p.E) (text : Text) : Type 0 where
  pub ends : (run.status ≡ 0) ⊎ (run.status ≡ 6)
  pub prefix : PrintsPrefix p.outs run.out run.out_after text
  pub whole : run.status ≡ 0 → Prints p.outs run.out run.out_after text

-- A prefix of this text went out of a run by a command that may write while it reads its journal:
-- the whole with status 0; with 6 what came before standard output failed; and with 5 or 8 what
-- came before a file failed or memory was refused.
pub record HasStreamed (p : Program) (run : Run p.R p.O p.E) (text : Text) : Type 0 where
  pub ends : (run.status ≡ 0) ⊎ ((run.status ≡ 6) ⊎ (breaks_off run.status ≡ true))
  pub prefix : PrintsPrefix p.outs run.out run.out_after text
  pub whole : run.status ≡ 0 → Prints p.outs run.out run.out_after text

module _ (h : HashFunction) (p : Program) where
  -- The journal of this name, whose records are those of a log, a cosigner or a mirror.
  abbrev pub owner : Text → FileOwner p
  owner = journal_file p (AreRecords h)

  -- A run of the execution opened or made the journal of this name, which then had these records,
  -- and no file failed and no memory was refused before a byte of its answer went out.
  abbrev pub WasHeld : Text → p.R → List (FileEvent p.R p.O p.E) → List Text → Type 0
  WasHeld name old events = WereHeld (own_events p (owner name) old events)

  -- The first event is a run that did so, and the first of the records is one with which such a
  -- party begins.
  pub record IsBegun (name : Text) (start : PartyStart) (first : Text) (old : p.R)
      (events : List (FileEvent p.R p.O p.E)) : Type 0 where
    pub is_modelled : p.rooms.is_modelled old
    pub others : List Text
    pub held : FirstHolds (first ∷ others) (own_events p (owner name) old events)
    pub starts : StartsWith start first

  -- The journal of this name is that of a party at the end of a history, in which those records are
  -- released that the execution released, in their order.
  pub record IsReached (name : Text) (start : PartyStart) (first : Text) (old : p.R)
      (events : List (FileEvent p.R p.O p.E)) (room : p.R) : Type 0 where
    pub steps : List PartyStep
    pub state : HistoryState
    pub leads : LeadsTo (may_follow h) (start ∷ []) steps 0 state
    pub stands : (c : Text) → states_of p name room c
        → RepresentsPending (first ∷ state.durable) state.pending c
    pub released : released_bodies state ≡ all_released (own_events p (owner name) old events)
