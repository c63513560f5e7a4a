-- Runs of `monitor` one after another, each over the state file that the one before left.
use Rattle.std.specs.Prelude.{◌≡◌, ◌<◌, ◌^◌, List, [], ◌∷◌, map, Some, Ok, IfSome}
use Rattle.byte_formats.specs.Types.{HashFunction, Text}
use Rattle.cosigner_core.specs.Reading.{advance_in}
use Rattle.cosigner_core.specs.Requests.{AdvanceParts}
use Rattle.tls_wire.specs.Arcs.{IsAnchorId}
use Rattle.monitor_core.specs.Chains.{AreRuns, GivesHashes, MonitorRun}
use Rattle.monitor_core.specs.Reading.{watch_in}
use Rattle.monitor_core.specs.Report.{Findings}
use Rattle.monitor_core.specs.States.{empty_state}
use Rattle.monitor_core.specs.TextLaws.{IsNextState}
use Rattle.monitor_core.specs.Written.{found_text, state_text}
use Rattle.mtc_command.specs.declared.answer.Said.TheVariants.{Done}
use Rattle.mtc_command.specs.Steps.{Files, says}
use Rattle.mtc_monitor.specs.MonitorOutcome.{monitor_outcome}

-- A run of `monitor`: the names of its four files, the files then, and what it printed.
pub record MonitorCommand : Type 0 where
  pub state : Text
  pub watch : Text
  pub request : Text
  pub entries : Text
  pub files : Files
  pub printed : Text

abbrev pub printed_by : MonitorCommand → Text
printed_by command = command.printed

-- It printed that, with status 0.
abbrev pub IsPrinted : HashFunction → MonitorCommand → Type 0
IsPrinted h c = monitor_outcome h c.state c.watch c.request c.entries c.files ≡ says Done c.printed

-- The size of its request is below 2^63.
abbrev pub AsksFew : MonitorCommand → Type 0
AsksFew c = IfSome (c.files c.request) (λ bytes. (parts : AdvanceParts)
    → advance_in bytes ≡ Ok parts → parts.size < 2 ^ 63)

-- Each run watches these domains, printed what is listed for it, and took the state file that the
-- one before left; the first took one that is allowed.
abbrev pub FollowEachOther : HashFunction → Text → (Text → Type 0) → List MonitorCommand → Type 0
FollowEachOther h watched Allowed [] = Unit {0}
FollowEachOther h watched Allowed (c ∷ commands) =
    ((kept : Text) × Allowed kept × (c.files c.state ≡ Some kept))
    × (c.files c.watch ≡ Some watched) × AsksFew c × IsPrinted h c
    × FollowEachOther h watched (IsNextState c.printed) commands

-- What these commands printed is what runs found, each from the state that the one before left, the
-- first from that of a log without entries.
pub record AreChained (h : HashFunction) (log : Text) (domains : List Text)
    (commands : List MonitorCommand) : Type 0 where
  pub runs : List MonitorRun
  pub found : List Findings
  pub are : AreRuns h domains (empty_state log) runs found
  pub printed : map printed_by commands ≡ map found_text found

-- So it is of all commands that follow each other from what `monitor-init` prints.
abbrev pub StateFilesChain : HashFunction → Type 0
StateFilesChain h = (log watched : Text) (domains : List Text) (commands : List MonitorCommand)
    → GivesHashes h → IsAnchorId log → watch_in watched ≡ Ok domains
    → FollowEachOther h watched (λ kept. kept ≡ state_text (empty_state log)) commands
    → AreChained h log domains commands
