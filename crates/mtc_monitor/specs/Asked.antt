-- What `monitor` does once it has read the files beside the entries.
use Rattle.std.specs.Prelude.{◌≡◌, Result, Ok, Err}
use Rattle.byte_formats.specs.Types.{HashFunction, Text}
use Rattle.cosigner_core.specs.Views.{advance_parts}
use Rattle.mtc_command.specs.Answers.{stop_ending}
use Rattle.mtc_command.specs.Endings.{Replies}
use Rattle.mtc_command.specs.Steps.{Outcome}
use Rattle.mtc_command.specs.declared.answer.Stop.{Stop}
use Rattle.mtc_monitor.specs.MonitorOutcome.{new_items_say}
use Rattle.mtc_monitor.specs.declared.monitor.Asked.{Asked}

-- What is wanted is what they ask of these entries; or they have a fault, and the command ends so.
abbrev pub AsksFor : HashFunction → Text → Text → Outcome → Result Asked Stop → Type 0
AsksFor h entries bytes wanted (Ok x) =
    wanted ≡ new_items_say h x.state x.watch (advance_parts x.request) entries bytes
AsksFor h entries bytes wanted (Err stop) = Replies wanted.answer (stop_ending stop)
