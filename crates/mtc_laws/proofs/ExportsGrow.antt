-- A run of `export` after an execution, and one in the execution.
use Rattle.std.proofs.Common.{◌≡◌, ℕ, List, ◌++◌, Some, Ok, sym, subst, ap, ◌∙◌}
use Rattle.byte_formats.specs.Offsets.{IsBytes}
use Rattle.byte_formats.specs.Types.{HashFunction}
use Rattle.file_events.specs.Executions.{IsPrefix}
use Rattle.disk_core.specs.declared.disk.Disk.{Ghosts as Disks}
use Rattle.mtc_io.specs.declared.sink.Sink.{Ghosts as Sinks}
use Rattle.mtc_room.specs.declared.room.Room.{Ghosts as Rooms}
use Rattle.mtc_words.specs.Commands.{export}
use Rattle.mtc_words.specs.Words.{command_of}
use Rattle.cosigner_core.specs.Exports.{export_text, records_text}
use Rattle.cosigner_core.specs.Folds.{cosigner_of}
use Rattle.cosigner_core.specs.declared.settings.CosignerSettings.{CosignerSettings}
use Rattle.mtc_command.specs.Made.{reads}
use Rattle.mtc_command.proofs.Made.{OnlyNow, ReadsCrashState}
use Rattle.party_history.proofs.Cosigners.{export_grows}
use Rattle.mtc_laws.specs.ExportLaws.{ExportsOnlyGrow, HasExported, HasMoreThan}
use Rattle.mtc_laws.specs.PrintLaws.{OfHeard}
use Rattle.mtc_laws.proofs.Exports.{exports_hold}
use Rattle.mtc_laws.proofs.Recovered.{each_held, held_prefix}
use Rattle.mtc_laws.proofs.Secrets.{exported}
use Rattle.mtc_laws.proofs.HeardRuns.{heard_read}
use Rattle.mtc_top.specs.Executions.{program, HasStreamed, Run, FileEvent}
use Rattle.mtc_laws.proofs.Aliases.{IsRun, DidWith, HasHeld, IsHeard}
use Rattle.mtc_laws.proofs.Aliases.{ModelsFiles}

module _ {R S D O E : Type 0} (h : HashFunction) (rooms : Rooms R S D) (disks : Disks D)
    (outs : Sinks O) (errs : Sinks E) (crash_state : ReadsCrashState disks) (only : OnlyNow disks)
    (contents : ModelsFiles rooms disks)
    (bytes : (d : D) (b : List ℕ) → disks.contents d ≡ Some b → IsBytes b) where
  module _ (name : List ℕ) (begins new : R) (events : List (FileEvent R O E))
      (settings : CosignerSettings) (public : List ℕ) (run : Run R O E)
      (now : HasExported h (program h rooms disks outs errs) settings public name begins events new
      run) where
    -- the earlier run read a prefix of the records
    has_more : (old : R) (earlier : Run R O E) → rooms.is_modelled old
        → IsRun h rooms disks outs errs old earlier → IsHeard outs earlier
        → command_of earlier.words ≡ Ok (export name)
        → ((list : List (List ℕ)) → HasHeld h rooms disks outs errs name old earlier list
        → IsPrefix list now.list)
        → HasMoreThan h (program h rooms disks outs errs) name old earlier new run
    has_more old earlier is_modelled is_run heard spoken prefixes =
        let said = exported h rooms disks outs errs crash_state only contents bytes old earlier
        is_modelled is_run heard name spoken in
        let list = said.0 in
        let state = said.1.0 in
        let prefix = prefixes list
        (heard_read h rooms disks outs errs old earlier is_run heard name list said.1.1.1) in
        let grows = export_grows h list prefix.0 state now.state said.1.1.0
        (subst (λ (l : List (List ℕ)). cosigner_of h l ≡ Ok now.state) (sym prefix.1) now.state_is)
        in
        let same : now.text ≡ export_text state list ++ records_text prefix.0
        = now.text_is ∙ (ap (export_text now.state) (sym prefix.1) ∙ sym grows) in
        record {
          list = list;
          read = said.1.1.1;
          rest = prefix.0;
          later_read = subst
              (λ (l : List (List ℕ)). DidWith h rooms disks outs errs new run name (reads l))
              (sym prefix.1) now.was_read;
          state = state;
          state_is = said.1.1.0;
          before = said.1.1.2;
          now = subst (HasStreamed (program h rooms disks outs errs) run) same now.printed;
        }

  pub exports_grow : ExportsOnlyGrow h (program h rooms disks outs errs)
  exports_grow name start first begins new events begun execution settings public is run is_run
      spoken
      heard =
      let now =
      exports_hold h rooms disks outs errs crash_state only contents bytes name start first begins
      new events begun execution settings public is run is_run spoken heard in
      each_held h rooms disks outs errs crash_state only contents bytes name start first begins new
      events
      begun execution (λ list. IsPrefix list now.list)
      (OfHeard h (program h rooms disks outs errs) (export name) (λ old earlier.
      HasMoreThan h (program h rooms disks outs errs) name old earlier new run))
      (λ list held. held_prefix h rooms disks outs errs crash_state only contents bytes name start
      first
      begins new events begun execution list now.list held now.recovered)
      (λ old earlier is_modelled ran prefixes said heard'.
      has_more name begins new events settings public run now old earlier is_modelled ran heard'
      said
      prefixes)
