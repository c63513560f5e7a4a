-- What becomes of the records of what went out in an execution.
use Rattle.std.proofs.Common.{◌≡◌, ◌∙◌, ℕ, List, [], ◌∷◌, ◌++◌, Some, ap, length}
use Rattle.byte_formats.specs.Offsets.{IsBytes}
use Rattle.byte_formats.specs.Types.{HashFunction}
use Rattle.file_events.specs.Executions.{IsPrefix}
use Rattle.disk_core.specs.declared.disk.Disk.{Ghosts as Disks}
use Rattle.mtc_io.specs.declared.sink.Sink.{Ghosts as Sinks}
use Rattle.mtc_room.specs.declared.room.Room.{Ghosts as Rooms}
use Rattle.mtc_words.specs.Commands.{issue, switch}
use Rattle.issuance_log.specs.Folds.{log_of, view_in}
use Rattle.issuance_log.specs.Records.{switch_record}
use Rattle.party_history.proofs.Switches.{switch_added}
use Rattle.authority_core.specs.Issues.{issued_entry}
use Rattle.mtc_command.proofs.Made.{OnlyNow, ReadsCrashState}
use Rattle.mtc_laws.specs.PrintLaws.{HasCosigned, IsInLog, IsSwitchedIn, IssuedEntriesStand}
use Rattle.mtc_laws.specs.PrintLaws.{OfHeard, SignaturesStand, SwitchesStand}
use Rattle.mtc_laws.proofs.Printed.{indices_printed, signatures_printed, switches_printed}
use Rattle.mtc_laws.proofs.Recovered.{added_stand, each_held, held_prefix, crash_state_list}
use Rattle.mtc_laws.proofs.Recovered.{log_recovered}
use Rattle.mtc_laws.proofs.HeardRuns.{heard_held}
use Rattle.mtc_laws.proofs.Aliases.{ModelsFiles}
use Rattle.mtc_top.specs.Executions.{program, WasHeld}
use Rattle.mtc_laws.proofs.Printed.{MirrorsAreSound}

module _ {R S D O E : Type 0} (h : HashFunction) (rooms : Rooms R S D) (disks : Disks D)
    (outs : Sinks O) (errs : Sinks E) (crash_state : ReadsCrashState disks) (only : OnlyNow disks)
    (contents : ModelsFiles rooms disks)
    (bytes : (d : D) (b : List ℕ) → disks.contents d ≡ Some b → IsBytes b) where
  pub signatures_stand : ((b : List ℕ) → length (h b) ≡ 32) → MirrorsAreSound h
      → SignaturesStand h (program h rooms disks outs errs)
  signatures_stand sized sound name start first begins new events begun execution c at =
      let stands =
      crash_state_list h rooms disks outs errs crash_state only contents bytes name start first
      begins
      new events begun execution c at in
      let found = stands.0 in (
        found,
        (
          stands.1,
          λ command signs. each_held h rooms disks outs errs crash_state only contents bytes name
              start first begins new events begun execution (λ list. IsPrefix list found)
              (OfHeard h (program h rooms disks outs errs) command (λ old run.
              (signed : HasCosigned h (program h rooms disks outs errs) name old run)
              × IsPrefix (signed.list ++ signed.body ∷ []) found))
              (λ list held. held_prefix h rooms disks outs errs crash_state only contents bytes name
              start
              first begins new events begun execution list found held (c, (at, stands.1)))
              (λ old run is_modelled is_run prefixes spoken heard.
              let signed = signatures_printed h rooms disks outs errs contents bytes sized sound
              name command signs old run is_modelled is_run spoken heard in (
                signed,
                prefixes (signed.list ++ signed.body ∷ []) (heard_held h rooms disks outs errs old
                    run is_run heard name signed.list signed.body signed.did),
              )),
        ),
      )

  pub issued_stand : IssuedEntriesStand h (program h rooms disks outs errs)
  issued_stand name start first begins new events begun execution settings file found is recovered =
      each_held h rooms disks outs errs crash_state only contents bytes name start first begins new
      events
      begun execution (WasHeld h (program h rooms disks outs errs) name begins events)
      (OfHeard h (program h rooms disks outs errs) (issue name file) (λ old run.
      IsInLog h (program h rooms disks outs errs) name file old run found)) (λ list held. held)
      (λ old run is_modelled is_run held spoken heard.
      let i = indices_printed h rooms disks outs errs contents bytes name file old run is_modelled
      is_run
      spoken heard in
      let log =
      added_stand h rooms disks outs errs crash_state only contents bytes name start first begins
      new
      events begun execution settings i.list found i.body
      (issued_entry h (view_in i.state) i.request)
      i.request.key i.state is (held (i.list ++ i.body ∷ [])
      (heard_held h rooms disks outs errs old run is_run heard name i.list i.body i.did)) i.log_is
      i.item recovered in
      record { issued = i; log = log.0; log_is = log.1.0; at_index = log.1.1 })

  pub switches_stand : SwitchesStand h (program h rooms disks outs errs)
  switches_stand name start first begins new events begun execution settings found is recovered =
      each_held h rooms disks outs errs crash_state only contents bytes name start first begins new
      events begun execution (WasHeld h (program h rooms disks outs errs) name begins events)
      (OfHeard h (program h rooms disks outs errs) (switch name) (λ old run.
      IsSwitchedIn h (program h rooms disks outs errs) name old run found)) (λ list held. held)
      (λ old run is_modelled is_run held spoken heard.
      let s = switches_printed h rooms disks outs errs contents bytes name old run is_modelled
      is_run spoken heard in
      let size = length s.state.entries in
      let body = switch_record size in
      let log = log_recovered h rooms disks outs errs crash_state only contents bytes name start
      first begins new events begun execution settings found is recovered in
      let prefix = held_prefix h rooms disks outs errs crash_state only contents bytes name start
      first begins new events begun execution (s.list ++ body ∷ []) found
      (held (s.list ++ body ∷ [])
      (heard_held h rooms disks outs errs old run is_run heard name s.list body s.did))
      recovered in
      record {
        switched = s;
        log = log.0;
        log_is = log.1;
        at_index = switch_added h s.list prefix.0 size s.state log.0 s.log_is
            (ap (log_of h) prefix.1 ∙ log.1);
      })
