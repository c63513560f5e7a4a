-- A signature that went out is recorded.
use Rattle.std.proofs.Common.{◌≡◌, ℕ, true, List, [], ◌∷◌, ◌++◌, length, Some, Ok, refl, sym}
use Rattle.std.proofs.Common.{subst, ap, ◌∙◌}
use Rattle.byte_formats.specs.Offsets.{IsBytes}
use Rattle.byte_formats.specs.Types.{HashFunction, Text}
use Rattle.disk_core.specs.declared.disk.Disk.{Ghosts as Disks}
use Rattle.journal_core.specs.Folds.{state_after}
use Rattle.mtc_io.specs.declared.sink.Sink.{Ghosts as Sinks}
use Rattle.mtc_room.specs.declared.room.Room.{Ghosts as Rooms}
use Rattle.file_events.specs.Executions.{IsPrefix}
use Rattle.file_events.specs.Worlds.{Program}
use Rattle.cosigner_core.specs.Folds.{CosignerState, cosigner_of}
use Rattle.cosigner_core.proofs.After.{no_cosigner}
use Rattle.party_history.specs.declared.start.PartyStart.TheVariants.{Cosigner}
use Rattle.mtc_command.proofs.Made.{OnlyNow, ReadsCrashState}
use Rattle.mtc_top.specs.Executions.{Run, WasHeld, program}
use Rattle.mtc_laws.specs.Cosigners.{CosignerExecution, HasSignRecord}
use Rattle.mtc_laws.specs.PrintLaws.{HasCosigned, OfHeard}
use Rattle.mtc_laws.proofs.Aliases.{IsRecovered, ModelsFiles}
use Rattle.mtc_laws.proofs.HeardRuns.{heard_held}
use Rattle.mtc_laws.proofs.Printed.{MirrorsAreSound, signatures_printed}
use Rattle.mtc_laws.proofs.Recovered.{durable, each_held, held_crash_state, held_prefix}
use Rattle.mtc_laws.proofs.Recovered.{party_list}
use Rattle.journal_core.specs.Format.{Represents}
use Rattle.party_history.proofs.Agreement.{read}
use Rattle.mtc_headline.specs.Joints.{HeldIsRead, PrintedIsRecorded}

first_or : List Text → Text
first_or [] = []
first_or (x ∷ xs) = x

-- records that have a cosigner begin with the record with which those begin that they are among
begins_so : (h : HashFunction) (list : List Text) (body first : Text) (others found : List Text)
    (s : CosignerState) → cosigner_of h list ≡ Ok s → IsPrefix (list ++ body ∷ []) found
    → first ∷ others ≡ found → (bodies : List Text) × (list ≡ first ∷ bodies)
unfolding state_after first_or
begins_so h [] body first others found s is one two = absurd (no_cosigner 0 s is)
begins_so h (x ∷ xs) body first others found s is one two =
    (xs, ap (λ (y : Text). y ∷ xs) (ap first_or (one.1 ∙ sym two)))

module _ {R S D O E : Type 0} (h : HashFunction) (rooms : Rooms R S D) (disks : Disks D)
    (outs : Sinks O) (errs : Sinks E) (crash_state : ReadsCrashState disks) (only : OnlyNow disks)
    (contents : ModelsFiles rooms disks)
    (bytes : (d : D) (b : List ℕ) → disks.contents d ≡ Some b → IsBytes b) where
  abbrev p : Program
  p = program h rooms disks outs errs

  module _ (x : CosignerExecution h p) where
    abbrev Held : List Text → Type 0
    Held = WasHeld h p x.name x.begins x.events

    -- what the execution held begins with the first record
    pub first_of : (list : List Text) (body : Text) (s : CosignerState) → cosigner_of h list ≡ Ok s
        → Held (list ++ body ∷ []) → (bodies : List Text) × (list ≡ x.first ∷ bodies)
    first_of list body s is held =
        let all = durable h rooms disks outs errs crash_state only contents bytes x.name
        (Cosigner x.settings x.public) x.first x.begins x.ends x.events x.begun x.execution in
        let c = all.some in
        let following = all.each c.0 c.1 in
        let found = x.begun.others ++ following.begins.0 in
        let recovered : IsRecovered h rooms disks outs errs x.name x.ends (x.first ∷ found)
        = (c.0, (c.1, subst (Represents c.0) (sym following.begins.1) following.stands)) in
        let prefix = held_prefix h rooms disks outs errs crash_state only contents bytes x.name
        (Cosigner x.settings x.public) x.first x.begins x.ends x.events x.begun x.execution
        (list ++ body ∷ []) (x.first ∷ found) held recovered in
        begins_so h list body x.first found (x.first ∷ found) s is prefix refl

    recorded : (old : R) (run : Run R O E) (signed : HasCosigned h p x.name old run)
        → Held (signed.list ++ signed.body ∷ [])
        → HasSignRecord h p x signed.request.start signed.request.end signed.request.hash
    recorded old run signed held =
        let first = first_of signed.list signed.body signed.state signed.cosigner_is held in
        record {
          prefix = first.0;
          more = [];
          body = signed.body;
          held = subst (λ (l : List Text). Held (l ++ signed.body ∷ [])) first.1 held;
          index = signed.state.key.next;
          proof = signed.request.proof;
          signs = signed.signs;
        }

  pub printed_recorded : ((b : List ℕ) → length (h b) ≡ 32) → MirrorsAreSound h
      → PrintedIsRecorded h p
  printed_recorded sized sound x command signs =
      each_held h rooms disks outs errs crash_state only contents bytes x.name
      (Cosigner x.settings x.public) x.first x.begins x.ends x.events x.begun x.execution (Held x)
      (OfHeard h p command (λ old run. (signed : HasCosigned h p x.name old run)
      × HasSignRecord h p x signed.request.start signed.request.end signed.request.hash))
      (λ list held. held)
      (λ old run is_modelled is_run held spoken heard.
      let signed = signatures_printed h rooms disks outs errs contents bytes sized sound x.name
      command signs old run is_modelled is_run spoken heard in (
        signed,
        recorded x old run signed (held (signed.list ++ signed.body ∷ [])
            (heard_held h rooms disks outs errs old run is_run heard x.name signed.list signed.body
            signed.did)),
      ))

  pub held_read : HeldIsRead h p
  held_read name start first begins new events begun execution list c held at =
      let b = held_crash_state h rooms disks outs errs crash_state only contents bytes name start
      first begins new events begun execution list c held at in
      let of = party_list h rooms disks outs errs crash_state only contents bytes name start first
      begins new events begun execution b.0 (c, (at, b.1.0)) in (
        first ∷ of.others,
        (
          read h start first of.others c begun.starts of.valid
              (subst (Represents c) of.is b.1.0),
          subst (IsPrefix list) of.is b.1.1,
        ),
      )
