-- Status 2 of a command on a cosigner's journal and a mirror's is about a tile of the mirror.
use Rattle.std.proofs.Common.{◌≡◌, ◌⊎◌, inl, inr, ℕ, List, Some, Result, Ok, Err, subst}
use Rattle.byte_formats.specs.Offsets.{IsBytes}
use Rattle.byte_formats.specs.Types.{HashFunction}
use Rattle.disk_core.specs.declared.disk.Disk.{Ghosts as Disks}
use Rattle.file_events.specs.Worlds.{Program}
use Rattle.journal_core.specs.Format.{Represents}
use Rattle.mtc_io.specs.declared.sink.Sink.{Ghosts as Sinks}
use Rattle.mtc_room.specs.declared.room.Room.{Ghosts as Rooms}
use Rattle.mtc_words.specs.Commands.{CommandValue}
use Rattle.cosigner_core.specs.Openings.{cosigner_read}
use Rattle.cosigner_core.specs.declared.settings.CosignerSettings.{CosignerSettings}
use Rattle.mirror_core.specs.Openings.{mirror_read}
use Rattle.mtc_command.specs.Endings.{IsNamed}
use Rattle.mtc_command.specs.Steps.{Files}
use Rattle.mtc_command.proofs.Made.{OnlyNow, ReadsCrashState}
use Rattle.command_plans.specs.Found.{AnyIsRefused, IsRefused}
use Rattle.mtc_plans.specs.Commands.{plan_of}
use Rattle.mtc_plans.specs.PartyKinds.{cosigner, mirror, party_kinds}
use Rattle.party_history.specs.Rules.{IsReadAs}
use Rattle.party_history.specs.declared.start.PartyStart.{PartyStart}
use Rattle.party_history.specs.declared.start.PartyStart.TheVariants.{Cosigner, Mirror}
use Rattle.party_history.proofs.Chains.{no_some}
use Rattle.mtc_laws.specs.ExecutionLaws.{AreOfParty}
use Rattle.mtc_laws.specs.MirrorLaws.{StepsThrough, TilesAreMisread}
use Rattle.mtc_laws.specs.StatusLaws.{LacksTile}
use Rattle.mtc_laws.proofs.Aliases.{ModelsFiles}
use Rattle.mtc_laws.proofs.HeardRuns.{file_bytes}
use Rattle.mtc_laws.proofs.Misread.{about_input, of_tiles, stands_of}
use Rattle.mtc_laws.proofs.Recovered.{modelled_then, read_again}
use Rattle.mtc_top.specs.Executions.{program}
use Rattle.mtc_top.specs.Facts.{facts_of}

read_never : {F E : Type 0} (r : Result F E) (found : F) (why : E) → r ≡ Ok found → r ≡ Err why → ⊥
read_never r found why one two = cc

module _ (h : HashFunction) (files : Files) (name file reason : List ℕ) where
  -- a cosigner's journal that is read as one is never refused
  cosigner_never : (settings : CosignerSettings) (public : List ℕ)
      → ((c : List ℕ) → files name ≡ Some c
      → (list : List (List ℕ)) × IsReadAs h (Cosigner settings public) c list)
      → IsRefused (party_kinds h) files cosigner name file reason → ⊥
  cosigner_never settings public reads (inl none) =
      let found = reads none.bytes none.there in
      read_never (cosigner_read h none.bytes) _ none.why found.1.1 none.is
  cosigner_never settings public reads (inr wants) = no_some file wants.beside

  -- and a mirror's only for a tile
  mirror_lacks_tile : (start : PartyStart) (first log : List ℕ)
      → ((c : List ℕ) → files name ≡ Some c
      → (list : List (List ℕ)) × IsReadAs h (Mirror log) c list)
      → ((c : List ℕ) → files name ≡ Some c
      → (list : List (List ℕ)) × (Represents c list × AreOfParty h start first list))
      → IsRefused (party_kinds h) files mirror name file reason → LacksTile h files name file reason
  mirror_lacks_tile start first log reads stands (inl none) =
      let found = reads none.bytes none.there in
      absurd (read_never (mirror_read h none.bytes) _ none.why found.1.1 none.is)
  mirror_lacks_tile start first log reads stands (inr wants) =
      of_tiles h start first name files stands mirror file reason wants

-- what is refused of the journals of such a command
both_refused : (h : HashFunction) (files : Files) (name journal : List ℕ) (command : CommandValue)
    (file reason : List ℕ) → StepsThrough name journal command
    → AnyIsRefused (party_kinds h) files (plan_of h command).journals file reason
    → IsRefused (party_kinds h) files cosigner name file reason
    ⊎ (IsRefused (party_kinds h) files mirror journal file reason ⊎ ⊥)
both_refused h files name journal command file reason (inl advance) any =
    subst (λ (c : CommandValue).
    AnyIsRefused (party_kinds h) files (plan_of h c).journals file reason) advance.1 any
both_refused h files name journal command file reason (inr sign) any =
    subst (λ (c : CommandValue).
    AnyIsRefused (party_kinds h) files (plan_of h c).journals file reason) sign.1.1 any

-- such a command reads no file
no_inputs : (h : HashFunction) (name journal : List ℕ) (command : CommandValue) (file : List ℕ)
    → StepsThrough name journal command → IsNamed (facts_of h command).inputs file → ⊥
no_inputs h name journal command file (inl advance) named =
    subst (λ (c : CommandValue). IsNamed (facts_of h c).inputs file) advance.1 named
no_inputs h name journal command file (inr sign) named =
    subst (λ (c : CommandValue). IsNamed (facts_of h c).inputs file) sign.1.1 named

module _ {R S D O E : Type 0} (h : HashFunction) (rooms : Rooms R S D) (disks : Disks D)
    (outs : Sinks O) (errs : Sinks E) (crash_state : ReadsCrashState disks) (only : OnlyNow disks)
    (contents : ModelsFiles rooms disks)
    (bytes : (d : D) (b : List ℕ) → disks.contents d ≡ Some b → IsBytes b) where
  abbrev p : Program
  p = program h rooms disks outs errs

  pub tiles_misread : TilesAreMisread h p errs
  tiles_misread name start first old new events begun execution settings public is journal begins
      before others found execution' command run steps is_run spoken two =
      let log = found.0 in
      let begun' = found.1 in
      let files = rooms.file new in
      let is_modelled = modelled_then h rooms disks outs errs crash_state only contents bytes name
      start first old new events begun execution in
      let about = about_input h rooms disks outs errs crash_state only contents bytes journal new
      command run is_modelled is_run spoken two (λ file reason any.
      elim (both_refused h files name journal command file reason steps any) [
        | inl signer ↦ absurd (cosigner_never h files name file reason settings public (λ c there.
            let party = read_again h rooms disks outs errs crash_state only contents bytes name
            start first old new events begun execution c (inr there) in
            (party.0, subst (λ (s : PartyStart). IsReadAs h s c party.0) is party.1.1)) signer)
        | inr rest ↦ elim rest [
          | inl mirrored ↦ mirror_lacks_tile h files journal file reason (Mirror log) begins log
              (λ c there.
              let party = read_again h rooms disks outs errs crash_state only contents bytes journal
              (Mirror log) begins before new others begun' execution' c (inr there) in
              (party.0, party.1.1))
              (λ c there.
              let party = read_again h rooms disks outs errs crash_state only contents bytes journal
              (Mirror log) begins before new others begun' execution' c (inr there) in
              let are = file_bytes disks (rooms.file new journal) (rooms.device new journal) c bytes
              (contents.0 new journal is_modelled) there in
              (party.0, (stands_of h (Mirror log) c party.0 are party.1.1, party.1.0)))
              mirrored
          | inr none ↦ absurd none
        ]
      ]) in (
        about,
        elim about.input [
          | inl named ↦ absurd (no_inputs h name journal command about.file steps named)
          | inr lacks ↦ lacks
        ],
      )
