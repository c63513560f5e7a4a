-- A run of `export` after an execution.
use Rattle.std.proofs.Common.{◌≡◌, inr, ℕ, suc, List, [], ◌∷◌, ◌++◌, drop}
use Rattle.std.proofs.Common.{Some, Result, Ok, refl, sym, subst, ap, ◌∙◌, arith}
use Rattle.std.proofs.Common.{append_assoc}
use Rattle.std.proofs.lemmas.Option.{option_and_then_some, same_Some}
use Rattle.std.specs.Prelude.{Contains, option_map}
use Rattle.byte_formats.specs.Offsets.{IsBytes}
use Rattle.byte_formats.specs.Types.{HashFunction}
use Rattle.byte_formats.proofs.Values.{map_some}
use Rattle.disk_core.specs.declared.disk.Disk.{Ghosts as Disks}
use Rattle.journal_core.proofs.Standing.{found_stands}
use Rattle.mtc_io.specs.declared.sink.Sink.{Ghosts as Sinks}
use Rattle.mtc_room.specs.declared.room.Room.{Ghosts as Rooms}
use Rattle.mtc_words.specs.Commands.{export}
use Rattle.mtc_words.specs.Words.{command_of}
use Rattle.cosigner_core.specs.ExportReading.{export_of}
use Rattle.cosigner_core.specs.Folds.{progress_of, CosignerState, cosigner_fold, cosigner_of}
use Rattle.cosigner_core.specs.Exports.{export_text}
use Rattle.cosigner_core.specs.Openings.{FoundCosigner, cosigner_read}
use Rattle.cosigner_core.specs.Progress.{steps_in}
use Rattle.cosigner_core.specs.Records.{step_in}
use Rattle.cosigner_core.specs.declared.settings.CosignerSettings.{CosignerSettings}
use Rattle.cosigner_core.specs.declared.step.Step.{Step}
use Rattle.cosigner_core.proofs.ExportAgain.{export_again}
use Rattle.mtc_command.specs.Answers.{Reply, said}
use Rattle.mtc_command.specs.Made.{reads}
use Rattle.mtc_command.specs.declared.answer.Said.TheVariants.{Done}
use Rattle.mtc_command.proofs.Made.{OnlyNow, ReadsCrashState}
use Rattle.mtc_plans.specs.Heard.{ExportsSo}
use Rattle.mtc_plans.proofs.Heard.{exported_so}
use Rattle.party_history.specs.Rules.{IsReadAs, StartsWith}
use Rattle.party_history.specs.declared.start.PartyStart.{PartyStart}
use Rattle.party_history.specs.declared.start.PartyStart.TheVariants.{Cosigner}
use Rattle.party_history.proofs.Cosigners.{of_first}
use Rattle.mtc_laws.specs.ExportLaws.{ExportsHoldTheSteps, HasExported}
use Rattle.mtc_laws.proofs.Printed.{did_so, heard_so}
use Rattle.mtc_laws.proofs.Recovered.{held_prefix, modelled_then, read_again}
use Rattle.mtc_laws.proofs.HeardRuns.{file_bytes, heard_run, streamed_so, modelled_file}
use Rattle.mtc_laws.proofs.HeardRuns.{contents_crash_state}
use Rattle.mtc_top.specs.Executions.{program, IsBegun, Run, FileEvent}
use Rattle.mtc_laws.proofs.Aliases.{IsRun, IsOwnExecution, IsRecovered, IsHeard}
use Rattle.mtc_laws.proofs.Aliases.{ModelsFiles}

-- ---- the steps of records

contains_more : (x y : Step) (xs : List Step) → Contains xs y → Contains (x ∷ xs) y
contains_more x y xs there = (suc there.0, omega (arith, there.1), there.2)

-- a record among others is read as one of their steps
pub step_there : (prefix : List (List ℕ)) (body : List ℕ) (rest : List (List ℕ)) (steps : List Step)
    (step : Step) → steps_in (prefix ++ body ∷ rest) ≡ Some steps → step_in body ≡ Some step
    → Contains steps step
unfolding steps_in
step_there [] body rest steps step is read =
    option_and_then_some (λ x. option_map (λ xs. x ∷ xs) (steps_in rest)) (step_in body) steps is
    (λ x found more.
    let tail = map_some (λ (xs : List Step). x ∷ xs) (steps_in rest) steps more in
    let same : x ≡ step = same_Some x step (sym found ∙ read) in
    subst (λ (l : List Step). Contains l step) (ap (λ (y : Step). y ∷ tail.0) (sym same) ∙ tail.2)
    (0, omega arith, refl))
step_there (z ∷ prefix) body rest steps step is read =
    option_and_then_some (λ x. option_map (λ xs. x ∷ xs) (steps_in (prefix ++ body ∷ rest)))
    (step_in z) steps is (λ x found more.
    let tail =
    map_some (λ (xs : List Step). x ∷ xs) (steps_in (prefix ++ body ∷ rest)) steps more in
    subst (λ (l : List Step). Contains l step) tail.2
    (contains_more x step tail.0 (step_there prefix body rest tail.0 step tail.1 read)))

following_first : (first : List ℕ) (prefix more : List (List ℕ)) (body : List ℕ)
    (rest list : List (List ℕ)) → (first ∷ (prefix ++ body ∷ more)) ++ rest ≡ list
    → drop 1 list ≡ prefix ++ body ∷ (more ++ rest)
following_first first prefix more body rest list is =
    ap (λ (l : List (List ℕ)). drop 1 l) (sym is) ∙ append_assoc prefix (body ∷ more) rest

-- ---- what was read

same_found : {F E : Type 0} (r : Result F E) (one other : F) → r ≡ Ok one → r ≡ Ok other
    → one ≡ other
same_found r one other is so = cc

-- a party that began as a cosigner is read as one
read_cosigner : (h : HashFunction) (start : PartyStart) (settings : CosignerSettings)
    (public bytes : List ℕ) (list : List (List ℕ)) → start ≡ Cosigner settings public
    → IsReadAs h start bytes list → (s : CosignerState)
    × (cosigner_read h bytes ≡ Ok (record { records = list; state = s }))
read_cosigner h start settings public bytes list is read =
    subst (λ (n : PartyStart). IsReadAs h n bytes list) is read

module _ {R S D O E : Type 0} (h : HashFunction) (rooms : Rooms R S D) (disks : Disks D)
    (outs : Sinks O) (errs : Sinks E) (crash_state : ReadsCrashState disks) (only : OnlyNow disks)
    (contents : ModelsFiles rooms disks)
    (bytes : (d : D) (b : List ℕ) → disks.contents d ≡ Some b → IsBytes b) where
  module _ (name : List ℕ) (start : PartyStart) (first : List ℕ) (begins new : R)
      (events : List (FileEvent R O E))
      (begun : IsBegun h (program h rooms disks outs errs) name start first begins events)
      (execution : IsOwnExecution h rooms disks outs errs name begins events new) (settings :
      CosignerSettings)
      (public : List ℕ) (is : start ≡ Cosigner settings public) (run : Run R O E)
      (is_run : IsRun h rooms disks outs errs new run)
      (spoken : command_of run.words ≡ Ok (export name)) (heard : IsHeard outs run)
      (is_modelled : rooms.is_modelled new) where
    abbrev SaysSo : Reply → Type 0
    SaysSo = ExportsSo h (rooms.file new) name

    exported : SaysSo (heard_run h rooms disks outs errs new run is_run heard).reply
        → HasExported h (program h rooms disks outs errs) settings public name begins events new run
    exported s =
        let c = s.held in
        let there = s.there in
        let party =
        read_again h rooms disks outs errs crash_state only contents bytes name start first begins
        new
        events begun execution c (inr there) in
        let opened = read_cosigner h start settings public c party.0 is party.1.1 in
        let models_file = contents.0 new name is_modelled in
        let are = file_bytes disks (rooms.file new name) (rooms.device new name) c bytes models_file
        there in
        let found : FoundCosigner = record { records = party.0; state = opened.0 } in
        let stands = found_stands (cosigner_fold h) c found are opened.1 in
        let again = export_again h c party.0 opened.0 are stands.0 stands.1 in
        let own = of_first h settings public first party.1.0.others opened.0
        (subst (λ (n : PartyStart). StartsWith n first) is begun.starts)
        (subst (λ (l : List (List ℕ)). cosigner_of h l ≡ Ok opened.0) party.1.0.is stands.1) in
        let same = same_found (cosigner_read h c) s.found found s.is_cosigner opened.1 in
        let meets = s.reply_is
        ∙ ap (λ (f : FoundCosigner). said Done (export_text f.state f.records)) same in
        let text = export_text opened.0 party.0 in
        let recovered : IsRecovered h rooms disks outs errs name new party.0
        = (
          c,
          (
            contents_crash_state disks (rooms.device new name) c crash_state
                (modelled_file disks (rooms.file new name) (rooms.device new name) models_file
                ∙ there),
            stands.0,
          ),
        ) in
        record {
          list = party.0;
          recovered = recovered;
          was_read = did_so h rooms disks outs errs new run (export name) spoken name
              (reads party.0) refl
              (s.did ∙ ap (λ (f : FoundCosigner). reads f.records ∷ []) same);
          state = opened.0;
          state_is = stands.1;
          text = text;
          text_is = refl;
          printed = streamed_so h rooms disks outs errs new run is_run heard text meets;
          export = export_of opened.0 again.0;
          read = again.2;
          cosigner_is = own.0;
          log_is = own.1;
          key_is = own.2;
          progress = progress_of opened.0;
          allowed = again.3;
          steps = again.1;
          signed = λ record0 prefix more body step held says.
              let prefix_is =
              held_prefix h rooms disks outs errs crash_state only contents bytes name start
              first
              begins new events begun execution (record0 ∷ (prefix ++ body ∷ more)) party.0
              held
              recovered in
              step_there prefix body (more ++ prefix_is.0) again.0 step
              (subst (λ (l : List (List ℕ)). steps_in l ≡ Some again.0)
              (following_first record0 prefix more body prefix_is.0 party.0 prefix_is.1)
              again.1)
              says;
        }

  pub exports_hold : ExportsHoldTheSteps h (program h rooms disks outs errs)
  exports_hold name start first begins new events begun execution settings public is run is_run
      spoken
      heard =
      let is_modelled =
      modelled_then h rooms disks outs errs crash_state only contents bytes name start
      first begins new events begun execution in
      exported name start first begins new events begun execution settings public is run is_run
      spoken
      heard is_modelled
      (heard_so h rooms disks outs errs new run (export name) spoken is_modelled is_run heard
      (ExportsSo h (rooms.file new) name) (exported_so h (rooms.file new) name))
