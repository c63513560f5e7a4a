-- What each command has to answer, as its contract cites it, is what comes of its plan.
use Rattle.std.proofs.Common.{◌≡◌, refl}
use Rattle.byte_formats.specs.Types.{HashFunction}
use Rattle.mtc_words.specs.Commands.{CommandValue, member, show, verify, init_log, issue}
use Rattle.mtc_words.specs.Commands.{checkpoint, entries, entries_from, consist, subtree}
use Rattle.mtc_words.specs.Commands.{keygen}
use Rattle.mtc_words.specs.Commands.{init_cosigner, advance, child, cosign, export, landmark}
use Rattle.mtc_words.specs.Commands.{landmarks}
use Rattle.mtc_words.specs.Commands.{light_cert, trust_landmarks, cert, audit, drill, tile}
use Rattle.mtc_words.specs.Commands.{certs, issue_list, light_certs}
use Rattle.mtc_words.specs.Commands.{switch, tile_anew}
use Rattle.mtc_words.specs.Commands.{mirror_advance, mirror_cosign, mirror_entries, mirror_init}
use Rattle.mtc_words.specs.Commands.{mirror_take, mirror_tile}
use Rattle.mtc_words.specs.Commands.{quarrel, root, held, monitor_init, monitor}
use Rattle.mtc_words.specs.Commands.{help, version}
use Rattle.mtc_command.specs.Steps.{Files}
use Rattle.mtc_authority.specs.declared.work.Work.TheVariants.{Checkpoint, Consist, Entries}
use Rattle.mtc_authority.specs.declared.work.Work.TheVariants.{EntriesFrom}
use Rattle.mtc_authority.specs.declared.work.Work.TheVariants.{Landmark, Landmarks, LightCert}
use Rattle.mtc_authority.specs.declared.work.Work.TheVariants.{LightCerts}
use Rattle.mtc_authority.specs.declared.work.Work.TheVariants.{Subtree, Switch, Tile}
use Rattle.command_plans.specs.Plans.{changes, only_reads}
use Rattle.mtc_plans.specs.Cited.{command_outcome}
use Rattle.mtc_plans.specs.Commands.{planned_outcome}
use Rattle.mtc_plans.specs.PartyKinds.{party_kinds}
use Rattle.mtc_plans.proofs.Auditing.{audit_plans, quarrel_plans}
use Rattle.mtc_plans.proofs.Cosigners.{advance_plans, child_plans, cosign_plans, export_plans}
use Rattle.mtc_plans.proofs.Cosigners.{init_cosigner_plans}
use Rattle.mtc_plans.proofs.Logs.{cert_plans, certs_plans, init_log_plans, issue_list_plans}
use Rattle.mtc_plans.proofs.Logs.{issue_plans, rebuild_plans, work_plans}
use Rattle.mtc_plans.proofs.Mirrors.{mirror_advance_plans, mirror_cosign_plans}
use Rattle.mtc_plans.proofs.Mirrors.{mirror_entries_plans, mirror_init_plans, mirror_take_plans}
use Rattle.mtc_plans.proofs.Mirrors.{mirror_tile_plans}
use Rattle.mtc_plans.proofs.Reading.{drill_plans, keygen_plans, member_plans, show_plans}
use Rattle.mtc_plans.proofs.Reading.{trust_plans, verify_plans}
use Rattle.mtc_plans.proofs.Watching.{held_plans, monitor_init_plans, monitor_plans, root_plans}

module _ (h : HashFunction) where
  pub outcome_planned : (command : CommandValue) (files : Files)
      → command_outcome h command files ≡ planned_outcome h command files
  outcome_planned (member file) files = member_plans (party_kinds h) h file files
  outcome_planned (show file) files = show_plans (party_kinds h) h file files
  outcome_planned (verify certificate store unix_time) files =
      verify_plans (party_kinds h) h certificate store unix_time files
  outcome_planned (init_log journal id active limit) files =
      init_log_plans h files journal id active limit
  outcome_planned (issue journal request) files = issue_plans h files journal request
  outcome_planned (checkpoint journal) files = work_plans h files only_reads journal Checkpoint
  outcome_planned (entries journal size) files =
      work_plans h files only_reads journal (Entries size)
  outcome_planned (entries_from journal first size) files =
      work_plans h files only_reads journal (EntriesFrom first size)
  outcome_planned (consist journal old new) files =
      work_plans h files only_reads journal (Consist old new)
  outcome_planned (subtree journal start end size) files =
      work_plans h files only_reads journal (Subtree start end size)
  outcome_planned (keygen height width file) files =
      keygen_plans (party_kinds h) h height width file files
  outcome_planned (init_cosigner journal id log_id top low width file) files =
      init_cosigner_plans h files journal id log_id top low width file
  outcome_planned (advance journal request) files = advance_plans h files journal request
  outcome_planned (child journal) files = child_plans h files journal
  outcome_planned (cosign journal request) files = cosign_plans h files journal request
  outcome_planned (export journal) files = export_plans h files journal
  outcome_planned (landmark journal) files = work_plans h files only_reads journal Landmark
  outcome_planned (landmarks journal) files = work_plans h files only_reads journal Landmarks
  outcome_planned (light_cert journal index) files =
      work_plans h files only_reads journal (LightCert index)
  outcome_planned (trust_landmarks list active items) files =
      trust_plans (party_kinds h) h list active items files
  outcome_planned (cert journal index start end file) files =
      cert_plans h files journal index start end file
  outcome_planned (audit certificate store unix_time items kept) files =
      audit_plans (party_kinds h) h certificate store unix_time items kept files
  outcome_planned (quarrel kept) files = quarrel_plans (party_kinds h) h kept files
  outcome_planned (drill number) files = drill_plans (party_kinds h) h number files
  outcome_planned (tile journal) files = work_plans h files changes journal Tile
  outcome_planned (tile_anew journal) files = rebuild_plans h files journal
  outcome_planned (switch journal) files = work_plans h files only_reads journal Switch
  outcome_planned (issue_list journal requests) files =
      issue_list_plans h files journal requests
  outcome_planned (light_certs journal first last) files =
      work_plans h files only_reads journal (LightCerts first last)
  outcome_planned (certs journal first last start end file) files =
      certs_plans h files journal first last start end file
  outcome_planned (mirror_init journal id) files = mirror_init_plans h files journal id
  outcome_planned (mirror_take journal items) files = mirror_take_plans h files journal items
  outcome_planned (mirror_tile journal) files = mirror_tile_plans h files journal
  outcome_planned (mirror_entries journal size) files = mirror_entries_plans h files journal size
  outcome_planned (mirror_advance signer journal size) files =
      mirror_advance_plans h files signer journal size
  outcome_planned (mirror_cosign signer journal start end) files =
      mirror_cosign_plans h files signer journal start end
  outcome_planned (root items) files = root_plans (party_kinds h) h items files
  outcome_planned (held kept) files = held_plans (party_kinds h) h kept files
  outcome_planned (monitor_init id) files = monitor_init_plans (party_kinds h) h id files
  outcome_planned (monitor state watch request items) files =
      monitor_plans (party_kinds h) h state watch request items files
  outcome_planned help files = refl
  outcome_planned version files = refl
