-- The outcomes that the contracts of the commands cite: one line for each. Each stands in a file of
-- its own, in mtc_relying, mtc_authority, mtc_cosigner, mtc_mirror, mtc_mirror_steps, mtc_monitor,
-- mtc_drill or mtc_help.
use Rattle.byte_formats.specs.Types.{HashFunction, Text}
use Rattle.mtc_words.specs.Commands.{CommandValue, member, show, verify, init_log, issue}
use Rattle.mtc_words.specs.Commands.{checkpoint, entries, entries_from, consist, subtree}
use Rattle.mtc_words.specs.Commands.{keygen}
use Rattle.mtc_words.specs.Commands.{init_cosigner, advance, child, cosign, export, landmark}
use Rattle.mtc_words.specs.Commands.{landmarks}
use Rattle.mtc_words.specs.Commands.{light_cert, trust_landmarks, cert, audit, drill, tile}
use Rattle.mtc_words.specs.Commands.{certs, issue_list, light_certs}
use Rattle.mtc_words.specs.Commands.{switch, tile_anew}
use Rattle.mtc_words.specs.Commands.{mirror_advance, mirror_cosign, mirror_entries, mirror_init}
use Rattle.mtc_words.specs.Commands.{mirror_take, mirror_tile}
use Rattle.mtc_words.specs.Commands.{quarrel, root, held, monitor_init, monitor}
use Rattle.mtc_words.specs.Commands.{help, version}
use Rattle.mtc_command.specs.Answers.{tiles_name}
use Rattle.mtc_command.specs.Steps.{Files, Outcome}
use Rattle.mtc_cosigner.specs.InitOutcome.{init_cosigner_outcome}
use Rattle.mtc_cosigner.specs.KeygenOutcome.{keygen_outcome}
use Rattle.mtc_cosigner.specs.Works.{advance_outcome, child_outcome, cosign_outcome}
use Rattle.mtc_cosigner.specs.Works.{export_outcome}
use Rattle.mtc_drill.specs.Summary.{drill_outcome}
use Rattle.mtc_help.specs.HelpOutcome.{help_outcome, version_outcome}
use Rattle.mtc_authority.specs.CertCommand.{cert_outcome}
use Rattle.mtc_authority.specs.IssueCommand.{issue_outcome}
use Rattle.mtc_authority.specs.LogOutcomes.{init_log_outcome}
use Rattle.mtc_authority.specs.Works.{log_outcome}
use Rattle.mtc_authority.specs.declared.work.Work.{Work}
use Rattle.mtc_authority.specs.declared.work.Work.TheVariants.{Checkpoint, Consist, Entries}
use Rattle.mtc_authority.specs.declared.work.Work.TheVariants.{EntriesFrom}
use Rattle.mtc_authority.specs.declared.work.Work.TheVariants.{Subtree, Switch}
use Rattle.mtc_authority.specs.declared.work.Work.TheVariants.{Landmark, Landmarks, LightCert, Tile}
use Rattle.mtc_authority.specs.declared.work.Work.TheVariants.{LightCerts}
use Rattle.mtc_authority.specs.ListCommands.{certs_outcome, issue_list_outcome}
use Rattle.mtc_authority.specs.TileOutcome.{rebuilt_outcome}
use Rattle.mtc_mirror.specs.Commands.{mirror_entries_outcome, mirror_take_outcome}
use Rattle.mtc_mirror.specs.Commands.{mirror_tile_outcome}
use Rattle.mtc_mirror.specs.MirrorOutcomes.{mirror_init_outcome}
use Rattle.mtc_mirror_steps.specs.StepOutcomes.{mirror_advance_outcome, mirror_cosign_outcome}
use Rattle.mtc_relying.specs.AuditOutcome.{audit_outcome}
use Rattle.mtc_relying.specs.QuarrelOutcome.{quarrel_outcome}
use Rattle.mtc_relying.specs.TrustOutcome.{trust_outcome}
use Rattle.mtc_relying.specs.MemberOutcome.{member_outcome}
use Rattle.mtc_relying.specs.ShowOutcome.{show_outcome}
use Rattle.mtc_relying.specs.VerifyOutcome.{verify_outcome}
use Rattle.mtc_monitor.specs.HeldOutcome.{held_outcome}
use Rattle.mtc_monitor.specs.MonitorOutcome.{monitor_init_outcome, monitor_outcome}
use Rattle.mtc_monitor.specs.RootOutcome.{root_outcome}

-- The outcome of a command on the log of a journal, which reads no files but the log's.
abbrev pub outcome_on_log : HashFunction → Text → Work → Files → Outcome
outcome_on_log h journal work files =
    log_outcome h journal (files journal) (files (tiles_name journal)) work

-- The outcome of each command.
abbrev pub command_outcome : HashFunction → CommandValue → Files → Outcome
command_outcome h (member file) = member_outcome h file
command_outcome h (show file) = show_outcome file
command_outcome h (verify certificate store unix_time) =
    verify_outcome h certificate store unix_time
command_outcome h (init_log journal id active limit) = init_log_outcome journal id active limit
command_outcome h (issue journal request) = issue_outcome h journal request
command_outcome h (checkpoint journal) = outcome_on_log h journal Checkpoint
command_outcome h (entries journal size) = outcome_on_log h journal (Entries size)
command_outcome h (entries_from journal first size) =
    outcome_on_log h journal (EntriesFrom first size)
command_outcome h (consist journal old new) = outcome_on_log h journal (Consist old new)
command_outcome h (subtree journal start end size) =
    outcome_on_log h journal (Subtree start end size)
command_outcome h (keygen height width file) = keygen_outcome height width file
command_outcome h (init_cosigner journal id log top low width file) =
    init_cosigner_outcome journal id log top low width file
command_outcome h (advance journal request) = advance_outcome h journal request
command_outcome h (child journal) = child_outcome h journal
command_outcome h (cosign journal request) = cosign_outcome h journal request
command_outcome h (export journal) = export_outcome h journal
command_outcome h (landmark journal) = outcome_on_log h journal Landmark
command_outcome h (landmarks journal) = outcome_on_log h journal Landmarks
command_outcome h (light_cert journal index) = outcome_on_log h journal (LightCert index)
command_outcome h (trust_landmarks list active items) = trust_outcome h list active items
command_outcome h (cert journal index start end file) = cert_outcome h journal index start end file
command_outcome h (audit certificate store unix_time items kept) =
    audit_outcome h certificate store unix_time items kept
command_outcome h (quarrel kept) = quarrel_outcome h kept
command_outcome h (drill number) = λ files. drill_outcome number
command_outcome h (tile journal) = outcome_on_log h journal Tile
command_outcome h (tile_anew journal) = rebuilt_outcome h journal
command_outcome h (switch journal) = outcome_on_log h journal Switch
command_outcome h (issue_list journal requests) = issue_list_outcome h journal requests
command_outcome h (light_certs journal first last) =
    outcome_on_log h journal (LightCerts first last)
command_outcome h (certs journal first last start end file) =
    certs_outcome h journal first last start end file
command_outcome h (mirror_init journal id) = mirror_init_outcome journal id
command_outcome h (mirror_take journal items) = mirror_take_outcome h journal items
command_outcome h (mirror_tile journal) = mirror_tile_outcome h journal
command_outcome h (mirror_entries journal size) = mirror_entries_outcome h journal size
command_outcome h (mirror_advance signer journal size) =
    mirror_advance_outcome h signer journal size
command_outcome h (mirror_cosign signer journal start end) =
    mirror_cosign_outcome h signer journal start end
command_outcome h (root items) = root_outcome h items
command_outcome h (held kept) = held_outcome h kept
command_outcome h (monitor_init id) = λ files. monitor_init_outcome id
command_outcome h help = λ files. help_outcome
command_outcome h version = λ files. version_outcome
command_outcome h (monitor state watch request items) =
    monitor_outcome h state watch request items
