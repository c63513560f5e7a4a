-- The plan of each command.
use Rattle.byte_formats.specs.Types.{HashFunction}
use Rattle.mtc_words.specs.Commands.{CommandValue, member, show, verify, init_log, issue}
use Rattle.mtc_words.specs.Commands.{checkpoint, entries, entries_from, consist, subtree}
use Rattle.mtc_words.specs.Commands.{keygen}
use Rattle.mtc_words.specs.Commands.{init_cosigner, advance, child, cosign, export, landmark}
use Rattle.mtc_words.specs.Commands.{landmarks}
use Rattle.mtc_words.specs.Commands.{light_cert, trust_landmarks, cert, audit, drill, tile}
use Rattle.mtc_words.specs.Commands.{certs, issue_list, light_certs}
use Rattle.mtc_words.specs.Commands.{switch, tile_anew}
use Rattle.mtc_words.specs.Commands.{mirror_advance, mirror_cosign, mirror_entries, mirror_init}
use Rattle.mtc_words.specs.Commands.{mirror_take, mirror_tile}
use Rattle.mtc_words.specs.Commands.{quarrel, root, held, monitor_init, monitor}
use Rattle.mtc_words.specs.Commands.{help, version}
use Rattle.mtc_command.specs.Steps.{Files, Outcome}
use Rattle.mtc_authority.specs.declared.work.Work.TheVariants.{Checkpoint, Consist, Entries}
use Rattle.mtc_authority.specs.declared.work.Work.TheVariants.{EntriesFrom}
use Rattle.mtc_authority.specs.declared.work.Work.TheVariants.{Landmark, Landmarks, LightCert}
use Rattle.mtc_authority.specs.declared.work.Work.TheVariants.{LightCerts}
use Rattle.mtc_authority.specs.declared.work.Work.TheVariants.{Subtree, Switch, Tile}
use Rattle.command_plans.specs.Outcomes.{outcome_of}
use Rattle.command_plans.specs.Plans.{Plan, changes, only_reads}
use Rattle.mtc_plans.specs.AuditPlans.{audit_plan, quarrel_plan}
use Rattle.mtc_plans.specs.CosignerPlans.{advance_plan, child_plan, cosign_plan, export_plan}
use Rattle.mtc_plans.specs.CosignerPlans.{init_cosigner_plan}
use Rattle.mtc_plans.specs.HelpPlans.{help_plan, version_plan}
use Rattle.mtc_plans.specs.LogPlans.{cert_plan, certs_plan, init_log_plan, issue_list_plan}
use Rattle.mtc_plans.specs.LogPlans.{issue_plan, rebuild_plan, work_plan}
use Rattle.mtc_plans.specs.MirrorPlans.{mirror_advance_plan, mirror_cosign_plan}
use Rattle.mtc_plans.specs.MirrorPlans.{mirror_entries_plan, mirror_init_plan, mirror_take_plan}
use Rattle.mtc_plans.specs.MirrorPlans.{mirror_tile_plan}
use Rattle.mtc_plans.specs.PartyKinds.{party_kinds}
use Rattle.mtc_plans.specs.ReadPlans.{drill_plan, keygen_plan, member_plan, show_plan}
use Rattle.mtc_plans.specs.ReadPlans.{trust_plan, verify_plan}
use Rattle.mtc_plans.specs.WatchPlans.{held_plan, monitor_init_plan, monitor_plan, root_plan}

-- The plan of each command.
abbrev pub plan_of : (h : HashFunction) → CommandValue → Plan (party_kinds h)
plan_of h (member file) = member_plan h file
plan_of h (show file) = show_plan file
plan_of h (verify certificate store unix_time) = verify_plan h certificate store unix_time
plan_of h (init_log journal id active limit) = init_log_plan h journal id active limit
plan_of h (issue journal request) = issue_plan h journal request
plan_of h (checkpoint journal) = work_plan h only_reads journal Checkpoint
plan_of h (entries journal size) = work_plan h only_reads journal (Entries size)
plan_of h (entries_from journal first size) =
    work_plan h only_reads journal (EntriesFrom first size)
plan_of h (consist journal old new) = work_plan h only_reads journal (Consist old new)
plan_of h (subtree journal start end size) =
    work_plan h only_reads journal (Subtree start end size)
plan_of h (keygen height width file) = keygen_plan height width file
plan_of h (init_cosigner journal id log top low width file) =
    init_cosigner_plan h journal id log top low width file
plan_of h (advance journal request) = advance_plan h journal request
plan_of h (child journal) = child_plan h journal
plan_of h (cosign journal request) = cosign_plan h journal request
plan_of h (export journal) = export_plan h journal
plan_of h (landmark journal) = work_plan h only_reads journal Landmark
plan_of h (landmarks journal) = work_plan h only_reads journal Landmarks
plan_of h (light_cert journal index) = work_plan h only_reads journal (LightCert index)
plan_of h (trust_landmarks list active items) = trust_plan h list active items
plan_of h (cert journal index start end file) = cert_plan h journal index start end file
plan_of h (audit certificate store unix_time items kept) =
    audit_plan h certificate store unix_time items kept
plan_of h (quarrel kept) = quarrel_plan h kept
plan_of h (drill number) = drill_plan number
plan_of h (tile journal) = work_plan h changes journal Tile
plan_of h (tile_anew journal) = rebuild_plan h journal
plan_of h (switch journal) = work_plan h only_reads journal Switch
plan_of h (issue_list journal requests) = issue_list_plan h journal requests
plan_of h (light_certs journal first last) =
    work_plan h only_reads journal (LightCerts first last)
plan_of h (certs journal first last start end file) =
    certs_plan h journal first last start end file
plan_of h (mirror_init journal id) = mirror_init_plan h journal id
plan_of h (mirror_take journal items) = mirror_take_plan h journal items
plan_of h (mirror_tile journal) = mirror_tile_plan h journal
plan_of h (mirror_entries journal size) = mirror_entries_plan h journal size
plan_of h (mirror_advance signer journal size) = mirror_advance_plan h signer journal size
plan_of h (mirror_cosign signer journal start end) = mirror_cosign_plan h signer journal start end
plan_of h (root items) = root_plan h items
plan_of h (held kept) = held_plan h kept
plan_of h (monitor_init id) = monitor_init_plan id
plan_of h (monitor state watch request items) = monitor_plan h state watch request items
plan_of h help = help_plan
plan_of h version = version_plan

-- What comes of it over these files.
abbrev pub planned_outcome : HashFunction → CommandValue → Files → Outcome
planned_outcome h command files = outcome_of (plan_of h command) files
