-- What commands do with their journals that write while they read.
use Rattle.std.proofs.Common.{◌≡◌, ℕ, None, refl, subst, sym, true≢false}
use Rattle.byte_formats.specs.Types.{HashFunction, Text}
use Rattle.mirror_core.specs.Openings.{FoundMirror}
use Rattle.mtc_words.specs.Commands.{entries, entries_from, export, mirror_entries}
use Rattle.issuance_log.specs.Openings.{FoundLog}
use Rattle.mtc_authority.specs.declared.work.Work.{Work}
use Rattle.mtc_authority.specs.declared.work.Work.TheVariants.{Entries, EntriesFrom}
use Rattle.mtc_command.specs.Steps.{Files, Outcome}
use Rattle.command_plans.specs.Comes.{Comes, absent, does, exists, misread, no_party, too_long}
use Rattle.command_plans.specs.Kinds.{Kinds}
use Rattle.command_plans.specs.Outcomes.{journals_did, outcome_of}
use Rattle.command_plans.specs.Plans.{Deed, Finds, Judged, Plan, ReadAll, only_reads, works}
use Rattle.command_plans.proofs.Coming.{outcomes_come}
use Rattle.mtc_plans.specs.Commands.{planned_outcome}
use Rattle.mtc_plans.specs.CosignerPlans.{export_plan, export_reported}
use Rattle.mtc_plans.specs.LogPlans.{work_plan}
use Rattle.mtc_plans.specs.LogWork.{entries_from_judged, entries_judged, work_reported}
use Rattle.mtc_plans.specs.MirrorPlans.{mirror_entries_judged, mirror_entries_plan}
use Rattle.mtc_plans.specs.PartyKinds.{party_kinds}
use Rattle.mtc_plans.specs.Steps.{StepReport, deed_on}
use Rattle.mtc_plans.specs.Streams.{AllAddNone, StreamsAddNone, StreamsMakeNone}
use Rattle.mtc_plans.proofs.Heard.{same_work}

-- a command whose work adds no record
came_to_none : {k : Kinds} (plan : Plan k) (files : Files) (outcome : Outcome)
    → Comes plan files outcome
    → ((reads : ReadAll plan.inputs) (say : Finds plan.journals → Deed plan.journals)
    (founds : Finds plan.journals) → plan.steps reads ≡ works say
    → AllAddNone (journals_did plan.journals founds (say founds).does))
    → AllAddNone outcome.journals
came_to_none plan files outcome (absent file named none) adds = tt
came_to_none plan files outcome (too_long file long) adds = tt
came_to_none plan files outcome (exists file bytes named there) adds = tt
came_to_none plan files outcome (misread reads are read reason is) adds = tt
came_to_none plan files outcome (no_party file reason any) adds = tt
came_to_none plan files outcome (does reads are say is founds found) adds =
    adds reads say founds is

module _ (h : HashFunction) (files : Files) where
  export_adds_none : (journal : Text)
      → AllAddNone (planned_outcome h (export journal) files).journals
  export_adds_none journal =
      let plan = export_plan h journal in
      came_to_none plan files (outcome_of plan files) (outcomes_come (party_kinds h) plan files)
      (λ reads say founds is.
      let deed : Deed plan.journals = deed_on (export_reported founds.0) in
      let same : deed ≡ say founds = same_work say
      (λ found. deed_on (export_reported found.0)) founds (works say) refl is in
      subst (λ (d : Deed plan.journals). AllAddNone (journals_did plan.journals founds d.does)) same
      (tt, tt))

  mirror_entries_add_none : (journal : Text) (size : ℕ)
      → AllAddNone (planned_outcome h (mirror_entries journal size) files).journals
  mirror_entries_add_none journal size =
      let plan = mirror_entries_plan h journal size in
      let reported : FoundMirror → StepReport =
      λ found. (mirror_entries_judged size found.state, None) in
      came_to_none plan files (outcome_of plan files) (outcomes_come (party_kinds h) plan files)
      (λ reads say founds is.
      let deed : Deed plan.journals = deed_on (reported founds.0) in
      let same : deed ≡ say founds = same_work say
      (λ found. deed_on (reported found.0)) founds (works say) refl is in
      subst (λ (d : Deed plan.journals). AllAddNone (journals_did plan.journals founds d.does)) same
      (tt, tt))

  -- a work on a log that only judges it
  work_adds_none : (journal : Text) (work : Work) (judged : FoundLog → Judged)
      → ((found : FoundLog) → work_reported h work found ≡ (judged found, None))
      → AllAddNone (outcome_of (work_plan h only_reads journal work) files).journals
  work_adds_none journal work judged reports =
      let plan = work_plan h only_reads journal work in
      came_to_none plan files (outcome_of plan files) (outcomes_come (party_kinds h) plan files)
      (λ reads say founds is.
      let deed : StepReport → Deed plan.journals = λ r. deed_on r in
      let same : deed (work_reported h work founds.0) ≡ say founds = same_work say
      (λ found. deed_on (work_reported h work found.0)) founds (works say) refl is in
      subst (λ (d : Deed plan.journals). AllAddNone (journals_did plan.journals founds d.does)) same
      (subst (λ (r : StepReport). AllAddNone (journals_did plan.journals founds (deed r).does))
      (sym (reports founds.0)) (tt, tt)))

pub streams_add_none : StreamsAddNone
streams_add_none h (entries journal size) files may = work_adds_none h files journal (Entries size)
    (λ found. entries_judged size found.state) (λ found. refl)
streams_add_none h (entries_from journal first size) files may =
    work_adds_none h files journal (EntriesFrom first size)
    (λ found. entries_from_judged first size found.state) (λ found. refl)
streams_add_none h (export journal) files may = export_adds_none h files journal
streams_add_none h (mirror_entries journal size) files may =
    mirror_entries_add_none h files journal size
streams_add_none h other files may = absurd (true≢false (sym may))

pub streams_make_none : StreamsMakeNone
streams_make_none h (entries journal size) may = refl
streams_make_none h (entries_from journal first size) may = refl
streams_make_none h (export journal) may = refl
streams_make_none h (mirror_entries journal size) may = refl
streams_make_none h other may = absurd (true≢false (sym may))
