-- An audit in plain words.
use Rattle.std.proofs.Common.{◌≡◌, ◌⊎◌, inl, inr, ℕ, List, Option, None, Some, IfSome, Ok, subst}
use Rattle.byte_formats.specs.Offsets.{IsBytes}
use Rattle.byte_formats.specs.Types.{HashFunction}
use Rattle.disk_core.specs.declared.disk.Disk.{Ghosts as Disks}
use Rattle.mtc_io.specs.declared.sink.Sink.{Ghosts as Sinks}
use Rattle.mtc_room.specs.declared.room.Room.{Ghosts as Rooms}
use Rattle.entry_list.specs.Items.{AreItems}
use Rattle.entry_list.proofs.Written.{items_only}
use Rattle.cosigner_core.specs.ExportReading.{export_in}
use Rattle.cosigner_core.specs.declared.lists.Export.{Export}
use Rattle.cosigner_steps.specs.Steps.{HasPrefix, held_by}
use Rattle.policy_core.specs.declared.answer.By.TheVariants.{Landmark}
use Rattle.world_core.specs.Audit.{AuditCase, HasInterval, foreign_of}
use Rattle.world_core.proofs.Plain.{by_prefix, by_interval, own_there}
use Rattle.mtc_command.proofs.Made.{OnlyNow, ReadsCrashState}
use Rattle.mtc_laws.specs.AuditLaws.{AuditsDecide, IsSignedInExecution, StandsOrCollides}
use Rattle.mtc_laws.specs.AuditLaws.{StandsOrPair}
use Rattle.mtc_top.specs.Concluded.{Prints}
use Rattle.mtc_laws.proofs.Audits.{audits_stand, kept_there}
use Rattle.mtc_laws.proofs.HeardRuns.{file_bytes}
use Rattle.mtc_laws.proofs.Aliases.{ModelsFiles}
use Rattle.mtc_top.specs.Executions.{program, Run}

module _ {R S D O E : Type 0} (h : HashFunction) (rooms : Rooms R S D) (disks : Disks D)
    (outs : Sinks O) (errs : Sinks E) (crash_state : ReadsCrashState disks) (only : OnlyNow disks)
    (contents : ModelsFiles rooms disks)
    (bytes : (d : D) (b : List ℕ) → disks.contents d ≡ Some b → IsBytes b) where
  abbrev IsSigned : AuditCase → List ℕ → Type 0
  IsSigned = IsSignedInExecution h (program h rooms disks outs errs)

  -- what backs the acceptance, with the wanted list
  abbrev IsBacked : AuditCase → List ℕ → Type 0
  IsBacked x kept_text = ((x.accepted.by ≡ Landmark) × HasInterval h x.items x.accepted)
      ⊎ (IsSigned x kept_text
      × IfSome x.kept (λ export. HasPrefix h x.items.entries (held_by h export.steps)))

  listed : (x : AuditCase) (kept_text : List ℕ) → export_in h kept_text ≡ Ok x.kept
      → IsBacked x kept_text → foreign_of h x ≡ None
  listed x kept_text read backed = elim backed [
    | inl landmark ↦ by_interval h x landmark.0 landmark.1
    | inr by ↦
        (let kept =
        kept_there h rooms disks outs errs crash_state only contents bytes x kept_text read
        by.0 in
        by_prefix h x by.0.set kept.0 by.0.by kept.1
        (subst (λ (o : Option Export). IfSome o
        (λ export. HasPrefix h x.items.entries (held_by h export.steps))) kept.1 by.1))
  ]

  backs : (x : AuditCase) (kept_text : List ℕ) → IsBacked x kept_text
      → (x.accepted.by ≡ Landmark) ⊎ IsSigned x kept_text
  backs x kept_text backed = elim backed [
    | inl landmark ↦ inl landmark.0
    | inr by ↦ inr by.0
  ]

  plainly : (x : AuditCase) (run : Run R O E) → AreItems h x.items
      → StandsOrPair h (program h rooms disks outs errs) x run
      → StandsOrCollides h (program h rooms disks outs errs) x run
  plainly x run are either = elim either [
    | inl stands ↦ inl (stands.0, own_there h x are stands.1, stands.2)
    | inr pair ↦
        (let two = pair.1.1 in
        inr (
          two.x,
          (
            two.y,
            (
              pair.1.0,
              two.differ,
              two.one_hash,
              subst (Prints outs run.out run.out_after) two.is pair.1.2,
            ),
          ),
        ))
  ]

  pub audits_decide : AuditsDecide h (program h rooms disks outs errs)
  audits_decide old run cert store unix_time entries kept x is_modelled is_run spoken is backed not5
      not6
      not8 =
      let are = items_only h is.entries_text x.items (file_bytes disks (rooms.file old entries)
      (rooms.device old entries) is.entries_text bytes (contents.0 old entries is_modelled)
      is.has_entries.there) is.items_read in
      plainly x run are.1.0
      (audits_stand h rooms disks outs errs crash_state only contents bytes old run
      cert store unix_time entries kept x is_modelled is_run spoken is
      (listed x is.kept_text is.kept_read backed)
      (backs x is.kept_text backed) not5 not6 not8)
