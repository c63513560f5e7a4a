-- What a crash leaves of a mirror's journal before and after its calls.
use Rattle.std.proofs.Common.{◌≡◌, ℕ, ◌∙◌, false, List}
use Rattle.std.proofs.Common.{Option, Some, None, IfSome, option_map, Result, Ok, Err, refl, sym}
use Rattle.std.proofs.Common.{ap}
use Rattle.std.proofs.Common.{subst, inl, inr}
use Rattle.byte_formats.specs.Types.{Text}
use Rattle.disk_core.specs.declared.disk.Disk.{Ghosts}
use Rattle.journal_core.specs.Ends.{AreDurable, durable_of, durable_records}
use Rattle.journal_core.specs.Format.{Represents, RepresentsEither, records_of}
use Rattle.journal_core.specs.Owners.{OwnerIsUntouched}
use Rattle.journal_core.specs.Words.{disk_of, is_broken}
use Rattle.journal_core.specs.declared.error.AppendError.TheVariants as append_error
use Rattle.journal_core.specs.declared.journal.Journal.{Journal}
use Rattle.journal_core.proofs.Ends.{is_durable-are, of_either}
use Rattle.journal_core.proofs.Modelled.{of_records}
use Rattle.state_journal.proofs.Kept.{of_sound}
use Rattle.tree_core.specs.declared.hashing.TreeHash.{Ghosts as Hashes}
use Rattle.mirror_core.specs.Folds.{MirrorState, MirrorView}
use Rattle.mirror_core.specs.Words.{MirrorAppends, MirrorReadsAndAppends, MirrorStays}
use Rattle.mirror_core.specs.Words.{mirror_broken, mirror_disk, mirror_end, mirror_owner}
use Rattle.mirror_core.specs.Words.{mirror_records}
use Rattle.mirror_core.specs.declared.error.MirrorError.{MirrorError}
use Rattle.mirror_core.specs.declared.error.MirrorError.TheVariants as mirror_error
use Rattle.mirror_core.specs.declared.mirror.Mirror.{Mirror}
use Rattle.mirror_cosigner.specs.Agreement.{RepresentOrOneMore}
use Rattle.mirror_cosigner.specs.CrashStates.{LeavesItsRecords}

-- The records before an end of a disk.
abbrev LeavesUpTo : {D : Type 0} → Ghosts D → D → ℕ → Type 0
LeavesUpTo g disk end = IfSome (option_map (durable_of end) (g.contents disk))
    (λ list. RepresentOrOneMore list (g.may_leave disk))

sound_leaves : {D : Type 0} {g : Ghosts D} (journal : Journal D g) → is_broken journal ≡ false
    → IfSome (durable_records journal)
    (λ list. RepresentOrOneMore list (g.may_leave (disk_of journal)))
sound_leaves {D} {g} journal sound =
    of_sound journal (λ list. RepresentOrOneMore list (g.may_leave (disk_of journal))) sound
    (of_records (λ list. RepresentOrOneMore list (g.may_leave (disk_of journal)))
    (g.contents (disk_of journal))
    (λ b contents c left.
    let is = journal.is_durable sound b contents in
    inl (subst (λ (x : Text). Represents x (records_of b)) (sym (is.only c left)) is.stands)))

-- where an append failed
failed_leaves : {D : Type 0} (g : Ghosts D) (new : D) (body : Text) (end : ℕ)
    (was now : Option Text) → ((b : Text) → was ≡ Some b → AreDurable end b)
    → IfSome (option_map (durable_of end) was)
    (λ list. (c : Text) → g.may_leave new c → RepresentsEither list body c)
    → ((b : Text) → now ≡ Some b → g.may_leave new b)
    → IfSome (option_map (durable_of end) was) (λ list. IfSome (option_map (durable_of end) now)
    (λ l. RepresentOrOneMore l (g.may_leave new)))
failed_leaves g new body end None now durable after reads = tt
failed_leaves g new body end (Some b) None durable after reads = tt
failed_leaves g new body end (Some b) (Some n) durable after reads =
    let list = durable_of end b in
    let last = (durable b refl).last in
    let holds = of_either n list body end last (after n (reads n refl)) in
    subst (λ (l : List Text). RepresentOrOneMore l (g.may_leave new))
    (sym (is_durable-are n list end holds))
    (λ c left. elim (after c left) [ inl e ↦ inl e | inr e ↦ inr (body, e) ])

always_some : {X : Type 0} (o : Option X) (Q : Type 0) → Q → IfSome o (λ x. Q)
always_some None Q is = tt
always_some (Some x) Q is = is

narrowed : {D : Type 0} (g : Ghosts D) (end : ℕ) (was now : D) (contents : Option Text)
    → ((c : Text) → g.may_leave now c → g.may_leave was c)
    → IfSome (option_map (durable_of end) contents)
    (λ list. RepresentOrOneMore list (g.may_leave was))
    → IfSome (option_map (durable_of end) contents)
    (λ list. RepresentOrOneMore list (g.may_leave now))
narrowed g end was now None fewer is = tt
narrowed g end was now (Some b) fewer is = λ c left. is c (fewer c left)

module _ {H D T : Type 0} {hashes : Hashes H} {g : Ghosts D} {k : Ghosts T} where
  pub sound_leaves_all : (mirror : Mirror H D T hashes g k) → mirror_broken mirror ≡ false
      → LeavesItsRecords mirror
  sound_leaves_all mirror sound = sound_leaves mirror.journal sound

  moved : (old new : Mirror H D T hashes g k) → mirror_disk new ≡ mirror_disk old
      → mirror_end new ≡ mirror_end old → LeavesItsRecords old → LeavesItsRecords new
  moved old new disk end before =
      subst (λ (d : D). LeavesUpTo g d (mirror_end new)) (sym disk)
      (subst (λ (n : ℕ). LeavesUpTo g (mirror_disk old) n) (sym end) before)

  pub stays_leaves : (old new : Mirror H D T hashes g k) → MirrorStays old new
      → LeavesItsRecords old → LeavesItsRecords new
  stays_leaves old new stays before =
      subst (λ (o : Option Text). IfSome (option_map (durable_of (mirror_end new)) o)
      (λ list. RepresentOrOneMore list (g.may_leave (mirror_disk new))))
      (sym stays.only_reads.contents)
      (narrowed g (mirror_end new) (mirror_disk old) (mirror_disk new)
      (g.contents (mirror_disk old)) stays.only_reads.crash
      (subst (λ (n : ℕ). LeavesUpTo g (mirror_disk old) n) (sym stays.end) before))

  module _ (body : Text) (seen : MirrorView → MirrorView) (next : MirrorState → MirrorState)
      (old new : Mirror H D T hashes g k)
      (reads : (b : Text) → g.contents (mirror_disk new) ≡ Some b
      → g.may_leave (mirror_disk new) b) where
    untouched : LeavesItsRecords old → OwnerIsUntouched (mirror_owner old) (mirror_owner new)
        → IfSome (mirror_records old) (λ list. LeavesItsRecords new)
    untouched before is = always_some (mirror_records old) (LeavesItsRecords new)
        (moved old new is.disk is.end before)

    failed : mirror_broken old ≡ false → mirror_end new ≡ mirror_end old
        → IfSome (mirror_records old) (λ list. (c : Text) → g.may_leave (mirror_disk new) c
        → RepresentsEither list body c)
        → IfSome (mirror_records old) (λ list. LeavesItsRecords new)
    failed sound end after =
        subst (λ (n : ℕ). IfSome (mirror_records old) (λ list.
        LeavesUpTo g (mirror_disk new) n)) (sym end)
        (failed_leaves g (mirror_disk new) body (mirror_end old) (g.contents (mirror_disk old))
        (g.contents (mirror_disk new)) (λ b contents. (old.durable b contents).durable) after reads)

    pub append_leaves : (result : Result ℕ MirrorError)
        → MirrorAppends body seen next old new result → LeavesItsRecords old
        → IfSome (mirror_records old) (λ list. LeavesItsRecords new)
    append_leaves (Ok size) is before = always_some (mirror_records old) (LeavesItsRecords new)
        (sound_leaves_all new is.journal.leaves.sound)
    append_leaves (Err (mirror_error.Differs n)) is before = untouched before is.journal.leaves
    append_leaves (Err mirror_error.NothingNew) is before = untouched before is.journal.leaves
    append_leaves (Err (mirror_error.TooLarge n)) is before = untouched before is.journal.leaves
    append_leaves (Err (mirror_error.Beyond n)) is before = untouched before is.journal.leaves
    append_leaves (Err mirror_error.Failed) is before = untouched before is.journal.leaves
    append_leaves (Err mirror_error.Memory) is before = untouched before is.journal.leaves
    append_leaves (Err (mirror_error.Append append_error.Broken)) is before =
        untouched before is.journal.leaves
    append_leaves (Err (mirror_error.Append append_error.Full)) is before =
        untouched before is.journal.leaves
    append_leaves (Err (mirror_error.Append append_error.Failed)) is before =
        let broke = is.journal.leaves in
        failed broke.was_sound broke.end (is.journal.afterwards broke.was_sound)

  same_records : (old read : Mirror H D T hashes g k) → MirrorStays old read
      → mirror_records read ≡ mirror_records old
  same_records old read stays =
      ap (λ (n : ℕ). option_map (durable_of n) (g.contents (mirror_disk read))) stays.end
      ∙ ap (option_map (durable_of (mirror_end old))) stays.only_reads.contents

  pub take_leaves : (body : Text) (seen : MirrorView → MirrorView)
      (next : MirrorState → MirrorState) (old new : Mirror H D T hashes g k)
      → ((b : Text) → g.contents (mirror_disk new) ≡ Some b → g.may_leave (mirror_disk new) b)
      → (result : Result ℕ MirrorError) → MirrorReadsAndAppends body seen next old new result
      → LeavesItsRecords old → IfSome (mirror_records old) (λ list. LeavesItsRecords new)
  take_leaves body seen next old new reads result is before =
      let stays = is.reads.stays in
      subst (λ (o : Option (List Text)). IfSome o (λ list. LeavesItsRecords new))
      (same_records old is.read stays)
      (append_leaves body seen next is.read new reads result is.appends
      (stays_leaves old is.read stays before))
