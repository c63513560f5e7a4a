-- A command's record follows the rules of its party, from the open device to the file system.
use Rattle.std.proofs.Common.{◌≡◌, inl, inr, ℕ, List, [], ◌∷◌, Option, None, Some}
use Rattle.std.proofs.Common.{arith, IfSome, IsSome, option_map, subst, sym, refl, ap, ◌∙◌}
use Rattle.std.specs.Option.{IsSomeAnd}
use Rattle.std.proofs.lemmas.Option.{IfSome_then}
use Rattle.disk_core.specs.Times.{OnlyReads}
use Rattle.disk_core.specs.Same.{SameDevice}
use Rattle.disk_core.specs.declared.disk.Disk.{Ghosts as Disks}
use Rattle.journal_core.specs.Format.{Represents, records_of}
use Rattle.journal_core.specs.Words.{AllRepresent}
use Rattle.mtc_room.specs.declared.room.Room.{Ghosts as Rooms}
use Rattle.mtc_command.specs.Answers.{no_memory}
use Rattle.mtc_command.specs.Made.{HasKept, Leaves, device_contents}
use Rattle.mtc_command.specs.Served.{ClosesAll, OfEach, done_with}
use Rattle.mtc_command.specs.Steps.{Outcome, starts, with_file, with_fresh}
use Rattle.mtc_command.specs.Valid.{AddsValid, KeepsValid, LeavesValid, ServesValidly}
use Rattle.mtc_command.specs.Valid.{WorksValidly}
use Rattle.mtc_command.specs.Works.{HasOpened, HasClosed, journaled_by}
use Rattle.mtc_command.proofs.Made.{OnlyNow, kept_of, left_opened, only_read, still}
use Rattle.mtc_command.proofs.Served.{each_is, each_so}
use Rattle.mtc_command.proofs.Works.{of_bytes, opened_at}

-- the model knows what a device that was opened and closed holds, if it knows that of the one that
-- was worked on
pub contents_opened : {D : Type 0} (g : Disks D) (x y : Option D) (d e : D)
    → IsSomeAnd x (λ a. SameDevice g a d) → IsSomeAnd y (λ b. SameDevice g e b)
    → g.contents e ≡ g.contents d → device_contents g y ≡ device_contents g x
contents_opened g None y d e opened put same = absurd opened
contents_opened g (Some a) None d e opened put same = absurd put
contents_opened g (Some a) (Some b) d e opened put same = put.reads ∙ same ∙ opened.reads

-- the work after an opening is work on the device that was opened
module _ {D : Type 0} (g : Disks D) (Valid : List (List ℕ) → Type 0) (name : List ℕ)
    (says : List ℕ → Outcome) (next : List (List ℕ) → Outcome) (old mid new : D) where
  pub valid_on : OnlyReads g old mid
      → IfSome (g.contents old) (λ b. IfSome (option_map records_of (g.contents mid))
      (λ l. says b ≡ next l))
      → IfSome (g.contents mid)
      (λ b. IfSome (option_map records_of (g.contents mid)) (Represents b))
      → IfSome (option_map records_of (g.contents mid)) (AllRepresent g mid)
      → WorksValidly g Valid (option_map records_of (g.contents mid)) next mid new
      → ServesValidly g Valid says old new
  valid_on only_reads found stands all valid = elim valid [
    | inl only ↦ inl (only_read g old mid new only_reads only)
    | inr adds ↦ inr (opened_at g name says next old mid new
        (λ o. AddsValid Valid (journaled_by o)) (g.contents old) (g.contents mid) refl
        only_reads.contents found
        stands all (IfSome_then (option_map records_of (g.contents mid)) adds (λ l is opened. is)))
  ]

-- nothing was done
pub gives_same : {R S D : Type 0} (rooms : Rooms R S D) (old : R) → ClosesAll rooms old old []
gives_same rooms old = record {
  opened = refl;
  later = omega arith;
  is_modelled = λ t. t;
  others = λ name other. record { bytes = refl; disk = refl };
}

module _ {R S D : Type 0} (rooms : Rooms R S D) (disks : Disks D)
    (Valid : List (List ℕ) → Type 0) where
  -- a journal was opened, worked on and closed
  pub served_valid : (name : List ℕ) (says : List ℕ → Outcome) (old mid new : R) (d e : D)
      → HasOpened rooms disks name old mid d → ServesValidly disks Valid says d e
      → HasClosed rooms disks name mid new e
      → KeepsValid rooms disks Valid (name ∷ []) (with_file name (rooms.file old name) says) old new
  served_valid name says old mid new d e opened valid closed = λ t. (
    elim valid [
      | inl only_reads ↦
          (let did = journaled_by (with_file name (rooms.file old name) says) in
          let put = closed.device (opened.is_modelled t)
          (subst IsSome (sym (opened.stay name).bytes) (opened.bytes t).there) in
          inl (
            left_opened disks no_memory did _ _ d e (opened.device t) put
                (kept_of disks d e did only_reads),
            contents_opened disks _ _ d e (opened.device t) put only_reads.contents,
          ))
      | inr adds ↦ inr (of_bytes (λ o. AddsValid Valid (journaled_by o)) name _ _ says
          (opened.bytes t) adds)
    ],
    tt,
  )

  -- what was read was closed, and nothing else was done
  pub kept_valid : (names : List (List ℕ)) (wanted : Outcome) (old new : R)
      → ClosesAll rooms old new [] → OnlyNow disks
      → KeepsValid rooms disks Valid names wanted old new
  kept_valid names wanted old new read only_now = λ t.
      each_is (LeavesValid rooms disks Valid old new)
      (λ name did. inl (
        still disks _ _ did only_now (read.others name tt).disk,
        ap (device_contents disks) (read.others name tt).disk,
      ))
      (done_with names wanted.journals)

  -- nothing was done
  pub same_valid : (names : List (List ℕ)) (wanted : Outcome) (old : R) → OnlyNow disks
      → KeepsValid rooms disks Valid names wanted old old
  same_valid names wanted old only_now =
      kept_valid names wanted old old (gives_same rooms old) only_now

  -- what was read was closed, and then comes the rest of the command
  pub after_valid : (names : List (List ℕ)) (wanted wanted' : Outcome) (old mid new : R)
      → ClosesAll rooms old mid [] → (rooms.is_modelled old → wanted' ≡ wanted)
      → KeepsValid rooms disks Valid names wanted' mid new
      → KeepsValid rooms disks Valid names wanted old new
  after_valid names wanted wanted' old mid new read same valid = λ t.
      subst (λ (w : Outcome). OfEach (LeavesValid rooms disks Valid old new)
      (done_with names w.journals)) (same t)
      (each_so (LeavesValid rooms disks Valid mid new) (LeavesValid rooms disks Valid old new)
      (λ name did is. elim is [
        | inl kept ↦ inl (subst (λ x. Leaves disks (HasKept did) x (rooms.device new name)
            × (device_contents disks (rooms.device new name) ≡ device_contents disks x))
            (read.others name tt).disk kept)
        | inr adds ↦ inr adds
      ]) (done_with names wanted'.journals) (valid (read.is_modelled t)))

  -- a new journal
  pub new_valid : (name body text : List ℕ) (file : Option (List ℕ)) (old new : R)
      → Valid (body ∷ [])
      → KeepsValid rooms disks Valid (name ∷ []) (with_fresh name file (starts body text)) old new
  new_valid name body text None old new valid = λ t. (inr valid, tt)
  new_valid name body text (Some bytes) old new valid = λ t. (inr tt, tt)
