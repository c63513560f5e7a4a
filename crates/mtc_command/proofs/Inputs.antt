-- A command that gets no bytes of an input file, and one that gets them.
use Rattle.std.proofs.Common.{◌≡◌, ◌<◌, ◌≤◌, ℕ, List, [], length, codes, Option, None, Some}
use Rattle.std.proofs.Common.{Bool, false, nat_lt, if◌then◌else◌, ◌∙◌, sym, subst, ap, arith, rules}
use Rattle.std.proofs.lemmas.Grind.{common_steps}
use Rattle.std.specs.Option.{IsSomeAnd}
use Rattle.disk_core.specs.declared.disk.Disk.{Ghosts as Disks}
use Rattle.mtc_io.specs.Counts.{Rose}
use Rattle.mtc_room.specs.declared.room.Room.{Ghosts as Rooms}
use Rattle.mtc_command.specs.Answers.{Ending, replied, room_failed, no_memory, refused}
use Rattle.mtc_command.specs.Endings.{IsNamed}
use Rattle.mtc_command.specs.Served.{ClosesAll, HasDone}
use Rattle.mtc_command.specs.Steps.{Outcome, answers, stops_at, with_bytes}
use Rattle.mtc_command.specs.declared.answer.Stopped.TheVariants.{Missing, Beyond}
use Rattle.mtc_command.proofs.Made.{OnlyNow}
use Rattle.mtc_command.proofs.Served.{following, stopped}

module _ (limit : ℕ) (name : List ℕ) (next : List ℕ → Outcome) where
  no_file : (file : Option (List ℕ)) (reason : List ℕ) → reason ≡ codes "Absent" → file ≡ None
      → with_bytes limit name file next ≡ answers (refused Missing (Some name) reason)
  no_file None reason named none = ap (λ r. answers (refused Missing (Some name) r)) (sym named)
  no_file (Some bytes) reason named none = absurd (grind (rules, none))

  over : (file : Option (List ℕ)) (reason : List ℕ) → reason ≡ codes "TooLong"
      → IsSomeAnd file (λ bytes. limit < length bytes)
      → with_bytes limit name file next ≡ answers (refused Beyond (Some name) reason)
  over None reason named long = absurd long
  over (Some bytes) reason named long = grind (arith, common_steps, named, long)

module _ {R S D : Type 0} (rooms : Rooms R S D) (disks : Disks D) (limit : ℕ) (name : List ℕ)
    (old new : R) where
  -- it is so of each command that begins so
  abbrev pub Done : Ending → Type 0
  Done ending = (files names : List (List ℕ)) (next : List ℕ → Outcome) → IsNamed files name
      → HasDone rooms disks ⊥ files names [] (with_bytes limit name (rooms.file old name) next) old
      new ending

module _ {R S D : Type 0} (rooms : Rooms R S D) (disks : Disks D) (limit : ℕ) (name : List ℕ)
    (old new : R) (read : ClosesAll rooms old new []) (only_now : OnlyNow disks) where
  pub absent : (ending : Ending) (reason : List ℕ)
      → ending ≡ replied (refused Missing (Some name) reason) → reason ≡ codes "Absent"
      → (rooms.is_modelled old → rooms.file old name ≡ None)
      → Done rooms disks limit name old new ending
  absent ending reason is named none = subst (Done rooms disks limit name old new) (sym is)
      (λ files names next among. stopped rooms disks files names [] _ old new read only_now _ tt
      (λ is. absurd cc, search rules, λ t. no_file limit name next _ reason named (none t)))

  pub too_long : (ending : Ending) (reason : List ℕ)
      → ending ≡ replied (refused Beyond (Some name) reason) → reason ≡ codes "TooLong"
      → (rooms.is_modelled old → IsSomeAnd (rooms.file old name) (λ bytes. limit < length bytes))
      → Done rooms disks limit name old new ending
  too_long ending reason is named long = subst (Done rooms disks limit name old new) (sym is)
      (λ files names next among. stopped rooms disks files names [] _ old new read only_now _ tt
      (λ is. absurd cc, search rules, λ t. over limit name next _ reason named (long t)))

  pub failed : Rose (rooms.faults old) (rooms.faults new)
      → Done rooms disks limit name old new (room_failed name)
  failed rose = λ files names next among.
      stopped rooms disks files names [] _ old new read only_now _ (rose, among) tt

  pub out_of_memory : Done rooms disks limit name old new no_memory
  out_of_memory = λ files names next among.
      stopped rooms disks files names [] _ old new read only_now no_memory tt tt

-- a file is there and short enough
pub bytes_read : (limit : ℕ) (name : List ℕ) (file : Option (List ℕ)) (bytes : List ℕ)
    (next : List ℕ → Outcome) → file ≡ Some bytes → length bytes ≤ limit
    → with_bytes limit name file next ≡ next bytes
bytes_read limit name file bytes next is few =
    let short : nat_lt limit (length bytes) ≡ false = grind (arith, common_steps) in
    ap (λ x. with_bytes limit name x next) is
    ∙ ap (λ (over : Bool). if over then stops_at Beyond name (codes "TooLong") else next bytes)
    short

module _ {R S D : Type 0} (rooms : Rooms R S D) (disks : Disks D) (limit : ℕ) (name : List ℕ)
    (old mid new : R) (bytes : List ℕ) (back : ClosesAll rooms old mid [])
    (is : rooms.is_modelled old → (rooms.file old name ≡ Some bytes) × (length bytes ≤ limit)) where
  -- a command that has read a file does the rest of its work
  pub after_file : (files names besides : List (List ℕ)) (next : List ℕ → Outcome)
      (wanted : Outcome) (ending : Ending) → (rooms.is_modelled old → wanted ≡ next bytes)
      → HasDone rooms disks ⊥ files names besides wanted mid new ending
      → HasDone rooms disks ⊥ files names besides
      (with_bytes limit name (rooms.file old name) next) old new ending
  after_file files names besides next wanted ending same done =
      following rooms disks files files names besides _ wanted old mid new ending back
      (λ t. same t ∙ sym (bytes_read limit name (rooms.file old name) bytes next (is t).0 (is t).1))
      (λ file among. among) done
