-- A file that is read by a fold, record by record.
use Rattle.std.specs.Prelude.{◌≡◌, true, false, None, IfSome, Ok}
use Rattle.disk_core.specs.declared.disk.Disk.{Ghosts}
use Rattle.journal_core.specs.Format.{Represents}
use Rattle.journal_core.specs.Folds.{Fold, state_after, read_by}
use Rattle.journal_core.specs.Openings.{opening_disk, read_list, is_ended, refusal}
use Rattle.journal_core.specs.declared.opening.Opening.{Opening}

module _ {D : Type 0} {g : Ghosts D} {S E : Type 0} where
  -- the records that were read make this state
  pub record HasFolded (fold : Fold S E) (state : S) (opening : Opening D g) : Type 0 where
    pub unended : is_ended opening ≡ false
    pub unrefused : refusal opening ≡ None
    pub made : IfSome (read_list opening) (λ list. state_after fold list ≡ Ok state)

  -- all records were read up to the closed commit byte, and they make this state
  pub record HasFound (fold : Fold S E) (state : S) (opening : Opening D g) : Type 0 where
    pub ended : is_ended opening ≡ true
    pub made : IfSome (read_list opening) (λ list. state_after fold list ≡ Ok state)
    pub found : IfSome (g.contents (opening_disk opening)) (λ bytes. IfSome (read_list opening)
        (λ list. read_by fold bytes ≡ Ok (record { records = list; state = state })))
    pub stands : IfSome (g.contents (opening_disk opening))
        (λ bytes. IfSome (read_list opening) (Represents bytes))
