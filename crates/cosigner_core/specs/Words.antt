-- What a cosigner shows, and what a call that appends a record makes of it.
use Rattle.std.specs.Prelude.{◌≡◌, ℕ, Bool, List, Option, Result}
use Rattle.byte_formats.specs.Types.{Text}
use Rattle.disk_core.specs.declared.disk.Disk.{Ghosts}
use Rattle.tree_core.specs.declared.hashing.TreeHash.{Ghosts as Hashes}
use Rattle.journal_core.specs.Ends.{durable_records}
use Rattle.journal_core.specs.Owners.{Owner, OwnerAppends, OwnerHasGrown}
use Rattle.journal_core.specs.Words.{disk_of, end_of, is_broken}
use Rattle.cosigner_core.specs.Folds.{CosignerState}
use Rattle.cosigner_core.specs.Keyless.{keyless_owner, of_cosigner_journal}
use Rattle.cosigner_core.specs.declared.cosigner.Cosigner.{Cosigner}
use Rattle.cosigner_core.specs.declared.error.CosignError.{CosignError}

module _ {H D : Type 0} {hashes : Hashes H} {g : Ghosts D} where
  -- The disk of its journal.
  abbrev pub cosigner_disk : Cosigner H D hashes g → D
  cosigner_disk it = disk_of it.keyless.journal

  -- The records that make the cosigner, if the model knows the bytes of the disk. Unless an append
  -- has failed they are all records of its journal.
  abbrev pub cosigner_records : Cosigner H D hashes g → Option (List Text)
  cosigner_records it = durable_records it.keyless.journal

  -- the end of its journal
  abbrev pub cosigner_end : Cosigner H D hashes g → ℕ
  cosigner_end it = end_of it.keyless.journal

  -- an append has failed
  abbrev pub cosigner_broken : Cosigner H D hashes g → Bool
  cosigner_broken it = is_broken it.keyless.journal

  -- the ids, what is held, and the key with its count
  abbrev pub cosigner_state : Cosigner H D hashes g → CosignerState
  cosigner_state it = it.keyless.machine.contents

  -- the cosigner shows what it showed before
  pub record IsShown (old new : Cosigner H D hashes g) : Type 0 where
    pub list : cosigner_records new ≡ cosigner_records old
    pub state : cosigner_state new ≡ cosigner_state old
    pub end : cosigner_end new ≡ cosigner_end old
    pub broken : cosigner_broken new ≡ cosigner_broken old

  -- what it shows as the owner of its journal
  abbrev pub cosigner_owner : Cosigner H D hashes g → Owner D CosignerState
  cosigner_owner it = keyless_owner it.keyless

  -- this record more, which makes this cosigner of the old one
  abbrev pub CosignerHasGrown : Text → CosignerState → Cosigner H D hashes g
      → Cosigner H D hashes g → Type 0
  CosignerHasGrown body next old new =
      OwnerHasGrown g body next (cosigner_owner old) (cosigner_owner new)

  -- what a call does that appends this record, which makes this cosigner of the old one
  abbrev pub CosignerAppends : Text → CosignerState → Cosigner H D hashes g
      → Cosigner H D hashes g → Result (Unit {0}) CosignError → Type 0
  CosignerAppends body next old new result =
      OwnerAppends g of_cosigner_journal body next (cosigner_owner old) (cosigner_owner new) result
