-- What a crash leaves of a mirror's journal: its records, or these and one more.
use Rattle.std.specs.Prelude.{IfSome}
use Rattle.disk_core.specs.declared.disk.Disk.{Ghosts}
use Rattle.tree_core.specs.declared.hashing.TreeHash.{Ghosts as Hashes}
use Rattle.mirror_core.specs.Words.{mirror_disk, mirror_records}
use Rattle.mirror_core.specs.declared.mirror.Mirror.{Mirror}
use Rattle.mirror_cosigner.specs.Agreement.{RepresentOrOneMore}

module _ {H D T : Type 0} {hashes : Hashes H} {g : Ghosts D} {k : Ghosts T} where
  -- Each crash state of its journal represents the mirror's records, or these and one more, if the
  -- model knows the bytes of the disk.
  abbrev pub LeavesItsRecords : Mirror H D T hashes g k → Type 0
  LeavesItsRecords mirror = IfSome (mirror_records mirror)
      (λ list. RepresentOrOneMore list (g.may_leave (mirror_disk mirror)))
