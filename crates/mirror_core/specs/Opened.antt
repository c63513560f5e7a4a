-- What the opening of a mirror answers.
use Rattle.std.specs.Prelude.{◌≡◌, false, option_map, IfSome, Ok}
use Rattle.byte_formats.specs.Types.{HashFunction}
use Rattle.disk_core.specs.Times.{OnlyReads}
use Rattle.disk_core.specs.declared.disk.Disk.{Ghosts}
use Rattle.journal_core.specs.Format.{Represents, end_offset, records_of}
use Rattle.journal_core.specs.Words.{AllRepresent}
use Rattle.tree_core.specs.declared.hashing.TreeHash.{Ghosts as Hashes}
use Rattle.mirror_core.specs.Folds.{mirror_of, mirror_with}
use Rattle.mirror_core.specs.Openings.{HasMirrorOpenCause, HasMirrorTiles, MirrorCountsNoOther}
use Rattle.mirror_core.specs.Openings.{MirrorTilesCountNoOther, mirror_read}
use Rattle.mirror_core.specs.Words.{mirror_broken, mirror_disk, mirror_end, mirror_records}
use Rattle.mirror_core.specs.Words.{mirror_tiles_disk, mirror_view, modelled_mirror}
use Rattle.mirror_core.specs.declared.error.MirrorOpenError.{MirrorOpenError}
use Rattle.mirror_core.specs.declared.mirror.Mirror.{Mirror}

module _ {H D T : Type 0} {hashes : Hashes H} {g : Ghosts D} {k : Ghosts T} where
  -- The mirror is the one in a journal and a file of tiles. No append has failed, and both disks
  -- were only read, without a failure. If the model knows the bytes of the journal's disk, they
  -- represent records that make exactly this mirror, the journal ends with them, and each crash
  -- leaves them. If it knows the file of tiles too, that has the tiles of the last size.
  pub record MirrorIsOpened (journal : D) (file : T) (mirror : Mirror H D T hashes g k)
      : Type 0 where
    pub sound : mirror_broken mirror ≡ false
    pub only_reads : OnlyReads g journal (mirror_disk mirror)
    pub only_reads_tiles : OnlyReads k file (mirror_tiles_disk mirror)
    pub fine : g.faults (mirror_disk mirror) ≡ g.faults journal
    pub fine_tiles : k.faults (mirror_tiles_disk mirror) ≡ k.faults file
    pub list : mirror_records mirror ≡ option_map records_of (g.contents (mirror_disk mirror))
    pub found : IfSome (g.contents journal) (λ b. IfSome (mirror_records mirror) (λ list.
        mirror_read hashes.hash b
        ≡ Ok (record { records = list; state = mirror_with (mirror_view mirror) list })))
    pub valid : IfSome (mirror_records mirror)
        (λ list. mirror_of hashes.hash list ≡ Ok (mirror_with (mirror_view mirror) list))
    pub tiles : IfSome (modelled_mirror mirror) (λ s. IfSome (k.contents file)
        (HasMirrorTiles hashes.hash s))
    pub stands : IfSome (g.contents (mirror_disk mirror))
        (λ b. IfSome (mirror_records mirror) (Represents b))
    pub all : IfSome (mirror_records mirror) (AllRepresent g (mirror_disk mirror))
    pub end : IfSome (mirror_records mirror) (λ list. mirror_end mirror ≡ end_offset list)

-- Both disks were only read. The refusal has its cause in the bytes of either, in a failure, or in
-- memory that was refused, and a failure is counted only where it is the refusal.
pub record MirrorIsNotOpened {D T : Type 0} (g : Ghosts D) (k : Ghosts T) (h : HashFunction)
    (journal journal' : D) (file file' : T) (why : MirrorOpenError) : Type 0 where
  pub only_reads : OnlyReads g journal journal'
  pub only_reads_tiles : OnlyReads k file file'
  pub cause : HasMirrorOpenCause g k h journal journal' file file' why
  pub fine : MirrorCountsNoOther g journal journal' why
  pub fine_tiles : MirrorTilesCountNoOther k file file' why
