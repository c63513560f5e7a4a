-- A journal that was opened with the machine of a mirror, or refused.
use Rattle.std.proofs.Common.{◌≡◌, ℕ, ◌<◌, ◌^◌, List, Option, Some, None, IfSome, option_map}
use Rattle.std.proofs.Common.{Ok, Err, ap, subst, sym, ◌∙◌, refl}
use Rattle.byte_formats.specs.Types.{Hash, HashFunction, Text}
use Rattle.disk_core.proofs.Times.{nothing_read, only_read_on}
use Rattle.disk_core.specs.Times.{OnlyReads}
use Rattle.disk_core.specs.declared.disk.Disk.{Ghosts}
use Rattle.journal_core.specs.Ends.{AreDurable, durable_of}
use Rattle.journal_core.specs.Format.{Represents}
use Rattle.journal_core.specs.declared.error.OpenError.TheVariants as open_error
use Rattle.journal_core.proofs.Found.{read_standing}
use Rattle.state_journal.specs.Causes.{HasReadOn, HasStateCause, IsLeftAt}
use Rattle.state_journal.specs.declared.error.StateOpenError.{StateOpenError}
use Rattle.state_journal.specs.declared.error.StateOpenError.TheVariants as state
use Rattle.mtc_io.specs.Counts.{Rose}
use Rattle.tile_store.specs.Causes.{HasCauseOf, IsFirstBad, IsNewTile, StandsIn}
use Rattle.tile_store.specs.Store.{tiles_disk}
use Rattle.tile_store.specs.declared.error.TileError.{TileError}
use Rattle.tile_store.specs.declared.error.TileError.TheVariants.{BadTile, Failed}
use Rattle.tile_store.specs.declared.store.Tiles.{Tiles}
use Rattle.tree_core.specs.declared.hashing.TreeHash.{Ghosts as Hashes}
use Rattle.mirror_core.specs.declared.error.MirrorOpenError.TheVariants.{Tile}
use Rattle.issuance_log.specs.Machine.{IsUsable}
use Rattle.mirror_core.proofs.Views.{mirror_refused, mirror_why, view_fold}
use Rattle.mirror_core.specs.Durable.{IsDurableMirror}
use Rattle.mirror_core.specs.Folds.{MirrorView, mirror_fold, mirror_with}
use Rattle.mirror_core.specs.Kept.{IsMirrored}
use Rattle.mirror_core.specs.Machine.{MirrorLeavesTiles, MirrorReadsTiles}
use Rattle.mirror_core.specs.Opened.{MirrorIsNotOpened}
use Rattle.mirror_core.specs.Openings.{HasMirrorOpenCause, HasMirrorTiles, IsBadMirrorTile}
use Rattle.mirror_core.specs.Openings.{MirrorTilesCountNoOther, mirror_open_refusal, mirror_read}
use Rattle.mirror_core.specs.declared.kept.BatchPlace.{BatchPlace}
use Rattle.mirror_core.specs.declared.machine.MirrorRest.{MirrorRest}

-- what is durable, by items with the same places and leaves
pub durable_as : (h : HashFunction) (v : MirrorView) (places places' : List BatchPlace)
    (leaves leaves' : Option (List Hash)) (end : ℕ) (b : Text) → places' ≡ places
    → leaves' ≡ leaves → AreDurable end b → IsMirrored h v places leaves (durable_of end b)
    → IsDurableMirror h v places' leaves' end b
durable_as h v places places' leaves leaves' end b one two durable kept = record {
  durable = durable;
  kept = subst (λ (l : List BatchPlace). IsMirrored h v l leaves' (durable_of end b)) (sym one)
      (subst (λ (o : Option (List Hash)). IsMirrored h v places o (durable_of end b)) (sym two)
      kept);
}

-- ---- a mirror that is opened

module _ (h : HashFunction) (v : MirrorView) (places : List BatchPlace) (f : Text → List Text) where
  -- the file is read as the mirror that its records make
  pub found_so : (leaves : Option (List Hash)) (journal : Option Text)
      → IfSome journal (λ b. IfSome (option_map f journal) (Represents b))
      → IfSome (option_map f journal) (IsMirrored h v places leaves)
      → IfSome journal (λ b. IfSome (option_map f journal) (λ list. mirror_read h b
      ≡ Ok (record { records = list; state = mirror_with v list })))
  found_so leaves None stands kept = tt
  found_so leaves (Some b) stands kept =
      read_standing (mirror_fold h) b (f b) (mirror_with v (f b)) stands kept.made

  module _ (leaves : Text → List Hash) where
    -- its tiles are those of the last size
    pub tiles_so : (journal contents : Option Text)
        → IfSome (option_map f journal) (IsMirrored h v places (option_map leaves contents))
        → IfSome contents (λ bytes. IfSome (option_map leaves contents) (λ l. (level place : ℕ)
        → IsNewTile 0 v.tiled level place → StandsIn h l bytes level place))
        → IfSome (option_map (mirror_with v) (option_map f journal)) (λ s.
        IfSome contents (HasMirrorTiles h s))
    tiles_so None contents kept stands = tt
    tiles_so (Some b) None kept stands = tt
    tiles_so (Some b) (Some t) kept stands = λ level place new.
        subst (λ (l : List Hash). StandsIn h l t level place) kept.hashed (stands level place new)

    -- or this one is the first that the file of tiles has not
    pub bad_so : (journal contents : Option Text) (size level place : ℕ) → size ≡ v.tiled
        → v.tiled < 2 ^ 32
        → IfSome (option_map f journal) (IsMirrored h v places (option_map leaves contents))
        → IfSome journal (λ b. IfSome (option_map f journal) (λ list. mirror_read h b
        ≡ Ok (record { records = list; state = mirror_with v list })))
        → IfSome contents (λ bytes. IfSome (option_map leaves contents) (λ l.
        IsFirstBad h l bytes 0 size level place))
        → IfSome journal (λ b. IfSome contents (λ t. IsBadMirrorTile h b t level place))
    bad_so None contents size level place same few kept found bad = tt
    bad_so (Some b) None size level place same few kept found bad = tt
    bad_so (Some b) (Some t) size level place same few kept found bad = record {
      found = record { records = f b; state = mirror_with v (f b) };
      is = found;
      few = few;
      bad = subst (λ (l : List Hash). IsFirstBad h l t 0 v.tiled level place) kept.hashed
          (subst (λ (n : ℕ). IsFirstBad h (leaves t) t 0 n level place) same bad);
    }

-- ---- a journal that is refused

usable_none : IsUsable None
usable_none is = let wrong : ◌≡◌ {A = Option TileError} None (Some Failed) = is in absurd cc

-- the tiles that a mirror begins with
pub tiles_there : {T : Type 0} (k : Ghosts T) (disk : T)
    → ((c : Text) → k.left_since disk (k.clock_at disk) c → k.may_leave disk c)
    → MirrorReadsTiles k (record { disk = disk; refusal = None })
    (record { disk = disk; refusal = None })
tiles_there k disk only_now =
    record { usable = usable_none; only_reads = nothing_read k disk only_now; fine = refl }

module _ {D T : Type 0} (g : Ghosts D) (k : Ghosts T) (h : HashFunction) (disk later : D)
    (tiles tiles' : T) where
  -- why its records aren't read
  mirror_cause : (why : StateOpenError) → HasStateCause g (view_fold h) disk later why
      → HasMirrorOpenCause g k h disk later tiles tiles' (mirror_why why)
  mirror_cause (state.BadRecord n) is = mirror_refused h (g.contents disk) (state.BadRecord n) is
  mirror_cause (state.Open open_error.NotJournal) is =
      mirror_refused h (g.contents disk) (state.Open open_error.NotJournal) is
  mirror_cause (state.Open (open_error.BadLength place)) is =
      mirror_refused h (g.contents disk) (state.Open (open_error.BadLength place)) is
  mirror_cause (state.Open (open_error.CutShort place)) is =
      mirror_refused h (g.contents disk) (state.Open (open_error.CutShort place)) is
  mirror_cause (state.Open open_error.Failed) is = is
  mirror_cause (state.Open open_error.Memory) is = tt

  -- the refusal is that of the records
  records_refused : (why : StateOpenError)
      → HasReadOn {X = Unit {0}} g (view_fold h) disk later (Err why) → OnlyReads k tiles tiles'
      → MirrorTilesCountNoOther k tiles tiles' (mirror_why why)
      → MirrorIsNotOpened g k h disk later tiles tiles' (mirror_why why)
  records_refused why read only_reads fine = record {
    only_reads = read.only_reads;
    only_reads_tiles = only_reads;
    cause = mirror_cause why read.cause;
    fine = λ other. read.fine_err (λ is. other (ap mirror_why is));
    fine_tiles = fine;
  }

-- The disks were only read, and the refusal is that of the records, unless a call of the disk of
-- the tiles failed.
module _ {D T : Type 0} (g : Ghosts D) (k : Ghosts T) (h : HashFunction) (disk later : D)
    (was rest : MirrorRest T) where
  -- no call failed
  still_read : (why : StateOpenError)
      → HasReadOn {X = Unit {0}} g (view_fold h) disk later (Err why) → MirrorReadsTiles k was rest
      → MirrorIsNotOpened g k h disk later was.disk rest.disk (mirror_why why)
  still_read why read is =
      records_refused g k h disk later was.disk rest.disk why read is.only_reads (λ other. is.fine)

  -- memory was refused, or the call is the reason
  no_memory : (refusal : Option TileError) → rest.refusal ≡ refusal
      → HasReadOn {X = Unit {0}} g (view_fold h) disk later (Err (state.Open open_error.Memory))
      → MirrorLeavesTiles k was rest → MirrorIsNotOpened g k h disk later was.disk rest.disk
      (mirror_open_refusal (state.Open open_error.Memory) refusal)
  no_memory None same read is =
      records_refused g k h disk later was.disk rest.disk (state.Open open_error.Memory) read
      is.only_reads (λ other. is.fine (subst IsUsable (sym same) usable_none))
  no_memory (Some (BadTile level place)) same read is =
      records_refused g k h disk later was.disk rest.disk (state.Open open_error.Memory) read
      is.only_reads (λ other. is.fine (λ failed. let wrong : Some (BadTile level place)
      ≡ Some Failed = sym same ∙ failed in absurd cc))
  no_memory (Some Failed) same read is = record {
    only_reads = read.only_reads;
    only_reads_tiles = is.only_reads;
    cause = is.failed same;
    fine = λ other. read.fine_err (λ wrong. absurd cc);
    fine_tiles = λ other. absurd (other refl);
  }

  pub refused_so : (why : StateOpenError)
      → HasReadOn {X = Unit {0}} g (view_fold h) disk later (Err why)
      → IsLeftAt (MirrorReadsTiles k) (MirrorLeavesTiles k) was rest why
      → MirrorIsNotOpened g k h disk later was.disk rest.disk (mirror_open_refusal why rest.refusal)
  refused_so (state.BadRecord n) read left =
      still_read (state.BadRecord n) read (left.1 (λ is. absurd cc))
  refused_so (state.Open open_error.NotJournal) read left =
      still_read (state.Open open_error.NotJournal) read (left.1 (λ is. absurd cc))
  refused_so (state.Open (open_error.BadLength place)) read left =
      still_read (state.Open (open_error.BadLength place)) read (left.1 (λ is. absurd cc))
  refused_so (state.Open (open_error.CutShort place)) read left =
      still_read (state.Open (open_error.CutShort place)) read (left.1 (λ is. absurd cc))
  refused_so (state.Open open_error.Failed) read left =
      still_read (state.Open open_error.Failed) read (left.1 (λ is. absurd cc))
  refused_so (state.Open open_error.Memory) read left = no_memory rest.refusal refl read left.0

-- ---- after the last record

-- The first bad tile is reported, or a failure of the tiles' disk.
pub tile_refused : {D H T : Type 0} {hashes : Hashes H} {k : Ghosts T} (g : Ghosts D)
    (disk later : D) (was : MirrorRest T) (nodes : Tiles H T hashes k) (refusal : Option TileError)
    (new : T) (size : ℕ) (why : TileError) → OnlyReads g disk later
    → g.faults later ≡ g.faults disk
    → MirrorReadsTiles k was (record { disk = tiles_disk nodes; refusal = refusal })
    → OnlyReads k (tiles_disk nodes) new → HasCauseOf nodes new size why
    → ((level place : ℕ) → why ≡ BadTile level place → IfSome (g.contents disk) (λ b.
    IfSome (k.contents was.disk) (λ t. IsBadMirrorTile hashes.hash b t level place)))
    → MirrorIsNotOpened g k hashes.hash disk later was.disk new (Tile why)
tile_refused {k = k} g disk later was nodes refusal new size Failed only_reads fine is more cause
    bad = record {
      only_reads = only_reads;
      only_reads_tiles = only_read_on k was.disk (tiles_disk nodes) new is.only_reads more;
      cause = subst (λ n. Rose n (k.faults new)) is.fine cause;
      fine = λ other. fine;
      fine_tiles = λ other. absurd (other refl);
    }
tile_refused {k = k} g disk later was nodes refusal new size (BadTile level place) only_reads fine
    is more cause bad = record {
      only_reads = only_reads;
      only_reads_tiles = only_read_on k was.disk (tiles_disk nodes) new is.only_reads more;
      cause = bad level place refl;
      fine = λ other. fine;
      fine_tiles = λ other. cause.0 ∙ is.fine;
    }
