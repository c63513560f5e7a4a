-- A journal that was opened with its machine, or refused.
use Rattle.std.proofs.Common.{◌≡◌, ℕ, ◌<◌, ◌^◌, List, Option, Some, None, IfSome, option_map, Ok}
use Rattle.std.proofs.Common.{Err, ap, subst, sym, ◌∙◌, refl}
use Rattle.byte_formats.specs.Types.{Hash, HashFunction, Text}
use Rattle.disk_core.proofs.Times.{nothing_read, only_read_on}
use Rattle.disk_core.specs.Times.{OnlyReads}
use Rattle.disk_core.specs.declared.disk.Disk.{Ghosts}
use Rattle.journal_core.specs.Ends.{AreDurable, durable_of}
use Rattle.journal_core.specs.Folds.{read_by, state_after}
use Rattle.journal_core.specs.declared.error.OpenError.TheVariants as open_error
use Rattle.state_journal.specs.Causes.{HasReadOn, HasStateCause, IsLeftAt}
use Rattle.state_journal.specs.declared.error.StateOpenError.{StateOpenError}
use Rattle.state_journal.specs.declared.error.StateOpenError.TheVariants as state
use Rattle.mtc_io.specs.Counts.{Rose}
use Rattle.tile_store.specs.Causes.{HasCauseOf, IsFirstBad, IsNewTile, StandsIn}
use Rattle.tile_store.specs.Store.{tiles_disk}
use Rattle.tile_store.specs.declared.error.TileError.{TileError}
use Rattle.tile_store.specs.declared.error.TileError.TheVariants.{BadTile, Failed}
use Rattle.tile_store.specs.declared.store.Tiles.{Tiles}
use Rattle.tree_core.specs.declared.hashing.TreeHash.{Ghosts as Hashes}
use Rattle.tiled_items.specs.Blocks.{all_items}
use Rattle.tiled_items.specs.Durable.{IsDurableTiled}
use Rattle.tiled_items.specs.Held.{ItemsAreHeld}
use Rattle.issuance_log.specs.Machine.{IsUsable}
use Rattle.tiled_items.specs.Machine.{TileDiskIsLeft, TileDiskIsRead}
use Rattle.tiled_items.specs.Opened.{TiledIsNotOpened}
use Rattle.tiled_items.specs.Openings.{HasTiledOpenCause, HoldsItemTiles, IsBadItemTile}
use Rattle.tiled_items.specs.Openings.{TileDiskCountsNoOther, tiled_open_refusal}
use Rattle.tiled_items.specs.Rules.{rules_fold}
use Rattle.tiled_items.specs.declared.error.TiledOpenError.{TiledOpenError}
use Rattle.tiled_items.specs.declared.error.TiledOpenError.TheVariants.{BadRecord, Open, Tile}
use Rattle.tiled_items.specs.declared.held.ItemPlace.{ItemPlace}
use Rattle.tiled_items.specs.declared.machine.TileRest.{TileRest}
use Rattle.tiled_items.specs.declared.rules.ItemRules.{Ghosts as Rules}

module _ {R : Type 0} (rules : Rules R) (h : HashFunction) (v : rules.View) where
  -- what is durable, by items with the same places and leaves
  pub durable_as : (places places' : List ItemPlace) (leaves leaves' : Option (List Hash)) (end : ℕ)
      (b : Text) → places' ≡ places → leaves' ≡ leaves → AreDurable end b
      → state_after (rules_fold rules h) (durable_of end b) ≡ Ok v
      → ItemsAreHeld rules.first rules.added h (rules.size v) places leaves (durable_of end b)
      → IsDurableTiled rules h v places' leaves' end b
  durable_as places places' leaves leaves' end b one two durable made held = record {
    durable = durable;
    made = made;
    held = subst (λ (l : List ItemPlace). ItemsAreHeld rules.first rules.added h (rules.size v) l
        leaves' (durable_of end b)) (sym one)
        (subst (λ (o : Option (List Hash)). ItemsAreHeld rules.first rules.added h (rules.size v)
        places o (durable_of end b)) (sym two) held);
  }

  -- what holds of the durable records, where the contents are known
  pub held_in_known : (places : List ItemPlace) (leaves : Option (List Hash)) (end : ℕ)
      (contents : Option Text)
      → ((b : Text) → contents ≡ Some b → IsDurableTiled rules h v places leaves end b)
      → IfSome (option_map (durable_of end) contents)
      (ItemsAreHeld rules.first rules.added h (rules.size v) places leaves)
  held_in_known places leaves end None durable = tt
  held_in_known places leaves end (Some b) durable = (durable b refl).held

  module _ (places : List ItemPlace) (f : Text → List Text) (leaves : Text → List Hash) where
    -- its tiles are those of the last size
    pub tiles_so : (journal contents : Option Text)
        → IfSome (option_map f journal) (ItemsAreHeld rules.first rules.added h (rules.size v)
        places (option_map leaves contents))
        → IfSome contents (λ bytes. IfSome (option_map leaves contents) (λ l. (level place : ℕ)
        → IsNewTile 0 (rules.tiled v) level place → StandsIn h l bytes level place))
        → IfSome (option_map (all_items rules.first rules.added) (option_map f journal))
        (λ items. IfSome contents (HoldsItemTiles h items (rules.tiled v)))
    tiles_so None contents held stands = tt
    tiles_so (Some b) None held stands = tt
    tiles_so (Some b) (Some t) held stands = λ level place new.
        subst (λ (l : List Hash). StandsIn h l t level place) held.hashed (stands level place new)

    -- or this one is the first that the file of tiles has not
    pub bad_so : (journal contents : Option Text) (size level place : ℕ) → size ≡ rules.tiled v
        → rules.tiled v < 2 ^ 32
        → IfSome (option_map f journal) (ItemsAreHeld rules.first rules.added h (rules.size v)
        places (option_map leaves contents))
        → IfSome journal (λ b. IfSome (option_map f journal) (λ list.
        read_by (rules_fold rules h) b ≡ Ok (record { records = list; state = v })))
        → IfSome contents (λ bytes. IfSome (option_map leaves contents) (λ l.
        IsFirstBad h l bytes 0 size level place))
        → IfSome journal (λ b. IfSome contents (λ t. IsBadItemTile rules h b t level place))
    bad_so None contents size level place same few held found bad = tt
    bad_so (Some b) None size level place same few held found bad = tt
    bad_so (Some b) (Some t) size level place same few held found bad = record {
      found = record { records = f b; state = v };
      is = found;
      few = few;
      bad = subst (λ (l : List Hash). IsFirstBad h l t 0 (rules.tiled v) level place) held.hashed
          (subst (λ (n : ℕ). IsFirstBad h (leaves t) t 0 n level place) same bad);
    }

-- ---- a journal that is refused

usable_none : IsUsable None
usable_none is = let wrong : ◌≡◌ {A = Option TileError} None (Some Failed) = is in absurd cc

-- the tiles that it begins with
pub tiles_there : {T : Type 0} (k : Ghosts T) (disk : T)
    → ((c : Text) → k.left_since disk (k.clock_at disk) c → k.may_leave disk c)
    → TileDiskIsRead k (record { disk = disk; refusal = None })
    (record { disk = disk; refusal = None })
tiles_there k disk only_now =
    record { usable = usable_none; only_reads = nothing_read k disk only_now; fine = refl }

-- why it isn't opened
abbrev pub tiled_why : StateOpenError → TiledOpenError
tiled_why (state.BadRecord k) = BadRecord k
tiled_why (state.Open why) = Open why

module _ {R : Type 0} (rules : Rules R) {D T : Type 0} (g : Ghosts D) (k : Ghosts T)
    (h : HashFunction) (disk later : D) (tiles tiles' : T) where
  -- why its records aren't read
  open_cause : (why : StateOpenError) → HasStateCause g (rules_fold rules h) disk later why
      → HasTiledOpenCause rules g k h disk later tiles tiles' (tiled_why why)
  open_cause (state.BadRecord n) is = is
  open_cause (state.Open why) is = is

  -- the refusal is that of the records
  records_refused : (why : StateOpenError)
      → HasReadOn {X = Unit {0}} g (rules_fold rules h) disk later (Err why)
      → OnlyReads k tiles tiles' → TileDiskCountsNoOther k tiles tiles' (tiled_why why)
      → TiledIsNotOpened rules g k h disk later tiles tiles' (tiled_why why)
  records_refused why read only_reads fine = record {
    only_reads = read.only_reads;
    only_reads_tiles = only_reads;
    cause = open_cause why read.cause;
    fine = λ other. read.fine_err (λ is. other (ap tiled_why is));
    fine_tiles = fine;
  }

-- The disks were only read, and the refusal is that of the records, unless a call of the disk of
-- the tiles failed.
module _ {R : Type 0} (rules : Rules R) {D T : Type 0} (g : Ghosts D) (k : Ghosts T)
    (h : HashFunction) (disk later : D) (was rest : TileRest T) where
  -- no call failed
  still_read : (why : StateOpenError)
      → HasReadOn {X = Unit {0}} g (rules_fold rules h) disk later (Err why)
      → TileDiskIsRead k was rest
      → TiledIsNotOpened rules g k h disk later was.disk rest.disk (tiled_why why)
  still_read why read is =
      records_refused rules g k h disk later was.disk rest.disk why read is.only_reads
      (λ other. is.fine)

  -- memory was refused, or the call is the reason
  no_memory : (refusal : Option TileError) → rest.refusal ≡ refusal
      → HasReadOn {X = Unit {0}} g (rules_fold rules h) disk later
      (Err (state.Open open_error.Memory)) → TileDiskIsLeft k was rest
      → TiledIsNotOpened rules g k h disk later was.disk rest.disk
      (tiled_open_refusal (state.Open open_error.Memory) refusal)
  no_memory None same read is =
      records_refused rules g k h disk later was.disk rest.disk (state.Open open_error.Memory) read
      is.only_reads (λ other. is.fine (subst IsUsable (sym same) usable_none))
  no_memory (Some (BadTile level place)) same read is =
      records_refused rules g k h disk later was.disk rest.disk (state.Open open_error.Memory) read
      is.only_reads (λ other. is.fine (λ failed. let wrong : Some (BadTile level place)
      ≡ Some Failed = sym same ∙ failed in absurd cc))
  no_memory (Some Failed) same read is = record {
    only_reads = read.only_reads;
    only_reads_tiles = is.only_reads;
    cause = is.failed same;
    fine = λ other. read.fine_err (λ wrong. absurd cc);
    fine_tiles = λ other. absurd (other refl);
  }

  pub refused_so : (why : StateOpenError)
      → HasReadOn {X = Unit {0}} g (rules_fold rules h) disk later (Err why)
      → IsLeftAt (TileDiskIsRead k) (TileDiskIsLeft k) was rest why
      → TiledIsNotOpened rules g k h disk later was.disk rest.disk
      (tiled_open_refusal why rest.refusal)
  refused_so (state.BadRecord n) read left =
      still_read (state.BadRecord n) read (left.1 (λ is. absurd cc))
  refused_so (state.Open open_error.NotJournal) read left =
      still_read (state.Open open_error.NotJournal) read (left.1 (λ is. absurd cc))
  refused_so (state.Open (open_error.BadLength place)) read left =
      still_read (state.Open (open_error.BadLength place)) read (left.1 (λ is. absurd cc))
  refused_so (state.Open (open_error.CutShort place)) read left =
      still_read (state.Open (open_error.CutShort place)) read (left.1 (λ is. absurd cc))
  refused_so (state.Open open_error.Failed) read left =
      still_read (state.Open open_error.Failed) read (left.1 (λ is. absurd cc))
  refused_so (state.Open open_error.Memory) read left = no_memory rest.refusal refl read left.0

-- ---- after the last record

-- The first bad tile is reported, or a failure of the tiles' disk.
pub tile_refused : {R : Type 0} (rules : Rules R) {D H T : Type 0} {hashes : Hashes H}
    {k : Ghosts T} (g : Ghosts D) (disk later : D) (was : TileRest T) (nodes : Tiles H T hashes k)
    (refusal : Option TileError) (new : T) (size : ℕ) (why : TileError) → OnlyReads g disk later
    → g.faults later ≡ g.faults disk
    → TileDiskIsRead k was (record { disk = tiles_disk nodes; refusal = refusal })
    → OnlyReads k (tiles_disk nodes) new → HasCauseOf nodes new size why
    → ((level place : ℕ) → why ≡ BadTile level place → IfSome (g.contents disk) (λ b.
    IfSome (k.contents was.disk) (λ t. IsBadItemTile rules hashes.hash b t level place)))
    → TiledIsNotOpened rules g k hashes.hash disk later was.disk new (Tile why)
tile_refused rules {k = k} g disk later was nodes refusal new size Failed only_reads fine is more
    cause bad = record {
      only_reads = only_reads;
      only_reads_tiles = only_read_on k was.disk (tiles_disk nodes) new is.only_reads more;
      cause = subst (λ n. Rose n (k.faults new)) is.fine cause;
      fine = λ other. fine;
      fine_tiles = λ other. absurd (other refl);
    }
tile_refused rules {k = k} g disk later was nodes refusal new size (BadTile level place) only_reads
    fine is more cause bad = record {
      only_reads = only_reads;
      only_reads_tiles = only_read_on k was.disk (tiles_disk nodes) new is.only_reads more;
      cause = bad level place refl;
      fine = λ other. fine;
      fine_tiles = λ other. cause.0 ∙ is.fine;
    }
