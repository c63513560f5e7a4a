-- What goes out of `mirror-entries`, over a mirror that the model knows, or doesn't know.
use Rattle.std.proofs.Common.{◌≡◌, ◌≤◌, ◌<◌, ◌∙◌, ℕ, Bool, if◌then◌else◌}
use Rattle.std.proofs.Common.{List, length, Option, None, Some, IfSome, Result, Ok, Err, inl, inr}
use Rattle.std.proofs.Common.{option_map, refl, sym, subst, ap, arith}
use Rattle.std.proofs.lemmas.Bool.{le-ltb, lt-ltb}
use Rattle.std.proofs.lemmas.Option.{IfSome_then}
use Rattle.std.specs.Prelude.{option_and_then}
use Rattle.byte_formats.specs.Types.{Text}
use Rattle.disk_core.specs.declared.disk.Disk.{Ghosts}
use Rattle.entry_list.specs.Items.{file_text, lists_of}
use Rattle.journal_core.specs.Copies.{AppendsSome}
use Rattle.mtc_io.specs.Counts.{Rose}
use Rattle.mtc_io.specs.declared.fault.Failed.{Failed}
use Rattle.mtc_io.specs.declared.sink.Sink.{Ghosts as Sinks}
use Rattle.tree_core.specs.declared.hashing.TreeHash.{Ghosts as Hashes}
use Rattle.mirror_core.specs.Folds.{MirrorState, MirrorView, mirror_with, view_in_mirror}
use Rattle.mirror_core.specs.Openings.{FoundMirror}
use Rattle.mirror_core.specs.Words.{MirrorStays, mirror_both_records, mirror_by_both, mirror_disk}
use Rattle.mirror_core.specs.Words.{mirror_records, mirror_tiles_disk, mirror_view}
use Rattle.mirror_core.specs.Words.{modelled_mirror}
use Rattle.mirror_core.specs.Refusals.{MirrorCounts}
use Rattle.mirror_core.specs.Written.{ItemsWentOut, KeepsToMirrorSize, SinkCounts}
use Rattle.mirror_core.specs.declared.error.MirrorError.{MirrorError}
use Rattle.mirror_core.specs.declared.error.MirrorError.TheVariants.{Beyond, Memory}
use Rattle.mirror_core.specs.declared.error.MirrorError.TheVariants.{Failed as DiskFailed}
use Rattle.mirror_core.specs.declared.mirror.Mirror.{Mirror}
use Rattle.mtc_command.specs.Answers.{Ending, Reply, no_memory, replied, room_failed, said}
use Rattle.mtc_command.specs.Answers.{stop_ending}
use Rattle.mtc_command.specs.Steps.{Outcome, answers_on}
use Rattle.mtc_command.specs.declared.answer.Said.TheVariants.{Done}
use Rattle.mtc_command.specs.declared.answer.Stop.{Stop}
use Rattle.mtc_command.proofs.Served.{reply_so}
use Rattle.mtc_command.proofs.Tiled.{read_tiled}
use Rattle.mtc_command.proofs.Works.{each_some}
use Rattle.mtc_lines.proofs.Outputs.{stopped_before}
use Rattle.mtc_lines.proofs.Texts.{part_text, short_text, whole_text}
use Rattle.mtc_lines.specs.Outputs.{Streams, WasStopped}
use Rattle.mtc_mirror.specs.MirrorOutcomes.{mirror_entries_reply, mirror_entries_says}
use Rattle.mtc_mirror.specs.MirrorOutcomes.{not_mirrored}
use Rattle.mtc_mirror.specs.StoredTiles.{StoresMirror}
use Rattle.mtc_mirror.specs.Works.{HasWorkedOnMirror, IsReadyMirror, RepliesOnMirror, StaysMirror}
use Rattle.mtc_mirror.proofs.Opened.{made_some}

-- what is so of the mirror that the model knows
both_from : (f : List Text → MirrorState) (P : MirrorState → Type 0)
    (records : Option (List Text)) (contents : Option Text) → IfSome (option_map f records) P
    → IfSome (option_map f (option_and_then (λ tiles. records) contents)) P
both_from f P records None is = tt
both_from f P records (Some bytes) is = is

module _ {H D : Type 0} {hashes : Hashes H} {g : Ghosts D} where
  pub known_by_both : (mirror : Mirror H D D hashes g g) (P : MirrorState → Type 0)
      → IfSome (modelled_mirror mirror) P → IfSome (mirror_by_both mirror) P
  known_by_both mirror P is = both_from (mirror_with (mirror_view mirror)) P
      (mirror_records mirror) (g.contents (mirror_tiles_disk mirror)) is

  -- the work that only reads has worked as is wanted
  pub worked_by : (name : Text) (old new : Mirror H D D hashes g g) (ending : Ending)
      (wanted : MirrorState → Reply) → RepliesOnMirror name wanted old new ending
      → HasWorkedOnMirror name
      (λ found. answers_on found.records (wanted found.state)) old new ending
  worked_by name old new ending wanted is = read_tiled g name (mirror_both_records old)
      (mirror_disk old) (mirror_disk new) (mirror_tiles_disk old) (mirror_tiles_disk new)
      (λ list. wanted (mirror_with (mirror_view old) list)) ending (inr is.stays.only_reads)
      (record { plain = is.plain; later = is.stays.only_reads.faults; fault = is.fault })
      (reply_so ending _ _ (λ reply contents. made_some (mirror_with (mirror_view old))
      (mirror_both_records old) (λ s. reply ≡ wanted s) contents) is.reply)

-- the reply by how many items there are
listed : (s : MirrorState) (v : MirrorView) (size : ℕ) → view_in_mirror s ≡ v → size ≤ v.size
    → mirror_entries_reply size s ≡ said Done (file_text (lists_of s.items) size)
listed s v size shows le =
    let same : length s.items ≡ v.size = ap (λ (u : MirrorView). u.size) shows in
    ap (λ (b : Bool). if b then not_mirrored (Beyond (length s.items))
    else said Done (file_text (lists_of s.items) size))
    (le-ltb (length s.items) size (omega (arith, same, le)))

too_few : (s : MirrorState) (v : MirrorView) (size have : ℕ) → view_in_mirror s ≡ v → have ≡ v.size
    → v.size < size → not_mirrored (Beyond have) ≡ mirror_entries_reply size s
too_few s v size have shows is less =
    let same : length s.items ≡ v.size = ap (λ (u : MirrorView). u.size) shows in
    ap (λ (n : ℕ). not_mirrored (Beyond n)) (is ∙ sym same)
    ∙ sym (ap (λ (b : Bool). if b then not_mirrored (Beyond (length s.items))
    else said Done (file_text (lists_of s.items) size))
    (lt-ltb (length s.items) size (omega (arith, same, less))))

module _ {H D O : Type 0} {hashes : Hashes H} {g : Ghosts D} (outs : Sinks O) (name : Text)
    (size : ℕ) (old new : Mirror H D D hashes g g) (ready : IsReadyMirror old)
    (stays : MirrorStays old new) where
  abbrev Does : Ending → Type 0
  Does = HasWorkedOnMirror name (mirror_entries_says size) old new

  abbrev its_text : MirrorState → Text
  its_text s = file_text (lists_of s.items) size

  shows : IfSome (mirror_by_both old) (λ s. view_in_mirror s ≡ mirror_view old)
  shows = known_by_both old (λ s. view_in_mirror s ≡ mirror_view old) ready.view

  -- ---- what was done

  does_reply : size ≤ (mirror_view old).size → (text : Text)
      → IfSome (mirror_by_both old) (λ s. text ≡ its_text s) → Does (replied (said Done text))
  does_reply le text is = worked_by name old new (replied (said Done text))
      (mirror_entries_reply size) (record {
        plain = λ one. absurd cc;
        fault = tt;
        reply = both_known (mirror_by_both old) is shows;
        stays = stays;
      })
    where
      both_known : (o : Option MirrorState) → IfSome o (λ s. text ≡ its_text s)
          → IfSome o (λ s. view_in_mirror s ≡ mirror_view old)
          → IfSome o (λ s. said Done text ≡ mirror_entries_reply size s)
      both_known None is view = tt
      both_known (Some s) is view =
          ap (λ (t : Text). said Done t) is ∙ sym (listed s (mirror_view old) size view le)

  does_fail : Rose (g.faults (mirror_disk old)) (g.faults (mirror_disk new))
      → Does (room_failed name)
  does_fail rose = worked_by name old new (room_failed name) (mirror_entries_reply size)
      (record { plain = tt; fault = inl (refl, rose); reply = tt; stays = stays })

  does_stop : Does no_memory
  does_stop = worked_by name old new no_memory (mirror_entries_reply size)
      (record { plain = tt; fault = tt; reply = tt; stays = stays })

  does_refuse : (have : ℕ) → have ≡ (mirror_view old).size → (mirror_view old).size < size
      → Does (replied (not_mirrored (Beyond have)))
  does_refuse have is less = worked_by name old new (replied (not_mirrored (Beyond have)))
      (mirror_entries_reply size) (record {
        plain = λ one. absurd cc;
        fault = tt;
        reply = IfSome_then (mirror_by_both old) shows
            (λ s view. too_few s (mirror_view old) size have view is less);
        stays = stays;
      })

  -- ---- what went out

  module _ (out out' : O) where
    abbrev Went : Result (Result (Unit {0}) Failed) MirrorError → Type 0
    Went result = IfSome (modelled_mirror old) (λ s.
        ItemsWentOut (outs.taken out) (outs.taken out') (its_text s) result)

    abbrev Counts : Result (Result (Unit {0}) Failed) MirrorError → Type 0
    Counts = MirrorCounts (g.faults (mirror_disk old)) (g.faults (mirror_disk new))

    abbrev Takes : Result (Result (Unit {0}) Failed) MirrorError → Type 0
    Takes = SinkCounts (outs.faults out) (outs.faults out')

    abbrev Keeps : Result (Result (Unit {0}) Failed) MirrorError → Type 0
    Keeps = KeepsToMirrorSize (mirror_view old).size size

    -- nothing did
    refused : out' ≡ out → (have : ℕ) → Keeps (Err (Beyond have)) → (stop : Stop)
        → stop_ending stop ≡ replied (not_mirrored (Beyond have))
        → Streams outs out out' Does (Err stop)
    refused same have keeps stop named =
        subst (λ (o : O). Streams outs out o Does (Err stop)) (sym same)
        (stopped_before outs out Does stop
        (subst Does (sym named) (does_refuse have keeps.1 keeps.0)))

    pub entries_refused : (why : MirrorError) (have : ℕ) → why ≡ Beyond have
        → ((mirror_view old).size < size → out' ≡ out) → Keeps (Err why) → (stop : Stop)
        → stop_ending stop ≡ replied (not_mirrored (Beyond have))
        → Streams outs out out' Does (Err stop)
    entries_refused why have is untouched keeps stop named =
        let few = subst (λ (w : MirrorError). Keeps (Err w)) is keeps in
        refused (untouched few.0) have few stop named

    module _ (grows : AppendsSome (outs.taken out) (outs.taken out')) where
      -- all of it did, or the sink failed
      pub entries_gone : (written : Result (Unit {0}) Failed) → Went (Ok written)
          → Takes (Ok written) → Keeps (Ok written) → Streams outs out out' Does (Ok written)
      entries_gone (Ok done) went takes keeps =
          let whole = whole_text its_text _ _ grows (mirror_by_both old)
          (known_by_both old _ went) in
          record {
            text = whole.text;
            ends = does_reply keeps whole.text whole.is;
            written = whole.holds;
          }
      entries_gone (Err failed) went takes keeps =
          let part = part_text its_text _ _ grows (mirror_by_both old) (known_by_both old _ went) in
          record {
            text = part.text;
            ends = does_reply keeps part.text part.is;
            some = part.holds.1;
            cause = takes.failed;
            prefix = part.holds.0;
          }

      broken : Went (Err DiskFailed) → Counts (Err DiskFailed) → Takes (Err DiskFailed)
          → Keeps (Err DiskFailed) → (stop : Stop) → stop_ending stop ≡ room_failed name
          → Streams outs out out' Does (Err stop)
      broken went cause takes keeps stop named =
          let part = short_text its_text _ _ grows (mirror_by_both old)
          (known_by_both old _ went) in
          subst (WasStopped outs out out' Does) (sym named) (record {
            ends = does_fail cause;
            fine = takes;
            went = inr (record {
              text = part.text;
              ends = does_reply keeps part.text part.is;
              went = part.holds.0;
            });
          })

      pub entries_broken : (why : MirrorError) → why ≡ DiskFailed → Went (Err why)
          → Counts (Err why) → Takes (Err why) → Keeps (Err why) → (stop : Stop)
          → stop_ending stop ≡ room_failed name → Streams outs out out' Does (Err stop)
      entries_broken why is went cause takes keeps =
          broken (subst (λ (w : MirrorError). Went (Err w)) is went)
          (subst (λ (w : MirrorError). Counts (Err w)) is cause)
          (subst (λ (w : MirrorError). Takes (Err w)) is takes)
          (subst (λ (w : MirrorError). Keeps (Err w)) is keeps)

      spent : Went (Err Memory) → Takes (Err Memory) → Keeps (Err Memory) → (stop : Stop)
          → stop_ending stop ≡ no_memory → Streams outs out out' Does (Err stop)
      spent went takes keeps stop named =
          let part = short_text its_text _ _ grows (mirror_by_both old)
          (known_by_both old _ went) in
          subst (WasStopped outs out out' Does) (sym named) (record {
            ends = does_stop;
            fine = takes;
            went = inr (record {
              text = part.text;
              ends = does_reply keeps part.text part.is;
              went = part.holds;
            });
          })

      pub entries_spent : (why : MirrorError) → why ≡ Memory → Went (Err why)
          → Takes (Err why) → Keeps (Err why) → (stop : Stop) → stop_ending stop ≡ no_memory
          → Streams outs out out' Does (Err stop)
      entries_spent why is went takes keeps =
          spent (subst (λ (w : MirrorError). Went (Err w)) is went)
          (subst (λ (w : MirrorError). Takes (Err w)) is takes)
          (subst (λ (w : MirrorError). Keeps (Err w)) is keeps)

-- ---- a mirror that was only read

module _ {H D : Type 0} {hashes : Hashes H} {g : Ghosts D} (old new : Mirror H D D hashes g g)
    (says : FoundMirror → Outcome) (stays : MirrorStays old new) where
  pub read_valid : StaysMirror hashes.hash says old new
  read_valid = inl (inr stays.only_reads)

  pub read_stores : StoresMirror says old new
  read_stores = each_some (mirror_both_records old) _
      (λ list opened made. inl (stays.only_reads, stays.tiles))
