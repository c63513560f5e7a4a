-- The items of a log that are written while it is read.
use Rattle.std.proofs.Common.{◌≡◌, ◌∙◌, ℕ, ◌+◌, ◌<◌, ◌≤◌, ◌++◌, List, [], ◌∷◌, length, take, drop}
use Rattle.std.proofs.Common.{Option, Some, None, IfSome, Result, Ok, Err, OnOk, OnErr, inr}
use Rattle.std.proofs.Common.{ap, sym, subst, arith, append_assoc, append-nil, length-append}
use Rattle.std.specs.Int.{w16, to_be_bytes}
use Rattle.std.specs.Prelude.{map, slice_index_or}
use Rattle.std.specs.List.{concat, range_with_len}
use Rattle.std.specs.Io.KnownBytes.{Appends}
use Rattle.std.proofs.KnownBytes.{Appends-nil, Appends-trans}
use Rattle.std.proofs.lemmas.List.{take-append-drop}
use Rattle.std.proofs.lemmas.List.Folds.{concat-append}
use Rattle.std.proofs.lemmas.List.FromFn.{take-map-range_with_len}
use Rattle.std.proofs.lemmas.Option.{IfSome_then}
use Rattle.byte_formats.specs.Types.{Text}
use Rattle.tls_wire.specs.Encoding.{vector}
use Rattle.disk_core.specs.declared.disk.Disk.{Ghosts}
use Rattle.mtc_io.specs.Counts.{HasCause, Rose}
use Rattle.mtc_io.specs.Streams.{AppendsPrefix}
use Rattle.mtc_io.specs.declared.fault.Failed.{Failed}
use Rattle.mtc_io.specs.declared.sink.Sink.{Ghosts as Sinks}
use Rattle.mtc_io.proofs.Streams.{prefix_more}
use Rattle.tree_core.specs.declared.hashing.TreeHash.{Ghosts as Hashes}
use Rattle.journal_core.specs.Copies.{AppendsSome}
use Rattle.entry_list.specs.Items.{ItemLists, file_part, listed_text}
use Rattle.entry_list.proofs.OwnKeys.{part_more}
use Rattle.issuance_log.specs.Folds.{LogState}
use Rattle.issuance_log.specs.Words.{LogStays, log_disk, modelled_by_both, modelled_state}
use Rattle.issuance_log.specs.declared.log.Log.{Log}
use Rattle.mtc_command.specs.Answers.{Ending, Reply, no_memory, replied, room_failed, said}
use Rattle.mtc_command.specs.Answers.{stop_ending}
use Rattle.mtc_command.specs.declared.answer.Said.TheVariants.{Done}
use Rattle.mtc_command.specs.declared.answer.Stop.{Stop}
use Rattle.mtc_command.proofs.Served.{reply_so, rose_since}
use Rattle.mtc_command.proofs.Works.{both_some, each_some}
use Rattle.mtc_lines.specs.Outputs.{Streams, WentOutBefore}
use Rattle.mtc_lines.proofs.Texts.{GoesShort, first_goes, part_text, short_text, whole_text}
use Rattle.mtc_authority.specs.LogOutcomes.{PassesOn, StopsAt, items_of}
use Rattle.mtc_authority.specs.Works.{RepliesOnLog}
use Rattle.mtc_authority.proofs.Replied.{at_journal, modelled_both, modelled_so}

-- ---- the text

-- what follows the first ones of some items
abbrev rest_text : ItemLists → ℕ → ℕ → ℕ → Text
rest_text items first count n =
    concat (drop n (map (listed_text items) (range_with_len first count)))

part_rest : (items : ItemLists) (first count n : ℕ) → n ≤ count
    → file_part items first count ≡ file_part items first n ++ rest_text items first count n
part_rest items first count n le =
    let all = map (listed_text items) (range_with_len first count) in
    ap concat (sym (take-append-drop n all))
    ∙ concat-append (take n all) (drop n all)
    ∙ ap (λ (xss : List Text). concat xss ++ rest_text items first count n)
    (take-map-range_with_len (listed_text items) first count n le)

-- which isn't empty before the last
rest_some : (items : ItemLists) (first count n : ℕ) → n < count
    → 0 < length (rest_text items first count n)
rest_some items first count n less =
    let item = listed_text items (first + n) in
    let entry = slice_index_or items.entries (first + n) [] in
    let key = slice_index_or items.keys (first + n) [] in
    let here = file_part items first n in
    let whole : length (file_part items first count)
    ≡ length (here ++ rest_text items first count n) =
    ap length (part_rest items first count n (omega arith)) in
    let more : length (file_part items first count)
    ≡ length (file_part items first (n + 1) ++ rest_text items first count (n + 1)) =
    ap length (part_rest items first count (n + 1) (omega arith)) in
    let one : length (file_part items first (n + 1)) ≡ length (here ++ item) =
    ap length (part_more items first n) in
    omega (
      arith,
      whole,
      more,
      one,
      length-append here (rest_text items first count n),
      length-append (file_part items first (n + 1)) (rest_text items first count (n + 1)),
      length-append here item,
      length-append (vector w16 entry) (vector w16 key),
      length-append (to_be_bytes w16 (length entry)) entry,
    )

-- ---- what is held of it, where a sink took a, then b, then c

module _ (a b c : Option Text) (all held : Text) where
  pub passes_both : (left : Text) → PassesOn a b all held → PassesOn b c held left
      → PassesOn a c all left
  passes_both left first second = (
    first.0 ++ second.0,
    Appends-trans a b c first.0 second.0 first.1 second.1,
    first.2 ∙ ap (λ (t : Text). first.0 ++ t) second.2
        ∙ sym (append_assoc first.0 second.0 left),
  )

  -- a prefix of what is held went out, which isn't empty
  pub held_prefix : (rest : Text) → PassesOn a b all held → AppendsPrefix b c held
      → AppendsPrefix a c (all ++ rest)
  held_prefix rest first second =
      let whole : all ++ rest ≡ first.0 ++ (held ++ rest) =
      ap (λ (t : Text). t ++ rest) first.2 ∙ append_assoc first.0 held rest in
      subst (AppendsPrefix a c) (sym whole)
      (prefix_more a b c first.0 held rest first.1 second)

  pub held_some : (rest : Text) → PassesOn a b all held → 0 < length held
      → 0 < length (all ++ rest)
  held_some rest first some =
      let whole : length all ≡ length (first.0 ++ held) = ap length first.2 in
      omega (arith, whole, length-append first.0 held, length-append all rest, some)

-- nothing is held
pub passes_all : (a b : Option Text) (all left : Text) → length left < 1 → PassesOn a b all left
    → Appends a b all
passes_all a b all [] none is =
    subst (Appends a b) (sym (is.2 ∙ append-nil is.0)) is.1
passes_all a b all (byte ∷ bytes) none is = absurd (omega arith)

-- what went out isn't all of it yet
passes_short : (a b : Option Text) (all left rest : Text) → PassesOn a b all left
    → 0 < length rest → GoesShort a b (all ++ rest)
passes_short a b all left rest is some =
    let whole : all ++ rest ≡ is.0 ++ (left ++ rest) =
    ap (λ (t : Text). t ++ rest) is.2 ∙ append_assoc is.0 left rest in
    subst (GoesShort a b) (sym whole)
    (first_goes a b is.0 (left ++ rest) is.1 (omega (arith, length-append left rest, some)))

-- ---- the items so far, as the model knows them

-- So many of the items from an index on went out, but for these bytes, which are held.
abbrev pub HaveGone : Option LogState → Option Text → Option Text → ℕ → ℕ → Text → Type 0
HaveGone contents before now first n held =
    IfSome contents (λ s. PassesOn before now (file_part (items_of s) first n) held)

module _ (before : Option Text) (first n : ℕ) where
  -- one item more is held
  pub one_held : (contents : Option LogState) (now : Option Text) (held held' : Text)
      → HaveGone contents before now first n held
      → IfSome contents (λ s. held' ≡ held ++ listed_text (items_of s) (first + n))
      → HaveGone contents before now first (n + 1) held'
  one_held None now held held' gone more = tt
  one_held (Some s) now held held' gone more = (
    gone.0,
    gone.1,
    part_more (items_of s) first n
        ∙ ap (λ (t : Text). t ++ listed_text (items_of s) (first + n)) gone.2
        ∙ append_assoc gone.0 held (listed_text (items_of s) (first + n))
        ∙ ap (λ (t : Text). gone.0 ++ t) (sym more),
  )

  -- more went out
  pub more_gone : (contents : Option LogState) (now then : Option Text) (held left : Text)
      → HaveGone contents before now first n held → PassesOn now then held left
      → HaveGone contents before then first n left
  more_gone None now then held left gone more = tt
  more_gone (Some s) now then held left gone more =
      passes_both before now then (file_part (items_of s) first n) held left gone more

  -- a prefix of all the items went out, but not all of them
  pub some_gone : (count : ℕ) → n < count → (contents : Option LogState) (now : Option Text)
      (held : Text) → HaveGone contents before now first n held
      → IfSome contents (λ s. GoesShort before now (file_part (items_of s) first count))
  some_gone count less None now held gone = tt
  some_gone count less (Some s) now held gone =
      subst (GoesShort before now) (sym (part_rest (items_of s) first count n (omega arith)))
      (passes_short before now _ held (rest_text (items_of s) first count n) gone
      (rest_some (items_of s) first count n less))

  -- and a prefix of what was held, where that isn't empty
  pub part_gone : (count : ℕ) → n ≤ count → (contents : Option LogState)
      (now then : Option Text) (held : Text) → HaveGone contents before now first n held
      → AppendsPrefix now then held → 0 < length held
      → IfSome contents (λ s. AppendsPrefix before then (file_part (items_of s) first count)
      × (0 < length (file_part (items_of s) first count)))
  part_gone count le None now then held gone prefix some = tt
  part_gone count le (Some s) now then held gone prefix some =
      let all = file_part (items_of s) first n in
      let rest = rest_text (items_of s) first count n in
      subst (λ (t : Text). AppendsPrefix before then t × (0 < length t))
      (sym (part_rest (items_of s) first count n le)) (
        held_prefix before now then all held rest gone prefix,
        held_some before now then all held rest gone some,
      )

  -- all of them, where nothing is held
  pub all_gone : (contents : Option LogState) (now : Option Text) (held : Text)
      → length held < 1 → HaveGone contents before now first n held
      → IfSome contents (λ s. Appends before now (file_part (items_of s) first n))
  all_gone None now held none gone = tt
  all_gone (Some s) now held none gone = passes_all before now _ held none gone

-- nothing yet
pub none_gone : (contents : Option LogState) (now : Option Text) (first : ℕ) (held : Text)
    → held ≡ [] → HaveGone contents now now first 0 held
none_gone contents now first held none =
    each_some contents _ (λ s. ([], Appends-nil now, sym none))

-- ---- what comes of it

went_before : (Fault : Type 0) (name : Text) (before after : Option Text) (text : Text)
    → GoesShort before after text → (ending : Ending) → StopsAt Fault name ending
    → WentOutBefore ending before after text
went_before Fault name before after text short (replied reply) stops = absurd stops
went_before Fault name before after text short (room_failed file) stops = short.0
went_before Fault name before after text short no_memory stops = short

module _ {H D O : Type 0} {hashes : Hashes H} {g : Ghosts D} (outs : Sinks O) (name : Text)
    (old new : Log H D D hashes g g) (stays : LogStays old new) (out out' : O)
    (grows : AppendsSome (outs.taken out) (outs.taken out')) (text_of : LogState → Text) where
  abbrev Ends : Ending → Type 0
  Ends = RepliesOnLog name (λ s. said Done (text_of s)) old new

  reply_of : (text : Text) → IfSome (modelled_state old) (λ s. text ≡ text_of s)
      → Ends (replied (said Done text))
  reply_of text is = modelled_so name (λ s. said Done (text_of s)) old new stays (said Done text)
      (λ one. absurd cc) (IfSome_then (modelled_by_both old)
      (modelled_both (λ s. text ≡ text_of s) old is)
      (λ s same. ap (λ (t : Text). said Done t) same))

  pub listed_whole : IfSome (modelled_state old)
      (λ s. Appends (outs.taken out) (outs.taken out') (text_of s)) → (done : Unit {0})
      → Streams outs out out' Ends (Ok (Ok done))
  listed_whole went done =
      let whole = whole_text text_of _ _ grows (modelled_state old) went in
      record { text = whole.text; ends = reply_of whole.text whole.is; written = whole.holds }

  pub listed_lost : IfSome (modelled_state old)
      (λ s. AppendsPrefix (outs.taken out) (outs.taken out') (text_of s)
      × (0 < length (text_of s)))
      → Rose (outs.faults out) (outs.faults out') → (failed : Failed)
      → Streams outs out out' Ends (Ok (Err failed))
  listed_lost went cause failed =
      let part = part_text text_of _ _ grows (modelled_state old) went in
      record {
        text = part.text;
        ends = reply_of part.text part.is;
        some = part.holds.1;
        cause = cause;
        prefix = part.holds.0;
      }

  pub listed_broken : IfSome (modelled_state old)
      (λ s. GoesShort (outs.taken out) (outs.taken out') (text_of s))
      → outs.faults out' ≡ outs.faults out → (stop : Stop)
      → StopsAt (Rose (g.faults (log_disk old)) (g.faults (log_disk new))) name (stop_ending stop)
      → Streams outs out out' Ends (Err stop)
  listed_broken went fine stop stops =
      let part = short_text text_of _ _ grows (modelled_state old) went in
      record {
        ends = at_journal name _ old new stays (stop_ending stop) stops;
        fine = fine;
        went = inr (record {
          text = part.text;
          ends = reply_of part.text part.is;
          went = went_before _ name _ _ part.text part.holds (stop_ending stop) stops;
        });
      }

module _ {H D O : Type 0} {hashes : Hashes H} {g : Ghosts D} (outs : Sinks O) (name : Text)
    (old new : Log H D D hashes g g) (stays : LogStays old new) (out now out' : O)
    (grows : AppendsSome (outs.taken out) (outs.taken out')) (first count n : ℕ) (held : Text)
    (gone : HaveGone (modelled_state old) (outs.taken out) (outs.taken now) first n held) where
  -- standard output took a prefix of what was held
  pub listed_part : n ≤ count → AppendsPrefix (outs.taken now) (outs.taken out') held
      → 0 < length held → outs.faults out ≤ outs.faults now
      → Rose (outs.faults now) (outs.faults out') → (failed : Failed)
      → Streams outs out out'
      (RepliesOnLog name (λ s. said Done (file_part (items_of s) first count)) old new)
      (Ok (Err failed))
  listed_part le prefix some later cause failed =
      listed_lost outs name old new stays out out' grows
      (λ s. file_part (items_of s) first count)
      (part_gone (outs.taken out) first n count le (modelled_state old) (outs.taken now)
      (outs.taken out') held gone prefix some)
      (rose_since (outs.faults out) (outs.faults now) (outs.faults out') later cause) failed

  -- the last bytes that were held
  pub listed_end : n ≡ count → outs.faults out ≤ outs.faults now
      → (result : Result (Unit {0}) Failed) (left : Text)
      → OnOk result (PassesOn (outs.taken now) (outs.taken out') held left)
      → OnOk result (length left < 1) → OnErr result (0 < length held)
      → AppendsPrefix (outs.taken now) (outs.taken out') held
      → HasCause (outs.faults now) (outs.faults out') result
      → Streams outs out out'
      (RepliesOnLog name (λ s. said Done (file_part (items_of s) first count)) old new) (Ok result)
  listed_end end later (Ok done) left passed few some prefix cause =
      listed_whole outs name old new stays out out' grows
      (λ s. file_part (items_of s) first count)
      (subst (λ (m : ℕ). IfSome (modelled_state old)
      (λ s. Appends (outs.taken out) (outs.taken out') (file_part (items_of s) first m))) end
      (all_gone (outs.taken out) first n (modelled_state old) (outs.taken out') left few
      (more_gone (outs.taken out) first n (modelled_state old) (outs.taken now)
      (outs.taken out') held left gone passed))) done
  listed_end end later (Err failed) left passed few some prefix cause =
      listed_part (omega (arith, end)) prefix some later cause.failed failed

-- ---- the reply in other words

module _ {H D : Type 0} {hashes : Hashes H} {g : Ghosts D} (name : Text)
    (old new : Log H D D hashes g g) (wanted wanted' : LogState → Reply)
    (same : IfSome (modelled_by_both old) (λ s. wanted s ≡ wanted' s)) where
  pub replies_so : (ending : Ending) → RepliesOnLog name wanted old new ending
      → RepliesOnLog name wanted' old new ending
  replies_so ending is = record {
    plain = is.plain;
    fault = is.fault;
    reply = reply_so ending _ _ (λ reply meets.
        both_some (modelled_by_both old) meets same (λ s first second. first ∙ second)) is.reply;
    stays = is.stays;
  }
