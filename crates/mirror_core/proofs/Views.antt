-- What a mirror shows over every disk, record by record.
use Rattle.std.proofs.Common.{◌≡◌, ℕ, ◌+◌, ◌%◌, ◌^◌, ◌<◌, ◌≤◌, Bool, true, false, List, [], ◌∷◌}
use Rattle.std.proofs.Common.{length, take, Option, Some, None, option_map, Result, Ok, Err}
use Rattle.std.proofs.Common.{refl, ap, sym, subst, ◌∙◌, arith}
use Rattle.std.specs.Prelude.{if◌then◌else◌}
use Rattle.std.specs.Result.{result_map_both}
use Rattle.std.specs.Str.{bytes_eq}
use Rattle.std.proofs.lemmas.Bool.{eq-eqb, le-leb, lt-ltb}
use Rattle.std.proofs.lemmas.List.{length-append}
use Rattle.byte_formats.specs.Readings.{◌>>=◌, lifted, some_or}
use Rattle.byte_formats.specs.Types.{HashFunction, Text}
use Rattle.issuance_log.specs.Records.{CanBeBatch, tiled_in, tiles_record, tiles_tag}
use Rattle.issuance_log.proofs.Encoded.{size_again}
use Rattle.journal_core.specs.Folds.{AreRefused, Fold, Found, closing, read_by, state_after}
use Rattle.journal_core.specs.Folds.{taken_from, tested, walked}
use Rattle.journal_core.specs.Format.{header}
use Rattle.journal_core.specs.Walk.{FileEnd, FileWalk, at_bad_length, at_commit_byte, at_cut}
use Rattle.journal_core.specs.Walk.{walk_of}
use Rattle.journal_core.specs.declared.error.OpenError.TheVariants.{NotJournal}
use Rattle.journal_core.proofs.Modelled.{if_some}
use Rattle.state_journal.specs.declared.error.StateOpenError.{StateOpenError}
use Rattle.state_journal.specs.declared.error.StateOpenError.TheVariants as state
use Rattle.mirror_core.specs.Folds.{MirrorState, MirrorStep, MirrorView, begun_mirror}
use Rattle.mirror_core.specs.Folds.{begun_mirror_view, mirror_by_step, mirror_fold, mirror_of}
use Rattle.mirror_core.specs.Folds.{mirror_step, mirror_step_in, mirror_tiled_to}
use Rattle.mirror_core.specs.Folds.{mirror_view_by_step, mirror_with, mirrors_items, mirrors_tiles}
use Rattle.mirror_core.specs.Folds.{more_mirrored, next_mirror, next_mirror_view, no_mirror_step}
use Rattle.mirror_core.specs.Folds.{takes_mirror_step, takes_mirror_tiles, takes_mirrored}
use Rattle.mirror_core.specs.Folds.{view_in_mirror, with_mirror_tiles, with_mirrored}
use Rattle.mirror_core.specs.Records.{mirror_batch_record, mirrored_in}
use Rattle.mirror_core.specs.declared.error.MirrorOpenError.{MirrorOpenError}
use Rattle.mirror_core.specs.declared.error.MirrorOpenError.TheVariants.{BadRecord, Open}
use Rattle.mirror_core.proofs.Encoded.{batch_again, tiles_no_batch}

-- what is shown as a kind of journal
abbrev pub view_fold : HashFunction → Fold MirrorView StateOpenError
view_fold h = record {
  begins = begun_mirror_view;
  takes = next_mirror_view h;
  bad_record = state.BadRecord;
  not_read = state.Open;
}

view_step : (x : MirrorStep) (s : MirrorState)
    → view_in_mirror (mirror_by_step x s) ≡ mirror_view_by_step x (view_in_mirror s)
view_step (mirrors_items items) s =
    ap (λ (n : ℕ). record { log = s.log; size = n; tiled = s.tiled }) (length-append s.items items)
view_step (mirrors_tiles size) s = refl
view_step no_mirror_step s = refl

map_if : (b : Bool) (s : MirrorState) (v : MirrorView) → v ≡ view_in_mirror s
    → (if b then Some v else None) ≡ option_map view_in_mirror (if b then Some s else None)
map_if true s v is = ap Some is
map_if false s v is = refl

pub views_follow : (h : HashFunction) (s : MirrorState) (body : Text)
    → next_mirror_view h (view_in_mirror s) body
    ≡ option_map view_in_mirror (next_mirror h s body)
unfolding next_mirror next_mirror_view
views_follow h s body =
    let x = mirror_step_in body in
    map_if (takes_mirror_step h (view_in_mirror s) x) (mirror_by_step x s)
    (mirror_view_by_step x (view_in_mirror s)) (sym (view_step x s))

-- ---- records, by what is shown and by what they are

abbrev pub shows : Result MirrorState ℕ → Result MirrorView ℕ
shows = result_map_both view_in_mirror (λ k. k)

each_shows : (h : HashFunction) (k : ℕ) (bodies : List Text) (o : Option MirrorState)
    → ((s : MirrorState) → taken_from (view_fold h) (k + 1) (view_in_mirror s) bodies
    ≡ shows (taken_from (mirror_fold h) (k + 1) s bodies))
    → (some_or k (option_map view_in_mirror o)
    >>= λ (v : MirrorView). taken_from (view_fold h) (k + 1) v bodies)
    ≡ shows (some_or k o >>= λ (s : MirrorState). taken_from (mirror_fold h) (k + 1) s bodies)
each_shows h k bodies None rest = refl
each_shows h k bodies (Some s) rest = rest s

pub taken_shows : (h : HashFunction) (k : ℕ) (s : MirrorState) (bodies : List Text)
    → taken_from (view_fold h) k (view_in_mirror s) bodies
    ≡ shows (taken_from (mirror_fold h) k s bodies)
unfolding taken_from
taken_shows h k s [] = refl
taken_shows h k s (body ∷ bodies) =
    ap (λ (o : Option MirrorView). some_or k o
    >>= λ (v : MirrorView). taken_from (view_fold h) (k + 1) v bodies) (views_follow h s body)
    ∙ each_shows h k bodies (next_mirror h s body) (λ u. taken_shows h (k + 1) u bodies)

pub state_shows : (h : HashFunction) (list : List Text)
    → state_after (view_fold h) list ≡ shows (state_after (mirror_fold h) list)
unfolding state_after
state_shows h [] = refl
state_shows h (first ∷ bodies) =
    each_shows h 0 bodies (begun_mirror first) (λ s. taken_shows h 1 s bodies)

-- Records that make a mirror make what it shows.
pub view_made : (h : HashFunction) (v : MirrorView) (list : List Text)
    → mirror_of h list ≡ Ok (mirror_with v list) → view_in_mirror (mirror_with v list) ≡ v
    → state_after (view_fold h) list ≡ Ok v
view_made h v list made view = state_shows h list ∙ ap shows made ∙ ap Ok view

-- ---- what a record says

pub says_items : (body : Text) (items : List (Text × Text)) → mirrored_in body ≡ Some items
    → mirror_step_in body ≡ mirrors_items items
says_items body items is = ap (λ o. mirror_step o (tiled_in body)) is

pub says_tiles : (body : Text) (size : ℕ) → mirrored_in body ≡ None → tiled_in body ≡ Some size
    → mirror_step_in body ≡ mirrors_tiles size
says_tiles body size none is =
    ap (λ o. mirror_step o (tiled_in body)) none ∙ ap (mirror_step None) is

view_says : (h : HashFunction) (v : MirrorView) (body : Text) (x : MirrorStep) (b : Bool)
    → mirror_step_in body ≡ x → takes_mirror_step h v x ≡ b
    → next_mirror_view h v body ≡ (if b then Some (mirror_view_by_step x v) else None)
unfolding next_mirror_view
view_says h v body x b is takes =
    ap (λ (y : MirrorStep). if takes_mirror_step h v y then Some (mirror_view_by_step y v)
    else None) is
    ∙ ap (λ (t : Bool). if t then Some (mirror_view_by_step x v) else None) takes

next_says : (h : HashFunction) (s : MirrorState) (body : Text) (x : MirrorStep) (b : Bool)
    → mirror_step_in body ≡ x → takes_mirror_step h (view_in_mirror s) x ≡ b
    → next_mirror h s body ≡ (if b then Some (mirror_by_step x s) else None)
unfolding next_mirror
next_says h s body x b is takes =
    ap (λ (y : MirrorStep). if takes_mirror_step h (view_in_mirror s) y
    then Some (mirror_by_step y s) else None) is
    ∙ ap (λ (t : Bool). if t then Some (mirror_by_step x s) else None) takes

-- the items of a Batch that are taken, or aren't
pub items_taken : (h : HashFunction) (v : MirrorView) (body : Text) (items : List (Text × Text))
    → mirrored_in body ≡ Some items → takes_mirrored h v items ≡ true
    → next_mirror_view h v body ≡ Some (more_mirrored (length items) v)
items_taken h v body items is takes =
    view_says h v body (mirrors_items items) true (says_items body items is) takes

pub items_refused : (h : HashFunction) (v : MirrorView) (body : Text) (items : List (Text × Text))
    → mirrored_in body ≡ Some items → takes_mirrored h v items ≡ false
    → next_mirror_view h v body ≡ None
items_refused h v body items is takes =
    view_says h v body (mirrors_items items) false (says_items body items is) takes

pub view_batched : (h : HashFunction) (v : MirrorView) (items : List (Text × Text))
    → CanBeBatch items → takes_mirrored h v items ≡ true
    → next_mirror_view h v (mirror_batch_record items) ≡ Some (more_mirrored (length items) v)
view_batched h v items can taken =
    items_taken h v (mirror_batch_record items) items (batch_again items can) taken

pub next_batched : (h : HashFunction) (s : MirrorState) (items : List (Text × Text))
    → CanBeBatch items → takes_mirrored h (view_in_mirror s) items ≡ true
    → next_mirror h s (mirror_batch_record items) ≡ Some (with_mirrored items s)
next_batched h s items can taken =
    next_says h s (mirror_batch_record items) (mirrors_items items) true
    (says_items (mirror_batch_record items) items (batch_again items can)) taken

-- the tiles of a size
tiles_test : (v : MirrorView) (size : ℕ) → size % 256 ≡ 0 → v.tiled < size → size ≤ v.size
    → takes_mirror_tiles v size ≡ true
tiles_test v size multiple above within =
    rw (
      eq-eqb (size % 256) 0 multiple,
      lt-ltb v.tiled size above,
      le-leb size v.size within,
    ) refl

tiles_say : (size : ℕ) → size < 2 ^ 64 → mirror_step_in (tiles_record size) ≡ mirrors_tiles size
tiles_say size fits =
    says_tiles (tiles_record size) size (tiles_no_batch size)
    (size_again tiles_tag (omega arith) size fits)

pub view_tiled : (h : HashFunction) (v : MirrorView) (size : ℕ) → size < 2 ^ 64 → size % 256 ≡ 0
    → v.tiled < size → size ≤ v.size
    → next_mirror_view h v (tiles_record size) ≡ Some (mirror_tiled_to size v)
view_tiled h v size fits multiple above within =
    view_says h v (tiles_record size) (mirrors_tiles size) true (tiles_say size fits)
    (tiles_test v size multiple above within)

pub next_tiled : (h : HashFunction) (s : MirrorState) (size : ℕ) → size < 2 ^ 64
    → size % 256 ≡ 0 → s.tiled < size → size ≤ length s.items
    → next_mirror h s (tiles_record size) ≡ Some (with_mirror_tiles size s)
next_tiled h s size fits multiple above within =
    next_says h s (tiles_record size) (mirrors_tiles size) true (tiles_say size fits)
    (tiles_test (view_in_mirror s) size multiple above within)

-- ---- a file, by what it shows and by what it is

-- why a mirror isn't read
abbrev pub mirror_why : StateOpenError → MirrorOpenError
mirror_why (state.BadRecord k) = BadRecord k
mirror_why (state.Open why) = Open why

-- both are read, or are refused for the same reason
abbrev FailAlike : {X Y : Type 0} → Result X StateOpenError → Result Y MirrorOpenError → Type 0
FailAlike (Ok x) (Ok y) = Unit {0}
FailAlike (Ok x) (Err e) = ⊥
FailAlike (Err why) (Ok y) = ⊥
FailAlike (Err why) (Err e) = e ≡ mirror_why why

module _ (h : HashFunction) where
  -- the state after the records, and then how the file ends
  alike_state : (end : FileEnd) (t : Result MirrorState ℕ)
      → FailAlike (lifted state.BadRecord (shows t) >>= λ v. closing (view_fold h) end (Ok v))
      (lifted BadRecord t >>= λ s. closing (mirror_fold h) end (Ok s))
  alike_state at_commit_byte (Ok s) = tt
  alike_state (at_bad_length place) (Ok s) = refl
  alike_state (at_cut place) (Ok s) = refl
  alike_state end (Err k) = refl

  alike_tested : (list : List Text) (end : FileEnd)
      → FailAlike (tested (view_fold h) list end) (tested (mirror_fold h) list end)
  alike_tested [] at_commit_byte = refl
  alike_tested [] (at_bad_length place) = refl
  alike_tested [] (at_cut place) = refl
  alike_tested (first ∷ bodies) end =
      subst (λ r. FailAlike (lifted state.BadRecord r >>= λ v. closing (view_fold h) end (Ok v))
      (tested (mirror_fold h) (first ∷ bodies) end)) (sym (state_shows h (first ∷ bodies)))
      (alike_state end (state_after (mirror_fold h) (first ∷ bodies)))

  alike_walked : (walk : FileWalk)
      → FailAlike (walked (view_fold h) walk) (walked (mirror_fold h) walk)
  alike_walked walk = each (tested (view_fold h) walk.records walk.end)
      (tested (mirror_fold h) walk.records walk.end) (alike_tested walk.records walk.end)
    where
      each : (r : Result MirrorView StateOpenError) (t : Result MirrorState MirrorOpenError)
          → FailAlike r t → FailAlike {X = Found MirrorView} {Y = Found MirrorState}
          (r >>= λ v. Ok (record { records = walk.records; state = v }))
          (t >>= λ s. Ok (record { records = walk.records; state = s }))
      each (Ok v) (Ok s) is = tt
      each (Ok v) (Err e) is = absurd is
      each (Err why) (Ok s) is = absurd is
      each (Err why) (Err e) is = is

  alike_read : (bytes : Text)
      → FailAlike (read_by (view_fold h) bytes) (read_by (mirror_fold h) bytes)
  unfolding read_by
  alike_read bytes = by_test (bytes_eq (take 16 bytes) header)
    where
      by_test : (b : Bool) → FailAlike
          (if b then walked (view_fold h) (walk_of bytes) else Err (state.Open NotJournal))
          (if b then walked (mirror_fold h) (walk_of bytes) else Err (Open NotJournal))
      by_test true = alike_walked (walk_of bytes)
      by_test false = refl

  -- A file that is refused by what it shows is refused as a mirror.
  pub mirror_refused : (contents : Option Text) (why : StateOpenError)
      → AreRefused (view_fold h) contents why
      → AreRefused (mirror_fold h) contents (mirror_why why)
  mirror_refused contents why refused =
      if_some (λ bytes. read_by (view_fold h) bytes ≡ Err why)
      (λ bytes. read_by (mirror_fold h) bytes ≡ Err (mirror_why why)) contents
      (λ bytes is. at (read_by (mirror_fold h) bytes)
      (subst (λ r. FailAlike r (read_by (mirror_fold h) bytes)) is (alike_read bytes))) refused
    where
      at : (t : Result (Found MirrorState) MirrorOpenError)
          → FailAlike {X = Found MirrorView} (Err why) t → t ≡ Err (mirror_why why)
      at (Ok found) same = absurd same
      at (Err e) same = ap Err same
