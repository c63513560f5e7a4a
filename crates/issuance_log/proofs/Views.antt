-- What a log shows over every disk, record by record.
use Rattle.std.proofs.Common.{◌≡◌, ℕ, ◌+◌, ◌%◌, ◌^◌, ◌<◌, ◌≤◌, Bool, true, false, List}
use Rattle.std.proofs.Common.{[], ◌∷◌, ◌++◌, length, drop, Option, Some, None, option_map, Result}
use Rattle.std.proofs.Common.{Ok, Err, IfOk, is_ok, refl, ap, sym, ◌∙◌, arith}
use Rattle.std.specs.Prelude.{◌&&◌, if◌then◌else◌, map, nat_lt}
use Rattle.std.specs.Result.{result_map_both}
use Rattle.std.proofs.lemmas.Bool.{and_parts, eq-eqb, le-leb, lt-ltb, ltb-true}
use Rattle.std.proofs.lemmas.List.{length-append, length-map, length_push}
use Rattle.std.proofs.Math.Bool.{and-true}
use Rattle.byte_formats.specs.Types.{Text, HashFunction}
use Rattle.byte_formats.specs.Readings.{◌>>=◌, some_or}
use Rattle.journal_core.specs.Folds.{Fold, state_after, taken_from}
use Rattle.log_entry.specs.Matching.{has_form, matches}
use Rattle.state_journal.specs.declared.error.StateOpenError.{StateOpenError}
use Rattle.state_journal.specs.declared.error.StateOpenError.TheVariants.{BadRecord, Open}
use Rattle.issuance_log.specs.Folds.{LogState, LogView, begun_log, begun_view, log_by_step}
use Rattle.issuance_log.specs.Folds.{log_fold, next_log}
use Rattle.issuance_log.specs.Folds.{more_entries, next_view, one_item_more, one_mark_more}
use Rattle.issuance_log.specs.Folds.{takes_entry, takes_items, with_items}
use Rattle.issuance_log.specs.Folds.{log_form, switched_now, takes_landmark, takes_log_step}
use Rattle.issuance_log.specs.Folds.{takes_switch, takes_tiles, tiled_to, view_after_step}
use Rattle.issuance_log.specs.Folds.{view_by_step, view_in, with_item}
use Rattle.issuance_log.specs.LogSteps.{LogStep, adds_items, log_step_in, sets_mark, stores_tiles}
use Rattle.issuance_log.specs.LogSteps.{switches, unknown_step}
use Rattle.issuance_log.specs.Marks.{last_mark}
use Rattle.issuance_log.specs.Records.{CanBeBatch, IsShort, added_in, batch_record}
use Rattle.issuance_log.specs.Records.{entry_record, item_in, landmark_record}
use Rattle.issuance_log.specs.Records.{landmark_tag, switch_record, switch_tag, tiles_record}
use Rattle.issuance_log.specs.Records.{tiles_tag}
use Rattle.issuance_log.specs.Results.{HasTried}
use Rattle.issuance_log.proofs.After.{last_follows, last_not}
use Rattle.issuance_log.proofs.Encoded.{batch_adds, item_again, mark_adds_none, size_again}
use Rattle.issuance_log.proofs.Encoded.{switch_adds_none, switch_no_mark, switch_no_tiles}
use Rattle.issuance_log.proofs.Encoded.{tiles_add_none, tiles_no_mark}
use Rattle.issuance_log.proofs.Steps.{added_by_entry, says_items, says_mark, says_switch}
use Rattle.issuance_log.proofs.Steps.{says_tiles}

-- what is shown as a kind of journal
abbrev pub view_fold : HashFunction → Fold LogView StateOpenError
view_fold h = record {
  begins = begun_view;
  takes = next_view h;
  bad_record = BadRecord;
  not_read = Open;
}

pub view_item : (s : LogState) (entry key : Text)
    → view_in (with_item entry key s) ≡ one_item_more (view_in s)
view_item s entry key =
    ap (λ (n : ℕ). record {
      settings = s.settings;
      size = n;
      marks = s.marks;
      tiled = s.tiled;
      switched = s.switched;
    }) (length_push s.entries entry)

view_items : (s : LogState) (items : List (Text × Text))
    → view_in (with_items items s) ≡ more_entries (length items) (view_in s)
view_items s items =
    ap (λ (n : ℕ). record {
      settings = s.settings;
      size = n;
      marks = s.marks;
      tiled = s.tiled;
      switched = s.switched;
    }) (length-append s.entries (map (λ item. item.0) items)
    ∙ ap (λ (n : ℕ). length s.entries + n) (length-map items (λ item. item.0)))

map_if : (b : Bool) (s : LogState) (v : LogView) → v ≡ view_in s
    → (if b then Some v else None) ≡ option_map view_in (if b then Some s else None)
map_if true s v is = ap Some is
map_if false s v is = refl

view_step : (x : LogStep) (s : LogState)
    → view_in (log_by_step x s) ≡ view_by_step x (view_in s)
view_step (adds_items items) s = view_items s items
view_step (sets_mark size) s = refl
view_step (stores_tiles size) s = refl
view_step (switches index) s = refl
view_step unknown_step s = refl

pub views_follow : (h : HashFunction) (s : LogState) (body : Text)
    → next_view h (view_in s) body ≡ option_map view_in (next_log h s body)
unfolding next_log next_view
views_follow h s body =
    let x = log_step_in body in
    map_if (takes_log_step h (view_in s) x) (log_by_step x s) (view_by_step x (view_in s))
    (sym (view_step x s))

-- ---- records, by what is shown and by what they are

abbrev pub shows : Result LogState ℕ → Result LogView ℕ
shows = result_map_both view_in (λ k. k)

each_shows : (h : HashFunction) (k : ℕ) (bodies : List Text) (o : Option LogState)
    → ((s : LogState) → taken_from (view_fold h) (k + 1) (view_in s) bodies
    ≡ shows (taken_from (log_fold h) (k + 1) s bodies))
    → (some_or k (option_map view_in o)
    >>= λ (v : LogView). taken_from (view_fold h) (k + 1) v bodies)
    ≡ shows (some_or k o >>= λ (s : LogState). taken_from (log_fold h) (k + 1) s bodies)
each_shows h k bodies None rest = refl
each_shows h k bodies (Some s) rest = rest s

taken_shows : (h : HashFunction) (k : ℕ) (s : LogState) (bodies : List Text)
    → taken_from (view_fold h) k (view_in s) bodies ≡ shows (taken_from (log_fold h) k s bodies)
unfolding taken_from
taken_shows h k s [] = refl
taken_shows h k s (body ∷ bodies) =
    ap (λ (o : Option LogView). some_or k o
    >>= λ (v : LogView). taken_from (view_fold h) (k + 1) v bodies) (views_follow h s body)
    ∙ each_shows h k bodies (next_log h s body) (λ u. taken_shows h (k + 1) u bodies)

pub state_shows : (h : HashFunction) (list : List Text)
    → state_after (view_fold h) list ≡ shows (state_after (log_fold h) list)
unfolding state_after
state_shows h [] = refl
state_shows h (first ∷ bodies) =
    each_shows h 0 bodies (begun_log first) (λ s. taken_shows h 1 s bodies)

-- what is shown takes them exactly if the log takes them
pub views_taken : (h : HashFunction) (k : ℕ) (s : LogState) (bodies : List Text)
    → is_ok (taken_from (view_fold h) k (view_in s) bodies)
    ≡ is_ok (taken_from (log_fold h) k s bodies)
views_taken h k s bodies =
    ap is_ok (taken_shows h k s bodies) ∙ still (taken_from (log_fold h) k s bodies)
  where
    still : (r : Result LogState ℕ) → is_ok (shows r) ≡ is_ok r
    still (Ok s) = refl
    still (Err k) = refl

pub last_tried : {E : Type 0} (h : HashFunction) (wanted : Result LogView ℕ) (k : ℕ)
    (v w : LogView) (bodies : List Text) (i : ℕ) (body : Text) (result : Result Bool E)
    → length bodies ≤ i
    → taken_from (view_fold h) k v (drop i bodies ++ body ∷ []) ≡ wanted
    → HasTried (next_view h v body) w result → IfOk result (λ may. may ≡ is_ok wanted)
last_tried h wanted k v w bodies i body (Ok true) past so_far tried =
    last_follows (view_fold h) wanted k v w bodies i body past so_far tried
last_tried h wanted k v w bodies i body (Ok false) past so_far tried =
    last_not (view_fold h) wanted k v bodies i body past so_far tried
last_tried h wanted k v w bodies i body (Err refused) past so_far tried = tt

-- what a record that was tried says
pub was_taken : (wanted : Option LogView) (w : LogView) (E : Type 0) (b : Bool)
    → HasTried {E = E} wanted w (Ok b) → b ≡ true → wanted ≡ Some w
was_taken wanted w E true tried is = tried
was_taken wanted w E false tried is = let wrong : false ≡ true = is in absurd cc

pub was_not : (wanted : Option LogView) (w : LogView) (E : Type 0) (b : Bool)
    → HasTried {E = E} wanted w (Ok b) → b ≡ false → wanted ≡ None
was_not wanted w E false tried is = tried
was_not wanted w E true tried is = let wrong : true ≡ false = is in absurd cc

-- ---- the five records, by what is shown

view_says : (h : HashFunction) (v : LogView) (body : Text) (x : LogStep) → log_step_in body ≡ x
    → next_view h v body ≡ view_after_step h v x
unfolding next_view
view_says h v body x is = ap (view_after_step h v) is

-- an item that is taken, or isn't
view_item_is : (h : HashFunction) (v : LogView) (body : Text) (x : Text × Text) (b : Bool)
    → item_in body ≡ Some x → takes_entry h v x ≡ b
    → next_view h v body ≡ (if b then Some (one_item_more v) else None)
view_item_is h v body x b is takes =
    view_says h v body (adds_items (x ∷ []))
    (says_items body (x ∷ []) (added_by_entry body x is))
    ∙ ap (λ (t : Bool). if t then Some (one_item_more v) else None)
    (ap (λ (t : Bool). t && true) takes ∙ and-true b)

pub item_taken : (h : HashFunction) (v : LogView) (body : Text) (x : Text × Text)
    → item_in body ≡ Some x → takes_entry h v x ≡ true → next_view h v body ≡ Some (one_item_more v)
item_taken h v body x is takes = view_item_is h v body x true is takes

pub item_refused : (h : HashFunction) (v : LogView) (body : Text) (x : Text × Text)
    → item_in body ≡ Some x → takes_entry h v x ≡ false → next_view h v body ≡ None
item_refused h v body x is takes = view_item_is h v body x false is takes

-- the items of a Batch that are taken, or aren't
view_items_are : (h : HashFunction) (v : LogView) (body : Text) (items : List (Text × Text))
    (b : Bool) → added_in body ≡ Some items → takes_items h v items ≡ b
    → next_view h v body ≡ (if b then Some (more_entries (length items) v) else None)
view_items_are h v body items b is takes =
    view_says h v body (adds_items items) (says_items body items is)
    ∙ ap (λ (t : Bool). if t then Some (more_entries (length items) v) else None) takes

pub items_taken : (h : HashFunction) (v : LogView) (body : Text) (items : List (Text × Text))
    → added_in body ≡ Some items → takes_items h v items ≡ true
    → next_view h v body ≡ Some (more_entries (length items) v)
items_taken h v body items is takes = view_items_are h v body items true is takes

pub items_refused : (h : HashFunction) (v : LogView) (body : Text) (items : List (Text × Text))
    → added_in body ≡ Some items → takes_items h v items ≡ false → next_view h v body ≡ None
items_refused h v body items is takes = view_items_are h v body items false is takes

pub taken_capacity : (h : HashFunction) (v : LogView) (x : Text × Text) → takes_entry h v x ≡ true
    → v.size < v.settings.limit
taken_capacity h v x takes = ltb-true v.size v.settings.limit
    (and_parts (nat_lt v.size v.settings.limit) (has_form (log_form v) x.0 && matches h x.0 x.1)
    takes).0

pub view_added : (h : HashFunction) (v : LogView) (entry key : Text)
    → v.size < v.settings.limit → IsShort entry → IsShort key
    → has_form (log_form v) entry ≡ true → matches h entry key ≡ true
    → next_view h v (entry_record entry key) ≡ Some (one_item_more v)
view_added h v entry key capacity few_entry few_key form belongs =
    let test : takes_entry h v (entry, key) ≡ true =
    rw (lt-ltb v.size v.settings.limit capacity, form, belongs) refl in
    item_taken h v (entry_record entry key) (entry, key)
    (item_again entry key few_entry few_key) test

pub view_batched : (h : HashFunction) (v : LogView) (items : List (Text × Text))
    → CanBeBatch items → takes_items h v items ≡ true
    → next_view h v (batch_record items) ≡ Some (more_entries (length items) v)
view_batched h v items can taken =
    items_taken h v (batch_record items) items (batch_adds items can) taken

pub view_marked : (h : HashFunction) (v : LogView) → v.size < 2 ^ 64 → last_mark v.marks < v.size
    → next_view h v (landmark_record v.size) ≡ Some (one_mark_more v)
view_marked h v fits above =
    let test : takes_landmark v v.size ≡ true =
    rw (eq-eqb v.size v.size refl, lt-ltb (last_mark v.marks) v.size above) refl in
    view_says h v (landmark_record v.size) (sets_mark v.size)
    (says_mark (landmark_record v.size) v.size (mark_adds_none v.size)
    (size_again landmark_tag (omega arith) v.size fits))
    ∙ ap (λ (b : Bool). if b then Some (one_mark_more v) else None) test

pub view_tiled : (h : HashFunction) (v : LogView) (size : ℕ) → size < 2 ^ 64 → size % 256 ≡ 0
    → v.tiled < size → size ≤ v.size
    → next_view h v (tiles_record size) ≡ Some (tiled_to size v)
view_tiled h v size fits multiple above within =
    let test : takes_tiles v size ≡ true =
    rw (
      eq-eqb (size % 256) 0 multiple,
      lt-ltb v.tiled size above,
      le-leb size v.size within,
    ) refl in
    view_says h v (tiles_record size) (stores_tiles size)
    (says_tiles (tiles_record size) size (tiles_add_none size) (tiles_no_mark size)
    (size_again tiles_tag (omega arith) size fits))
    ∙ ap (λ (b : Bool). if b then Some (tiled_to size v) else None) test

pub view_switched : (h : HashFunction) (v : LogView) → v.size < 2 ^ 64 → v.switched ≡ None
    → next_view h v (switch_record v.size) ≡ Some (switched_now v)
view_switched h v fits first =
    let test : takes_switch v v.size ≡ true = rw (first, eq-eqb v.size v.size refl) refl in
    view_says h v (switch_record v.size) (switches v.size)
    (says_switch (switch_record v.size) v.size (switch_adds_none v.size) (switch_no_mark v.size)
    (switch_no_tiles v.size) (size_again switch_tag (omega arith) v.size fits))
    ∙ ap (λ (b : Bool). if b then Some (switched_now v) else None) test
