-- A record that is no size of tiles leaves it so that the tiles go with the records.
use Rattle.std.proofs.Common.{◌≡◌, ◌≢◌, ◌^◌, ◌≤◌, ℕ, List, [], ◌∷◌, ◌++◌, length, Option, None}
use Rattle.std.proofs.Common.{Some, Ok, Err, refl, subst, sym, ap, ◌∙◌, arith}
use Rattle.std.specs.Int.{w8, w16, w64}
use Rattle.std.specs.Prelude.{flat_map, map}
use Rattle.std.proofs.lemmas.List.{length-map, map-append}
use Rattle.byte_formats.specs.Types.{HashFunction, Text}
use Rattle.byte_formats.proofs.Steps.{ok_is}
use Rattle.journal_core.proofs.Folds.{state_next, state_stops}
use Rattle.tls_wire.specs.Encoding.{number, vector}
use Rattle.tls_wire.specs.Reading.{number_at}
use Rattle.tls_wire.proofs.Numbers.{number_form, wide8}
use Rattle.tile_store.specs.Contents.{HoldsTiles}
use Rattle.tile_store.proofs.Grown.{tile-longer}
use Rattle.tile_store.proofs.Numbers.{full-more}
use Rattle.tree_core.specs.Tree.{leaf_hash}
use Rattle.authority_core.specs.Requests.{RequestParts}
use Rattle.issuance_log.specs.Folds.{LogState, LogView, log_after_step, log_fold, log_of}
use Rattle.issuance_log.specs.Folds.{next_log, takes_items, takes_landmark, takes_switch, view_in}
use Rattle.issuance_log.specs.Folds.{with_items, with_mark, with_switch}
use Rattle.issuance_log.specs.LogSteps.{log_step}
use Rattle.issuance_log.specs.Records.{added_in, batch_record, batch_tag, entry_record, entry_tag}
use Rattle.issuance_log.specs.Records.{item_text, landmark_record, landmark_tag, mark_in, size_in}
use Rattle.issuance_log.specs.Records.{size_record, tagged}
use Rattle.issuance_log.specs.Records.{switch_in, tiled_in, tiles_tag}
use Rattle.issuance_log.specs.declared.error.LogError.{LogError}
use Rattle.issuance_log.proofs.After.{when}
use Rattle.issuance_log.proofs.Encoded.{next_says, switch_no_tiles}
use Rattle.issuance_log.proofs.Steps.{says_so}
use Rattle.mtc_command.specs.Made.{Journaled, appended, reads, started, untouched}
use Rattle.mtc_command.specs.Works.{journaled_by}
use Rattle.mtc_authority.specs.IssueOutcome.{issued_by}
use Rattle.mtc_authority.specs.LandmarkOutcomes.{marked_by}
use Rattle.mtc_authority.specs.ListOutcomes.{list_issued_by}
use Rattle.mtc_authority.specs.StoredTiles.{HasTilesOf}
use Rattle.mtc_authority.specs.SwitchOutcome.{switched_by}
use Rattle.mtc_authority.specs.Works.{found_log, log_says}
use Rattle.mtc_authority.specs.declared.work.Work.{Work}
use Rattle.mtc_authority.specs.declared.work.Work.TheVariants.{Cert, Certs, Checkpoint, Consist}
use Rattle.mtc_authority.specs.declared.work.Work.TheVariants.{Entries, EntriesFrom, Issue}
use Rattle.mtc_authority.specs.declared.work.Work.TheVariants.{IssueList, Landmark, Landmarks}
use Rattle.mtc_authority.specs.declared.work.Work.TheVariants.{LightCert, LightCerts, Subtree}
use Rattle.mtc_authority.specs.declared.work.Work.TheVariants.{Switch, Tile}

-- an Entry, a Batch and a Landmark are no Tiles
entry_plain : (entry key : Text) → tiled_in (entry_record entry key) ≡ None
unfolding size_in entry_record
entry_plain entry key = ap (tagged tiles_tag (number_at w64))
    ((number_form w8 (2 ^ 8) wide8).again entry_tag 0 (vector w16 entry ++ vector w16 key)
    (omega arith) tt)

batch_plain : (items : List (Text × Text)) → tiled_in (batch_record items) ≡ None
unfolding size_in batch_record
batch_plain items = ap (tagged tiles_tag (number_at w64))
    ((number_form w8 (2 ^ 8) wide8).again batch_tag 0
    (number w16 (length items) ++ flat_map item_text items) (omega arith) tt)

mark_plain : (size : ℕ) → tiled_in (landmark_record size) ≡ None
unfolding size_in size_record
mark_plain size = ap (tagged tiles_tag (number_at w64))
    ((number_form w8 (2 ^ 8) wide8).again landmark_tag 0 (number w64 size) (omega arith) tt)

module _ (h : HashFunction) (s : LogState) (within : s.tiled ≤ length s.entries) (t : Text) where
  abbrev Holds : LogState → Type 0
  Holds u = HoldsTiles h (map (leaf_hash h) u.entries) u.tiled t

  -- the tiles of more entries
  longer : (items : List (Text × Text)) → Holds s → Holds (with_items items s)
  longer items holds =
      let more = map (λ item. item.0) items in
      let leaves = map (leaf_hash h) s.entries in
      let few : s.tiled ≤ length leaves =
      subst (λ (n : ℕ). s.tiled ≤ n) (sym (length-map s.entries (leaf_hash h))) within in
      subst (λ l. HoldsTiles h l s.tiled t) (sym (map-append (leaf_hash h) s.entries more))
      (λ level place full. tile-longer h leaves (map (leaf_hash h) more) level place _
      (full-more s.tiled (length leaves) level place few full) (holds level place full))

  changed_holds : (u : LogState) (added : Option (List (Text × Text))) (mark switch : Option ℕ)
      → log_after_step h s (log_step added mark None switch) ≡ Some u → Holds s → Holds u
  changed_holds u (Some items) mark switch is holds =
      subst Holds (when (takes_items h (view_in s) items) (with_items items s) u is)
      (longer items holds)
  changed_holds u None (Some size) switch is holds =
      subst Holds (when (takes_landmark (view_in s) size) (with_mark s) u is) holds
  changed_holds u None None (Some index) is holds =
      subst Holds (when (takes_switch (view_in s) index) (with_switch s) u is) holds
  changed_holds u None None None is holds = let wrong : None ≡ Some u = is in absurd cc

  module _ (list : List Text) (body : Text) (made : log_of h list ≡ Ok s)
      (plain : tiled_in body ≡ None) where
    next_holds : (u : LogState) → next_log h s body ≡ Some u → Holds s → Holds u
    next_holds u is holds =
        let said = says_so body (added_in body) (mark_in body) None (switch_in body) refl refl plain
        refl in
        changed_holds u (added_in body) (mark_in body) (switch_in body)
        (sym (next_says h s body _ said) ∙ is) holds

    go : (u : LogState) (o : Option LogState) → next_log h s body ≡ o
        → log_of h (list ++ body ∷ []) ≡ Ok u → Holds s → Holds u
    go u None is next holds =
        let wrong : Err (length list) ≡ Ok u
        = sym (state_stops (log_fold h) list s body [] made is) ∙ next in
        absurd cc
    go u (Some v) is next holds =
        let same = ok_is ℕ v u (sym (state_next (log_fold h) list s body v made is) ∙ next) in
        subst Holds same (next_holds v is holds)

    -- they go with the record too
    pub plain_goes : HasTilesOf h list t → HasTilesOf h (list ++ body ∷ []) t
    plain_goes goes u next = go u (next_log h s body) refl next (goes s made)

-- ---- the work of each command but `tile`

module _ (h : HashFunction) where
  -- the tiles go with the record that is added
  abbrev pub IsPlain : Journaled → Type 0
  IsPlain untouched = Unit {0}
  IsPlain (reads list) = Unit {0}
  IsPlain (appended list body) =
      (t : Text) → HasTilesOf h list t → HasTilesOf h (list ++ body ∷ []) t
  IsPlain (started body) = Unit {0}

  module _ (s : LogState) (list : List Text) (within : s.tiled ≤ length s.entries)
      (made : log_of h list ≡ Ok s) where
    issue_plain : (r : RequestParts) (v : LogView) (why : Option LogError)
        → IsPlain (journaled_by (issued_by h r v list why))
    issue_plain r v None = λ t. plain_goes h s within t list _ made (entry_plain _ _)
    issue_plain r v (Some why) = tt

    list_plain : (rs : List RequestParts) (v : LogView) (why : Option LogError)
        → IsPlain (journaled_by (list_issued_by h rs v list why))
    list_plain rs v None = λ t. plain_goes h s within t list _ made (batch_plain _)
    list_plain rs v (Some why) = tt

    landmark_plain : (v : LogView) (why : Option LogError)
        → IsPlain (journaled_by (marked_by v list why))
    landmark_plain v None = λ t. plain_goes h s within t list _ made (mark_plain _)
    landmark_plain v (Some why) = tt

    switch_plain : (v : LogView) (why : Option LogError)
        → IsPlain (journaled_by (switched_by v list why))
    switch_plain v None = λ t. plain_goes h s within t list _ made (switch_no_tiles _)
    switch_plain v (Some why) = tt

    pub says_plain : (work : Work) → work ≢ Tile
        → IsPlain (journaled_by (log_says h work (found_log s list)))
    unfolding log_says
    says_plain Checkpoint other = tt
    says_plain (Entries size) other = tt
    says_plain (EntriesFrom first size) other = tt
    says_plain (Issue request) other = issue_plain _ (view_in s) _
    says_plain (Consist old new) other = tt
    says_plain (Subtree start end size) other = tt
    says_plain Landmark other = landmark_plain (view_in s) _
    says_plain Switch other = switch_plain (view_in s) _
    says_plain Landmarks other = tt
    says_plain (LightCert index) other = tt
    says_plain (Cert index start end signatures) other = tt
    says_plain (IssueList requests) other = list_plain _ (view_in s) _
    says_plain (LightCerts first last) other = tt
    says_plain (Certs first last start end signatures) other = tt
    says_plain Tile other = absurd (other refl)
