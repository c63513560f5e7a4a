-- A log that is opened on the devices of its journal and of its tiles.
use Rattle.std.proofs.Common.{◌≡◌, ◌∙◌, ℕ, List, Option, None, IfSome, Ok, Some, ap, option_map}
use Rattle.byte_formats.specs.Types.{HashFunction, Text}
use Rattle.disk_core.specs.Times.{OnlyReads}
use Rattle.disk_core.specs.declared.disk.Disk.{Ghosts}
use Rattle.issuance_log.specs.Folds.{LogState}
use Rattle.issuance_log.specs.Openings.{HasItsTiles, HasOpenCause, IsBadTile, log_read}
use Rattle.issuance_log.specs.Reasons.{log_open_text}
use Rattle.issuance_log.specs.declared.error.LogOpenError.{LogOpenError}
use Rattle.issuance_log.specs.declared.error.LogOpenError.TheVariants.{BadRecord, Open}
use Rattle.issuance_log.specs.declared.error.LogOpenError.TheVariants.{Tile as NoTiles}
use Rattle.tile_store.specs.declared.error.TileError.TheVariants as tile_error
use Rattle.mtc_command.specs.Answers.{bad_tile}
use Rattle.mtc_command.specs.Steps.{Outcome, answers, with_form}
use Rattle.mtc_command.specs.Works.{HasWorkedTiledOn}
use Rattle.mtc_tiled.proofs.Refused.{bad_tile_says, journal_says, party_says, tiles_say}
use Rattle.mtc_authority.specs.OpenLogs.{RefusesNoLog, log_party}
use Rattle.mtc_authority.specs.Works.{found_log, log_bytes_say, log_open_ending}
use Rattle.mtc_authority.specs.Works.{log_says, tested_says, unless_missing}
use Rattle.mtc_authority.specs.declared.work.Work.{Work}
use Rattle.mtc_authority.proofs.Appends.{mapped_some}
use Rattle.mtc_authority.proofs.BadTiles.{bad_is, none_bad}

module _ (h : HashFunction) (name : Text) (work : Work) where
  -- the outcome of the bytes of both is that of the log that was found
  found_says : (contents tiles : Option Text) (list : Option (List Text))
      (state : List Text → LogState)
      → IfSome contents (λ b. IfSome list (λ l. log_read h b ≡ Ok (found_log (state l) l)))
      → IfSome list (λ l. IfSome tiles (HasItsTiles h (state l)))
      → IfSome tiles (λ held. IfSome contents (λ b. IfSome list (λ l.
      log_bytes_say h name work b held ≡ log_says h work (found_log (state l) l))))
  found_says contents None list state found all = tt
  found_says None (Some held) list state found all = tt
  found_says (Some b) (Some held) None state found all = tt
  found_says (Some b) (Some held) (Some l) state found all =
      ap (λ r. with_form log_open_text name r (tested_says h name work held)) found
      ∙ ap (λ o. unless_missing name o (log_says h work (found_log (state l) l)))
      (none_bad h (state l) held all)

  pub found_tiles : (contents tiles : Option Text) (list : Option (List Text))
      (state : List Text → LogState)
      → IfSome contents (λ b. IfSome list (λ l. log_read h b ≡ Ok (found_log (state l) l)))
      → IfSome (option_map state list) (λ s. IfSome tiles (HasItsTiles h s))
      → IfSome tiles (λ held. IfSome contents (λ b. IfSome list (λ l.
      log_bytes_say h name work b held ≡ log_says h work (found_log (state l) l))))
  found_tiles contents tiles list state found all = found_says contents tiles list state found
      (mapped_some state list (λ s. IfSome tiles (HasItsTiles h s)) all)

  -- the outcome where a tile isn't there
  bad_says : (contents tiles : Option Text) (level place : ℕ)
      → IfSome contents (λ b. IfSome tiles (λ held. IsBadTile h b held level place))
      → IfSome contents (λ b. IfSome tiles (λ held.
      log_bytes_say h name work b held ≡ answers (bad_tile name level place)))
  bad_says None tiles level place bad = tt
  bad_says (Some b) None level place bad = tt
  bad_says (Some b) (Some held) level place bad =
      ap (λ r. with_form log_open_text name r (tested_says h name work held)) bad.is
      ∙ ap (λ o. unless_missing name o (log_says h work bad.found))
      (bad_is h bad.found.state held level place bad.few bad.bad)

-- A log that wasn't opened, by a command that refuses what is no log. The device of its journal was
-- read since it was opened, as `old`.
module _ (h : HashFunction) (name : Text) (says : Text → Text → Outcome)
    (refuses : RefusesNoLog h name says) {D : Type 0} (g : Ghosts D)
    (old mid new tiles tiles' : D) (first : OnlyReads g old mid)
    (fine : g.faults mid ≡ g.faults old) (second : OnlyReads g mid new) where
  -- if it is a bad tile, that is refused
  abbrev pub BadTileSays : LogOpenError → Type 0
  BadTileSays (NoTiles (tile_error.BadTile level place)) = IfSome (g.contents mid) (λ b.
      IfSome (g.contents tiles) (λ held. says b held ≡ answers (bad_tile name level place)))
  BadTileSays why = Unit {0}

  pub refused_says : (why : LogOpenError) → BadTileSays why
      → HasOpenCause g g h mid new tiles tiles' why
      → HasWorkedTiledOn g name says old new tiles tiles' (log_open_ending name why)
  refused_says (Open why) bad is = journal_says (log_party h) name says refuses g old mid new tiles
      tiles' first fine second why is
  refused_says (NoTiles tile_error.Failed) bad is = tiles_say (log_party h) name says refuses g old
      mid new tiles tiles' first fine second is
  refused_says (NoTiles (tile_error.BadTile level place)) bad is = bad_tile_says (log_party h) name
      says refuses g old mid new tiles tiles' first fine second level place bad
  refused_says (BadRecord number) bad is = party_says (log_party h) name says refuses g old mid new
      tiles tiles' first fine second (BadRecord number) is

-- ---- each command on an open log

module _ (h : HashFunction) (name : Text) (work : Work) where
  pub work_refuses : RefusesNoLog h name (log_bytes_say h name work)
  work_refuses bytes held why is =
      ap (λ r. with_form log_open_text name r (tested_says h name work held)) is

  pub bad_for : {D : Type 0} (g : Ghosts D) (old mid new tiles tiles' : D)
      (first : OnlyReads g old mid) (fine : g.faults mid ≡ g.faults old)
      (second : OnlyReads g mid new) (why : LogOpenError)
      → HasOpenCause g g h mid new tiles tiles' why
      → BadTileSays h name (log_bytes_say h name work) work_refuses g old mid new tiles tiles'
      first fine second why
  bad_for g old mid new tiles tiles' first fine second
      (NoTiles (tile_error.BadTile level place)) is =
      bad_says h name work (g.contents mid) (g.contents tiles) level place is
  bad_for g old mid new tiles tiles' first fine second why is = tt
