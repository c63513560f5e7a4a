-- A mirror that is opened on the devices of its journal and of its tiles, or isn't.
use Rattle.std.proofs.Common.{◌≡◌, ◌∙◌, ℕ, List, Option, None, IfSome, Ok, Some, ap, option_map}
use Rattle.std.proofs.Common.{inl, inr, subst, sym}
use Rattle.byte_formats.specs.Types.{HashFunction, Text}
use Rattle.disk_core.specs.Times.{OnlyReads}
use Rattle.disk_core.specs.declared.disk.Disk.{Ghosts}
use Rattle.mirror_core.specs.Folds.{MirrorState}
use Rattle.mirror_core.specs.Openings.{FoundMirror, HasMirrorOpenCause, HasMirrorTiles}
use Rattle.mirror_core.specs.Openings.{IsBadMirrorTile, mirror_read}
use Rattle.mirror_core.specs.Reasons.{mirror_open_text}
use Rattle.mirror_core.specs.declared.error.MirrorOpenError.{MirrorOpenError}
use Rattle.mirror_core.specs.declared.error.MirrorOpenError.TheVariants.{BadRecord, Open}
use Rattle.mirror_core.specs.declared.error.MirrorOpenError.TheVariants.{Tile as NoTiles}
use Rattle.tile_store.specs.declared.error.TileError.TheVariants as tile_error
use Rattle.mtc_room.specs.declared.room.Room.{Ghosts as Rooms}
use Rattle.mtc_command.specs.Answers.{Ending, bad_tile}
use Rattle.mtc_command.specs.Steps.{Outcome, answers, with_form}
use Rattle.mtc_command.specs.Works.{HasWorkedTiledOn}
use Rattle.mtc_command.proofs.Beside.{ModelsAll}
use Rattle.mtc_command.proofs.Made.{OnlyNow}
use Rattle.mtc_tiled.specs.BadTiles.{unless_missing}
use Rattle.mtc_tiled.specs.Openings.{PartyWasNotOpened}
use Rattle.mtc_tiled.specs.Parties.{RefusesNoParty}
use Rattle.mtc_tiled.proofs.NotOpened.{both_read, party_not_opened}
use Rattle.mtc_tiled.proofs.Refused.{bad_tile_says, journal_says, party_says, tiles_say}
use Rattle.mtc_mirror.specs.OpenMirrors.{MirrorWasNotOpened, MirrorWasRefused, mirror_party}
use Rattle.mtc_mirror.specs.Works.{found_mirror, mirror_bytes_say, mirror_open_ending}
use Rattle.mtc_mirror.specs.Works.{mirror_tested_says}
use Rattle.mtc_mirror.proofs.BadTiles.{mirror_bad_is, mirror_has_all}

-- of what is made of a thing, and of the thing
pub made_some : {X Y : Type 0} (f : X → Y) (o : Option X) (P : Y → Type 0)
    → IfSome (option_map f o) P → IfSome o (λ x. P (f x))
made_some f None P is = tt
made_some f (Some x) P is = is

-- A command that has to give this over a mirror that is found.
module _ (h : HashFunction) (name : Text) (says : FoundMirror → Outcome) where
  abbrev its : Text → Text → Outcome
  its = mirror_bytes_say h name says

  -- the outcome of the bytes of both is that of the mirror that was found
  found_both : (contents tiles : Option Text) (list : Option (List Text))
      (state : List Text → MirrorState)
      → IfSome contents (λ b. IfSome list (λ l. mirror_read h b ≡ Ok (found_mirror (state l) l)))
      → IfSome list (λ l. IfSome tiles (HasMirrorTiles h (state l)))
      → IfSome tiles (λ held. IfSome contents (λ b. IfSome list (λ l.
      its b held ≡ says (found_mirror (state l) l))))
  found_both contents None list state found all = tt
  found_both None (Some held) list state found all = tt
  found_both (Some b) (Some held) None state found all = tt
  found_both (Some b) (Some held) (Some l) state found all =
      ap (λ r. with_form mirror_open_text name r (mirror_tested_says h name says held)) found
      ∙ ap (λ o. unless_missing name o (says (found_mirror (state l) l)))
      (mirror_has_all h (state l) held all)

  pub mirror_found : (contents tiles : Option Text) (list : Option (List Text))
      (state : List Text → MirrorState)
      → IfSome contents (λ b. IfSome list (λ l. mirror_read h b ≡ Ok (found_mirror (state l) l)))
      → IfSome (option_map state list) (λ s. IfSome tiles (HasMirrorTiles h s))
      → IfSome tiles (λ held. IfSome contents (λ b. IfSome list (λ l.
      its b held ≡ says (found_mirror (state l) l))))
  mirror_found contents tiles list state found all = found_both contents tiles list state found
      (made_some state list (λ s. IfSome tiles (HasMirrorTiles h s)) all)

  -- the outcome where a tile isn't there
  bad_says : (contents tiles : Option Text) (level place : ℕ)
      → IfSome contents (λ b. IfSome tiles (λ held. IsBadMirrorTile h b held level place))
      → IfSome contents (λ b. IfSome tiles (λ held.
      its b held ≡ answers (bad_tile name level place)))
  bad_says None tiles level place bad = tt
  bad_says (Some b) None level place bad = tt
  bad_says (Some b) (Some held) level place bad =
      ap (λ r. with_form mirror_open_text name r (mirror_tested_says h name says held)) bad.is
      ∙ ap (λ o. unless_missing name o (says bad.found))
      (mirror_bad_is h bad.found.state held level place bad.few bad.bad)

  -- a journal that isn't a mirror's is refused
  pub mirror_refuses : RefusesNoParty (mirror_party h) name its
  mirror_refuses bytes held why is =
      ap (λ r. with_form mirror_open_text name r (mirror_tested_says h name says held)) is

  -- A mirror that wasn't opened. The device of its journal was read since it was opened, as `old`.
  module _ {D : Type 0} (g : Ghosts D) (old mid new tiles tiles' : D) (first : OnlyReads g old mid)
      (fine : g.faults mid ≡ g.faults old) (second : OnlyReads g mid new) where
    refused_says : (why : MirrorOpenError) → HasMirrorOpenCause g g h mid new tiles tiles' why
        → HasWorkedTiledOn g name its old new tiles tiles' (mirror_open_ending name why)
    refused_says (Open why) is = journal_says (mirror_party h) name its mirror_refuses g old mid new
        tiles tiles' first fine second why is
    refused_says (NoTiles tile_error.Failed) is = tiles_say (mirror_party h) name its
        mirror_refuses g old mid new tiles tiles' first fine second is
    refused_says (NoTiles (tile_error.BadTile level place)) is = bad_tile_says (mirror_party h) name
        its mirror_refuses g old mid new tiles tiles' first fine second level place
        (bad_says (g.contents mid) (g.contents tiles) level place is)
    refused_says (BadRecord number) is = party_says (mirror_party h) name its mirror_refuses g old
        mid new tiles tiles' first fine second (BadRecord number) is

  module _ {R S D : Type 0} (rooms : Rooms R S D) (g : Ghosts D) (old new : R) (ending : Ending)
      (only_now : OnlyNow g) (all : ModelsAll rooms g) where
    abbrev NotOpened : Ending → Type 0
    NotOpened e = PartyWasNotOpened rooms g name (mirror_party h) its old new e

    -- the mirror was refused over both devices
    refused_over : MirrorWasRefused rooms g name h old new ending → NotOpened ending
    refused_over refused =
        let header = refused.opened.header in
        let is = refused.is in
        subst NotOpened (sym refused.ends)
        (both_read (mirror_party h) rooms g name its old refused.both new refused.disk refused.disk'
        refused.tiles refused.tiles' refused.opened refused.closed all
        (mirror_open_ending name refused.why) is.only_reads is.only_reads_tiles
        (refused_says g header.opened_disk refused.disk refused.disk' refused.tiles refused.tiles'
        header.only_reads header.fine is.only_reads refused.why is.cause))

    -- the mirror wasn't opened
    pub mirror_not_opened : MirrorWasNotOpened rooms g name h old new ending → NotOpened ending
    mirror_not_opened is = elim is [
      | inl devices ↦ party_not_opened (mirror_party h) rooms g name its old mirror_refuses only_now
          new ending devices
      | inr refused ↦ refused_over refused
    ]
