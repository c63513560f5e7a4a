-- The files that plans name.
use Rattle.std.proofs.Common.{◌≡◌, false, List, [], ◌∷◌, codes, refl}
use Rattle.std.specs.Option.{option_to_list}
use Rattle.byte_formats.specs.Types.{HashFunction, Text}
use Rattle.mtc_room.proofs.Places.{has_end}
use Rattle.mtc_room.specs.Places.{place_of}
use Rattle.mtc_words.proofs.Journals.{no_tiles_name}
use Rattle.mtc_words.specs.Commands.{CommandValue, member}
use Rattle.mtc_words.specs.Commands.{journals_of}
use Rattle.mtc_words.specs.Names.{is_tiles_name}
use Rattle.mtc_command.proofs.Beside.{plain_end}
use Rattle.mtc_command.specs.Answers.{tiles_name}
use Rattle.mtc_command.specs.Served.{IsOther}
use Rattle.command_plans.specs.Names.{beside_names, journal_names, made_names, only_read_names}
use Rattle.command_plans.specs.Plans.{Journal, makes, opens}
use Rattle.mtc_plans.specs.Commands.{plan_of}
use Rattle.mtc_plans.specs.PartyKinds.{cosigner, log, mirror, rebuilt_log, party_kinds}
use Rattle.mtc_plans.specs.Words.{journal_made_by, only_read_by}

pub journals_named : (h : HashFunction) (command : CommandValue)
    → journal_names (plan_of h command).journals ≡ journals_of command
journals_named h (member file) = refl
journals_named h other = refl

pub made_named : (h : HashFunction) (command : CommandValue)
    → made_names (plan_of h command).journals ≡ option_to_list (journal_made_by command)
made_named h (member file) = refl
made_named h other = refl

pub only_read_named : (h : HashFunction) (command : CommandValue)
    → only_read_names (plan_of h command).journals
    ≡ only_read_by command (beside_names (plan_of h command).journals)
only_read_named h (member file) = refl
only_read_named h other = refl

-- the place of a file of tiles is no journal's
pub no_tiles_place : (leads_to : Text → Text) (journal name : Text) → is_tiles_name name ≡ false
    → place_of leads_to name ≡ place_of leads_to (tiles_name journal) → ⊥
no_tiles_place leads_to journal name own same =
    let ends = has_end leads_to (codes ".tiles") plain_end name journal same in
    no_tiles_name ends.0 name own ends.1

module _ (leads_to : Text → Text) where
  pub no_journal_beside : (h : HashFunction) (journals : List (Journal (party_kinds h)))
      (name : Text) → is_tiles_name name ≡ false → IsOther leads_to (beside_names journals) name
  no_journal_beside h [] name own = tt
  no_journal_beside h (opens log beside journal ∷ rest) name own =
      (no_tiles_place leads_to journal name own, no_journal_beside h rest name own)
  no_journal_beside h (opens rebuilt_log beside journal ∷ rest) name own =
      (no_tiles_place leads_to journal name own, no_journal_beside h rest name own)
  no_journal_beside h (opens mirror beside journal ∷ rest) name own =
      (no_tiles_place leads_to journal name own, no_journal_beside h rest name own)
  no_journal_beside h (opens cosigner beside journal ∷ rest) name own =
      no_journal_beside h rest name own
  no_journal_beside h (makes kind journal ∷ rest) name own = no_journal_beside h rest name own
