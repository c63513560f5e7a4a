-- What a command on two journals wants where one of them isn't opened as a party's.
use Rattle.std.proofs.Common.{◌≡◌, inl, inr, ℕ, Option, None, Some, IfSome, Result, Ok, Err, codes}
use Rattle.std.proofs.Common.{subst, ap, refl}
use Rattle.byte_formats.specs.Types.{HashFunction, Text}
use Rattle.mtc_room.specs.Room.{OpensBytes}
use Rattle.cosigner_core.specs.Openings.{FoundCosigner, cosigner_read}
use Rattle.mirror_core.specs.Openings.{FoundMirror, mirror_read}
use Rattle.mirror_core.specs.Reasons.{mirror_open_text}
use Rattle.mirror_core.specs.declared.error.MirrorOpenError.{MirrorOpenError}
use Rattle.state_journal.specs.Reasons.{state_open_text}
use Rattle.state_journal.specs.declared.error.StateOpenError.{StateOpenError}
use Rattle.mtc_command.specs.Answers.{Reply, bad_tile, refused}
use Rattle.mtc_command.specs.Steps.{Outcome, answers, held_in, with_form}
use Rattle.mtc_command.specs.Wanted.{Meets}
use Rattle.mtc_command.specs.declared.answer.Stopped.TheVariants.{BadForm, Missing}
use Rattle.mtc_cosigner.specs.Works.{cosigner_outcome}
use Rattle.mtc_mirror.specs.Works.{first_bad_in_mirror, mirror_outcome, mirror_tested_says}
use Rattle.mtc_tiled.specs.BadTiles.{unless_missing}
use Rattle.mtc_mirror_steps.proofs.Stopped.{IsEarlyReply, early_of, never_met, unmet}

-- a reply that is wanted whatever is done with a mirror
module _ (h : HashFunction) (name : Text) (tiles : Option Text) (reply : Reply)
    (next : FoundMirror → Outcome) where
  missing_early : (found : FoundMirror) (bad : Option (ℕ × ℕ))
      → Meets (unless_missing name bad unmet).answer reply
      → IsEarlyReply (unless_missing name bad (next found)) reply
  missing_early found None meets = absurd (never_met reply meets)
  missing_early found (Some tile) meets =
      early_of (bad_tile name tile.0 tile.1) reply (inr (inl refl)) meets

  form_early : (r : Result FoundMirror MirrorOpenError)
      → Meets (with_form mirror_open_text name r
      (mirror_tested_says h name (λ found. unmet) (held_in tiles))).answer reply
      → IsEarlyReply (with_form mirror_open_text name r
      (mirror_tested_says h name next (held_in tiles))) reply
  form_early (Ok found) meets =
      missing_early found (first_bad_in_mirror h found.state (held_in tiles)) meets
  form_early (Err why) meets =
      early_of (refused BadForm (Some name) (mirror_open_text why)) reply (inr (inl refl)) meets

  pub mirror_early : (file : Option Text)
      → Meets (mirror_outcome h name file tiles (λ found. unmet)).answer reply
      → IsEarlyReply (mirror_outcome h name file tiles next) reply
  mirror_early None meets = early_of (refused Missing (Some name) (codes "Absent")) reply
      (inr (inr (inr (inl refl)))) meets
  mirror_early (Some bytes) meets = form_early (mirror_read h bytes) meets

-- a file that is no cosigner's
pub no_cosigner_wanted : (h : HashFunction) (name : Text) (next : FoundCosigner → Outcome)
    (file contents : Option Text) (why : StateOpenError) → OpensBytes file contents
    → IfSome contents (λ b. cosigner_read h b ≡ Err why)
    → cosigner_outcome h name file next
    ≡ answers (refused BadForm (Some name) (state_open_text why))
no_cosigner_wanted h name next None contents why opens is = let there = opens.there in absurd cc
no_cosigner_wanted h name next (Some bytes) contents why opens is =
    ap (λ r. with_form state_open_text name r next)
    (subst (λ (o : Option Text). IfSome o (λ b. cosigner_read h b ≡ Err why)) opens.same is)
