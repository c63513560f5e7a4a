-- A drill from round to round, with its draws.
use Rattle.std.proofs.Common.{◌≡◌, ◌∙◌, ◌+◌, ◌*◌, ◌<◌, ◌≤◌, ℕ, suc, length, refl, ap, subst}
use Rattle.std.proofs.Common.{arith, add-one}
use Rattle.std.specs.List.{AllByRecursion}
use Rattle.byte_formats.specs.Types.{HashFunction, Text}
use Rattle.tree_core.specs.declared.hashing.TreeHash.{Ghosts as Hashes}
use Rattle.issuance_log.specs.Folds.{LogState}
use Rattle.cosigner_core.specs.Words.{cosigner_disk}
use Rattle.drill_parties.specs.CosignerParties.{IsCosignerDisk}
use Rattle.drill_parties.specs.CosignerViews.{cosigner_shown}
use Rattle.drill_parties.specs.Draws.{round}
use Rattle.drill_parties.specs.Rounds.{Drill, after_round, after_rounds, begun, following_round}
use Rattle.drill_parties.specs.declared.round.Round.{Round}
use Rattle.drill_core.specs.LogParties.{log_shown}
use Rattle.drill_core.specs.Played.{HasPlayed, IsAfter, IsStanding}
use Rattle.drill_core.specs.declared.parties.DrillParties.{DrillParties}
use Rattle.drill_core.proofs.EntryCounts.{entries_length}
use Rattle.drill_core.proofs.Rounding.{IsNext, after_next}

-- A round of the drill with a number, after so many others: it is drawn from x, which leaves y for
-- the next draw, and it was played.
pub record IsRound {H : Type 0} {hashes : Hashes H} (h : HashFunction) (number count x y : ℕ)
    (r : Round) (old new : DrillParties H hashes) : Type 0 where
  pub sized : (b : Text) → length (h b) ≡ 32
  pub was : IsStanding h number count x old
  pub drawn : (r, y) ≡ round (length (log_shown old.log).entries) x
  pub played : HasPlayed h r old new
  pub disks : AllByRecursion (λ party. IsCosignerDisk h (cosigner_shown party)
      (cosigner_disk party.cosigner)) new.cosigners.parties.items
  pub early : old.verified ≤ 15
  pub three : length r.entries ≤ 3
  pub index : (1 ≤ r.index) × (r.index < length (log_shown old.log).entries + length r.entries)
  pub advances : length r.advances ≡ 3
  pub signs : length r.signs ≡ 3

drill_next : (d : Drill) (r : Round) (y : ℕ) → (r, y) ≡ round d.size d.next
    → following_round d r y ≡ after_round d
unfolding after_round
drill_next d r y is = ap (λ (x : Round × ℕ). following_round d x.0 x.1) is

module _ {H : Type 0} {hashes : Hashes H} (h : HashFunction) (number count x y : ℕ) (r : Round)
    (old new : DrillParties H hashes) (is : IsRound h number count x y r old new) where
  abbrev before : Drill
  before = after_rounds count (begun number)

  size_is : length (log_shown old.log).entries ≡ before.size
  size_is =
      ap (λ (l : LogState). length l.entries) is.was.after.log ∙ entries_length h before.size

  following_is : following_round before r y ≡ after_round before
  following_is =
      drill_next before r y (is.drawn ∙ ap (λ (k : ℕ). round k x) size_is
      ∙ ap (round before.size) is.was.next_is)

  few_entries : before.size + length r.entries ≤ 1 + 3 * suc count
  few_entries =
      let small = is.was.small in let three = is.three in omega (arith, small, three)

  after_is : IsAfter h number (suc count) (following_round before r y) new
  after_is =
      let few = few_entries in
      let counted = is.was.after.verified in
      let early = is.early in
      let index = is.index.1 in
      let size = size_is in
      after_next h number count y before r old new (record {
        sized = is.sized;
        was = is.was.after;
        played = is.played;
        disks = is.disks;
        some = is.was.some;
        first = is.index.0;
        below = omega (arith, index, size);
        within = omega (arith, few, counted, early);
        few = is.three;
        advances = is.advances;
        signs = is.signs;
      })

  standing_next : IsStanding h number (suc count) y new
  unfolding after_rounds
  standing_next =
      let some = is.was.some in
      let larger : 1 ≤ before.size + length r.entries = omega (arith, some) in
      record {
        next_is = ap (λ (d : Drill). d.next) following_is;
        some = subst (λ (d : Drill). 1 ≤ d.size) following_is larger;
        small = subst (λ (d : Drill). d.size ≤ 1 + 3 * suc count) following_is few_entries;
        after = subst (λ (d : Drill). IsAfter h number (suc count) d new) following_is after_is;
      }

  -- the same, as the code counts
  pub standing_on : IsStanding h number (count + 1) y new
  standing_on = rw (add-one count) standing_next

-- a drill that begins
pub standing_first : {H : Type 0} {hashes : Hashes H} (h : HashFunction) (number : ℕ)
    (parties : DrillParties H hashes) → IsAfter h number 0 (begun number) parties
    → IsStanding h number 0 number parties
unfolding after_rounds
standing_first h number parties is = record {
  next_is = refl;
  some = omega arith;
  small = omega arith;
  after = is;
}
