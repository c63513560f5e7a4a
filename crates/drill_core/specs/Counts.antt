-- What a drill comes to, in numbers.
use Rattle.std.specs.Prelude.{◌≡◌, ◌+◌, ◌≤◌, ℕ, length}
use Rattle.drill_parties.specs.Rounds.{drill_of}
use Rattle.drill_core.specs.declared.made.Counts.{Counts}

-- Entries, landmarks and stops are those that the number draws. Each of three cosigners signs in
-- each of sixteen rounds, and at most once more for each stop. All certificates are accepted, also
-- the one without signatures of each landmark, and each audit with a cosigner's export finds the
-- entry.
pub record IsCounted (number : ℕ) (c : Counts) : Type 0 where
  pub entries : c.entries ≡ (drill_of number).size
  pub landmarks : c.landmarks ≡ length (drill_of number).marks
  pub some_signatures : 48 ≤ c.signatures
  pub few_signatures : c.signatures ≤ 48 + (drill_of number).stops
  pub stops : c.stops ≡ (drill_of number).stops
  pub verified : c.verified ≡ 16
  pub stands : c.stands ≡ 48
  pub light : c.light ≡ length (drill_of number).marks
