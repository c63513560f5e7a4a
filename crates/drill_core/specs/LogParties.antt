-- The log of a drill as its state, and the stops in its calls.
use Rattle.std.specs.Prelude.{◌≡◌, ℕ, length}
use Rattle.tree_core.specs.declared.hashing.TreeHash.{Ghosts as Hashes}
use Rattle.issuance_log.specs.Folds.{LogState}
use Rattle.drill_core.specs.Parties.{log_seen}
use Rattle.drill_core.specs.declared.log_party.LogParty.{LogParty}

-- what the log of a drill shows
abbrev pub log_shown : {H : Type 0} {hashes : Hashes H} → LogParty H hashes → LogState
log_shown party = log_seen party.log

-- how many stops were made in its calls
abbrev pub log_stops : {H : Type 0} {hashes : Hashes H} → LogParty H hashes → ℕ
log_stops party = length party.stops.made.items

-- The log shows what it showed, and no stop was made.
pub record IsSameLog {H : Type 0} {hashes : Hashes H} (old new : LogParty H hashes) : Type 0 where
  pub shown : log_shown new ≡ log_shown old
  pub stops : log_stops new ≡ log_stops old
