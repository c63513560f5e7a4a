-- What holds of every cosigner, over any disk.
use Rattle.std.specs.Prelude.{◌≡◌}
use Rattle.hss_keys.specs.Keys.{CountsKeys, SigningState}
use Rattle.cosigner_core.specs.Progress.{shown_low}
use Rattle.cosigner_core.specs.declared.progress.Progress.{Progress}

-- The key can be made, and no more than its one-time keys have signed. How far it has come shows
-- the height of its lower trees if it has one.
pub record IsKey (s : SigningState) (p : Progress) : Type 0 where
  pub counts : CountsKeys s
  pub shown : p.low ≡ shown_low s.children s.key.low
