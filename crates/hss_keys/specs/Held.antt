-- What a key that signs holds.
use Rattle.std.specs.Prelude.{◌≡◌, ℕ, zero, suc, Option, Some, None}
use Rattle.byte_formats.specs.Types.{Text}
use Rattle.lmots_core.specs.declared.parameters.OtsType.{OtsType}
use Rattle.lms_core.specs.Trees.{private_key}
use Rattle.lms_core.specs.declared.heights.LmsType.{LmsType}
use Rattle.lms_core.specs.declared.private_key.PrivateKey.{PrivateKey}
use Rattle.hss_keys.specs.Keys.{CountsKeys, SigningState, lower_key}

-- The private key of the newest lower tree, if there is one.
abbrev pub newest_key : PrivateKey → Option LmsType → ℕ → Option PrivateKey
newest_key top None children = None
newest_key top (Some low) zero = None
newest_key top (Some low) (suc c) = Some (lower_key top low c)

-- Its trees: the top one is made of the secret, and the newest lower one is there.
pub record HoldsTrees (s : SigningState) (ots : OtsType) (secret : Text)
    (tree : Option PrivateKey) : Type 0 where
  pub counts : CountsKeys s
  pub made : s.key.top ≡ private_key s.key.top.lms ots secret
  pub newest : tree ≡ newest_key s.key.top s.key.low s.children
