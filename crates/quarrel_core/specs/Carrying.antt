-- A proof of a subtree, from the checkpoint where it was signed to a later one.
use Rattle.std.specs.Prelude.{ℕ, true, List}
use Rattle.std.specs.List.{Contains}
use Rattle.byte_formats.specs.Types.{Hash, HashFunction, Text}
use Rattle.tree_proofs.specs.Consistency.{Checks}
use Rattle.tree_proofs.specs.declared.checkpoint.Checkpoint.{Checkpoint}
use Rattle.collide.specs.Extraction.{IsCollision}
use Rattle.collide.specs.Inputs.{open_inputs_of}
use Rattle.quarrel_core.specs.declared.joined.Joined.{Joined}
use Rattle.quarrel_core.specs.declared.joined.Joined.TheVariants.{Neither, Pair, Proof}
use Rattle.quarrel_core.specs.Sizes.{AreFullHashes}

-- Each of these strings is one of those.
abbrev pub TextsAmong : List Text → List Text → Type 0
TextsAmong some all = (t : Text) → Contains some t → Contains all t

-- The proof is one of a subtree's hash in what is held, and what it hashes is among these strings.
pub record IsCarried (h : HashFunction) (start end : ℕ) (node : Hash) (held : Checkpoint)
    (all : List Text) (proof : List Hash) : Type 0 where
  pub checks : Checks h start end held.size node held.root proof
  pub inputs : TextsAmong (open_inputs_of h start end held.size true node proof) all
  pub whole : AreFullHashes proof

-- Such a proof, or two strings with one hash.
abbrev pub CarriesTo : HashFunction → ℕ → ℕ → Hash → Checkpoint → List Text → Joined → Type 0
CarriesTo h start end node held all (Proof proof) = IsCarried h start end node held all proof
CarriesTo h start end node held all (Pair x y) = IsCollision h all all x y
CarriesTo h start end node held all Neither = ⊥
