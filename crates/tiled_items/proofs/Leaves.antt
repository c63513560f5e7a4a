-- The hashes of the entries are the nodes that are held.
use Rattle.std.proofs.Common.{ℕ, List, Option, Some, None, option_map, IfSome, subst}
use Rattle.std.specs.Prelude.{option_and_then}
use Rattle.byte_formats.specs.Types.{Hash, HashFunction, Text}
use Rattle.tiled_items.specs.Blocks.{all_items}
use Rattle.tiled_items.specs.Held.{ItemsAreHeld, leaves_of_items}
use Rattle.tiled_items.specs.declared.held.ItemPlace.{ItemPlace}

pub leaves_are : (begin : List (Text × Text)) (added : Text → List (Text × Text))
    (h : HashFunction) (size : ℕ) (places : List ItemPlace) (contents : Option Text)
    (nodes : Text → List Hash) (records : Option (List Text)) (P : List Hash → Type 0)
    → IfSome records (ItemsAreHeld begin added h size places (option_map nodes contents))
    → IfSome (option_map nodes contents) P
    → IfSome (option_map (leaves_of_items h)
    (option_and_then (λ b. option_map (all_items begin added) records) contents)) P
leaves_are begin added h size places None nodes records P held is = tt
leaves_are begin added h size places (Some t) nodes None P held is = tt
leaves_are begin added h size places (Some t) nodes (Some list) P held is = subst P held.hashed is
