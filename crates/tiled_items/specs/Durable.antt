-- What is certain of a journal of items, also where an append has failed: the records before the
-- end at which that append began make what is shown, and their items are held.
use Rattle.std.specs.Prelude.{◌≡◌, ℕ, List, Option, Ok}
use Rattle.std.proofs.Props.{props}
use Rattle.byte_formats.specs.Types.{Hash, HashFunction, Text}
use Rattle.journal_core.specs.Ends.{AreDurable, AreDurable-prop, durable_of}
use Rattle.journal_core.specs.Folds.{state_after}
use Rattle.tiled_items.specs.Held.{ItemsAreHeld, ItemsAreHeld-prop}
use Rattle.tiled_items.specs.Rules.{rules_fold}
use Rattle.tiled_items.specs.declared.held.ItemPlace.{ItemPlace}
use Rattle.tiled_items.specs.declared.rules.ItemRules.{Ghosts as Rules}

-- They stand in the bytes up to that end, and make what is shown.
pub record IsDurableTiled {R : Type 0} (rules : Rules R) (h : HashFunction) (v : rules.View)
    (places : List ItemPlace) (leaves : Option (List Hash)) (end : ℕ) (bytes : Text) : Type 0 where
  pub durable : AreDurable end bytes
  pub made : state_after (rules_fold rules h) (durable_of end bytes) ≡ Ok v
  pub held : ItemsAreHeld rules.first rules.added h (rules.size v) places leaves
      (durable_of end bytes)

-- it has one proof at most
pub IsDurableTiled-prop : {R : Type 0} (rules : Rules R) (h : HashFunction) (v : rules.View)
    (places : List ItemPlace) (leaves : Option (List Hash)) (end : ℕ) (bytes : Text)
    → IsProp (IsDurableTiled rules h v places leaves end bytes)
IsDurableTiled-prop rules h v places leaves end bytes =
    hlevel (
      props,
      rules.view_set,
      AreDurable-prop end bytes,
      ItemsAreHeld-prop rules.first rules.added h (rules.size v) places leaves
          (durable_of end bytes),
    )
