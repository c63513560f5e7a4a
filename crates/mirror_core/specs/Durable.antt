-- What is certain of a mirror's journal, also where an append has failed: the records before the
-- end at which that append began make the mirror, and its items are retained.
use Rattle.std.specs.Prelude.{ℕ, List, Option}
use Rattle.std.proofs.Props.{props}
use Rattle.byte_formats.specs.Types.{Hash, HashFunction, Text}
use Rattle.journal_core.specs.Ends.{AreDurable, AreDurable-prop, durable_of}
use Rattle.mirror_core.specs.Folds.{MirrorView}
use Rattle.mirror_core.specs.Kept.{IsMirrored, IsMirrored-prop}
use Rattle.mirror_core.specs.declared.kept.BatchPlace.{BatchPlace}

-- They stand in the bytes up to that end, and make what the mirror shows.
pub record IsDurableMirror (h : HashFunction) (v : MirrorView) (places : List BatchPlace)
    (leaves : Option (List Hash)) (end : ℕ) (bytes : Text) : Type 0 where
  pub durable : AreDurable end bytes
  pub kept : IsMirrored h v places leaves (durable_of end bytes)

-- it has one proof at most
pub IsDurableMirror-prop : (h : HashFunction) (v : MirrorView) (places : List BatchPlace)
    (leaves : Option (List Hash)) (end : ℕ) (bytes : Text)
    → IsProp (IsDurableMirror h v places leaves end bytes)
IsDurableMirror-prop h v places leaves end bytes =
    hlevel (
      props,
      AreDurable-prop end bytes,
      IsMirrored-prop h v places leaves (durable_of end bytes),
    )
