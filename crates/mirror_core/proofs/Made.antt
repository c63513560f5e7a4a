-- A mirror that is made: of its first record, and of its durable records.
use Rattle.std.proofs.Common.{◌≡◌, ◌-◌, ℕ, [], ◌∷◌, Ok, option_map, ap, subst, arith}
use Rattle.byte_formats.specs.Types.{HashFunction, Text}
use Rattle.disk_core.specs.declared.disk.Disk.{Ghosts}
use Rattle.journal_core.specs.Ends.{durable_of}
use Rattle.journal_core.specs.Folds.{state_after}
use Rattle.journal_core.specs.Words.{end_of}
use Rattle.journal_core.proofs.Folds.{state_begins}
use Rattle.tls_wire.specs.Arcs.{IsAnchorId}
use Rattle.tree_core.specs.declared.hashing.TreeHash.{Ghosts as Hashes}
use Rattle.mirror_core.specs.Durable.{IsDurableMirror}
use Rattle.mirror_core.specs.Folds.{begun_mirror, mirror_fold, mirror_of, new_mirror}
use Rattle.mirror_core.specs.Kept.{kept_leaves, kept_places}
use Rattle.mirror_core.specs.Machine.{IsMirrorWithin, view_of_machine}
use Rattle.mirror_core.specs.Places.{ArePlaced}
use Rattle.mirror_core.specs.Records.{mirror_record}
use Rattle.mirror_core.specs.declared.machine.MirrorMachine.{MirrorMachine}
use Rattle.mirror_core.specs.declared.mirror.Mirror.{Mirror}
use Rattle.mirror_core.proofs.Encoded.{mirror_again}
use Rattle.mirror_core.proofs.Keeping.{shown_view}
use Rattle.mirror_core.proofs.Views.{view_fold, view_made}

pub mirror_created : (h : HashFunction) (id : Text) → IsAnchorId id
    → mirror_of h (mirror_record id ∷ []) ≡ Ok (new_mirror id)
unfolding begun_mirror
mirror_created h id is =
    state_begins (mirror_fold h) (mirror_record id) (new_mirror id)
    (ap (option_map new_mirror) (mirror_again id is))

module _ {H T : Type 0} {hashes : Hashes H} {k : Ghosts T} where
  -- Over any disk, where no tiles were refused.
  pub within_of : {D : Type 0} {g : Ghosts D} (mirror : Mirror H D T hashes g k)
      → IsMirrorWithin mirror.machine (end_of mirror.journal - 1)
  within_of mirror =
      let begun = mirror.journal.begun in
      let long = mirror.long in
      record {
        placed = subst (ArePlaced (kept_places mirror.machine.kept)
            (view_of_machine mirror.machine).size) (omega arith) mirror.placed;
        counted = mirror.counted;
        long = omega arith;
        stored = λ none. mirror.stored;
      }

  -- what is durable, as the layer above says it
  pub makes_of : (it : MirrorMachine H T hashes k) (end : ℕ) (b : Text)
      → IsDurableMirror hashes.hash (view_of_machine it) (kept_places it.kept)
      (kept_leaves it.kept) end b
      → state_after (view_fold hashes.hash) (durable_of end b) ≡ Ok (view_of_machine it)
  makes_of it end b is =
      view_made hashes.hash (view_of_machine it) (durable_of end b) is.kept.made
      (shown_view (view_of_machine it) (durable_of end b) is.kept.all)
