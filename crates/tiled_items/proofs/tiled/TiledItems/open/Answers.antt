use Rattle.std.proofs.Common.{◌≡◌, ◌%◌, None, Ok, ℕ, ap, arith, refl, subst, sym, ◌∙◌}
use Rattle.std.specs.Prelude.{IfSome, option_map}
use Rattle.disk_core.proofs.Times.{only_read_on}
use Rattle.journal_core.specs.Ends.{durable_of, durable_records}
use Rattle.journal_core.specs.Folds.{read_by}
use Rattle.journal_core.specs.Words.{disk_of, end_of}
use Rattle.tile_store.specs.Causes.{HasCauseOf}
use Rattle.tile_store.specs.Sound.{leaves_with}
use Rattle.tile_store.specs.Store.{tiles_disk, tiles_leaves}
use Rattle.tile_store.proofs.Bad.{all-stand, bad-of-all}
use Rattle.tiled_items.proofs.tiled.TiledItems.open.Goals as goal
use Rattle.tiled_items.proofs.Opening.{bad_so, durable_as, held_in_known, refused_so, tile_refused}
use Rattle.tiled_items.proofs.Opening.{tiles_so, tiles_there}
use Rattle.tiled_items.specs.Blocks.{PlacesAreBelow, all_items}
use Rattle.tiled_items.specs.Held.{held_leaves, held_places}
use Rattle.tiled_items.specs.Openings.{HoldsItemTiles, IsBadItemTile}
use Rattle.tiled_items.specs.Rules.{rules_fold}

pub adopt-requires : goal.adopt-requires
adopt-requires g c =
    let within = c.in-Ok.ensures.made.within in
    let value = c.tiled-size.ensures.value in
    let sound = c.tiled-size.ensures.sound in
    let below = sound.within in
    let counted = within.counted in
    record {
      multiple = ap (λ (n : ℕ). n % 256) value ∙ sound.multiple;
      within = omega (arith, value, below, counted);
    }

pub invariant_of-result : goal.invariant_of-result
invariant_of-result g c =
    let rules = g.R.ItemRules in
    let journal = c.in-Ok.opened.0 in
    let it = c.in-Ok.opened.1 in
    let made = c.in-Ok.ensures.made in
    let adopted = c.adopt.ensures in
    let begun = journal.begun in
    let value = c.tiled-size.ensures.value in
    let stored = c.in-Ok-adopt.ensures.adopted.stored in
    record {
      counted = adopted.leaves.count ∙ made.within.counted;
      begun = made.within.begun;
      below = subst (PlacesAreBelow (held_places it.held)) (omega (arith, begun)) made.within.below;
      adopted = refl;
      stored = omega (arith, value, stored);
      durable = λ b contents.
          let is = made.durable b contents in
          durable_as rules g.H.TreeHash.hash (rules.view it.numbers) _ _ _ _ (end_of journal) b
          refl adopted.leaves.list is.durable is.holds.made is.holds.keeps;
    }

pub returns-in-Ok-adopt-clause-opened : goal.returns-in-Ok-adopt-clause-opened
returns-in-Ok-adopt-clause-opened g c =
    let rules = g.R.ItemRules in
    let h = g.H.TreeHash.hash in
    let journal = c.in-Ok.opened.0 in
    let it = c.in-Ok.opened.1 in
    let v = rules.view it.numbers in
    let tiles = c.adopt.new.self in
    let places = held_places it.held in
    let leaves = tiles_leaves tiles in
    let opened = c.in-Ok.ensures.opened in
    let made = c.in-Ok.ensures.made in
    let adopted = c.adopt.ensures in
    let left = c.in-Ok.ensures.rest (record { disk = c.args.tiles; refusal = None })
    (tiles_there g.T.Disk c.args.tiles (g.met.T.Disk.only_now c.args.tiles)) in
    let value = c.tiled-size.ensures.value in
    let stored = c.in-Ok-adopt.ensures.adopted.stored in
    let reported = g.D.Disk.contents (disk_of journal) in
    let only_reads =
    only_read_on g.T.Disk c.args.tiles (tiles_disk it.held.nodes) (tiles_disk tiles)
    left.only_reads adopted.only_reads in
    let kept = held_in_known rules h v places leaves (end_of journal) reported (λ b contents.
    let is = made.durable b contents in
    durable_as rules h v _ _ _ _ (end_of journal) b refl adopted.leaves.list is.durable
    is.holds.made is.holds.keeps) in
    record {
      sound = opened.sound;
      only_reads = opened.only_reads;
      only_reads_tiles = only_reads;
      fine = opened.fine;
      fine_tiles = c.in-Ok-adopt.ensures.adopted.fine ∙ left.fine;
      list = opened.list;
      found = opened.found;
      valid = opened.made;
      tiles = subst (λ t. IfSome (option_map (all_items rules.first rules.added)
          (durable_records journal)) (λ items.
          IfSome t (HoldsItemTiles h items (rules.tiled v)))) only_reads.contents
          (tiles_so rules h v places (durable_of (end_of journal))
          (leaves_with tiles.adopted tiles.rows)
          reported (g.T.Disk.contents (tiles_disk tiles)) kept
          (all-stand tiles (rules.tiled v) (omega (arith, value, stored))));
      stands = opened.stands;
      all = opened.all;
      end = opened.end;
    }

pub returns-in-Err-adopt-clause-refused : goal.returns-in-Err-adopt-clause-refused
returns-in-Err-adopt-clause-refused g c =
    let rules = g.R.ItemRules in
    let h = g.H.TreeHash.hash in
    let journal = c.in-Ok.opened.0 in
    let it = c.in-Ok.opened.1 in
    let v = rules.view it.numbers in
    let places = held_places it.held in
    let leaves = held_leaves it.held in
    let tiles = it.held.nodes in
    let opened = c.in-Ok.ensures.opened in
    let made = c.in-Ok.ensures.made in
    let left = c.in-Ok.ensures.rest (record { disk = c.args.tiles; refusal = None })
    (tiles_there g.T.Disk c.args.tiles (g.met.T.Disk.only_now c.args.tiles)) in
    let sound = c.tiled-size.ensures.sound in
    let few = sound.few in
    let within = sound.within in
    let reported = g.D.Disk.contents (disk_of journal) in
    let kept = held_in_known rules h v places leaves (end_of journal) reported (λ b contents.
    let is = made.durable b contents in
    record { durable = is.durable; made = is.holds.made; held = is.holds.keeps }) in
    rw (c.into_disk.ensures, c.into_disk-in-Err-adopt.ensures) (tile_refused rules g.D.Disk
    c.args.disk
    (disk_of journal) (record { disk = c.args.tiles; refusal = None }) tiles it.refusal
    (tiles_disk c.adopt.new.self) c.tiled-size.result c.in-Err-adopt.why opened.only_reads
    opened.fine left c.adopt.ensures.only_reads c.in-Err-adopt.ensures.refused.cause
    (λ level place bad. subst (λ t. IfSome t (λ b. IfSome (g.T.Disk.contents c.args.tiles) (λ bytes.
    IsBadItemTile rules h b bytes level place))) opened.only_reads.contents
    (subst (λ t. IfSome reported (λ b. IfSome t (λ bytes.
    IsBadItemTile rules h b bytes level place)))
    left.only_reads.contents
    (bad_so rules h v places (durable_of (end_of journal)) (leaves_with tiles.adopted tiles.rows)
    reported
    (g.T.Disk.contents (tiles_disk tiles)) c.tiled-size.result level place
    c.tiled-size.ensures.value (omega (arith, few, within)) kept
    (subst (λ t. IfSome t (λ b. IfSome (durable_records journal) (λ list.
    read_by (rules_fold rules h) b ≡ Ok (record { records = list; state = v }))))
    (sym opened.only_reads.contents) opened.found)
    (bad-of-all tiles c.tiled-size.result level place
    (subst (HasCauseOf tiles (tiles_disk c.adopt.new.self) c.tiled-size.result) bad
    c.in-Err-adopt.ensures.refused.cause).1)))))

pub returns-in-Err-clause-refused : goal.returns-in-Err-clause-refused
returns-in-Err-clause-refused g c =
    let e = c.in-Err.refused in
    rw (c.not_opened.ensures.disk, c.not_opened.ensures.tiles, c.not_opened.ensures.why)
    (refused_so g.R.ItemRules g.D.Disk g.T.Disk g.H.TreeHash.hash c.args.disk e.disk
    (record { disk = c.args.tiles; refusal = None }) e.rest e.why c.in-Err.ensures.err
    (c.in-Err.ensures.rest (record { disk = c.args.tiles; refusal = None })
    (tiles_there g.T.Disk c.args.tiles (g.met.T.Disk.only_now c.args.tiles))))
