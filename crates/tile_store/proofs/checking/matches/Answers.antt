use Rattle.std.proofs.Common.{◌≡◌, sym, ◌∙◌, subst, arith}
use Rattle.std.proofs.lemmas.Slice.Eq.{bytes_eq-Decides}
use Rattle.disk_core.specs.Disk.{part}
use Rattle.tile_store.proofs.Compared.{compared-one, same-tile}
use Rattle.tile_store.proofs.Numbers.{full-small}
use Rattle.tile_store.specs.Comparing.{HaveCompared}
use Rattle.tile_store.specs.Contents.{IsTile}
use Rattle.tile_store.specs.Layout.{tile_at}
use Rattle.tree_cache.specs.Rows.{filled_of}
use Rattle.tile_store.proofs.checking.matches.Goals as goal

pub load-requires-clause-few : goal.load-requires-clause-few
load-requires-clause-few g c =
    let few = c.requires.few in
    full-small (filled_of c.args.rows.now) c.args.key.level c.args.key.place (omega arith)
    c.requires.full

pub returns-clause-same : goal.returns-clause-same
returns-clause-same g c = λ b contents frames leaves are.
    let h = g.H.TreeHash.hash in
    let level = c.args.key.level in
    let place = c.args.key.place in
    let eq = c.eq-same.ensures in
    let decides = bytes_eq-Decides c.frame.result.now c.tile_bytes.result.now in
    let here : c.frame.result.now ≡ part (tile_at level place) 8192 b =
    c.frame.ensures.value ∙ c.load.ensures.frames b contents frames c.in_ok-slot.slot.0 c.args.key
    c.in_ok-slot.ensures.held in
    let tile = c.tile_bytes.ensures.tile h leaves are in (
      λ yes.
          let equal : c.frame.result.now ≡ c.tile_bytes.result.now = decides.0 (sym eq ∙ yes) in
          subst (IsTile h leaves level place) (sym equal ∙ here) tile,
      λ is. eq ∙ decides.1 (here ∙ same-tile h leaves level place
          (part (tile_at level place) 8192 b) c.tile_bytes.result.now is tile),
    )

pub returns-clause-compared : goal.returns-clause-compared
returns-clause-compared g c =
    subst (HaveCompared g.T.Disk c.args.disk.now c.load.new.disk c.args.pool.now)
    (sym c.release.ensures)
    (compared-one g.T.Disk c.args.disk.now c.load.new.disk c.args.pool.now c.load.new.pool
    c.in_ok-slot.slot.0 c.args.key c.load.ensures.only_reads c.load.ensures.frames
    c.load.ensures.keys c.load.ensures.free c.load.ensures.count c.law_sound.ensures
    c.in_ok-slot.ensures.held)
