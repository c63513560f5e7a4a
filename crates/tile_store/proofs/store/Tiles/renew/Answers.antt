use Rattle.std.proofs.Common.{◌≡◌, ◌≤◌, inr, Some, sym, ◌∙◌, ap, drop, subst, arith}
use Rattle.std.specs.Prelude.{IfSome}
use Rattle.byte_formats.specs.Types.{Text}
use Rattle.tile_store.proofs.Adopted.{on-ok-map}
use Rattle.tile_store.proofs.Renewed.{all-durable, ends-before}
use Rattle.tile_store.proofs.Steps.{only_reads-following, times-on}
use Rattle.tile_store.specs.Causes.{HasCauseOf}
use Rattle.tile_store.specs.Contents.{HoldsTiles}
use Rattle.tile_store.specs.Layout.{tile_at, tiles_end}
use Rattle.tile_store.proofs.store.Tiles.renew.Goals as goal

pub returns-in-Ok-clause-renewed : goal.returns-in-Ok-clause-renewed
returns-in-Ok-clause-renewed g c =
    let old = c.args.self.now in
    let mid = c.adopt.new.self in
    let new = c.sync_file.new.self in
    let h = g.H.TreeHash.hash in
    let adopted = c.in-Ok.ensures.adopted in
    let stays = c.sync_file.ensures.stays in
    let stored = stays.stored ∙ adopted.stored in
    let within : c.args.size ≤ new.stored = omega (arith, stored) in
    on-ok-map c.sync_file.result c.sync_file.ensures.durable (λ durable. record {
      stored = stored;
      reach = let reach = new.reach in
          let less = ends-before c.args.size new.stored within in
          omega arith;
      holds = subst (λ o. IfSome o (λ leaves. (crash_state : Text)
          → g.T.Disk.may_leave new.disk crash_state → HoldsTiles h leaves c.args.size crash_state))
          (c.sync_file.ensures.leaves ∙ c.adopt.ensures.leaves.list)
          (all-durable new c.args.size within durable);
      after = λ before now contents_old contents_new.
          let both : Some now ≡ Some before =
          sym contents_new ∙ stays.only_reads.contents ∙ c.adopt.ensures.only_reads.contents
          ∙ contents_old in
          let same : now ≡ before = cc in
          ap (drop (tiles_end c.args.size)) same;
    })

pub returns-in-Err-BadTile-clause-renews : goal.returns-in-Err-BadTile-clause-renews
returns-in-Err-BadTile-clause-renews g c =
    let old = c.args.self.now in
    let mid = c.adopt.new.self in
    let new = c.rewrite.new.self in
    let place = tile_at c.in-Err-BadTile.level c.in-Err-BadTile.place in
    inr (record {
      level = c.in-Err-BadTile.level;
      place = c.in-Err-BadTile.place;
      bad = (subst (HasCauseOf old mid.disk c.args.size) c.in-Err-BadTile.field-0-is
          c.in-Err-BadTile.ensures.refused.cause).1;
      any_time = times-on g.T.Disk old.disk mid.disk new.disk place place
          (g.met.T.Disk.counts_now mid.disk) (omega arith)
          (only_reads-following g.T.Disk old.disk mid.disk place
          c.adopt.ensures.only_reads).any_time c.rewrite.ensures.any_time;
    })
