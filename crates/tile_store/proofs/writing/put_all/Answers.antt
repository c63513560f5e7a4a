use Rattle.std.proofs.Common.{◌≡◌, ◌*◌, ◌≤◌, max, sym, subst, arith}
use Rattle.tile_store.proofs.Numbers.{full-number, gone-kept, number-full}
use Rattle.tile_store.proofs.Steps.{following-put, put-none, put-on}
use Rattle.tile_store.specs.Layout.{tile_at}
use Rattle.tile_store.specs.Writing.{KeepsAfter}
use Rattle.tree_cache.specs.Rows.{filled_of}
use Rattle.tile_store.proofs.writing.put_all.Goals as goal

pub loop-number-init : goal.loop-number-init
loop-number-init g c =
    put-none g.T.Disk g.H.TreeHash.hash c.args.rows.now c.args.from c.args.to c.args.disk.now
    (g.met.T.Disk.only_now c.args.disk.now) c.requires.place

pub put-requires-clause-full : goal.put-requires-clause-full
put-requires-clause-full g c =
    let number = c.tile_with.ensures.number in
    let full = c.requires.rows.full in
    number-full (filled_of c.args.rows.now) c.tile_with.result.level c.tile_with.result.place
    c.tile_with.ensures.low (omega arith)

pub put-requires-clause-kept : goal.put-requires-clause-kept
put-requires-clause-kept g c =
    let key = c.tile_with.result in
    let rows = c.requires.rows in
    let number = c.tile_with.ensures.number in
    let order = c.loop-number.auto.number in
    let following = rows.following in
    subst (λ n. n ≤ 256 * key.place) (sym (rows.gone (8 * key.level)))
    (gone-kept rows.adopted key.level key.place
    (λ full.
    let before = full-number rows.adopted key.level key.place c.tile_with.ensures.low full in
    let no : ⊥ = omega arith in
    absurd no))

pub returns-in_err-put-clause-following : goal.returns-in_err-put-clause-following
returns-in_err-put-clause-following g c =
    let number = c.tile_with.ensures.number in
    let order = c.loop-number.auto.number in
    let known = c.in_err-put.ensures.known_err in
    following-put g.T.Disk c.args.disk.now c.loop-number.disk c.put.new.disk c.args.from
    (tile_at c.tile_with.result.level c.tile_with.result.place)
    (g.met.T.Disk.counts_now c.loop-number.disk) (omega arith) c.loop-number.invariant.following
    c.put.ensures.any_time c.put.ensures.contents (omega arith)

pub loop-number-preserved : goal.loop-number-preserved
loop-number-preserved g c =
    put-on g.T.Disk g.H.TreeHash.hash c.args.rows.now c.args.from c.args.to
    c.loop-number.number c.tile_with.result.level c.tile_with.result.place c.args.disk.now
    c.loop-number.disk c.put.new.disk (g.met.T.Disk.counts_now c.loop-number.disk)
    (g.met.T.Disk.known_there c.loop-number.disk) c.loop-number.auto.number
    c.loop-number-test.true c.tile_with.ensures.low c.tile_with.ensures.number
    c.loop-number.invariant
    c.put.ensures.any_time c.put.ensures.contents c.in_ok-put.ensures.known
    c.in_ok-put.ensures.cause.fine c.in_ok-put.ensures.written

pub returns-clause-written : goal.returns-clause-written
returns-clause-written g c =
    let past = c.loop-number-test.false in
    let written = c.loop-number.invariant.written in
    let known = written.known in
    let most = c.loop-number.invariant.most in
    let place = c.requires.place in
    record {
      known = omega arith;
      holds = λ before after contents_old contents_now leaves are first level place low below full.
          written.holds before after contents_old contents_now leaves are first level place low
          (omega arith) full;
      after =
          let order = c.loop-number.auto.number in
          let all : max c.args.from c.loop-number.number ≡ max c.args.from c.args.to =
          omega arith in
          subst (λ n. KeepsAfter g.T.Disk (8192 * n) c.args.disk.now c.loop-number.disk) all
          written.after;
    }
