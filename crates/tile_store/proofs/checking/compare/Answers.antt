use Rattle.std.proofs.Common.{◌≡◌, ◌*◌, ◌≤◌, true, false, sym, ◌∙◌, subst, arith, rules}
use Rattle.std.proofs.lemmas.Bool.{false≢true}
use Rattle.disk_core.proofs.Times.{nothing_read}
use Rattle.tile_store.proofs.Compared.{compared-on, first-other, found-more, found-none}
use Rattle.tile_store.proofs.Compared.{unheld-still}
use Rattle.tile_store.proofs.Numbers.{full-number, gone-kept, number-full}
use Rattle.tile_store.specs.Comparing.{HasTileReason}
use Rattle.tree_cache.specs.Rows.{filled_of}
use Rattle.tile_store.proofs.checking.compare.Goals as goal

pub loop-number-init : goal.loop-number-init
loop-number-init g c =
    found-none g.T.Disk g.H.TreeHash.hash c.args.rows.now c.args.from c.args.disk.now
    c.args.pool.now
    (nothing_read g.T.Disk c.args.disk.now (g.met.T.Disk.only_now c.args.disk.now)) c.requires.free

pub matches-requires-clause-full : goal.matches-requires-clause-full
matches-requires-clause-full g c =
    let number = c.tile_with-key.ensures.number in
    let full = c.requires.rows.full in
    number-full (filled_of c.args.rows.now) c.tile_with-key.result.level
    c.tile_with-key.result.place c.tile_with-key.ensures.low (omega arith)

pub matches-requires-clause-kept : goal.matches-requires-clause-kept
matches-requires-clause-kept g c =
    let key = c.tile_with-key.result in
    let rows = c.requires.rows in
    let number = c.tile_with-key.ensures.number in
    let order = c.loop-number.auto.number in
    let following = rows.following in
    subst (λ n. n ≤ 256 * key.place) (sym (rows.gone (8 * key.level)))
    (gone-kept rows.adopted key.level key.place
    (λ full.
    let before = full-number rows.adopted key.level key.place c.tile_with-key.ensures.low full in
    let no : ⊥ = omega arith in
    absurd no))

pub matches-requires-clause-there : goal.matches-requires-clause-there
matches-requires-clause-there g c =
    let number = c.tile_with-key.ensures.number in
    let known = c.loop-number.invariant.compared.only_reads.known in
    let there = c.requires.there in
    omega arith

pub matches-requires-clause-unheld : goal.matches-requires-clause-unheld
matches-requires-clause-unheld g c =
    let number = c.tile_with-key.ensures.number in
    let order = c.loop-number.auto.number in
    unheld-still g.T.Disk c.args.disk.now c.loop-number.disk c.args.pool.now c.loop-number.pool
    c.tile_with-key.result c.loop-number.invariant.compared
    (c.requires.unheld c.tile_with-key.result (omega arith))

pub matches-requires-clause-some : goal.matches-requires-clause-some
matches-requires-clause-some g c =
    let count = c.loop-number.invariant.compared.count in
    let some = c.requires.some in
    omega arith

pub matches-requires-clause-free : goal.matches-requires-clause-free
matches-requires-clause-free g c = c.loop-number.invariant.compared.free

pub returns-in_err-matches-clause-compared : goal.returns-in_err-matches-clause-compared
returns-in_err-matches-clause-compared g c =
    compared-on g.T.Disk c.args.disk.now c.loop-number.disk c.matches.new.disk c.args.pool.now
    c.loop-number.pool c.matches.new.pool c.loop-number.invariant.compared
    c.matches.ensures.compared

pub returns-then-not-branch-clause-compared : goal.returns-then-not-branch-clause-compared
returns-then-not-branch-clause-compared g c =
    compared-on g.T.Disk c.args.disk.now c.loop-number.disk c.matches.new.disk c.args.pool.now
    c.loop-number.pool c.matches.new.pool c.loop-number.invariant.compared
    c.matches.ensures.compared

pub returns-then-not-branch-clause-err : goal.returns-then-not-branch-clause-err
returns-then-not-branch-clause-err g c =
    let no : c.in_ok-matches.field-0 ≡ false = search rules in
    subst (HasTileReason g.T.Disk g.H.TreeHash.hash c.args.rows.now c.args.from c.args.to
    c.args.disk.now c.matches.new.disk c.args.pool.now) (sym c.bad.ensures) (
      c.in_ok-matches.ensures.cause.fine ∙ c.loop-number.invariant.faults,
      first-other g.T.Disk g.H.TreeHash.hash c.args.rows.now c.args.from c.loop-number.number
          c.args.to c.tile_with-key.result.level c.tile_with-key.result.place c.args.disk.now
          c.loop-number.disk c.args.pool.now c.loop-number.pool c.tile_with-key.ensures.low
          c.tile_with-key.ensures.number c.loop-number.auto.number c.loop-number-test.true
          c.loop-number.invariant
          (λ bytes contents frames leaves are tile.
          let is = c.in_ok-matches.ensures.same bytes contents frames leaves are in
          false≢true (sym no ∙ is.1 tile)),
    )

pub loop-number-preserved : goal.loop-number-preserved
loop-number-preserved g c =
    let yes : c.in_ok-matches.field-0 ≡ true = search rules in
    found-more g.T.Disk g.H.TreeHash.hash c.args.rows.now c.args.from c.loop-number.number
    c.tile_with-key.result.level c.tile_with-key.result.place c.args.disk.now
    c.loop-number.disk c.matches.new.disk c.args.pool.now c.loop-number.pool
    c.matches.new.pool c.tile_with-key.ensures.low c.tile_with-key.ensures.number
    c.loop-number.invariant c.matches.ensures.compared c.in_ok-matches.ensures.cause.fine
    (λ bytes contents frames leaves are.
    let is = c.in_ok-matches.ensures.same bytes contents frames leaves are in is.0 yes)
