use Rattle.std.proofs.Common.{take, drop, arith}
use Rattle.mirror_core.specs.Refusals.{pairs_of}
use Rattle.mirror_core.proofs.Writing.{count_is, item_is, put_all, put_first, put_on, short_at}
use Rattle.mirror_core.proofs.Writing.{there_is}
use Rattle.mirror_core.proofs.batch.batch_record.Goals as goal

pub overflow_cast-count : goal.overflow_cast-count
overflow_cast-count g c =
    let size = count_is c.args.items.now c.args.from c.args.count c.requires.within in
    let few = c.requires.batch.few in
    omega (arith, size, few)

pub items-init : goal.items-init
items-init g c = record {
  missing = put_first (take c.args.count (drop c.args.from (pairs_of c.args.items.now)))
      c.args.count c.new-body.result c.put_u8.new.out c.put_u16.new.out c.new-body.ensures
      c.in_ok-put_u8.ensures.ok c.in_ok-put_u16.ensures.ok
      (count_is c.args.items.now c.args.from c.args.count c.requires.within);
  within = omega arith;
}

pub overflow_add-from : goal.overflow_add-from
overflow_add-from g c = let fits = c.requires.fits in omega (arith, fits, c.items-test.true)

pub item-item-requires : goal.item-item-requires
item-item-requires g c =
    there_is c.args.items.now c.args.from c.args.count c.requires.within c.items.done
    c.items-test.true

pub put_vec16-requires : goal.put_vec16-requires
put_vec16-requires g c =
    let size = count_is c.args.items.now c.args.from c.args.count c.requires.within in
    (short_at (take c.args.count (drop c.args.from (pairs_of c.args.items.now))) c.items.done
    c.item-item.result.entry.now c.item-item.result.spki.now c.requires.batch.short
    (omega (arith, size, c.items-test.true))
    (item_is c.args.items.now c.args.from c.args.count c.requires.within c.items.done _ _
    c.items-test.true c.item-item.ensures.entry c.item-item.ensures.key)).0

pub put_vec16-requires-in-items : goal.put_vec16-requires-in-items
put_vec16-requires-in-items g c =
    let size = count_is c.args.items.now c.args.from c.args.count c.requires.within in
    (short_at (take c.args.count (drop c.args.from (pairs_of c.args.items.now))) c.items.done
    c.item-item.result.entry.now c.item-item.result.spki.now c.requires.batch.short
    (omega (arith, size, c.items-test.true))
    (item_is c.args.items.now c.args.from c.args.count c.requires.within c.items.done _ _
    c.items-test.true c.item-item.ensures.entry c.item-item.ensures.key)).1

pub items-preserved : goal.items-preserved
items-preserved g c =
    let size = count_is c.args.items.now c.args.from c.args.count c.requires.within in
    record {
      missing = put_on (take c.args.count (drop c.args.from (pairs_of c.args.items.now)))
          c.items.done c.items.body c.put_vec16.new.out c.put_vec16-in-items.new.out
          c.item-item.result.entry.now c.item-item.result.spki.now
          (omega (arith, size, c.items-test.true))
          (item_is c.args.items.now c.args.from c.args.count c.requires.within c.items.done _ _
          c.items-test.true c.item-item.ensures.entry c.item-item.ensures.key)
          c.in_ok-put_vec16.ensures.ok c.in_ok-put_vec16-2.ensures.ok c.items.invariant.missing;
      within = omega (arith, c.items-test.true);
    }

pub returns : goal.returns
returns g c =
    let size = count_is c.args.items.now c.args.from c.args.count c.requires.within in
    put_all (take c.args.count (drop c.args.from (pairs_of c.args.items.now))) c.items.done
    c.items.body (omega (arith, size, c.items-test.false)) c.items.invariant.missing
