use Rattle.std.proofs.Common.{◌≡◌, ℕ, ◌+◌, List, Some, refl, ap, subst}
use Rattle.std.proofs.Common.{sym, ◌∙◌}
use Rattle.std.specs.Prelude.{if◌then◌else◌, is_some}
use Rattle.byte_formats.specs.Types.{Text}
use Rattle.issuance_log.specs.Batches.{leading_items}
use Rattle.issuance_log.specs.Folds.{more_entries}
use Rattle.issuance_log.specs.ItemOffsets.{before_items}
use Rattle.issuance_log.specs.Items.{HasCapacityOf, HaveTaken}
use Rattle.issuance_log.proofs.Pushing.{taken_after}
use Rattle.issuance_log.proofs.Steps.{added_by_batch, items_are}
use Rattle.issuance_log.proofs.Views.{items_refused, items_taken}
use Rattle.issuance_log.proofs.machine.take_no_item.Goals as goal

pub returns-then-not-takes_all-clause-view : goal.returns-then-not-takes_all-clause-view
returns-then-not-takes_all-clause-view g c = (
  items_refused g.H.TreeHash.hash c.args.numbers.now.view c.args.body.now _
      (added_by_batch c.args.body.now _ c.requires.other c.in-Ok.ensures.found)
      (sym c.takes_all.ensures.value ∙ c.if-not-takes_all.true),
  refl,
)

pub returns-in_ok-reserve-in-Ok-clause-view : goal.returns-in_ok-reserve-in-Ok-clause-view
returns-in_ok-reserve-in-Ok-clause-view g c =
    items_taken g.H.TreeHash.hash c.args.numbers.now.view c.args.body.now _
    (added_by_batch c.args.body.now _ c.requires.other c.in-Ok.ensures.found)
    (sym c.takes_all.ensures.value ∙ c.if-not-takes_all.false)
    ∙ ap (λ (n : ℕ). Some (more_entries n c.args.numbers.now.view)) (sym c.in-Ok.ensures.count)
    ∙ ap Some (sym c.add_items.ensures.view)

pub returns-in_err-reserve-in-Ok-clause-capacity : goal.returns-in_err-reserve-in-Ok-clause-capacity
returns-in_err-reserve-in-Ok-clause-capacity g c = λ capacity out_of_memory.
    c.in_err-reserve-in-Ok.ensures.full (subst (λ (n : ℕ). HasCapacityOf n c.args.items.now)
    (sym c.in-Ok.ensures.count) (capacity.items _
    (added_by_batch c.args.body.now _ c.requires.other c.in-Ok.ensures.found)))

-- the place of the first item of a Batch is eight bytes after the commit byte
pub returns-in_ok-reserve-in-Ok-clause-taken : goal.returns-in_ok-reserve-in-Ok-clause-taken
returns-in_ok-reserve-in-Ok-clause-taken g c =
    let body = c.args.body.now in
    let adds = items_are body _
    (added_by_batch body _ c.requires.other c.in-Ok.ensures.found) in
    let before : before_items body ≡ 8 =
    ap (λ o. if is_some o then 6 else 8) c.requires.other in
    let list = leading_items c.in-Ok.list.now in
    let taken = taken_after g.H.TreeHash.hash list (c.args.place + 8) c.args.items.now
    c.reserve.new.self c.push_all.new.self c.reserve.ensures.offsets c.reserve.ensures.leaves
    c.push_all.ensures.taken in
    subst (λ (l : List (Text × Text)). HaveTaken g.H.TreeHash.hash l
    (c.args.place + before_items body) c.args.items.now c.push_all.new.self) (sym adds)
    (subst (λ (n : ℕ). HaveTaken g.H.TreeHash.hash list (c.args.place + n) c.args.items.now
    c.push_all.new.self) (sym before) taken)
