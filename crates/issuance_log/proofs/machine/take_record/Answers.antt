use Rattle.std.proofs.Common.{◌≡◌, ℕ, ◌+◌, List, [], ◌∷◌, length, Some, refl, ap, subst, sym, ◌∙◌}
use Rattle.std.proofs.Common.{arith}
use Rattle.std.specs.Prelude.{if◌then◌else◌, is_some}
use Rattle.byte_formats.specs.Types.{Text}
use Rattle.issuance_log.specs.ItemOffsets.{before_items}
use Rattle.issuance_log.specs.Items.{HaveTaken}
use Rattle.issuance_log.proofs.Encoded.{item_takes, length-entry}
use Rattle.issuance_log.proofs.Steps.{added_by_entry, items_of_entry}
use Rattle.issuance_log.proofs.Views.{item_refused, item_taken, taken_capacity}
use Rattle.issuance_log.proofs.machine.take_record.Goals as goal

pub returns-then-not-takes-clause-view : goal.returns-then-not-takes-clause-view
returns-then-not-takes-clause-view g c = (
  item_refused g.H.TreeHash.hash c.args.numbers.now.view c.args.body.now
      (c.in-Ok.entry.now, c.in-Ok.key.now) c.in-Ok.ensures.found
      (sym c.takes.ensures.value ∙ c.if-not-takes.true),
  refl,
)

-- an Entry has its tag at least
pub overflow_add-place : goal.overflow_add-place
overflow_add-place g c =
    let entry = c.in-Ok.entry.now in
    let key = c.in-Ok.key.now in
    let encoded = (item_takes c.args.body.now entry key (λ i. (c.type_inv.body i).fits)
    c.in-Ok.ensures.found).0 in
    let size = ap length encoded ∙ length-entry entry key in
    omega (arith, c.requires.fits, size)

pub add-requires : goal.add-requires
add-requires g c =
    let capacity = taken_capacity g.H.TreeHash.hash c.args.numbers.now.view
    (c.in-Ok.entry.now, c.in-Ok.key.now) (sym c.takes.ensures.value ∙ c.if-not-takes.false) in
    let few = c.takes.ensures.sound.allowed.few in
    omega (arith, c.requires.counted)

pub returns-in_ok-add-in-Ok-clause-view : goal.returns-in_ok-add-in-Ok-clause-view
returns-in_ok-add-in-Ok-clause-view g c =
    item_taken g.H.TreeHash.hash c.args.numbers.now.view c.args.body.now
    (c.in-Ok.entry.now, c.in-Ok.key.now) c.in-Ok.ensures.found
    (sym c.takes.ensures.value ∙ c.if-not-takes.false) ∙ ap Some (sym c.add_item.ensures.view)

pub returns-in_err-add-in-Ok-clause-capacity : goal.returns-in_err-add-in-Ok-clause-capacity
returns-in_err-add-in-Ok-clause-capacity g c = λ capacity out_of_memory.
    c.in_err-add-in-Ok.ensures.full
    (capacity.items ((c.in-Ok.entry.now, c.in-Ok.key.now) ∷ []) (added_by_entry c.args.body.now
    (c.in-Ok.entry.now, c.in-Ok.key.now) c.in-Ok.ensures.found))

-- the place of an Entry's item is six bytes after the commit byte
pub returns-in_ok-add-in-Ok-clause-taken : goal.returns-in_ok-add-in-Ok-clause-taken
returns-in_ok-add-in-Ok-clause-taken g c =
    let x : Text × Text = (c.in-Ok.entry.now, c.in-Ok.key.now) in
    let adds = items_of_entry c.args.body.now x c.in-Ok.ensures.found in
    let before : before_items c.args.body.now ≡ 6 =
    ap (λ o. if is_some o then 6 else 8) c.in-Ok.ensures.found in
    subst (λ (l : List (Text × Text)). HaveTaken g.H.TreeHash.hash l
    (c.args.place + before_items c.args.body.now) c.args.items.now c.add.new.self) (sym adds)
    (subst (λ (n : ℕ). HaveTaken g.H.TreeHash.hash (x ∷ []) (c.args.place + n) c.args.items.now
    c.add.new.self) (sym before) (record {
      offsets = c.in_ok-add-in-Ok.ensures.offsets;
      leaves = c.in_ok-add-in-Ok.ensures.leaves;
    }))
