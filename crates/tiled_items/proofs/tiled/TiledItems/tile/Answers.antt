use Rattle.std.proofs.Common.{◌≡◌, ◌∙◌, ℕ, ◌*◌, ◌/◌, Some, ap, arith, refl}
use Rattle.std.proofs.Common.{subst, sym, length}
use Rattle.std.proofs.lemmas.Option.{same_Some}
use Rattle.byte_formats.proofs.Values.{err_is}
use Rattle.issuance_log.specs.Records.{tiles_record, tiles_tag}
use Rattle.issuance_log.proofs.Encoded.{length-size}
use Rattle.state_journal.proofs.Appended.{is_allowed}
use Rattle.state_journal.proofs.Owners.{owner_stays}
use Rattle.journal_core.specs.Ends.{durable_records}
use Rattle.journal_core.specs.Owners.{OwnerAppends, owner_over}
use Rattle.tiled_items.specs.Blocks.{full_of}
use Rattle.tiled_items.specs.Words.{of_tiled_journal, tiled_view}
use Rattle.tiled_items.specs.declared.error.TiledError.TheVariants.{Failed}
use Rattle.tiled_items.proofs.Tiling.{after_none, after_stored, keeps_still, keeps_stored}
use Rattle.tiled_items.proofs.tiled.TiledItems.tile.Goals as goal

pub returns-then-size-tiled-clause-keeps : goal.returns-then-size-tiled-clause-keeps
returns-then-size-tiled-clause-keeps g c =
    keeps_still c.args.self.now (g.met.T.Disk.only_now _) _

pub returns-then-size-tiled-clause-following : goal.returns-then-size-tiled-clause-following
returns-then-size-tiled-clause-following g c =
    after_none c.args.self.now (g.met.D.Disk.only_now _) _ _ _

pub returns-in_err-body-clause-keeps : goal.returns-in_err-body-clause-keeps
returns-in_err-body-clause-keeps g c = keeps_still c.args.self.now (g.met.T.Disk.only_now _) _

pub returns-in_err-body-clause-following : goal.returns-in_err-body-clause-following
returns-in_err-body-clause-following g c =
    after_none c.args.self.now (g.met.D.Disk.only_now _) _ _ _

pub returns-in_err-store-clause-appends : goal.returns-in_err-store-clause-appends
returns-in_err-store-clause-appends g c = λ next is.
    let it = c.args.self.now in
    let v = g.R.ItemRules.view it.machine.numbers in
    let owner = owner_over it.journal (durable_records it.journal) v in
    subst (OwnerAppends {X = ℕ} g.D.Disk of_tiled_journal
    (tiles_record (full_of (g.R.ItemRules.size v))) next owner owner)
    (err_is c.from_residual-in_err-store.result Failed c.from_residual-in_err-store.ensures.1)
    (owner_stays {X = ℕ} g.D.Disk of_tiled_journal (tiles_record (full_of (g.R.ItemRules.size v)))
    next it.journal v Failed refl (g.met.D.Disk.only_now _))

pub returns-in_err-store-clause-keeps : goal.returns-in_err-store-clause-keeps
returns-in_err-store-clause-keeps g c =
    keeps_stored c.args.self.now c.size.ensures.sound _ _ refl c.store.ensures.only.any_time

pub returns-in_err-store-clause-following : goal.returns-in_err-store-clause-following
returns-in_err-store-clause-following g c =
    after_none c.args.self.now (g.met.D.Disk.only_now _) _ _ _

pub append_record-requires-clause-some : goal.append_record-requires-clause-some
append_record-requires-clause-some g c =
    let is = ap length (c.as_slice.ensures ∙ c.in_ok-body.ensures) in
    let bytes = length-size tiles_tag (c.size.result / 256 * 256) in
    omega (arith, is, bytes)

pub append_record-requires-clause-short : goal.append_record-requires-clause-short
append_record-requires-clause-short g c =
    let is = ap length (c.as_slice.ensures ∙ c.in_ok-body.ensures) in
    let bytes = length-size tiles_tag (c.size.result / 256 * 256) in
    omega (arith, is, bytes)

pub append_record-requires-clause-allowed : goal.append_record-requires-clause-allowed
append_record-requires-clause-allowed g c =
    let rules = g.R.ItemRules in
    let h = g.H.TreeHash.hash in
    let v = rules.view c.args.self.now.machine.numbers in
    let size = c.size.ensures.value in
    let few = c.size.ensures.sound.few in
    let tiled = c.tiled.ensures.value in
    let above = c.if-size-tiled.false in
    let n = c.size.result / 256 * 256 in
    let taken = g.met.R.ItemRules.takes_tiles h v n (omega (arith, size, few)) (omega arith)
    (omega (arith, above, tiled)) (omega (arith, size)) in
    is_allowed _ _ (ap (rules.takes h v) (c.as_slice.ensures ∙ c.in_ok-body.ensures) ∙ taken.is)

pub append_record-requires-clause-capacity : goal.append_record-requires-clause-capacity
append_record-requires-clause-capacity g c =
    let rules = g.R.ItemRules in
    let h = g.H.TreeHash.hash in
    let it = c.args.self.now in
    let v = rules.view it.machine.numbers in
    let size = c.size.ensures.value in
    let few = c.size.ensures.sound.few in
    let tiled = c.tiled.ensures.value in
    let above = c.if-size-tiled.false in
    let n = c.size.result / 256 * 256 in
    let text = c.as_slice.result.now in
    let text_is : text ≡ tiles_record n = c.as_slice.ensures ∙ c.in_ok-body.ensures in
    let taken = g.met.R.ItemRules.takes_tiles h v n (omega (arith, size, few)) (omega arith)
    (omega (arith, above, tiled)) (omega (arith, size)) in
    let next : rules.takes h v text ≡ Some taken.next = ap (rules.takes h v) text_is ∙ taken.is in
    let more = g.met.R.ItemRules.next_size h v taken.next text next in
    let same = taken.same in
    let none : length (rules.added text) ≡ 0 = omega (arith, more, same) in
    let stored = c.in_ok-store.ensures.stored.stored in
    record {
      numbers = subst (rules.HasCapacity it.machine.numbers) (sym text_is)
          (g.met.R.ItemRules.tiles_free it.machine.numbers n);
      items = record {
        places = λ some. absurd (omega (arith, some, none));
        leaves = omega (arith, none);
      };
      stored = λ w is.
          let new = ap rules.tiled (same_Some taken.next w (sym next ∙ is)) in
          let to = taken.new in
          omega (arith, new, to, stored);
    }

pub returns-clause-keeps : goal.returns-clause-keeps
returns-clause-keeps g c =
    keeps_stored c.args.self.now c.size.ensures.sound _ _ c.append_record.ensures.tiles
    c.store.ensures.only.any_time

pub returns-clause-following : goal.returns-clause-following
returns-clause-following g c = λ sound.
    after_stored c.args.self.now _ _ _
    (full_of (g.R.ItemRules.size (tiled_view c.args.self.now))) _ _ c.append_record.ensures.tiles
    (ap (λ (n : ℕ). n / 256 * 256) c.size.ensures.value) c.in_ok-store.ensures.stored.holds
