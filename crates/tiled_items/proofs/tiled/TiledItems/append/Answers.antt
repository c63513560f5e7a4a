use Rattle.std.proofs.Common.{◌≡◌, ◌∙◌, ℕ, ap, arith, length, refl, subst, sym}
use Rattle.std.specs.Prelude.{IsTrue, Some, is_some}
use Rattle.byte_formats.proofs.Values.{err_is}
use Rattle.issuance_log.specs.Refusals.{append_refusal}
use Rattle.journal_core.specs.Words.{end_of}
use Rattle.tiled_items.specs.Answers.{RecordKeepsTo}
use Rattle.tiled_items.specs.Blocks.{PlacesAreBelow, blocks_of}
use Rattle.tiled_items.specs.Durable.{IsDurableTiled}
use Rattle.tiled_items.specs.Held.{HasItemCapacity, held_leaves, held_places}
use Rattle.tiled_items.specs.Words.{tiled_broken, tiled_end, tiled_owner}
use Rattle.tiled_items.specs.declared.error.TiledError.TheVariants.{Memory}
use Rattle.tiled_items.specs.declared.machine.TileRest.{TileRest}
use Rattle.tiled_items.proofs.Answering.{record_answer}
use Rattle.tiled_items.proofs.Leaving.{appends_from, appends_not}
use Rattle.tiled_items.proofs.Opening.{durable_as}
use Rattle.tiled_items.proofs.tiled.TiledItems.append.Goals as goal

pub append_record-requires : goal.append_record-requires
append_record-requires g c =
    let rules = g.R.ItemRules in
    let h = g.H.TreeHash.hash in
    let it = c.args.self.now in
    let body = c.args.body.now in
    let ready = c.reserve.ensures in
    let held = c.reserve.new.self.held in
    let was = it.stored in
    let stays = ready.stored in
    record {
      some = c.requires.some;
      short = c.requires.short;
      allowed = subst (λ v. IsTrue (is_some (rules.takes h v body))) (sym ready.view)
          c.requires.allowed;
      capacity = record {
        numbers = c.in_ok-reserve.ensures.numbers;
        items = subst (λ (n : ℕ). HasItemCapacity n (length (rules.added body)) held)
            (sym (ready.count ∙ it.counted))
            (subst (λ (n : ℕ). HasItemCapacity (rules.size (rules.view it.machine.numbers)) n held)
            c.requires.count c.in_ok-reserve.ensures.items);
        stored = λ w is.
            let same = c.requires.untiled w
            (subst (λ v. rules.takes h v body ≡ Some w) ready.view is) in
            omega (arith, same, was, stays);
      };
    }

pub returns-in_err-reserve-clause-appends : goal.returns-in_err-reserve-clause-appends
returns-in_err-reserve-clause-appends g c = λ next is.
    appends_not c.args.self.now (g.R.ItemRules.view c.reserve.new.self.numbers)
    c.reserve.ensures.view c.args.body.now next c.from_residual.result Memory
    c.from_residual.ensures.1 refl (g.met.D.Disk.only_now _)

pub returns-in_err-reserve-clause-answer : goal.returns-in_err-reserve-clause-answer
returns-in_err-reserve-clause-answer g c =
    let it = c.args.self.now in
    subst (RecordKeepsTo (append_refusal (tiled_broken it) (tiled_end it) c.args.body.now))
    (err_is c.from_residual.result Memory c.from_residual.ensures.1) tt

pub returns-in_err-reserve-clause-tiles : goal.returns-in_err-reserve-clause-tiles
returns-in_err-reserve-clause-tiles g c =
    ap (λ (rest : TileRest _). rest.disk) c.reserve.ensures.rest

pub returns-clause-appends : goal.returns-clause-appends
returns-clause-appends g c = λ next is.
    appends_from c.args.self.now (g.R.ItemRules.view c.reserve.new.self.numbers)
    c.reserve.ensures.view (tiled_owner c.append_record.new.self) c.args.body.now next
    c.append_record.result (c.append_record.ensures.appends next
    (subst (λ v. g.R.ItemRules.takes g.H.TreeHash.hash v c.args.body.now ≡ Some next)
    (sym c.reserve.ensures.view) is))

pub returns-clause-answer : goal.returns-clause-answer
returns-clause-answer g c = record_answer _ c.append_record.result c.append_record.ensures.refusal

pub returns-clause-tiles : goal.returns-clause-tiles
returns-clause-tiles g c =
    c.append_record.ensures.tiles ∙ ap (λ (rest : TileRest _). rest.disk) c.reserve.ensures.rest

-- what is shown and held stays
pub invariant_of-self : goal.invariant_of-self
invariant_of-self g c =
    let rules = g.R.ItemRules in
    let it = c.args.self.now in
    let now = c.reserve.new.self in
    let ready = c.reserve.ensures in
    let was = it.stored in
    let stays = ready.stored in
    let tiled = ap rules.tiled ready.view in
    record {
      counted = ready.count ∙ it.counted ∙ ap rules.size (sym ready.view);
      begun = ap length ready.places ∙ it.begun
          ∙ ap (λ v. blocks_of (rules.size v)) (sym ready.view);
      below = subst (λ l. PlacesAreBelow l (end_of it.journal)) (sym ready.places) it.below;
      adopted = ap (λ (rest : TileRest _). is_some rest.refusal) ready.rest ∙ it.adopted;
      stored = omega (arith, was, stays, tiled);
      durable = λ b contents.
          let is = it.durable b contents in
          let places = held_places now.held in
          let leaves = held_leaves now.held in
          subst (λ v. IsDurableTiled rules g.H.TreeHash.hash v places leaves (end_of it.journal) b)
          (sym ready.view)
          (durable_as rules g.H.TreeHash.hash (rules.view it.machine.numbers)
          (held_places it.machine.held) places (held_leaves it.machine.held) leaves
          (end_of it.journal) b ready.places ready.leaves is.durable is.made is.held);
    }
