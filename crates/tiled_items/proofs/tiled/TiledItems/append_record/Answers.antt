use Rattle.std.proofs.Common.{◌∙◌, ap, arith, refl, subst}
use Rattle.std.specs.Prelude.{is_some}
use Rattle.byte_formats.proofs.Values.{err_is}
use Rattle.issuance_log.specs.Refusals.{append_refusal}
use Rattle.tiled_items.proofs.Answering.{appended_none, refused_keeps}
use Rattle.journal_core.specs.Ends.{durable_records}
use Rattle.journal_core.specs.Owners.{OwnerAppends, owner_over}
use Rattle.state_journal.proofs.Owners.{owner_grows, owner_refused}
use Rattle.tiled_items.specs.Answers.{KeepsToTiledJournal}
use Rattle.tiled_items.specs.Blocks.{PlacesAreBelow}
use Rattle.tiled_items.specs.Held.{held_places}
use Rattle.tiled_items.specs.Words.{of_tiled_journal, tiled_broken, tiled_end, tiled_owner}
use Rattle.tiled_items.specs.declared.error.TiledError.TheVariants.{Append}
use Rattle.tiled_items.specs.declared.machine.TileRest.{TileRest}
use Rattle.tiled_items.proofs.tiled.TiledItems.append_record.Goals as goal

-- the durable records make the machine
pub append_to-requires : goal.append_to-requires
append_to-requires g c =
    let it = c.args.self.now in
    let begun = it.journal.begun in
    record {
      some = c.requires.some;
      few = c.requires.short;
      made = record {
        durable = λ b contents.
            let is = it.durable b contents in
            record {
              durable = is.durable;
              holds = record { made = is.made; keeps = is.held };
            };
        within = record {
          counted = it.counted;
          begun = it.begun;
          below =
              subst (PlacesAreBelow (held_places it.machine.held)) (omega (arith, begun)) it.below;
          stored = λ none. it.stored;
        };
      };
      allowed = c.requires.allowed;
      capacity = c.requires.capacity;
    }

-- what the append did
pub returns-in_err-append_to-clause-appends : goal.returns-in_err-append_to-clause-appends
returns-in_err-append_to-clause-appends g c = λ next is.
    let why = c.in_err-append_to.field-0.0 in
    let was = tiled_owner c.args.self.now in
    let journal = c.append_to.new.journal in
    let now = owner_over journal (durable_records journal)
    (g.R.ItemRules.view c.append_to.new.machine.numbers) in
    subst (OwnerAppends {X = _} g.D.Disk of_tiled_journal c.args.body.now next was now)
    (err_is c.from_residual.result (Append why) c.from_residual.ensures.1)
    (owner_refused g.D.Disk of_tiled_journal c.args.body.now next was now why (Append why) refl
    (c.in_err-append_to.ensures.appends next is))

pub returns-clause-appends : goal.returns-clause-appends
returns-clause-appends g c = λ next is.
    let journal = c.append_to.new.journal in
    owner_grows g.D.Disk of_tiled_journal c.args.body.now next (tiled_owner c.args.self.now)
    (owner_over journal (durable_records journal)
    (g.R.ItemRules.view c.append_to.new.machine.numbers)) c.args.answer
    (c.in_ok-append_to.ensures.appends next is)

-- what the journal refuses
pub returns-in_err-append_to-clause-refusal : goal.returns-in_err-append_to-clause-refusal
returns-in_err-append_to-clause-refusal g c =
    let it = c.args.self.now in
    let why = c.in_err-append_to.field-0.0 in
    subst (KeepsToTiledJournal (append_refusal (tiled_broken it) (tiled_end it) c.args.body.now))
    (err_is c.from_residual.result (Append why) c.from_residual.ensures.1) (
      why,
      (
        refl,
        refused_keeps (tiled_broken it) (tiled_end it) c.args.body.now why
            c.in_err-append_to.ensures.broken c.in_err-append_to.ensures.full,
      ),
    )

pub returns-clause-refusal : goal.returns-clause-refusal
returns-clause-refusal g c =
    let it = c.args.self.now in
    appended_none (tiled_broken it) (tiled_end it) c.args.body.now _
    c.in_ok-append_to.ensures.broken c.in_ok-append_to.ensures.full

-- the disk of the tiles has no call
pub returns-in_err-append_to-clause-tiles : goal.returns-in_err-append_to-clause-tiles
returns-in_err-append_to-clause-tiles g c =
    ap (λ (rest : TileRest _). rest.disk) c.append_to.ensures.rest

pub returns-clause-tiles : goal.returns-clause-tiles
returns-clause-tiles g c = ap (λ (rest : TileRest _). rest.disk) c.append_to.ensures.rest

pub invariant_of-self : goal.invariant_of-self
invariant_of-self g c =
    let it = c.append_to.new.machine in
    let begun = c.append_to.new.journal.begun in
    let made = c.append_to.ensures.made in
    let within = made.within in
    let adopted = ap (λ (rest : TileRest _). is_some rest.refusal) c.append_to.ensures.rest
    ∙ c.args.self.now.adopted in
    record {
      counted = within.counted;
      begun = within.begun;
      below = subst (PlacesAreBelow (held_places it.held)) (omega (arith, begun)) within.below;
      adopted = adopted;
      stored = within.stored adopted;
      durable = λ b contents.
          let is = made.durable b contents in
          record { durable = is.durable; made = is.holds.made; held = is.holds.keeps };
    }
