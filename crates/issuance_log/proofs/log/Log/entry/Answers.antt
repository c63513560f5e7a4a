use Rattle.std.proofs.Common.{ℕ, [], rules, refl, sym, subst, ◌∙◌, arith}
use Rattle.disk_core.proofs.Times.{nothing_read}
use Rattle.issuance_log.specs.Counted.{log_keeps}
use Rattle.issuance_log.specs.Durable.{IsDurableLog}
use Rattle.issuance_log.specs.Items.{AreBelow, items_leaves, items_offsets}
use Rattle.issuance_log.specs.Staying.{stays_alone}
use Rattle.issuance_log.specs.Words.{log_disk, log_end, log_records, log_tiles_disk, view_of}
use Rattle.issuance_log.specs.declared.error.LogError.TheVariants.{Memory}
use Rattle.issuance_log.proofs.Prefixes.{read_durable}
use Rattle.issuance_log.proofs.Rereading.{gives_error, gives_first, gives_item, gives_none}
use Rattle.issuance_log.proofs.log.Log.entry.Goals as goal

pub returns-then-index-size-clause-item : goal.returns-then-index-size-clause-item
returns-then-index-size-clause-item g c =
    let log = c.args.self.now in
    gives_none g.H.TreeHash.hash (view_of log) (items_offsets log.machine.items)
    (items_leaves log.machine.items) (log_records log) (log_keeps log) c.args.index [] []
    (omega arith)

pub returns-in_err-append-clause-item : goal.returns-in_err-append-clause-item
returns-in_err-append-clause-item g c =
    let log = c.args.self.now in
    gives_error g.H.TreeHash.hash (view_of log) (items_offsets log.machine.items)
    (items_leaves log.machine.items) (log_records log) (log_keeps log) c.args.index
    c.from_residual.result Memory _ _ c.from_residual.ensures.1 (omega arith) tt

pub returns-then-index-eq0-clause-item : goal.returns-then-index-eq0-clause-item
returns-then-index-eq0-clause-item g c =
    let log = c.args.self.now in
    gives_first g.H.TreeHash.hash (view_of log) (items_offsets log.machine.items)
    (items_leaves log.machine.items) (log_records log) (log_keeps log) c.args.index _ _
    (omega arith) (search rules) (search rules)

pub returns-clause-item : goal.returns-clause-item
returns-clause-item g c =
    let log = c.args.self.now in
    gives_item g.H.TreeHash.hash (view_of log) (items_offsets log.machine.items)
    (items_leaves log.machine.items) (log_records log) (log_keeps log) c.args.index
    c.place-place.result _ _ (omega arith) (omega arith) c.place-place.ensures
    c.read_entry.result c.read_entry.ensures.why
    (read_durable c.read_entry.result (g.D.Disk.contents (log_disk log)) (log_end log)
    c.place-place.result (c.read_entry.new.entry, c.read_entry.new.spki) log.journal.stands
    (λ b is. (log.durable b is).durable) c.read_entry.ensures.item)

pub place-place-requires : goal.place-place-requires
place-place-requires g c = let counted = c.args.self.now.counted in omega arith

pub read_entry-requires-clause-place : goal.read_entry-requires-clause-place
read_entry-requires-clause-place g c =
    let log = c.args.self.now in
    let counted = log.counted in
    let below = log.below c.args.index (omega arith) in
    omega (arith, c.place-place.ensures)

pub returns-then-index-size-clause-stays : goal.returns-then-index-size-clause-stays
returns-then-index-size-clause-stays g c =
    stays_alone c.args.self.now (g.met.D.Disk.only_now _) (g.met.T.Disk.only_now _)

pub returns-in_err-append-clause-stays : goal.returns-in_err-append-clause-stays
returns-in_err-append-clause-stays g c =
    stays_alone c.args.self.now (g.met.D.Disk.only_now _) (g.met.T.Disk.only_now _)

pub returns-then-index-eq0-clause-stays : goal.returns-then-index-eq0-clause-stays
returns-then-index-eq0-clause-stays g c =
    stays_alone c.args.self.now (g.met.D.Disk.only_now _) (g.met.T.Disk.only_now _)

pub returns-clause-stays : goal.returns-clause-stays
returns-clause-stays g c = record {
  only_reads = c.read_entry.ensures.only_reads;
  tiles = nothing_read g.T.Disk (log_tiles_disk c.args.self.now) (g.met.T.Disk.only_now _);
  view = refl;
  end = c.read_entry.ensures.end;
  broken = c.read_entry.ensures.broken;
}

pub invariant_of-self : goal.invariant_of-self
invariant_of-self g c =
    let log = c.args.self.now in
    let h = g.H.TreeHash.hash in
    let v = view_of log in
    let offsets = items_offsets log.machine.items in
    let leaves = items_leaves log.machine.items in
    let end = c.read_entry.ensures.end in
    record {
      counted = log.counted;
      adopted = log.adopted;
      stored = log.stored;
      below = subst (λ (n : ℕ). AreBelow offsets n) (sym end) log.below;
      durable = λ b contents.
          subst (λ (n : ℕ). IsDurableLog h v offsets leaves n b) (sym end)
          (log.durable b (sym c.read_entry.ensures.only_reads.contents ∙ contents));
    }
