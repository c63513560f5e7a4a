use Rattle.std.proofs.Common.{ℕ, ◌-◌, None, Some, arith, refl, subst, sym, ◌∙◌}
use Rattle.byte_formats.proofs.Values.{each_some}
use Rattle.disk_core.proofs.Times.{nothing_read, only_read_on}
use Rattle.journal_core.specs.Ends.{AreDurable, durable_records}
use Rattle.journal_core.specs.Words.{disk_of}
use Rattle.tiled_items.proofs.Walking.{steps_on}
use Rattle.tiled_items.proofs.reading.read_item.Goals as goal

pub records-init : goal.records-init
records-init g c = record {
  walk = each_some _ (durable_records c.args.journal.now) (λ list walk inside. walk);
  entry = c.requires.entry;
  spki = c.requires.spki;
  records = refl;
  end = refl;
  only_reads = nothing_read g.D.Disk (disk_of c.args.journal.now) (g.met.D.Disk.only_now _);
}

pub read_step-requires-clause-durable : goal.read_step-requires-clause-durable
read_step-requires-clause-durable g c = λ b contents.
    let is = c.records.invariant in
    subst (λ (n : ℕ). AreDurable n b) (sym is.end)
    (c.requires.durable b (sym is.only_reads.contents ∙ contents))

pub read_step-requires-clause-entry : goal.read_step-requires-clause-entry
read_step-requires-clause-entry g c = c.records.invariant.entry

pub read_step-requires-clause-spki : goal.read_step-requires-clause-spki
read_step-requires-clause-spki g c = c.records.invariant.spki

pub returns-in_err-read_step-clause-records : goal.returns-in_err-read_step-clause-records
returns-in_err-read_step-clause-records g c =
    c.read_step.ensures.records ∙ c.records.invariant.records

pub returns-in_err-read_step-clause-end : goal.returns-in_err-read_step-clause-end
returns-in_err-read_step-clause-end g c = c.read_step.ensures.end ∙ c.records.invariant.end

pub returns-in_err-read_step-clause-only_reads : goal.returns-in_err-read_step-clause-only_reads
returns-in_err-read_step-clause-only_reads g c =
    only_read_on g.D.Disk _ _ _ c.records.invariant.only_reads c.read_step.ensures.only_reads

pub returns-in-None-clause-item : goal.returns-in-None-clause-item
returns-in-None-clause-item g c =
    let rules = g.R.ItemRules in
    let is = c.records.invariant in
    steps_on rules.first rules.added (durable_records c.args.journal.now)
    (durable_records c.records.journal) c.args.index c.args.start.place
    (c.args.index - c.args.start.first) c.records.place c.records.left
    (c.read_step.new.entry, c.read_step.new.spki) None is.records is.walk
    (rw c.in-None.is at c.in_ok-read_step.ensures.step)

pub returns-in-None-clause-records : goal.returns-in-None-clause-records
returns-in-None-clause-records g c = c.read_step.ensures.records ∙ c.records.invariant.records

pub returns-in-None-clause-end : goal.returns-in-None-clause-end
returns-in-None-clause-end g c = c.read_step.ensures.end ∙ c.records.invariant.end

pub returns-in-None-clause-only_reads : goal.returns-in-None-clause-only_reads
returns-in-None-clause-only_reads g c =
    only_read_on g.D.Disk _ _ _ c.records.invariant.only_reads c.read_step.ensures.only_reads

pub records-smaller : goal.records-smaller
records-smaller g c =
    let further = rw c.in-Some.is at c.in_ok-read_step.ensures.further in
    let more = further.0 in
    let inside = further.1 in
    let end = c.records.invariant.end in
    omega (arith, more, inside, end)

pub records-preserved : goal.records-preserved
records-preserved g c =
    let rules = g.R.ItemRules in
    let is = c.records.invariant in
    let did = c.read_step.ensures in
    record {
      walk = steps_on rules.first rules.added (durable_records c.args.journal.now)
          (durable_records c.records.journal) c.args.index c.args.start.place
          (c.args.index - c.args.start.first) c.records.place c.records.left
          (c.read_step.new.entry, c.read_step.new.spki) (Some (c.in-Some.later, c.in-Some.rest))
          is.records is.walk (rw c.in-Some.is at c.in_ok-read_step.ensures.step);
      entry = (rw c.in-Some.is at c.in_ok-read_step.ensures.still).0;
      spki = (rw c.in-Some.is at c.in_ok-read_step.ensures.still).1;
      records = did.records ∙ is.records;
      end = did.end ∙ is.end;
      only_reads = only_read_on g.D.Disk _ _ _ is.only_reads did.only_reads;
    }
