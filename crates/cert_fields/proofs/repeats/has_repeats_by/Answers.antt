use Rattle.std.proofs.Common.{ap, sym, ◌∙◌, ◌-◌, take}
use Rattle.cert_fields.specs.Extensions.{are_repeated, head_at, identifiers}
use Rattle.cert_fields.specs.Views.{texts}
use Rattle.byte_formats.proofs.Left.{first_none}
use Rattle.cert_fields.proofs.Walks.{taken_of}
use Rattle.cert_fields.proofs.Twice.{repeated_prefix, repeated_across, repeated_after}
use Rattle.cert_fields.proofs.Twice.{among_prefix}
use Rattle.cert_fields.proofs.repeats.has_repeats_by.Goals.{then-sort_block-via-then-sort_block}
use Rattle.cert_fields.proofs.repeats.has_repeats_by.Goals.{then-sort_block-via-else-sort_block+then-is_met}
use Rattle.cert_fields.proofs.repeats.has_repeats_by.Goals as goal

pub returns-then-sort_block : goal.returns-then-sort_block
returns-then-sort_block c =
    let taken = c.take_block-taken.result in
    let block = c.take_block-taken.new.block in
    let ids = identifiers (c.loop-left.left - taken) c.take_block-taken.new.reader in
    let split = taken_of c.loop-left.reader taken (texts (take taken block))
    c.take_block-taken.new.reader c.loop-left.left c.take_block-taken.ensures.within.0
    c.take_block-taken.ensures.read in
    let total = sym c.loop-left.invariant ∙ ap are_repeated split in
    elim c.then-sort_block.branch [
      | then-sort_block-via-then-sort_block w ↦
          sym (total ∙ repeated_prefix (texts (take taken block)) ids
          (sym c.sort_block.ensures.repeats ∙ w.if-sort_block.true))
      | then-sort_block-via-else-sort_block+then-is_met w ↦
          let among = among_prefix block c.sort_block.new.block taken ids
          c.take_block-taken.ensures.within.1 c.sort_block.ensures.permutation in
          sym (total ∙ repeated_across (texts (take taken block)) ids (sym among
          ∙ (sym w.is_met.ensures ∙ w.if-is_met.true)))
    ]

pub loop-left-preserved : goal.loop-left-preserved
loop-left-preserved c =
    let taken = c.take_block-taken.result in
    let block = c.take_block-taken.new.block in
    let ids = identifiers (c.loop-left.left - taken) c.take_block-taken.new.reader in
    let split = taken_of c.loop-left.reader taken (texts (take taken block))
    c.take_block-taken.new.reader c.loop-left.left c.take_block-taken.ensures.within.0
    c.take_block-taken.ensures.read in
    let among = among_prefix block c.sort_block.new.block taken ids
    c.take_block-taken.ensures.within.1 c.sort_block.ensures.permutation in
    let none = sym c.sort_block.ensures.repeats ∙ c.if-sort_block.false in
    let apart = sym among ∙ (sym c.is_met.ensures ∙ c.if-is_met.false) in
    sym (repeated_after (texts (take taken block)) ids none apart)
    ∙ (ap are_repeated (sym split) ∙ c.loop-left.invariant)

pub returns : goal.returns
returns c = sym (ap are_repeated (first_none head_at c.loop-left.left c.loop-left.reader
    c.loop-left-test.false)) ∙ c.loop-left.invariant
