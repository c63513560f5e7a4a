use Rattle.std.proofs.Common.{ap, sym, ◌∙◌}
use Rattle.journal_core.specs.Format.{new_file_of}
use Rattle.journal_core.proofs.Append.{packed_body}
use Rattle.journal_core.proofs.first_record.FirstRecord.pack.Goals as goal

pub invariant_of-result-clause-packed : goal.invariant_of-result-clause-packed
invariant_of-result-clause-packed c =
    c.pack_first.ensures.first ∙ ap new_file_of
    (sym (packed_body c.args.first.now c.pack_first.new.buffer.items
    c.pack_first.ensures.first))

pub returns : goal.returns
returns c = packed_body c.args.first.now c.pack_first.new.buffer.items c.pack_first.ensures.first
