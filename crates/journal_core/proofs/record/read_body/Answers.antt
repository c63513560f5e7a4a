use Rattle.std.proofs.Common.{◌≡◌, ◌≢◌, ◌+◌, ℕ, List, length, drop, slice_index, arith, ◌∙◌}
use Rattle.std.specs.Int.{w32, to_be_bytes}
use Rattle.disk_core.specs.Disk.{part}
use Rattle.disk_core.proofs.Times.{only_read_on, nothing_read}
use Rattle.journal_core.specs.Format.{IsRecordAt}
use Rattle.journal_core.specs.Windows.{Holds}
use Rattle.journal_core.proofs.Modelled.{if_modelled, at_contents}
use Rattle.journal_core.proofs.Records.{record_read}
use Rattle.journal_core.proofs.Windows.{held_part}
use Rattle.journal_core.proofs.record.read_body.Goals as goal

pub returns-clause-body : goal.returns-clause-body
returns-clause-body g c =
    let contents = g.D.Disk.contents c.args.disk.now in
    let place = c.args.place in
    let count = c.in_ok-length.field-0 in
    let commit_byte = c.in_ok-commit_byte.commit_byte in
    let window = c.hold.new.window in
    let at = c.in_ok-commit_byte.ensures.at in
    let all = c.in_ok-commit_byte.ensures.all in
    if_modelled (λ (b : List ℕ). IsRecordAt b place
    (part (commit_byte + 5) count window.buffer.items)) contents
    (λ b is.
    let size : c.args.size ≡ length b =
    at_contents (λ (b : List ℕ). c.args.size ≡ length b) contents b is c.requires.exact in
    let holds : Holds window b = at_contents (Holds window) (g.D.Disk.contents c.hold.new.disk) b
    (c.hold.ensures.only_reads.contents ∙ (c.read_size.ensures.only_reads.contents ∙ is))
    c.hold.ensures.holds in
    record_read b place count (drop (commit_byte + 5) window.buffer.items)
    (at_contents (λ (b : List ℕ). slice_index b place ≢ 0) contents b is
    c.requires.open_commit_byte)
    (at_contents (λ (b : List ℕ). part (place + 1) 4 b ≡ to_be_bytes w32 count) contents b is
    c.in_ok-length.ensures.size)
    (held_part window b (commit_byte + 5) (place + 5) count holds (omega arith) (omega arith))
    (omega arith) (omega arith) (omega arith))

pub returns-then-size-place-lt5-clause-only_reads :
    goal.returns-then-size-place-lt5-clause-only_reads
returns-then-size-place-lt5-clause-only_reads g c =
    nothing_read g.D.Disk _ (g.met.D.Disk.only_now _)

pub returns-in_err-commit_byte-clause-only_reads : goal.returns-in_err-commit_byte-clause-only_reads
returns-in_err-commit_byte-clause-only_reads g c =
    only_read_on g.D.Disk _ _ _ c.read_size.ensures.only_reads c.hold.ensures.only_reads

pub returns-clause-only_reads : goal.returns-clause-only_reads
returns-clause-only_reads g c =
    only_read_on g.D.Disk _ _ _ c.read_size.ensures.only_reads c.hold.ensures.only_reads
