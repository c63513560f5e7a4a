use Rattle.std.proofs.Common.{ap, sym, ◌∙◌, length}
use Rattle.journal_core.specs.Words.{disk_of}
use Rattle.issuance_log.proofs.Rereading.{bytes_back}
use Rattle.issuance_log.proofs.entries.read_bytes.Goals as goal

pub returns-clause-bytes : goal.returns-clause-bytes
returns-clause-bytes g c =
    let journal = c.args.journal.now in
    let same = sym (ap length c.deref_mut.ensures.value) in
    bytes_back g.D.Disk (disk_of journal) c.args.place (length c.deref_mut.result.now)
    c.in_ok-bytes.bytes.len c.read.new.out c.in_ok-bytes.bytes.items journal.stands
    c.read.auto.out same (c.in_ok-bytes.bytes.ok.0 ∙ same) c.in_ok-read.ensures.read
