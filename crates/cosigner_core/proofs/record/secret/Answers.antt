use Rattle.cosigner_core.proofs.Lengths.{length-read}
use Rattle.cosigner_core.proofs.record.secret.Goals as goal

pub unreachable-requires : goal.unreachable-requires
unreachable-requires c =
    c.in-None.ensures (length-read 48 c.args.cursor.now c.bytes.new.self c.in_ok-bytes.bytes.now
    c.in_ok-bytes.ensures)
