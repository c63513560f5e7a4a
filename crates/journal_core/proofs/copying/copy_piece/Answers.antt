use Rattle.disk_core.specs.Disk.{part}
use Rattle.byte_formats.proofs.Values.{each_some}
use Rattle.journal_core.proofs.Copies.{prefix_none}
use Rattle.journal_core.proofs.copying.copy_piece.Goals as goal

pub returns-in-Err-clause-prefix : goal.returns-in-Err-clause-prefix
returns-in-Err-clause-prefix g c =
    each_some _ _ (λ bytes. prefix_none _ (part c.args.place c.args.length bytes))
