use Rattle.std.proofs.Common.{◌+◌, length, arith}
use Rattle.std.proofs.lemmas.Slice.{drop-put_mid}
use Rattle.lmots_core.proofs.fields.put.Goals as goal

pub returns-clause-rest : goal.returns-clause-rest
returns-clause-rest c =
    let end = c.args.at + length c.args.piece.now in
    drop-put_mid c.args.at _ c.args.out.now c.copy_from_slice.new.self end (omega arith)
    (omega arith)
    (omega (arith, c.copy_from_slice.ensures))
