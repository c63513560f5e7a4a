use Rattle.std.proofs.Common.{ap, subst}
use Rattle.std.specs.Io.KnownBytes.{Appends}
use Rattle.std.proofs.lemmas.List.{take_all}
use Rattle.mtc_io.specs.Streams.{joined}
use Rattle.mtc_io.proofs.Streams.{pieces_prefix, prefix_whole}
use Rattle.mtc_io.proofs.sink.write_pieces.Goals as goal

pub returns-in_err-write_all-clause-prefix : goal.returns-in_err-write_all-clause-prefix
returns-in_err-write_all-clause-prefix g c =
    pieces_prefix _ _ _ c.args.pieces.now c.loop-piece.piece-index _ c.loop-piece-test.true
    c.loop-piece.invariant.taken c.write_all.ensures.prefix

pub returns-clause-prefix : goal.returns-clause-prefix
returns-clause-prefix g c =
    let all = ap joined (take_all _ c.args.pieces.now c.loop-piece-test.false) in
    prefix_whole _ _ _ (subst (Appends (g.O.Sink.taken c.args.sink.now)
    (g.O.Sink.taken c.loop-piece.sink)) all c.loop-piece.invariant.taken)
