use Rattle.std.proofs.Common.{arith, refl}
use Rattle.mtc_drill.proofs.Forms.{is_one}
use Rattle.mtc_drill.proofs.summary.answer_of.Goals as goal

pub returns : goal.returns
returns c = rw (c.of_text.ensures, c.in_ok-text.ensures)
    ((refl, is_one c.args.number c.args.counts.now c.requires), λ one. omega (arith, one))
