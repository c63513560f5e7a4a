use Rattle.std.proofs.Common.{sym, arith}
use Rattle.std.proofs.lemmas.List.{drop_all, take_all}
use Rattle.authority_core.proofs.writing.pem.first_line.Goals as goal

pub returns-then-text-lt-LINE-clause-line : goal.returns-then-text-lt-LINE-clause-line
returns-then-text-lt-LINE-clause-line c = sym (take_all 64 c.args.text.now (omega arith))

pub returns-then-text-lt-LINE-clause-later : goal.returns-then-text-lt-LINE-clause-later
returns-then-text-lt-LINE-clause-later c = sym (drop_all 64 c.args.text.now (omega arith))
