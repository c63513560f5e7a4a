use Rattle.std.proofs.Common.{ℕ, ap, sym}
use Rattle.std.specs.Prelude.{Option, unwrap_or}
use Rattle.quarrel_core.specs.Firsts.{first_sign_in}
use Rattle.quarrel_core.proofs.Noting.{noted_new, noted_same}
use Rattle.quarrel_core.proofs.conflicting.first_sign.Goals as goal

pub returns-in-Some-clause-first : goal.returns-in-Some-clause-first
returns-in-Some-clause-first c =
    ap (λ (o : Option ℕ). unwrap_or o c.args.place) c.in-Some.ensures.value

pub returns-in-Some-clause-noted : goal.returns-in-Some-clause-noted
returns-in-Some-clause-noted c =
    noted_same (first_sign_in c.args.firsts.now) c.args.start c.args.end c.args.place _
    (sym c.in-Some.ensures.value)

pub returns-clause-first : goal.returns-clause-first
returns-clause-first c =
    ap (λ (o : Option ℕ). unwrap_or o c.args.place) c.in_default.ensures.value

pub returns-clause-noted : goal.returns-clause-noted
returns-clause-noted c =
    noted_new (first_sign_in c.args.firsts.now) (first_sign_in c.insert.new.self) c.args.start
    c.args.end c.args.place (sym c.in_default.ensures.value)
    (λ q. c.in_ok-insert.ensures.updates.0 q)
