use Rattle.std.proofs.lemmas.Result.{on_ok_weaker}
use Rattle.tls_wire.proofs.ArcForm.{digits_put}
use Rattle.tls_wire.proofs.arcs.+put_high_digits.Goals as goal

pub returns : goal.returns
returns t c =
    on_ok_weaker c.append.result (λ done. digits_put c.args.out.now c.put_high_digits.new.out
    c.append.new.self c.args.value c.if-value-eq0.false c.in_ok-put_high_digits.ensures done)
    c.append.ensures.ok
