use Rattle.tls_wire.proofs.arcs.+put_high_digits.Given as goal

abbrev pub decreases-put_high_digits : goal.decreases-put_high_digits
decreases-put_high_digits l = l.value
