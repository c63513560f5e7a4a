use Rattle.std.proofs.Common.{ℕ, subst}
use Rattle.byte_formats.specs.Types.{Text}
use Rattle.authority_core.specs.Certificates.{IsWritten}
use Rattle.drill_core.specs.LogParties.{log_shown}
use Rattle.drill_core.specs.Stores.{StoresAcceptNow}
use Rattle.drill_core.proofs.Accepting.{accepts_now}
use Rattle.drill_core.proofs.play.certificate.Goals as goal

pub returns-in-Ok-clause-written : goal.returns-in-Ok-clause-written
returns-in-Ok-clause-written g c =
    let s = log_shown c.args.log.now in
    subst (λ (n : ℕ). IsWritten g.H.TreeHash.hash s c.args.index 0 n c.args.signatures.now
    c.in-Ok.bytes) c.size_of-size.ensures.value
    (subst (λ (t : Text). IsWritten g.H.TreeHash.hash s c.args.index 0 c.size_of-size.result t
    c.in-Ok.bytes) c.as_slice-2.ensures c.in-Ok.ensures.written)

pub returns-in-Ok-clause-accepts : goal.returns-in-Ok-clause-accepts
returns-in-Ok-clause-accepts g c =
    let s = log_shown c.args.log.now in
    subst (λ (t : Text). StoresAcceptNow g.H.TreeHash.hash s c.args.index t c.in-Ok.bytes)
    c.as_slice-2.ensures
    (accepts_now g.H.TreeHash.hash s c.args.index c.size_of-size.result c.as_slice-2.result.now
    c.in-Ok.bytes g.met.H.TreeHash.sized c.law_entries_say_what_was_asked.ensures.read
    c.law_entries_say_what_was_asked.ensures.known c.size_of-size.ensures.value
    c.in-Ok.ensures.accepted)
