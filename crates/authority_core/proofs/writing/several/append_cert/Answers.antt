use Rattle.issuance_log.specs.Words.{modelled_by_both}
use Rattle.authority_core.proofs.Several.{adds_written}
use Rattle.authority_core.proofs.writing.several.append_cert.Goals as goal

pub returns-in_ok-append_pem-in-Ok-clause-written :
    goal.returns-in_ok-append_pem-in-Ok-clause-written
returns-in_ok-append_pem-in-Ok-clause-written g c =
    adds_written g.H.TreeHash.hash c.args.index (modelled_by_both c.args.log.now) c.args.text.now
    c.append_pem.new.out c.in-Ok.der c.as_slice.result.now c.in_ok-append_pem-in-Ok.ensures
    c.as_slice.ensures c.args.start c.args.end c.args.signatures.now c.in-Ok.ensures.written
    c.in-Ok.ensures.accepted
