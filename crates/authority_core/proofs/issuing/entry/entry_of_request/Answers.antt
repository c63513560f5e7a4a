use Rattle.std.proofs.Common.{subst}
use Rattle.authority_core.specs.Requests.{CanBeIssued}
use Rattle.authority_core.proofs.Issued.{form_asked, key_belongs, own_entry}
use Rattle.authority_core.proofs.issuing.entry.entry_of_request.Goals as goal

pub returns-clause-belongs : goal.returns-clause-belongs
returns-clause-belongs g c =
    let valid = subst CanBeIssued c.request.view_is c.request.invariant in
    key_belongs g.H.TreeHash.hash c.args.form c.args.id.now c.args.request.now
    g.met.H.TreeHash.sized c.as_bytes-bytes.ensures.anchor valid

pub returns-clause-own : goal.returns-clause-own
returns-clause-own g c =
    let valid = subst CanBeIssued c.request.view_is c.request.invariant in
    own_entry g.H.TreeHash.hash c.args.form c.args.id.now c.args.request.now g.met.H.TreeHash.sized
    c.as_bytes-bytes.ensures.anchor valid

pub returns-clause-form : goal.returns-clause-form
returns-clause-form g c =
    let valid = subst CanBeIssued c.request.view_is c.request.invariant in
    form_asked g.H.TreeHash.hash c.args.form c.args.id.now c.args.request.now
    g.met.H.TreeHash.sized c.as_bytes-bytes.ensures.anchor valid
