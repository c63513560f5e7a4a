use Rattle.std.proofs.Common.{[], inl, inr, refl}
use Rattle.std.proofs.lemmas.Result.{err_from_is_err_and}
use Rattle.mtc_relying.proofs.After.{after_cert, after_export, after_store, at_export}
use Rattle.mtc_relying.proofs.After.{before_export, names, of_entries, of_export, of_store, says}
use Rattle.mtc_relying.proofs.audit.audit.Goals as goal

pub returns-in_err-certificate : goal.returns-in_err-certificate
returns-in_err-certificate g c =
    let p = err_from_is_err_and c.from_residual.result c.from_residual.ensures.1 in
    let a = c.args in
    let file = g.R.Room.file a.room.now in
    rw (p.1, p.2) (c.in_err-certificate.ensures.stops
    (names g.H.TreeHash.hash a.now a.cert.now a.store.now a.entries.now a.export.now) []
    (of_store g.H.TreeHash.hash a.now a.cert.now a.store.now a.entries.now a.export.now
    (file a.store.now) (file a.entries.now) (file a.export.now)) (inl refl))

pub returns-in_err-trusted : goal.returns-in_err-trusted
returns-in_err-trusted g c =
    let p = err_from_is_err_and c.from_residual-in_err-trusted.result
    c.from_residual-in_err-trusted.ensures.1 in
    let a = c.args in
    let file = g.R.Room.file c.read_input.new.room in
    rw (p.1, p.2) (after_cert g.H.TreeHash.hash a.now a.cert.now a.store.now a.entries.now
    a.export.now
    g.R.Room g.R.Dsk.Disk _ _ _ _ c.in_ok-certificate.ensures.all_closed
    c.in_ok-certificate.certificate c.in_ok-certificate.ensures.bytes
    (c.in_err-trusted.ensures.stops
    (names g.H.TreeHash.hash a.now a.cert.now a.store.now a.entries.now a.export.now) []
    (of_entries g.H.TreeHash.hash a.now a.cert.now a.store.now a.entries.now a.export.now
    (file a.entries.now) (file a.export.now) c.in_ok-certificate.certificate) (inr (inl refl))))

pub returns-in-Ok : goal.returns-in-Ok
returns-in-Ok g c =
    let a = c.args in
    after_cert g.H.TreeHash.hash a.now a.cert.now a.store.now a.entries.now a.export.now
    g.R.Room g.R.Dsk.Disk _ _ _ _ c.in_ok-certificate.ensures.all_closed
    c.in_ok-certificate.certificate c.in_ok-certificate.ensures.bytes
    (after_store g.H.TreeHash.hash a.now a.cert.now a.store.now a.entries.now a.export.now
    g.R.Room g.R.Dsk.Disk _ _ _ _ c.in_ok-trusted.ensures.all_closed
    c.in_ok-certificate.certificate c.in_ok-trusted.trusted c.in_ok-trusted.ensures.bytes
    (after_export g.H.TreeHash.hash a.now a.cert.now a.store.now a.entries.now a.export.now
    g.R.Room g.R.Dsk.Disk _ _ _ _ c.in-Ok.ensures.all_closed _ _ _
    c.in_ok-certificate.certificate c.in_ok-trusted.trusted c.in-Ok.exported
    c.in-Ok.ensures.bytes c.input.ensures c.input-in-Ok.ensures c.input-in-Ok-2.ensures
    (c.compared.ensures _ (c.store_judged-judged.ensures.leaves a.entries.now))))

-- the entries are read after what stops the command at the export, and stop it before
pub returns-in_err-_read-in-Err : goal.returns-in_err-_read-in-Err
returns-in_err-_read-in-Err g c =
    let p = err_from_is_err_and c.from_residual-in_err-_read-in-Err.result
    c.from_residual-in_err-_read-in-Err.ensures.1 in
    let a = c.args in
    rw (p.1, p.2) (after_cert g.H.TreeHash.hash a.now a.cert.now a.store.now a.entries.now
    a.export.now
    g.R.Room g.R.Dsk.Disk _ _ _ _ c.in_ok-certificate.ensures.all_closed
    c.in_ok-certificate.certificate c.in_ok-certificate.ensures.bytes
    (after_store g.H.TreeHash.hash a.now a.cert.now a.store.now a.entries.now a.export.now
    g.R.Room g.R.Dsk.Disk _ _ _ _ c.in_ok-trusted.ensures.all_closed
    c.in_ok-certificate.certificate c.in_ok-trusted.trusted c.in_ok-trusted.ensures.bytes
    (before_export g.H.TreeHash.hash a.now a.cert.now a.store.now a.entries.now a.export.now
    g.R.Room g.R.Dsk.Disk _ _ _ _ c.in-Err.ensures.all_closed
    c.in_ok-certificate.certificate c.in_ok-trusted.trusted
    (c.in_err-_read-in-Err.ensures.stops
    (names g.H.TreeHash.hash a.now a.cert.now a.store.now a.entries.now a.export.now) []
    (of_export g.H.TreeHash.hash a.now a.cert.now a.store.now a.entries.now a.export.now
    (g.R.Room.file c.read_input-2.new.room a.export.now) c.in_ok-certificate.certificate
    c.in_ok-trusted.trusted) (inr (inr (inl refl)))))))

pub returns : goal.returns
returns g c =
    let a = c.args in
    let read = c.in_ok-_read-in-Err.ensures.items in
    after_cert g.H.TreeHash.hash a.now a.cert.now a.store.now a.entries.now a.export.now
    g.R.Room g.R.Dsk.Disk _ _ _ _ c.in_ok-certificate.ensures.all_closed
    c.in_ok-certificate.certificate c.in_ok-certificate.ensures.bytes
    (after_store g.H.TreeHash.hash a.now a.cert.now a.store.now a.entries.now a.export.now
    g.R.Room g.R.Dsk.Disk _ _ _ _ c.in_ok-trusted.ensures.all_closed
    c.in_ok-certificate.certificate c.in_ok-trusted.trusted c.in_ok-trusted.ensures.bytes
    (at_export g.H.TreeHash.hash a.now a.cert.now a.store.now a.entries.now a.export.now
    g.R.Room g.R.Dsk.Disk _ _ _ _ c.in-Err.ensures.all_closed
    c.in_ok-certificate.certificate c.in_ok-trusted.trusted read.bytes
    c.in_ok-_read-in-Err.ensures.all_closed read.is
    (c.in-Err.ensures.stops
    (names g.H.TreeHash.hash a.now a.cert.now a.store.now a.entries.now a.export.now) []
    (says g.H.TreeHash.hash a.now a.cert.now a.store.now a.entries.now a.export.now
    c.in_ok-certificate.certificate c.in_ok-trusted.trusted read.bytes)
    (inr (inr (inr (inl refl)))))))
