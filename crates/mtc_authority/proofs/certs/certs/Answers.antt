use Rattle.std.proofs.Common.{[], ◌∷◌, inl, inr, refl}
use Rattle.std.proofs.lemmas.Result.{err_from_is_err_and}
use Rattle.mtc_command.specs.Answers.{ending_of, tiles_name}
use Rattle.mtc_command.proofs.Served.{following, beside}
use Rattle.mtc_command.proofs.Stored.{after_stored, kept_stored}
use Rattle.mtc_command.proofs.Valid.{after_valid, kept_valid}
use Rattle.mtc_authority.specs.ListCommands.{certs_outcome, signed_all_say}
use Rattle.mtc_authority.specs.StoredTiles.{HasTilesOf}
use Rattle.mtc_authority.specs.Works.{IsLog, log_outcome}
use Rattle.mtc_authority.specs.declared.work.Work.TheVariants.{Certs}
use Rattle.mtc_authority.proofs.CertifiedLists.{all_signed_so}
use Rattle.mtc_tiled.proofs.OnlyRead.{only_read_after, only_read_kept}
use Rattle.mtc_tiled.proofs.OnlyRead.{spared_after, spared_kept}
use Rattle.mtc_authority.proofs.certs.certs.Goals as goal

pub returns-in_err-bytes-clause-serves : goal.returns-in_err-bytes-clause-serves
returns-in_err-bytes-clause-serves g c =
    let journal = c.args.journal.now in
    let tiles = tiles_name journal in
    let file = c.args.file.now in
    let old = c.args.room.now in
    let stopped = err_from_is_err_and c.from_residual.result c.from_residual.ensures.1 in
    rw (stopped.1, stopped.2) (beside g.R.Room g.R.Dsk.Disk ⊥ (journal ∷ tiles ∷ file ∷ [])
    (journal ∷ []) (tiles ∷ []) (certs_outcome g.H.TreeHash.hash journal c.args.first c.args.last
    c.args.start
    c.args.end file (g.R.Room.file old)) old c.read_input.new.room _
    (c.in_err-bytes.ensures.stops (journal ∷ tiles ∷ file ∷ []) (journal ∷ [])
    (signed_all_say g.H.TreeHash.hash journal c.args.first c.args.last c.args.start c.args.end file
    (g.R.Room.file old journal) (g.R.Room.file old tiles)) (inr (inr (inl refl)))))

pub returns-in-Ok-clause-serves : goal.returns-in-Ok-clause-serves
returns-in-Ok-clause-serves g c =
    let h = g.H.TreeHash.hash in
    let rooms = g.R.Room in
    let journal = c.args.journal.now in
    let tiles = tiles_name journal in
    let file = c.args.file.now in
    let old = c.args.room.now in
    let mid = c.read_input.new.room in
    let read = c.in_ok-bytes.ensures in
    following rooms g.R.Dsk.Disk (journal ∷ tiles ∷ file ∷ []) (journal ∷ tiles ∷ []) (journal ∷ [])
    (tiles ∷ [])
    (certs_outcome h journal c.args.first c.args.last c.args.start c.args.end file (rooms.file old))
    (log_outcome h journal (rooms.file mid journal) (rooms.file mid tiles)
    (Certs c.args.first c.args.last c.args.start c.args.end c.in-Ok.signatures)) old mid
    c.on_log.new.room (ending_of c.on_log.result) read.all_closed
    (λ t. all_signed_so h journal c.args.first c.args.last c.args.start c.args.end file (rooms.file
    old)
    c.in_ok-bytes.bytes (read.bytes t).0 (read.bytes t).1 (rooms.file mid journal)
    (rooms.file mid tiles) c.in-Ok.signatures c.in-Ok.ensures
    (read.all_closed.others journal tt).bytes (read.all_closed.others tiles tt).bytes)
    (λ name is. elim is [
      | inl same ↦ inl same
      | inr more ↦ elim more [ inl same ↦ inr (inl same) | inr never ↦ absurd never ]
    ])
    c.on_log.ensures.serves

pub returns-in_err-bytes-clause-valid : goal.returns-in_err-bytes-clause-valid
returns-in_err-bytes-clause-valid g c =
    kept_valid g.R.Room g.R.Dsk.Disk (IsLog g.H.TreeHash.hash) (c.args.journal.now ∷ [])
    (certs_outcome g.H.TreeHash.hash c.args.journal.now c.args.first c.args.last c.args.start
    c.args.end
    c.args.file.now (g.R.Room.file c.args.room.now)) c.args.room.now c.read_input.new.room
    c.in_err-bytes.ensures.all_closed g.met.R.Dsk.Disk.only_now

pub returns-in-Ok-clause-valid : goal.returns-in-Ok-clause-valid
returns-in-Ok-clause-valid g c =
    let h = g.H.TreeHash.hash in
    let rooms = g.R.Room in
    let journal = c.args.journal.now in
    let tiles = tiles_name journal in
    let file = c.args.file.now in
    let old = c.args.room.now in
    let mid = c.read_input.new.room in
    let read = c.in_ok-bytes.ensures in
    after_valid rooms g.R.Dsk.Disk (IsLog h) (journal ∷ [])
    (certs_outcome h journal c.args.first c.args.last c.args.start c.args.end file (rooms.file old))
    (log_outcome h journal (rooms.file mid journal) (rooms.file mid tiles)
    (Certs c.args.first c.args.last c.args.start c.args.end c.in-Ok.signatures)) old mid
    c.on_log.new.room read.all_closed
    (λ t. all_signed_so h journal c.args.first c.args.last c.args.start c.args.end file (rooms.file
    old)
    c.in_ok-bytes.bytes (read.bytes t).0 (read.bytes t).1 (rooms.file mid journal)
    (rooms.file mid tiles) c.in-Ok.signatures c.in-Ok.ensures
    (read.all_closed.others journal tt).bytes (read.all_closed.others tiles tt).bytes)
    c.on_log.ensures.valid

pub returns-in-Err-clause-valid : goal.returns-in-Err-clause-valid
returns-in-Err-clause-valid g c =
    kept_valid g.R.Room g.R.Dsk.Disk (IsLog g.H.TreeHash.hash) (c.args.journal.now ∷ [])
    (certs_outcome g.H.TreeHash.hash c.args.journal.now c.args.first c.args.last c.args.start
    c.args.end
    c.args.file.now (g.R.Room.file c.args.room.now)) c.args.room.now c.read_input.new.room
    c.in_ok-bytes.ensures.all_closed g.met.R.Dsk.Disk.only_now

pub returns-in_err-bytes-clause-only_read : goal.returns-in_err-bytes-clause-only_read
returns-in_err-bytes-clause-only_read g c =
    only_read_kept g.R.Room g.R.Dsk.Disk (tiles_name c.args.journal.now) c.args.room.now
    c.read_input.new.room c.in_err-bytes.ensures.all_closed g.met.R.Dsk.Disk.only_now

pub returns-in-Ok-clause-only_read : goal.returns-in-Ok-clause-only_read
returns-in-Ok-clause-only_read g c =
    only_read_after g.R.Room g.R.Dsk.Disk (tiles_name c.args.journal.now) c.args.room.now
    c.read_input.new.room c.on_log.new.room c.in_ok-bytes.ensures.all_closed
    (c.on_log.ensures.only_read (λ e. absurd cc))

pub returns-in-Err-clause-only_read : goal.returns-in-Err-clause-only_read
returns-in-Err-clause-only_read g c =
    only_read_kept g.R.Room g.R.Dsk.Disk (tiles_name c.args.journal.now) c.args.room.now
    c.read_input.new.room c.in_ok-bytes.ensures.all_closed g.met.R.Dsk.Disk.only_now

pub returns-in_err-bytes-clause-spares : goal.returns-in_err-bytes-clause-spares
returns-in_err-bytes-clause-spares g c =
    spared_kept g.R.Room c.args.journal.now c.args.room.now c.read_input.new.room
    c.in_err-bytes.ensures.all_closed

pub returns-in-Ok-clause-spares : goal.returns-in-Ok-clause-spares
returns-in-Ok-clause-spares g c =
    spared_after g.R.Room c.args.journal.now c.args.room.now c.read_input.new.room
    c.on_log.new.room c.in_ok-bytes.ensures.all_closed c.on_log.ensures.spares

pub returns-in-Err-clause-spares : goal.returns-in-Err-clause-spares
returns-in-Err-clause-spares g c =
    spared_kept g.R.Room c.args.journal.now c.args.room.now c.read_input.new.room
    c.in_ok-bytes.ensures.all_closed

pub returns-in_err-bytes-clause-stores : goal.returns-in_err-bytes-clause-stores
returns-in_err-bytes-clause-stores g c =
    let h = g.H.TreeHash.hash in
    let journal = c.args.journal.now in
    kept_stored (HasTilesOf h) (IsLog h) g.R.Room g.R.Dsk.Disk (journal ∷ [])
    (tiles_name journal ∷ []) (certs_outcome h journal c.args.first c.args.last c.args.start
    c.args.end
    c.args.file.now (g.R.Room.file c.args.room.now)) c.args.room.now c.read_input.new.room
    c.in_err-bytes.ensures.all_closed g.met.R.Dsk.Disk.only_now

pub returns-in-Ok-clause-stores : goal.returns-in-Ok-clause-stores
returns-in-Ok-clause-stores g c =
    let h = g.H.TreeHash.hash in
    let rooms = g.R.Room in
    let journal = c.args.journal.now in
    let tiles = tiles_name journal in
    let file = c.args.file.now in
    let old = c.args.room.now in
    let mid = c.read_input.new.room in
    let read = c.in_ok-bytes.ensures in
    after_stored (HasTilesOf h) (IsLog h) rooms g.R.Dsk.Disk (journal ∷ []) (tiles ∷ [])
    (certs_outcome h journal c.args.first c.args.last c.args.start c.args.end file (rooms.file old))
    (log_outcome h journal (rooms.file mid journal) (rooms.file mid tiles)
    (Certs c.args.first c.args.last c.args.start c.args.end c.in-Ok.signatures)) old mid
    c.on_log.new.room read.all_closed
    (λ t. all_signed_so h journal c.args.first c.args.last c.args.start c.args.end file (rooms.file
    old)
    c.in_ok-bytes.bytes (read.bytes t).0 (read.bytes t).1 (rooms.file mid journal)
    (rooms.file mid tiles) c.in-Ok.signatures c.in-Ok.ensures
    (read.all_closed.others journal tt).bytes (read.all_closed.others tiles tt).bytes)
    c.on_log.ensures.stores

pub returns-in-Err-clause-stores : goal.returns-in-Err-clause-stores
returns-in-Err-clause-stores g c =
    let h = g.H.TreeHash.hash in
    let journal = c.args.journal.now in
    kept_stored (HasTilesOf h) (IsLog h) g.R.Room g.R.Dsk.Disk (journal ∷ [])
    (tiles_name journal ∷ []) (certs_outcome h journal c.args.first c.args.last c.args.start
    c.args.end
    c.args.file.now (g.R.Room.file c.args.room.now)) c.args.room.now c.read_input.new.room
    c.in_ok-bytes.ensures.all_closed g.met.R.Dsk.Disk.only_now
