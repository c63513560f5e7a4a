use Rattle.std.proofs.Common.{[], ◌∷◌, ◌≡◌, ◌≢◌, ◌∙◌, Err, Ok, ap, inl, inr, refl, subst, sym}
use Rattle.std.proofs.lemmas.Result.{err_from_is_err_and}
use Rattle.byte_formats.specs.Types.{Text}
use Rattle.authority_core.specs.RequestLists.{requests_of}
use Rattle.authority_core.specs.declared.requests.error.RequestListError.TheVariants.{Memory}
use Rattle.mtc_command.specs.Answers.{Ending, ending_of, tiles_name}
use Rattle.mtc_command.specs.Served.{HasServedBeside}
use Rattle.mtc_command.proofs.Served.{following, beside}
use Rattle.mtc_command.proofs.Stored.{after_stored, kept_stored}
use Rattle.mtc_command.proofs.Valid.{after_valid, kept_valid}
use Rattle.mtc_authority.specs.ListCommands.{issue_list_outcome, requests_say}
use Rattle.mtc_authority.specs.StoredTiles.{HasTilesOf}
use Rattle.mtc_authority.specs.Works.{IsLog, log_outcome}
use Rattle.mtc_authority.specs.declared.work.Work.TheVariants.{IssueList}
use Rattle.mtc_tiled.proofs.OnlyRead.{only_read_after, only_read_kept}
use Rattle.mtc_tiled.proofs.OnlyRead.{spared_after, spared_kept}
use Rattle.mtc_authority.proofs.ReadingLists.{all_asked_so, unread_list}
use Rattle.mtc_authority.proofs.issue_list.issue_list.Goals as goal

pub returns-in_err-text-clause-serves : goal.returns-in_err-text-clause-serves
returns-in_err-text-clause-serves g c =
    let journal = c.args.journal.now in
    let tiles = tiles_name journal in
    let file = c.args.file.now in
    let old = c.args.room.now in
    let stopped = err_from_is_err_and c.from_residual.result c.from_residual.ensures.1 in
    rw (stopped.1, stopped.2) (beside g.R.Room g.R.Dsk.Disk ⊥ (journal ∷ tiles ∷ file ∷ [])
    (journal ∷ []) (tiles ∷ []) (issue_list_outcome g.H.TreeHash.hash journal file (g.R.Room.file
    old))
    old c.read_input.new.room _
    (c.in_err-text.ensures.stops (journal ∷ tiles ∷ file ∷ []) (journal ∷ [])
    (requests_say g.H.TreeHash.hash journal file (g.R.Room.file old journal)
    (g.R.Room.file old tiles)) (inr (inr (inl refl)))))

pub returns-in-Ok-clause-serves : goal.returns-in-Ok-clause-serves
returns-in-Ok-clause-serves g c =
    let h = g.H.TreeHash.hash in
    let rooms = g.R.Room in
    let journal = c.args.journal.now in
    let tiles = tiles_name journal in
    let file = c.args.file.now in
    let old = c.args.room.now in
    let mid = c.read_input.new.room in
    let read = c.in_ok-text.ensures in
    let rs = c.from_vec.result in
    let is : requests_of c.in_ok-text.text ≡ Ok rs =
    subst (λ (t : Text). requests_of t ≡ Ok c.in-Ok.requests.items) c.as_slice.ensures
    c.in-Ok.ensures.ok ∙ ap Ok (sym c.from_vec.ensures) in
    following rooms g.R.Dsk.Disk (journal ∷ tiles ∷ file ∷ []) (journal ∷ tiles ∷ []) (journal ∷ [])
    (tiles ∷ []) (issue_list_outcome h journal file (rooms.file old))
    (log_outcome h journal (rooms.file mid journal) (rooms.file mid tiles)
    (IssueList rs)) old mid
    c.on_log.new.room (ending_of c.on_log.result) read.all_closed
    (λ t. all_asked_so h journal file (rooms.file old) c.in_ok-text.text (read.bytes t).0
    (read.bytes t).1 (rooms.file mid journal) (rooms.file mid tiles) rs is
    (read.all_closed.others journal tt).bytes (read.all_closed.others tiles tt).bytes)
    (λ name is. elim is [
      | inl same ↦ inl same
      | inr more ↦ elim more [ inl same ↦ inr (inl same) | inr never ↦ absurd never ]
    ])
    c.on_log.ensures.serves

pub returns-clause-serves : goal.returns-clause-serves
returns-clause-serves g c =
    let journal = c.args.journal.now in
    let tiles = tiles_name journal in
    let file = c.args.file.now in
    let old = c.args.room.now in
    let read = c.in_ok-text.ensures in
    let is : c.in-Err.why ≢ Memory → requests_of c.in_ok-text.text ≡ Err c.in-Err.why =
    subst (λ (t : Text). c.in-Err.why ≢ Memory → requests_of t ≡ Err c.in-Err.why)
    c.as_slice.ensures c.in-Err.ensures.err in
    subst (λ (e : Ending). HasServedBeside g.R.Room g.R.Dsk.Disk (journal ∷ tiles ∷ file ∷ [])
    journal tiles (issue_list_outcome g.H.TreeHash.hash journal file (g.R.Room.file old)) old
    c.read_input.new.room e) (sym c.refuse_requests.ensures)
    (unread_list g.R.Room g.R.Dsk.Disk g.H.TreeHash.hash journal file old c.read_input.new.room
    c.in_ok-text.text read.all_closed g.met.R.Dsk.Disk.only_now read.bytes c.in-Err.why is)

pub returns-in_err-text-clause-valid : goal.returns-in_err-text-clause-valid
returns-in_err-text-clause-valid g c =
    kept_valid g.R.Room g.R.Dsk.Disk (IsLog g.H.TreeHash.hash) (c.args.journal.now ∷ [])
    (issue_list_outcome g.H.TreeHash.hash c.args.journal.now c.args.file.now
    (g.R.Room.file c.args.room.now)) c.args.room.now c.read_input.new.room
    c.in_err-text.ensures.all_closed g.met.R.Dsk.Disk.only_now

pub returns-in-Ok-clause-valid : goal.returns-in-Ok-clause-valid
returns-in-Ok-clause-valid g c =
    let h = g.H.TreeHash.hash in
    let rooms = g.R.Room in
    let journal = c.args.journal.now in
    let tiles = tiles_name journal in
    let file = c.args.file.now in
    let old = c.args.room.now in
    let mid = c.read_input.new.room in
    let read = c.in_ok-text.ensures in
    let rs = c.from_vec.result in
    let is : requests_of c.in_ok-text.text ≡ Ok rs =
    subst (λ (t : Text). requests_of t ≡ Ok c.in-Ok.requests.items) c.as_slice.ensures
    c.in-Ok.ensures.ok ∙ ap Ok (sym c.from_vec.ensures) in
    after_valid rooms g.R.Dsk.Disk (IsLog h) (journal ∷ [])
    (issue_list_outcome h journal file (rooms.file old))
    (log_outcome h journal (rooms.file mid journal) (rooms.file mid tiles)
    (IssueList rs)) old mid
    c.on_log.new.room read.all_closed
    (λ t. all_asked_so h journal file (rooms.file old) c.in_ok-text.text (read.bytes t).0
    (read.bytes t).1 (rooms.file mid journal) (rooms.file mid tiles) rs is
    (read.all_closed.others journal tt).bytes (read.all_closed.others tiles tt).bytes)
    c.on_log.ensures.valid

pub returns-clause-valid : goal.returns-clause-valid
returns-clause-valid g c =
    kept_valid g.R.Room g.R.Dsk.Disk (IsLog g.H.TreeHash.hash) (c.args.journal.now ∷ [])
    (issue_list_outcome g.H.TreeHash.hash c.args.journal.now c.args.file.now
    (g.R.Room.file c.args.room.now)) c.args.room.now c.read_input.new.room
    c.in_ok-text.ensures.all_closed g.met.R.Dsk.Disk.only_now

pub returns-in_err-text-clause-only_read : goal.returns-in_err-text-clause-only_read
returns-in_err-text-clause-only_read g c =
    only_read_kept g.R.Room g.R.Dsk.Disk (tiles_name c.args.journal.now) c.args.room.now
    c.read_input.new.room c.in_err-text.ensures.all_closed g.met.R.Dsk.Disk.only_now

pub returns-in-Ok-clause-only_read : goal.returns-in-Ok-clause-only_read
returns-in-Ok-clause-only_read g c =
    only_read_after g.R.Room g.R.Dsk.Disk (tiles_name c.args.journal.now) c.args.room.now
    c.read_input.new.room c.on_log.new.room c.in_ok-text.ensures.all_closed
    (c.on_log.ensures.only_read (λ e. absurd cc))

pub returns-clause-only_read : goal.returns-clause-only_read
returns-clause-only_read g c =
    only_read_kept g.R.Room g.R.Dsk.Disk (tiles_name c.args.journal.now) c.args.room.now
    c.read_input.new.room c.in_ok-text.ensures.all_closed g.met.R.Dsk.Disk.only_now

pub returns-in_err-text-clause-spares : goal.returns-in_err-text-clause-spares
returns-in_err-text-clause-spares g c =
    spared_kept g.R.Room c.args.journal.now c.args.room.now c.read_input.new.room
    c.in_err-text.ensures.all_closed

pub returns-in-Ok-clause-spares : goal.returns-in-Ok-clause-spares
returns-in-Ok-clause-spares g c =
    spared_after g.R.Room c.args.journal.now c.args.room.now c.read_input.new.room
    c.on_log.new.room c.in_ok-text.ensures.all_closed c.on_log.ensures.spares

pub returns-clause-spares : goal.returns-clause-spares
returns-clause-spares g c =
    spared_kept g.R.Room c.args.journal.now c.args.room.now c.read_input.new.room
    c.in_ok-text.ensures.all_closed

pub returns-in_err-text-clause-stores : goal.returns-in_err-text-clause-stores
returns-in_err-text-clause-stores g c =
    let h = g.H.TreeHash.hash in
    let journal = c.args.journal.now in
    kept_stored (HasTilesOf h) (IsLog h) g.R.Room g.R.Dsk.Disk (journal ∷ [])
    (tiles_name journal ∷ [])
    (issue_list_outcome h journal c.args.file.now (g.R.Room.file c.args.room.now)) c.args.room.now
    c.read_input.new.room c.in_err-text.ensures.all_closed g.met.R.Dsk.Disk.only_now

pub returns-in-Ok-clause-stores : goal.returns-in-Ok-clause-stores
returns-in-Ok-clause-stores g c =
    let h = g.H.TreeHash.hash in
    let rooms = g.R.Room in
    let journal = c.args.journal.now in
    let tiles = tiles_name journal in
    let file = c.args.file.now in
    let old = c.args.room.now in
    let mid = c.read_input.new.room in
    let read = c.in_ok-text.ensures in
    let rs = c.from_vec.result in
    let is : requests_of c.in_ok-text.text ≡ Ok rs =
    subst (λ (t : Text). requests_of t ≡ Ok c.in-Ok.requests.items) c.as_slice.ensures
    c.in-Ok.ensures.ok ∙ ap Ok (sym c.from_vec.ensures) in
    after_stored (HasTilesOf h) (IsLog h) rooms g.R.Dsk.Disk (journal ∷ []) (tiles ∷ [])
    (issue_list_outcome h journal file (rooms.file old))
    (log_outcome h journal (rooms.file mid journal) (rooms.file mid tiles)
    (IssueList rs)) old mid
    c.on_log.new.room read.all_closed
    (λ t. all_asked_so h journal file (rooms.file old) c.in_ok-text.text (read.bytes t).0
    (read.bytes t).1 (rooms.file mid journal) (rooms.file mid tiles) rs is
    (read.all_closed.others journal tt).bytes (read.all_closed.others tiles tt).bytes)
    c.on_log.ensures.stores

pub returns-clause-stores : goal.returns-clause-stores
returns-clause-stores g c =
    let h = g.H.TreeHash.hash in
    let journal = c.args.journal.now in
    kept_stored (HasTilesOf h) (IsLog h) g.R.Room g.R.Dsk.Disk (journal ∷ [])
    (tiles_name journal ∷ [])
    (issue_list_outcome h journal c.args.file.now (g.R.Room.file c.args.room.now)) c.args.room.now
    c.read_input.new.room c.in_ok-text.ensures.all_closed g.met.R.Dsk.Disk.only_now
