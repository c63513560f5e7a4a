use Rattle.std.proofs.Common.{[], ◌∷◌, inl, inr, refl}
use Rattle.std.proofs.lemmas.Result.{err_from_is_err_and}
use Rattle.mtc_command.specs.Answers.{ending_of}
use Rattle.mtc_command.proofs.Begins.{begins_after, begins_stopped}
use Rattle.mtc_command.proofs.Served.{following}
use Rattle.mtc_command.proofs.Valid.{after_valid, kept_valid}
use Rattle.mtc_cosigner.specs.InitOutcome.{init_cosigner_outcome, init_says, cosigner_settings_of}
use Rattle.mtc_cosigner.specs.Works.{IsCosigner}
use Rattle.mtc_cosigner.proofs.Begun.{asked_so}
use Rattle.mtc_cosigner.proofs.init_cosigner.init_cosigner.Goals as goal

pub returns-in_err-secret-clause-serves : goal.returns-in_err-secret-clause-serves
returns-in_err-secret-clause-serves g c =
    let journal = c.args.journal.now in
    let file = c.args.file.now in
    let stopped = err_from_is_err_and c.from_residual.result c.from_residual.ensures.1 in
    rw (stopped.1, stopped.2) (c.in_err-secret.ensures.stops (journal ∷ (file ∷ []))
    (journal ∷ []) (init_says journal
    (cosigner_settings_of c.args.id c.args.log c.args.top c.args.low c.args.width) file
    (g.R.Room.file c.args.room.now journal)) (inr (inl refl)))

pub returns-clause-serves : goal.returns-clause-serves
returns-clause-serves g c =
    let rooms = g.R.Room in
    let journal = c.args.journal.now in
    let file = c.args.file.now in
    let old = c.args.room.now in
    let mid = c.read_input.new.room in
    let read = c.in_ok-secret.ensures in
    let id = c.args.id in
    let log = c.args.log in
    following rooms g.R.Dsk.Disk (journal ∷ (file ∷ [])) (journal ∷ (file ∷ [])) (journal ∷ []) []
    (init_cosigner_outcome journal id log c.args.top c.args.low c.args.width file (rooms.file old))
    (init_says journal (record {
      id = id;
      log = log;
      lms = c.tree_of_height.result;
      low = c.lower_of_height.result;
      ots = c.chains_of_width.result;
    }) file (rooms.file mid journal) c.as_slice.result.now) old mid
    c.init_with.new.room (ending_of c.init_with.result) read.all_closed
    (λ t. asked_so journal id log file c.args.top c.args.low c.args.width (rooms.file old)
    c.in_ok-secret.secret c.as_slice.result.now (rooms.file mid journal) c.tree_of_height.result
    c.lower_of_height.result c.chains_of_width.result c.tree_of_height.ensures.is
    c.lower_of_height.ensures.is c.chains_of_width.ensures c.as_slice.ensures
    (read.all_closed.others journal tt).bytes (read.bytes t).0 (read.bytes t).1)
    (λ name is. is) c.init_with.ensures.serves

pub returns-in_err-secret-clause-valid : goal.returns-in_err-secret-clause-valid
returns-in_err-secret-clause-valid g c = λ h.
    kept_valid g.R.Room g.R.Dsk.Disk (IsCosigner h) (c.args.journal.now ∷ [])
    (init_cosigner_outcome c.args.journal.now c.args.id c.args.log c.args.top c.args.low
    c.args.width c.args.file.now (g.R.Room.file c.args.room.now)) c.args.room.now
    c.read_input.new.room
    c.in_err-secret.ensures.all_closed g.met.R.Dsk.Disk.only_now

pub returns-clause-valid : goal.returns-clause-valid
returns-clause-valid g c = λ h.
    let rooms = g.R.Room in
    let journal = c.args.journal.now in
    let file = c.args.file.now in
    let old = c.args.room.now in
    let mid = c.read_input.new.room in
    let read = c.in_ok-secret.ensures in
    let id = c.args.id in
    let log = c.args.log in
    after_valid rooms g.R.Dsk.Disk (IsCosigner h) (journal ∷ [])
    (init_cosigner_outcome journal id log c.args.top c.args.low c.args.width file (rooms.file old))
    (init_says journal (record {
      id = id;
      log = log;
      lms = c.tree_of_height.result;
      low = c.lower_of_height.result;
      ots = c.chains_of_width.result;
    }) file (rooms.file mid journal) c.as_slice.result.now) old mid
    c.init_with.new.room read.all_closed
    (λ t. asked_so journal id log file c.args.top c.args.low c.args.width (rooms.file old)
    c.in_ok-secret.secret c.as_slice.result.now (rooms.file mid journal) c.tree_of_height.result
    c.lower_of_height.result c.chains_of_width.result c.tree_of_height.ensures.is
    c.lower_of_height.ensures.is c.chains_of_width.ensures c.as_slice.ensures
    (read.all_closed.others journal tt).bytes (read.bytes t).0 (read.bytes t).1)
    (c.init_with.ensures.valid h)

pub returns-in_err-secret-clause-begins : goal.returns-in_err-secret-clause-begins
returns-in_err-secret-clause-begins g c =
    let stopped = err_from_is_err_and c.from_residual.result c.from_residual.ensures.1 in
    rw (stopped.1, stopped.2) (begins_stopped g.R.Room g.R.Dsk.Disk c.args.journal.now
    c.args.file.now c.args.room.now c.read_input.new.room _
    (c.in_err-secret.ensures.all_closed.others c.args.journal.now tt) c.in_err-secret.ensures.kind)

pub returns-clause-begins : goal.returns-clause-begins
returns-clause-begins g c = begins_after g.R.Room g.R.Dsk.Disk c.args.journal.now
    c.args.room.now c.read_input.new.room c.init_with.new.room (ending_of c.init_with.result)
    (c.in_ok-secret.ensures.all_closed.others c.args.journal.now tt) c.init_with.ensures.begins
