use Rattle.std.proofs.Common.{◌∙◌, ap, inl, refl, subst, sym}
use Rattle.std.proofs.lemmas.Result.{err_from_is_err_and}
use Rattle.byte_formats.specs.Types.{Text}
use Rattle.disk_core.proofs.Times.{nothing_read}
use Rattle.mirror_core.specs.Refusals.{pairs_of}
use Rattle.mirror_core.specs.Words.{mirror_both_records, mirror_disk, mirror_tiles_disk}
use Rattle.mtc_command.specs.Answers.{Ending, replied, said}
use Rattle.mtc_command.specs.declared.answer.Said.TheVariants.{Done}
use Rattle.mtc_command.proofs.Works.{each_some}
use Rattle.mtc_mirror.specs.MirrorOutcomes.{mirrored_line, take_says}
use Rattle.mtc_mirror.specs.Works.{HasWorkedOnMirror}
use Rattle.mtc_mirror.proofs.Appends.{spared_so}
use Rattle.mtc_mirror.proofs.Taken.{may_refuse_items, not_taken_so, taken_so, taken_stored}
use Rattle.mtc_mirror.proofs.Taken.{taken_valid}
use Rattle.mtc_mirror.proofs.take.take_on.Goals as goal

pub refuse_items-requires : goal.refuse_items-requires
refuse_items-requires g c = may_refuse_items c.args.journal.now (pairs_of c.args.items.now)
    c.args.mirror.now c.take.new.self c.requires _ c.in-Err.ensures.appends c.in-Err.ensures.answer
    c.in-Err.why refl

pub returns-in_err-line-clause-works : goal.returns-in_err-line-clause-works
returns-in_err-line-clause-works g c =
    let mirror = c.args.mirror.now in
    let read = nothing_read g.D.Disk (mirror_disk mirror)
    (g.met.D.Disk.only_now (mirror_disk mirror)) in
    let refused = err_from_is_err_and c.from_residual.result c.from_residual.ensures.1 in
    rw (refused.1, refused.2)
    (spared_so c.args.journal.now mirror mirror mirror c.requires read refl _ read)

pub returns-in_err-line-clause-valid : goal.returns-in_err-line-clause-valid
returns-in_err-line-clause-valid g c = inl (inl refl)

pub returns-in_err-line-clause-stores : goal.returns-in_err-line-clause-stores
returns-in_err-line-clause-stores g c =
    let mirror = c.args.mirror.now in
    each_some (mirror_both_records mirror) _ (λ list opened made. inl (
      nothing_read g.D.Disk (mirror_disk mirror) (g.met.D.Disk.only_now (mirror_disk mirror)),
      nothing_read g.D.Disk (mirror_tiles_disk mirror)
          (g.met.D.Disk.only_now (mirror_tiles_disk mirror)),
    ))

pub returns-in-Ok-clause-works : goal.returns-in-Ok-clause-works
returns-in-Ok-clause-works g c =
    let name = c.args.journal.now in
    let items = pairs_of c.args.items.now in
    let old = c.args.mirror.now in
    let new = c.take.new.self in
    subst (λ (t : Text). HasWorkedOnMirror name (take_says items) old new (replied (said Done t)))
    (sym (c.line_of_size.ensures ∙ ap mirrored_line c.in-Ok.ensures.size))
    (taken_so name items old new c.requires _ c.in-Ok.ensures.appends c.in-Ok.ensures.answer _ refl)

pub returns-in-Err-clause-works : goal.returns-in-Err-clause-works
returns-in-Err-clause-works g c =
    let name = c.args.journal.now in
    let items = pairs_of c.args.items.now in
    let old = c.args.mirror.now in
    let new = c.take.new.self in
    let run = c.in-Err.ensures.appends in
    let answer = c.in-Err.ensures.answer in
    let why = c.in-Err.why in
    subst (λ (e : Ending). HasWorkedOnMirror name (take_says items) old new e)
    (sym c.refuse_items.ensures)
    (not_taken_so name items old new c.requires _ run answer why
    (may_refuse_items name items old new c.requires _ run answer why refl) refl
    c.in-Err.ensures.cause)

pub returns-in-Ok-clause-valid : goal.returns-in-Ok-clause-valid
returns-in-Ok-clause-valid g c = taken_valid c.args.journal.now (pairs_of c.args.items.now)
    c.args.mirror.now c.take.new.self c.requires _ c.in-Ok.ensures.appends c.in-Ok.ensures.answer
    (c.law_unrefused_records_are_taken.ensures.taken c.args.items.now c.len-count.ensures.known)

pub returns-in-Err-clause-valid : goal.returns-in-Err-clause-valid
returns-in-Err-clause-valid g c = taken_valid c.args.journal.now (pairs_of c.args.items.now)
    c.args.mirror.now c.take.new.self c.requires _ c.in-Err.ensures.appends
    c.in-Err.ensures.answer
    (c.law_unrefused_records_are_taken.ensures.taken c.args.items.now c.len-count.ensures.known)

pub returns-in-Ok-clause-stores : goal.returns-in-Ok-clause-stores
returns-in-Ok-clause-stores g c = taken_stored c.args.journal.now (pairs_of c.args.items.now)
    c.args.mirror.now c.take.new.self c.requires _ c.in-Ok.ensures.appends c.in-Ok.ensures.answer
    (c.law_unrefused_records_are_taken.ensures.taken c.args.items.now c.len-count.ensures.known)
    c.law_sound.ensures.numbers g.met.D.Disk.only_now c.take.ensures.tiles

pub returns-in-Err-clause-stores : goal.returns-in-Err-clause-stores
returns-in-Err-clause-stores g c = taken_stored c.args.journal.now (pairs_of c.args.items.now)
    c.args.mirror.now c.take.new.self c.requires _ c.in-Err.ensures.appends
    c.in-Err.ensures.answer
    (c.law_unrefused_records_are_taken.ensures.taken c.args.items.now c.len-count.ensures.known)
    c.law_sound.ensures.numbers g.met.D.Disk.only_now c.take.ensures.tiles
