use Rattle.std.proofs.Common.{◌≡◌, ◌∙◌, ◌/◌, ◌*◌, ap, inl, refl, subst, sym}
use Rattle.std.proofs.lemmas.Result.{err_from_is_err_and}
use Rattle.byte_formats.specs.Types.{Text}
use Rattle.mirror_core.specs.Refusals.{full_mirror_size}
use Rattle.mirror_core.specs.Words.{mirror_view}
use Rattle.mtc_command.specs.Answers.{Ending, replied, said}
use Rattle.mtc_command.specs.declared.answer.Said.TheVariants.{Done}
use Rattle.mtc_tiled.specs.BadTiles.{tiled_line}
use Rattle.mtc_mirror.specs.MirrorOutcomes.{mirror_tile_says}
use Rattle.mtc_mirror.specs.Works.{HasWorkedOnMirror}
use Rattle.mtc_mirror.proofs.Storing.{may_refuse_tiles, not_tiled_so, nothing_kept, tiled_so}
use Rattle.mtc_mirror.proofs.Storing.{tiled_stored, tiled_valid, unstored}
use Rattle.mtc_mirror.proofs.tile.tile_on.Goals as goal

pub refuse_storing-requires : goal.refuse_storing-requires
refuse_storing-requires g c =
    may_refuse_tiles c.args.journal.now c.args.mirror.now c.requires g.met.D.Disk.only_now
    c.tile.new.self c.in-Err.why c.in-Err.ensures.answer

pub returns-in-Ok-clause-works : goal.returns-in-Ok-clause-works
returns-in-Ok-clause-works g c =
    let name = c.args.journal.now in
    let old = c.args.mirror.now in
    let new = c.tile.new.self in
    let line : c.in_ok-text.text ≡ tiled_line (full_mirror_size (mirror_view old)) =
    c.in_ok-text.ensures ∙ ap (λ n. tiled_line (n / 256 * 256)) c.size.ensures.value in
    subst (λ (t : Text). HasWorkedOnMirror name mirror_tile_says old new (replied (said Done t)))
    (sym line)
    (tiled_so name old c.requires g.met.D.Disk.only_now new _ c.in-Ok.ensures.answer
    c.in-Ok.ensures.appends)

pub returns-in-Err-clause-works : goal.returns-in-Err-clause-works
returns-in-Err-clause-works g c =
    let name = c.args.journal.now in
    let old = c.args.mirror.now in
    let new = c.tile.new.self in
    let only_now = g.met.D.Disk.only_now in
    subst (λ (e : Ending). HasWorkedOnMirror name mirror_tile_says old new e)
    (sym c.refuse_storing.ensures)
    (not_tiled_so name old c.requires only_now new c.in-Err.why
    (may_refuse_tiles name old c.requires only_now new c.in-Err.why c.in-Err.ensures.answer)
    c.in-Err.ensures.appends c.in-Err.ensures.answer c.in-Err.ensures.cause)

pub returns-in_err-text-clause-works : goal.returns-in_err-text-clause-works
returns-in_err-text-clause-works g c =
    let refused = err_from_is_err_and c.from_residual.result c.from_residual.ensures.1 in
    rw (refused.1, refused.2)
    (unstored c.args.journal.now c.args.mirror.now c.requires g.met.D.Disk.only_now)

pub returns-in_err-text-clause-valid : goal.returns-in_err-text-clause-valid
returns-in_err-text-clause-valid g c = inl (inl refl)

pub returns-in-Ok-clause-valid : goal.returns-in-Ok-clause-valid
returns-in-Ok-clause-valid g c =
    tiled_valid c.args.journal.now c.args.mirror.now c.requires g.met.D.Disk.only_now
    c.tile.new.self c.law_unrefused_records_are_taken.ensures.tiled

pub returns-in-Err-clause-valid : goal.returns-in-Err-clause-valid
returns-in-Err-clause-valid g c =
    tiled_valid c.args.journal.now c.args.mirror.now c.requires g.met.D.Disk.only_now
    c.tile.new.self c.law_unrefused_records_are_taken.ensures.tiled

pub returns-in_err-text-clause-stores : goal.returns-in_err-text-clause-stores
returns-in_err-text-clause-stores g c = nothing_kept c.args.mirror.now g.met.D.Disk.only_now

pub returns-in-Ok-clause-stores : goal.returns-in-Ok-clause-stores
returns-in-Ok-clause-stores g c =
    tiled_stored c.args.journal.now c.args.mirror.now c.requires g.met.D.Disk.only_now
    c.tile.new.self _ g.met.D.Disk.counts_now c.in-Ok.ensures.appends c.in-Ok.ensures.answer
    c.tile.ensures.keeps c.tile.ensures.following c.law_unrefused_records_are_taken.ensures.tiled

pub returns-in-Err-clause-stores : goal.returns-in-Err-clause-stores
returns-in-Err-clause-stores g c =
    tiled_stored c.args.journal.now c.args.mirror.now c.requires g.met.D.Disk.only_now
    c.tile.new.self _ g.met.D.Disk.counts_now c.in-Err.ensures.appends c.in-Err.ensures.answer
    c.tile.ensures.keeps c.tile.ensures.following c.law_unrefused_records_are_taken.ensures.tiled
