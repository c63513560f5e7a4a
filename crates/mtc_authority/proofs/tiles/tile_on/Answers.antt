use Rattle.std.proofs.Common.{◌≡◌, ◌∙◌, ◌/◌, ◌*◌, ap, inl, refl, subst, sym}
use Rattle.std.proofs.lemmas.Result.{err_from_is_err_and}
use Rattle.byte_formats.specs.Types.{Text}
use Rattle.issuance_log.specs.Refusals.{full_size}
use Rattle.issuance_log.specs.Words.{view_of}
use Rattle.mtc_command.specs.Answers.{Ending, replied, said}
use Rattle.mtc_command.specs.declared.answer.Said.TheVariants.{Done}
use Rattle.mtc_authority.specs.TileOutcome.{tile_says, tiled_line}
use Rattle.mtc_authority.specs.Works.{HasWorkedOnLog}
use Rattle.mtc_authority.proofs.Both.{nothing_stored, tiles_so}
use Rattle.mtc_authority.proofs.Stored.{may_refuse, refused_so, tiled_so, tiled_valid, unstored}
use Rattle.mtc_authority.proofs.tiles.tile_on.Goals as goal

pub refuse_tiles-requires : goal.refuse_tiles-requires
refuse_tiles-requires g c =
    may_refuse c.args.journal.now c.args.log.now c.tile.new.self c.requires c.in-Err.why
    c.in-Err.ensures.answer

pub returns-in-Ok-clause-works : goal.returns-in-Ok-clause-works
returns-in-Ok-clause-works g c =
    let name = c.args.journal.now in
    let old = c.args.log.now in
    let new = c.tile.new.self in
    let line : c.in_ok-text.text ≡ tiled_line (full_size (view_of old)) =
    c.in_ok-text.ensures ∙ ap (λ n. tiled_line (n / 256 * 256)) c.size.ensures.value in
    subst (λ (t : Text). HasWorkedOnLog name tile_says old new (replied (said Done t)))
    (sym line)
    (tiled_so name old new c.requires _ c.in-Ok.ensures.answer c.in-Ok.ensures.appends)

pub returns-in-Err-clause-works : goal.returns-in-Err-clause-works
returns-in-Err-clause-works g c =
    let name = c.args.journal.now in
    let old = c.args.log.now in
    let new = c.tile.new.self in
    subst (λ (e : Ending). HasWorkedOnLog name tile_says old new e)
    (sym c.refuse_tiles.ensures)
    (refused_so name old new c.requires g.met.D.Disk.only_now c.in-Err.why
    (may_refuse name old new c.requires c.in-Err.why c.in-Err.ensures.answer)
    c.in-Err.ensures.appends c.in-Err.ensures.answer c.in-Err.ensures.cause)

pub returns-in_err-text-clause-works : goal.returns-in_err-text-clause-works
returns-in_err-text-clause-works g c =
    let log = c.args.log.now in
    let refused = err_from_is_err_and c.from_residual.result c.from_residual.ensures.1 in
    rw (refused.1, refused.2) (unstored c.args.journal.now log log c.requires refl)

pub returns-in_err-text-clause-valid : goal.returns-in_err-text-clause-valid
returns-in_err-text-clause-valid g c = inl (inl refl)

pub returns-in-Ok-clause-valid : goal.returns-in-Ok-clause-valid
returns-in-Ok-clause-valid g c =
    tiled_valid c.args.journal.now c.args.log.now c.tile.new.self c.requires g.H.TreeHash.hash
    c.law_unrefused_records_are_taken.ensures.tiled

pub returns-in-Err-clause-valid : goal.returns-in-Err-clause-valid
returns-in-Err-clause-valid g c =
    tiled_valid c.args.journal.now c.args.log.now c.tile.new.self c.requires g.H.TreeHash.hash
    c.law_unrefused_records_are_taken.ensures.tiled

pub returns-in_err-text-clause-stores : goal.returns-in_err-text-clause-stores
returns-in_err-text-clause-stores g c = nothing_stored c.args.log.now g.met.D.Disk.only_now

pub returns-in-Ok-clause-stores : goal.returns-in-Ok-clause-stores
returns-in-Ok-clause-stores g c =
    tiles_so c.args.log.now c.tile.new.self c.requires _ g.met.D.Disk.counts_now
    c.in-Ok.ensures.appends c.in-Ok.ensures.answer c.tile.ensures.keeps c.tile.ensures.following
    c.law_unrefused_records_are_taken.ensures.tiled

pub returns-in-Err-clause-stores : goal.returns-in-Err-clause-stores
returns-in-Err-clause-stores g c =
    tiles_so c.args.log.now c.tile.new.self c.requires _ g.met.D.Disk.counts_now
    c.in-Err.ensures.appends c.in-Err.ensures.answer c.tile.ensures.keeps c.tile.ensures.following
    c.law_unrefused_records_are_taken.ensures.tiled
