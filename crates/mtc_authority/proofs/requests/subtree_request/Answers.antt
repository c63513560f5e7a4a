use Rattle.std.proofs.Common.{◌∙◌, ap, refl}
use Rattle.std.proofs.lemmas.Result.{err_from_is_err_and}
use Rattle.issuance_log.specs.Folds.{LogView}
use Rattle.issuance_log.specs.Settings.{Settings}
use Rattle.issuance_log.specs.Staying.{asks_both}
use Rattle.issuance_log.specs.Words.{both_records, log_tiles_disk, view_of}
use Rattle.mtc_command.proofs.Served.{rose_since}
use Rattle.mtc_authority.proofs.Replied.{both_before}
use Rattle.mtc_authority.proofs.Requested.{subtree_modelled}
use Rattle.mtc_authority.proofs.requests.subtree_request.Goals as goal

pub returns-in_default : goal.returns-in_default
returns-in_default g c = record {
  text = tt;
  stops = (refl, c.in_default.ensures.cause.failed);
  asks = c.hash_of.ensures.asks;
}

pub returns-in_default-proof_of : goal.returns-in_default-proof_of
returns-in_default-proof_of g c =
    let before = g.D.Disk.faults (log_tiles_disk c.args.log.now) in
    let mid = g.D.Disk.faults (log_tiles_disk c.hash_of.new.log) in
    let after = g.D.Disk.faults (log_tiles_disk c.proof_of.new.log) in
    let asks = c.hash_of.ensures.asks in
    record {
      text = tt;
      stops = (
        refl,
        rose_since before mid after asks.tiles.faults
            c.in_default-proof_of.ensures.cause.failed,
      );
      asks = asks_both _ _ _ asks c.proof_of.ensures.asks;
    }

pub returns-in_err-write_subtree : goal.returns-in_err-write_subtree
returns-in_err-write_subtree g c =
    let refused = err_from_is_err_and c.from_residual.result c.from_residual.ensures.1 in
    rw (refused.1, refused.2) (record {
      text = tt;
      stops = tt;
      asks = asks_both _ _ _ c.hash_of.ensures.asks c.proof_of.ensures.asks;
    })

pub returns : goal.returns
returns g c =
    let old = c.args.log.now in
    let first = c.hash_of.ensures.asks in
    let second = c.proof_of.ensures.asks in
    let id = c.as_bytes.ensures.value ∙ ap (λ (s : Settings). s.id) (c.settings.view_is
    ∙ c.settings-settings.ensures.value ∙ ap (λ (v : LogView). v.settings)
    (second.view ∙ first.view)) in
    record {
      text = subtree_modelled g.H.TreeHash.hash (view_of old) c.as_bytes.result.now id
          (both_records old) c.args.start c.args.end c.args.size c.in-Ok.hash c.in-Ok-proof_of.proof
          c.in_ok-write_subtree.field-0 c.in-Ok.ensures.hash
          (both_before _ old c.hash_of.new.log first c.in-Ok-proof_of.ensures.proof)
          c.in_ok-write_subtree.ensures.text;
      stops = tt;
      asks = asks_both _ _ _ first second;
    }
