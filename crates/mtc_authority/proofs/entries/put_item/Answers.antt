use Rattle.std.proofs.Common.{ap, ◌∙◌, ◌++◌}
use Rattle.std.specs.Int.{w16}
use Rattle.std.proofs.lemmas.Result.{err_from_is_err_and}
use Rattle.byte_formats.specs.Types.{Text}
use Rattle.tls_wire.specs.Encoding.{vector}
use Rattle.issuance_log.specs.Words.{modelled_state}
use Rattle.mtc_authority.proofs.Items.{item_after}
use Rattle.mtc_authority.proofs.entries.put_item.Goals as goal

pub returns-in_err-read_item : goal.returns-in_err-read_item
returns-in_err-read_item g c =
    let refused = err_from_is_err_and c.from_residual.result c.from_residual.ensures.1 in
    rw (refused.1, refused.2) (record {
      text = tt;
      stops = c.in_err-read_item.ensures.stops;
      stays = c.read_item.ensures.stays;
    })

pub returns-in_err-put_vec16 : goal.returns-in_err-put_vec16
returns-in_err-put_vec16 g c =
    let refused = err_from_is_err_and c.from_residual-in_err-put_vec16.result
    c.from_residual-in_err-put_vec16.ensures.1 in
    rw (refused.1, refused.2) (record {
      text = tt;
      stops = tt;
      stays = c.read_item.ensures.stays;
    })

pub returns-in_err-put_vec16-2 : goal.returns-in_err-put_vec16-2
returns-in_err-put_vec16-2 g c =
    let refused = err_from_is_err_and c.from_residual-in_err-put_vec16-2.result
    c.from_residual-in_err-put_vec16-2.ensures.1 in
    rw (refused.1, refused.2) (record {
      text = tt;
      stops = tt;
      stays = c.read_item.ensures.stays;
    })

pub returns : goal.returns
returns g c =
    let out = c.args.out.now in
    let mid = c.put_vec16.new.out in
    record {
      text = item_after (modelled_state c.args.log.now) c.args.index c.read_item.new.entry
          c.read_item.new.key out mid c.put_vec16-2.new.out c.in_ok-read_item.ensures.item
          (c.in_ok-put_vec16.ensures.ok ∙ ap (λ (t : Text). out ++ vector w16 t)
          c.as_slice.ensures)
          (c.in_ok-put_vec16-2.ensures.ok ∙ ap (λ (t : Text). mid ++ vector w16 t)
          c.as_slice-2.ensures);
      stops = tt;
      stays = c.read_item.ensures.stays;
    }
