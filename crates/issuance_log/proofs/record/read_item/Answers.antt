use Rattle.issuance_log.proofs.Encoded.{item_takes}
use Rattle.issuance_log.proofs.record.read_item.Goals as goal

pub returns-clause-short_entry : goal.returns-clause-short_entry
returns-clause-short_entry c = (item_takes c.args.body.now _ _ (λ i. (c.type_inv.body i).fits)
    c.in_ok-item.ensures.found).1

pub returns-clause-short_key : goal.returns-clause-short_key
returns-clause-short_key c = (item_takes c.args.body.now _ _ (λ i. (c.type_inv.body i).fits)
    c.in_ok-item.ensures.found).2
