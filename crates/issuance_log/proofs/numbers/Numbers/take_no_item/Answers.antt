use Rattle.issuance_log.proofs.Steps.{added_by_batch}
use Rattle.issuance_log.proofs.TakenItems.{takes_so}
use Rattle.issuance_log.proofs.numbers.Numbers.take_no_item.Goals as goal

pub returns-in-Ok : goal.returns-in-Ok
returns-in-Ok g c =
    let body = c.args.body.now in
    let adds = added_by_batch body _ c.requires c.in-Ok.ensures.found in
    let did = c.take_items.ensures in
    record {
      taken = takes_so g.H.TreeHash.hash c.args.self.now.view c.take_items.new.self.view body _
          c.in-Ok.count adds c.in-Ok.ensures.count c.take_items.result did.ok did.err;
    }
