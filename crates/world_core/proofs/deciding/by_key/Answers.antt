use Rattle.std.proofs.Common.{sym, ◌∙◌}
use Rattle.cert_fields.specs.Views.{parts}
use Rattle.world_core.proofs.Decided.{keys_decide}
use Rattle.world_core.proofs.deciding.by_key.Goals as goal

pub returns : goal.returns
returns g c = λ p kept.
    keys_decide g.H.TreeHash.hash (record {
      accepted = c.args.accepted.now;
      cert = parts c.args.cert.now;
      proof = p;
      store = c.args.store.now;
      items = c.args.items.now;
      kept = kept;
    }) c.item-item.result.entry.now c.item-item.result.spki.now c.in_ok-own.own c.in_ok-other.other
    g.met.H.TreeHash.sized c.requires.certificate c.item-item.ensures.entry
    c.item-item.ensures.key c.item-item.ensures.own c.requires.entry
    (sym c.eq.ensures ∙ c.if-eq.false) (c.in_ok-own.ensures {u = tt})
    (c.in_ok-other.ensures {u = tt})
