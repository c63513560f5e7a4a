use Rattle.std.proofs.Common.{arith, ap, ◌∙◌}
use Rattle.cert_fields.specs.Views.{parts}
use Rattle.log_entry.specs.EntryOf.{entry_of}
use Rattle.log_entry.specs.declared.entry.Form.{Form}
use Rattle.mtc_proof.specs.Views.{proof_parts}
use Rattle.world_core.proofs.Decided.{eval_inside, list_decides}
use Rattle.world_core.proofs.deciding.decide.Goals as goal

pub by_key-requires-clause-inside : goal.by_key-requires-clause-inside
by_key-requires-clause-inside g c =
    let inside = eval_inside g.H.TreeHash.hash _ _ _ _ _ _ c.requires.path in
    let within = c.requires.interval.within in
    omega arith

pub returns : goal.returns
returns g c = λ kept.
    list_decides g.H.TreeHash.hash (record {
      accepted = c.args.accepted.now;
      cert = parts c.args.cert.now;
      proof = proof_parts c.args.proof.now;
      store = c.args.store.now;
      items = c.args.items.now;
      kept = kept;
    }) c.entries.result c.as_slice.result.now c.in-Pair.one c.in-Pair.other
    c.in_ok-in_list.field-0 c.entries.ensures
    (c.as_slice.ensures ∙ c.in_ok-entry.ensures {u = tt}
    ∙ ap (λ (form : Form). entry_of g.H.TreeHash.hash form (parts c.args.cert.now))
    c.form_at.ensures) c.in-Pair.is
    (c.in_ok-in_list.ensures {u = tt})
