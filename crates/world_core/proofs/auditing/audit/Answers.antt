use Rattle.std.proofs.Common.{sym, subst}
use Rattle.std.specs.Prelude.{IfSome, option_map, ◌≤◌, Option}
use Rattle.cert_fields.specs.Views.{parts}
use Rattle.mtc_proof.specs.Views.{proof_parts}
use Rattle.world_core.specs.declared.wanted.WantedHash.{WantedHash}
use Rattle.world_core.proofs.Decided.{interval_order, judged_path, landmark_supported, none_foreign}
use Rattle.world_core.proofs.Decided.{decided_audit, wanted_order}
use Rattle.world_core.proofs.Walks.{ok_still}
use Rattle.world_core.proofs.auditing.audit.Goals as goal

pub foreign-requires : goal.foreign-requires
foreign-requires g c =
    let path = judged_path g.H.TreeHash.hash c.args.store.now (parts c.args.cert.now)
    (proof_parts c.args.proof.now) c.args.accepted.now c.requires.judged in
    subst (λ (o : Option WantedHash). IfSome o (λ w. w.start ≤ w.end))
    (sym c.wanted_hash-wanted.ensures) (wanted_order g.H.TreeHash.hash c.args.accepted.now
    (option_map (λ e. e.now) c.args.kept) c.args.accepted.now.by
    (interval_order g.H.TreeHash.hash _ c.args.accepted.now _ path))

pub decide-requires-clause-path : goal.decide-requires-clause-path
decide-requires-clause-path g c =
    judged_path g.H.TreeHash.hash c.args.store.now (parts c.args.cert.now)
    (proof_parts c.args.proof.now) c.args.accepted.now c.requires.judged

pub by_record-requires-clause-path : goal.by_record-requires-clause-path
by_record-requires-clause-path g c =
    judged_path g.H.TreeHash.hash c.args.store.now (parts c.args.cert.now)
    (proof_parts c.args.proof.now) c.args.accepted.now c.requires.judged

pub returns-in-Landmark : goal.returns-in-Landmark
returns-in-Landmark g c =
    ok_still _ _ c.decide.result (λ answer decides. decided_audit g.H.TreeHash.hash (record {
      accepted = c.args.accepted.now;
      cert = parts c.args.cert.now;
      proof = proof_parts c.args.proof.now;
      store = c.args.store.now;
      items = c.args.items.now;
      kept = option_map (λ e. e.now) c.args.kept;
    }) answer (none_foreign g.H.TreeHash.hash _ c.args.items.now.entries _ _ c.entries.ensures
    c.wanted_hash-wanted.ensures c.in_default.ensures) (landmark_supported (record {
      accepted = c.args.accepted.now;
      cert = parts c.args.cert.now;
      proof = proof_parts c.args.proof.now;
      store = c.args.store.now;
      items = c.args.items.now;
      kept = option_map (λ e. e.now) c.args.kept;
    }) c.in-Landmark.is) (decides (option_map (λ e. e.now) c.args.kept)))
    c.decide.ensures
