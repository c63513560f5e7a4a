use Rattle.std.proofs.Common.{◌≡◌, ◌≤◌, Ok, take}
use Rattle.std.specs.Prelude.{◌↔◌, pos}
use Rattle.byte_formats.specs.Types.{Text}
use Rattle.cert_fields.specs.Certificate.{parts_of}
use Rattle.cert_fields.specs.Views.{parts}
use Rattle.policy_core.specs.Judgement.{judgement}
use Rattle.drill_core.specs.Audits.{AllByExport}
use Rattle.drill_core.proofs.audits.count_standing.Given as goal

abbrev pub invariant-loop-export : goal.invariant-loop-export
invariant-loop-export g l = record {
  few : l.count ≤ l.export-index;
  all : (cert : Text)
      → judgement g.H.TreeHash.hash cert l.store (pos 1767225600) ≡ Ok l.judged.accepted
      → parts_of cert ≡ Ok (parts l.judged.cert)
      → AllByExport g.H.TreeHash.hash l.store cert l.items (take l.export-index l.exports)
      ↔ (l.count ≡ l.export-index);
}
