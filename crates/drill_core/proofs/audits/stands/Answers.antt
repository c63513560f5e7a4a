use Rattle.std.proofs.Common.{◌≡◌, ◌∙◌, Ok, Some, refl, sym, ap, arith}
use Rattle.cert_fields.specs.Views.{parts}
use Rattle.cosigner_core.specs.ExportReading.{export_in}
use Rattle.mtc_proof.specs.Views.{proof_parts}
use Rattle.world_core.specs.declared.answer.Audit.TheVariants.{Stands}
use Rattle.drill_core.proofs.AuditCases.{it_stands, kept_stands, same_audit, stands_so}
use Rattle.drill_core.proofs.audits.stands.Goals as goal

pub returns-in-Stands-clause-stands : goal.returns-in-Stands-clause-stands
returns-in-Stands-clause-stands g c = λ cert judged read.
    let h = g.H.TreeHash.hash in
    let j = c.args.judged.now in (
      λ by. refl,
      λ one. record {
        kept = c.in_ok-kept.kept;
        read = ap (export_in h) (sym c.as_slice.ensures) ∙ c.in_ok-kept.ensures.exact;
        stands = stands_so h c.args.store.now cert c.args.items.now c.in_ok-kept.kept j.accepted
            (parts j.cert) (proof_parts j.proof) c.in_ok-answer.answer c.in-Stands.field-0 judged
            read c.requires.proof c.in-Stands.is
            (same_audit h c.as_store.result.now c.args.store.now c.args.items.now c.in_ok-kept.kept
            j.accepted (parts j.cert) (proof_parts j.proof) c.in_ok-answer.answer
            c.as_store.ensures.same c.in_ok-answer.ensures);
      },
    )

pub returns-clause-stands : goal.returns-clause-stands
returns-clause-stands g c = λ cert judged read.
    let h = g.H.TreeHash.hash in
    let a = c.args in
    let j = a.judged.now in
    let kept = c.in_ok-kept.kept in
    let exact : export_in h a.export.now ≡ Ok (Some kept) =
    ap (export_in h) (sym c.as_slice.ensures) ∙ c.in_ok-kept.ensures.exact in (
      λ by.
          let is : c.in_ok-answer.answer ≡ Stands j.accepted.index =
          it_stands h a.store.now cert a.items.now kept j.accepted (parts j.cert)
          (proof_parts j.proof) c.in_ok-answer.answer
          (kept_stands h a.store.now cert a.items.now a.export.now kept by exact)
          judged read c.requires.proof
          (same_audit h c.as_store.result.now a.store.now a.items.now kept j.accepted (parts j.cert)
          (proof_parts j.proof) c.in_ok-answer.answer c.as_store.ensures.same
          c.in_ok-answer.ensures) in
          absurd (c.in_default.not-Stands j.accepted.index is),
      λ one. absurd (omega (arith, one)),
    )
