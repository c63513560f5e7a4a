use Rattle.std.proofs.Common.{◌≡◌, Some, Ok, rules, subst}
use Rattle.byte_formats.specs.Readings.{Answers}
use Rattle.sha2.specs.Sha256.{sha256}
use Rattle.cosigner_core.specs.ExportReading.{export_in}
use Rattle.cosigner_core.specs.declared.error.ReadExportError.TheVariants.{Memory}
use Rattle.cosigner_steps.proofs.Exported.{export_steps}
use Rattle.test_judge.proofs.all_keys.count_agreeing.Goals as goal

pub quarrel-requires : goal.quarrel-requires
quarrel-requires c =
    let read : c.read_export.result ≡ Ok (Some c.in_ok-kept.kept) = search rules in
    export_steps sha256 c.args.export.now (Some c.in_ok-kept.kept)
    (λ i. (c.type_inv.export i).fits)
    (subst (λ r. Answers Memory (export_in sha256 c.args.export.now) r) read
    c.read_export.ensures)
