use Rattle.std.proofs.Common.{◌≡◌, Some, Ok, rules, subst}
use Rattle.byte_formats.specs.Readings.{Answers}
use Rattle.tree_core.specs.Toy.{toy_hash}
use Rattle.cosigner_core.specs.ExportReading.{export_in}
use Rattle.cosigner_core.specs.declared.error.ReadExportError.TheVariants.{Memory}
use Rattle.cosigner_steps.proofs.Exported.{export_steps}
use Rattle.test_judge.proofs.quarrels.shown.Goals as goal

pub quarrel-requires : goal.quarrel-requires
quarrel-requires c =
    let read : c.read_export.result ≡ Ok (Some c.in_ok-kept.kept) = search rules in
    export_steps toy_hash c.args.export.now (Some c.in_ok-kept.kept)
    (λ i. (c.type_inv.export i).fits)
    (subst (λ r. Answers Memory (export_in toy_hash c.args.export.now) r) read
    c.read_export.ensures)
