use Rattle.std.proofs.Common.{Option, Result, Ok, Err}
use Rattle.std.specs.Prelude.{IfOk, IfSome}
use Rattle.byte_formats.specs.Offsets.{IsBytes}
use Rattle.byte_formats.specs.Readings.{Answers}
use Rattle.byte_formats.specs.Types.{HashFunction, Text}
use Rattle.cosigner_core.specs.ExportReading.{export_in}
use Rattle.cosigner_core.specs.declared.error.ReadExportError.{ReadExportError}
use Rattle.cosigner_core.specs.declared.error.ReadExportError.TheVariants.{Memory as NoCapacity}
use Rattle.cosigner_core.specs.declared.lists.Export.{Export}
use Rattle.cosigner_steps.specs.Steps.{AreSteps}
use Rattle.cosigner_steps.proofs.Exported.{export_steps}
use Rattle.cosigner_steps.proofs.reading.read_steps.Goals as goal

allowed : (h : HashFunction) (bytes : Text) (read : Result (Option Export) ReadExportError)
    → IsBytes bytes → Answers NoCapacity (export_in h bytes) read
    → IfOk read (λ kept. IfSome kept (λ e. AreSteps h e.steps))
allowed h bytes (Ok kept) are is = export_steps h bytes kept are is
allowed h bytes (Err why) are is = tt

pub returns-clause-steps : goal.returns-clause-steps
returns-clause-steps g c = allowed g.H.TreeHash.hash c.args.bytes.now c.read_export.result
    (λ i. (c.type_inv.bytes i).fits) c.read_export.ensures
