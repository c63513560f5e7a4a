-- The steps of what was read as an export.
use Rattle.std.proofs.Common.{◌≡◌, List, [], ◌∷◌, Option, Some, None, Ok}
use Rattle.std.specs.Prelude.{IfSome}
use Rattle.std.specs.List.{AllByRecursion}
use Rattle.byte_formats.specs.Types.{HashFunction, Text}
use Rattle.byte_formats.specs.Offsets.{IsBytes}
use Rattle.byte_formats.proofs.Values.{then_some}
use Rattle.cosigner_core.specs.ExportReading.{IsExport, export_in, signing_terms}
use Rattle.cosigner_core.specs.Progress.{first_progress, progress_by}
use Rattle.cosigner_core.specs.Records.{FitsStep}
use Rattle.cosigner_core.specs.declared.lists.Export.{Export}
use Rattle.cosigner_core.specs.declared.step.Step.{Step}
use Rattle.cosigner_core.specs.declared.step.Step.TheVariants.{Advance, Child, Sign}
use Rattle.cosigner_core.specs.declared.terms.KeyTerms.{KeyTerms}
use Rattle.cosigner_core.proofs.ExportForm.{export_takes}
use Rattle.cosigner_steps.specs.Laws.{HasHashes}
use Rattle.cosigner_steps.specs.Steps.{AreSteps}

pub are_steps : (h : HashFunction) (e : Export) → IsExport h e → AreSteps h e.steps
are_steps h e is =
    let made = then_some (λ (terms : KeyTerms). progress_by h terms (first_progress h) e.steps)
    (signing_terms e.public) is.progress is.valid in
    record { terms = made.0; done = is.progress; each = made.2 }

pub export_steps : (h : HashFunction) (bytes : Text) (kept : Option Export) → IsBytes bytes
    → export_in h bytes ≡ Ok kept → IfSome kept (λ e. AreSteps h e.steps)
export_steps h bytes None are read = tt
export_steps h bytes (Some e) are read = are_steps h e (export_takes h bytes e are read).1

hashes_of : (step : Step) → FitsStep step → HasHashes step
hashes_of (Advance size root proof) fits = fits.all_hashes.0
hashes_of (Sign index start end hash proof) fits = fits.all_hashes.0
hashes_of (Child child low) fits = tt

all_hashes : (steps : List Step) → AllByRecursion FitsStep steps → AllByRecursion HasHashes steps
all_hashes [] fits = tt
all_hashes (step ∷ steps) fits = (hashes_of step fits.0, all_hashes steps fits.1)

pub have_hashes : (h : HashFunction) (e : Export) → IsExport h e
    → AllByRecursion HasHashes e.steps
have_hashes h e is = all_hashes e.steps is.fits
