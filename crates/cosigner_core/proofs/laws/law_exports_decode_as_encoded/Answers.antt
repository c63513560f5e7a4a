use Rattle.cosigner_core.proofs.ExportAgain.{export_again}
use Rattle.cosigner_core.proofs.ExportForm.{export_takes}
use Rattle.cosigner_core.proofs.ExportWritten.{export_written}
use Rattle.cosigner_core.proofs.laws.law_exports_decode_as_encoded.Goals as goal

pub returns-clause-only : goal.returns-clause-only
returns-clause-only c = λ h bytes e are is. export_takes h bytes e are is

pub returns-clause-again : goal.returns-clause-again
returns-clause-again c = λ h bytes list s are stands is. export_again h bytes list s are stands is

pub returns-clause-written : goal.returns-clause-written
returns-clause-written c = λ h e is. export_written h e is
