-- The words of a cosigner's contracts.
pub use Rattle.cosigner_core.specs.Signatures.{signature_by}
pub use Rattle.cosigner_core.specs.Words.{cosigner_broken, cosigner_state}
pub use Rattle.mtc_library.specs.Beginnings.{HasNewJournal, IsNewCosigner}
pub use Rattle.mtc_proof.specs.Proofs.{SigParts, signature_text}
