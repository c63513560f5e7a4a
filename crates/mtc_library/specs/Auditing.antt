-- The words of an auditor's contracts.
pub use Rattle.cert_fields.specs.Views.{parts}
pub use Rattle.cosigner_steps.specs.Steps.{AreSteps}
pub use Rattle.mtc_proof.specs.Proofs.{ProofParts}
pub use Rattle.mtc_proof.specs.Reading.{proof_in}
pub use Rattle.mtc_proof.specs.Views.{proof_parts}
pub use Rattle.quarrel_core.specs.Quarrels.{IsQuarrel}
pub use Rattle.world_core.specs.Audit.{AuditCase, IsAudit, WasJudged}
