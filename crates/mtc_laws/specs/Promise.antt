-- The promise as a whole, on one page.
use Rattle.byte_formats.specs.Types.{HashFunction}
use Rattle.file_events.specs.Worlds.{Program}
use Rattle.mtc_laws.specs.AcceptanceLaws.{IssuedCertificatesAreAccepted}
use Rattle.mtc_laws.specs.AuditLaws.{AuditsDecide}
use Rattle.mtc_laws.specs.ExecutionLaws.{JournalsAreRead, KeysSignOnce, KeysSignOneMessage}
use Rattle.mtc_laws.specs.ExecutionLaws.{RecoveredListsGrow}
use Rattle.mtc_laws.specs.ExportLaws.{ExportsHoldTheSteps}
use Rattle.mtc_laws.specs.PrintLaws.{OnlyCosignSigns, SignaturesStand}
use Rattle.mtc_laws.specs.QuarrelLaws.{TwoSignaturesCollide}

-- What a program promises of all executions of a journal: runs by any arguments, wherever they
-- fail, stops of the machine between them and in the middle of one, and kills. A run that ends with
-- status 5 or 8 before its first byte counts as one that broke off there; one of `verify`, `audit`
-- or `quarrel` that ends with status 5, 6 or 8 is excepted. All is of files whose contents are
-- known.
pub record KeepsItsPromise (h : HashFunction) (p : Program) : Type 0 where
  -- Nothing is lost. Whatever a crash leaves of a journal represents records, and what a run before
  -- found in it, or made of it, is a prefix of these.
  pub lists_only_grow : RecoveredListsGrow h p
  -- No journal is refused: it is read as that of its log, its cosigner or its mirror.
  pub journals_are_read : JournalsAreRead h p
  -- No one-time key of a journal signs twice. Of the records that a crash may leave no two use one
  -- key; and two records that runs found or added, and that use one key, are one record.
  pub keys_sign_once : KeysSignOnce h p
  pub keys_sign_one_message : KeysSignOneMessage h p
  -- No signature goes out without its record. What goes out of a run that signs is the signature by
  -- the key with the number of the record that it added; and of the commands that open a cosigner's
  -- journal, or are given a secret, no other prints one.
  pub only_cosign_signs : OnlyCosignSigns h p
  -- Whatever a crash leaves has the record of each signature of which a byte may have gone out.
  pub signatures_stand : SignaturesStand h p
  -- And a later export has the step of each record.
  pub exports_hold_the_steps : ExportsHoldTheSteps h p
  -- What `issue` issued is accepted by each store that backs its certificate, while it is valid.
  pub issued_is_accepted : IssuedCertificatesAreAccepted h p
  -- Where a certificate was accepted by a landmark, or by a signature that was recorded, `audit`
  -- over the wanted list prints that the entry stands in it, or two different strings with one
  -- hash.
  pub audits_decide : AuditsDecide h p
  -- A cosigner whose records sign one interval with two hashes convicts itself by its export.
  pub two_signatures_collide : TwoSignaturesCollide h p
