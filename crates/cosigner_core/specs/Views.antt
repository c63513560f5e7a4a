-- Parts of the code's values as contracts see them: slices as their bytes.
use Rattle.cosigner_core.specs.declared.requests.AdvanceRequest.{AdvanceRequest}
use Rattle.cosigner_core.specs.declared.requests.SubtreeRequest.{SubtreeRequest}
use Rattle.cosigner_core.specs.declared.step.StepRef.{StepRef}
use Rattle.cosigner_core.specs.declared.step.StepRef.TheVariants as step_ref
use Rattle.cosigner_core.specs.declared.step.Step.{Step}
use Rattle.cosigner_core.specs.declared.step.Step.TheVariants.{Advance, Child, Sign}
use Rattle.cosigner_core.specs.Requests.{AdvanceParts, SubtreeParts}

-- A request to hold a larger log.
abbrev pub advance_parts : AdvanceRequest → AdvanceParts
advance_parts r = record { log = r.log.now; size = r.size; root = r.root; proof = r.proof.now }

-- A request to sign a subtree.
abbrev pub subtree_parts : SubtreeRequest → SubtreeParts
subtree_parts r = record {
  log = r.log.now;
  start = r.start;
  end = r.end;
  hash = r.hash;
  proof = r.proof.now;
}

-- what a record says
abbrev pub step_said : StepRef → Step
step_said (step_ref.Advance size root proof) = Advance size root proof.now
step_said (step_ref.Sign index start end hash proof) = Sign index start end hash proof.now
step_said (step_ref.Child child low) = Child child low
