use Rattle.cosigner_steps.proofs.Exported.{are_steps, export_steps, have_hashes}
use Rattle.cosigner_steps.proofs.laws.law_exports_have_allowed_steps.Goals as goal

pub returns : goal.returns
returns c = record {
  read = export_steps;
  export = are_steps;
  hashes = have_hashes;
}
