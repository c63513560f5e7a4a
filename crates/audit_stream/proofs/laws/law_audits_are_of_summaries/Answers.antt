use Rattle.audit_stream.proofs.Answered.{AuditsAreOfSummaries_always}
use Rattle.audit_stream.proofs.laws.law_audits_are_of_summaries.Goals as goal

pub returns : goal.returns
returns c = AuditsAreOfSummaries_always
