use Rattle.cosigner_core.specs.Words.{cosigner_disk}
use Rattle.drill_parties.proofs.FailedCalls.{failed_none}
use Rattle.drill_parties.proofs.ReadCrashStates.{contents_read}
use Rattle.drill_parties.proofs.cosigner_calls.cosign_on.Goals as goal

pub returns-in-Ok : goal.returns-in-Ok
returns-in-Ok g c = record {
  valid = c.in-Ok.ensures.valid c.in-Ok.ensures.answer;
  crash_states = c.in-Ok.ensures.appends.afterwards;
  grown = λ is. c.in-Ok.ensures.appends.leaves;
  kept = λ is. c.in-Ok.ensures.appends.kept;
  signed = λ is. c.in-Ok.ensures.verifies;
  numbered = λ is. c.in-Ok.ensures.number;
  reads = contents_read (g.D.Disk.contents (cosigner_disk c.cosign.new.self))
      (g.D.Disk.may_leave (cosigner_disk c.cosign.new.self))
      (g.met.D.Disk.reads_crash_state (cosigner_disk c.cosign.new.self));
}

pub returns-in-Err-Append-Failed : goal.returns-in-Err-Append-Failed
returns-in-Err-Append-Failed g c = record {
  valid = c.in-Err-Append-Failed.ensures.valid (failed_none _
      c.in-Err-Append-Failed.field-0 c.in-Err-Append-Failed.field-0-0
      c.in-Err-Append-Failed.field-0-is c.in-Err-Append-Failed.field-0-0-is
      c.in-Err-Append-Failed.ensures.answer);
  crash_states = c.in-Err-Append-Failed.ensures.appends.afterwards;
  grown = λ is. absurd cc;
  kept = λ is. absurd cc;
  signed = λ is. absurd cc;
  numbered = λ is. absurd cc;
  reads = contents_read (g.D.Disk.contents (cosigner_disk c.cosign.new.self))
      (g.D.Disk.may_leave (cosigner_disk c.cosign.new.self))
      (g.met.D.Disk.reads_crash_state (cosigner_disk c.cosign.new.self));
}
