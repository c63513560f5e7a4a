use Rattle.std.proofs.Common.{refl, inl, inr, true≢false, sym, ◌∙◌}
use Rattle.disk_core.proofs.Turns.{listed_made, other_made}
use Rattle.disk_core.proofs.memory.mem_disk.write.Goals as goal

pub returns-in-Ok-clause-turn : goal.returns-in-Ok-clause-turn
returns-in-Ok-clause-turn c = record {
  first = c.fail_write.ensures.first;
  failing = c.fail.ensures.failing;
  either = inl (listed_made _ _ _ _ _ c.len.result c.len.ensures
      (c.is_listed.ensures.0 c.if-is_listed.true) c.in-Ok.ensures.calls
      c.fail.ensures.failed_allocations c.fail.ensures.faults);
}

pub returns-in-Err-clause-turn : goal.returns-in-Err-clause-turn
returns-in-Err-clause-turn c = record {
  first = c.fail_write.ensures.first;
  failing = c.fail_allocation.ensures.failing;
  either = inr (record {
    failed = refl;
    calls = c.in-Err.ensures.calls;
    failed_allocations = c.fail_allocation.ensures.failed_allocations;
    faults = c.fail_allocation.ensures.faults;
  });
}

pub returns-in-Ok-write-clause-turn : goal.returns-in-Ok-write-clause-turn
returns-in-Ok-write-clause-turn c = record {
  first = c.write.ensures.first;
  failing = refl;
  either = inl (other_made _ _ _ _ c.len.result c.len.ensures
      (λ is. true≢false (sym (c.is_listed.ensures.1 is) ∙ c.if-is_listed.false))
      c.in-Ok-write.ensures.calls);
}

pub returns-in-Err-write-clause-turn : goal.returns-in-Err-write-clause-turn
returns-in-Err-write-clause-turn c = record {
  first = c.write.ensures.first;
  failing = c.fail_allocation-in-Err-write.ensures.failing;
  either = inr (record {
    failed = refl;
    calls = c.in-Err-write.ensures.calls;
    failed_allocations = c.fail_allocation-in-Err-write.ensures.failed_allocations;
    faults = c.fail_allocation-in-Err-write.ensures.faults;
  });
}
