use Rattle.std.proofs.Common.{refl, inl, inr, true≢false, sym, ◌∙◌, arith}
use Rattle.disk_core.proofs.Turns.{listed_made, other_made}
use Rattle.disk_core.proofs.memory.mem_disk.note_read.Goals as goal

pub returns-in-Ok-clause-turn : goal.returns-in-Ok-clause-turn
returns-in-Ok-clause-turn c = record {
  turn = record {
    first = c.note_read.ensures.first;
    failing = c.fail.ensures.failing;
    either = inl (listed_made _ _ _ _ _ c.len.result c.len.ensures
        (c.is_listed.ensures.0 c.if-is_listed.true) c.in-Ok.ensures.calls
        c.fail.ensures.failed_allocations c.fail.ensures.faults);
  };
  changes = c.note_read.ensures.changes;
  counted = λ _. c.in-Ok.ensures.calls;
}

pub returns-in-Err-clause-turn : goal.returns-in-Err-clause-turn
returns-in-Err-clause-turn c = record {
  turn = record {
    first = c.note_read.ensures.first;
    failing = c.fail_allocation.ensures.failing;
    either = inr (record {
      failed = refl;
      calls = c.in-Err.ensures.calls;
      failed_allocations = c.fail_allocation.ensures.failed_allocations;
      faults = c.fail_allocation.ensures.faults;
    });
  };
  changes = c.note_read.ensures.changes;
  counted = λ few. absurd (omega (arith, few, c.in-Err.ensures.full));
}

pub returns-in-Ok-note_read-clause-turn : goal.returns-in-Ok-note_read-clause-turn
returns-in-Ok-note_read-clause-turn c = record {
  turn = record {
    first = c.note_read-2.ensures.first;
    failing = refl;
    either = inl (other_made _ _ _ _ c.len.result c.len.ensures
        (λ is. true≢false (sym (c.is_listed.ensures.1 is) ∙ c.if-is_listed.false))
        c.in-Ok-note_read.ensures.calls);
  };
  changes = c.note_read-2.ensures.changes;
  counted = λ _. c.in-Ok-note_read.ensures.calls;
}

pub returns-in-Err-note_read-clause-turn : goal.returns-in-Err-note_read-clause-turn
returns-in-Err-note_read-clause-turn c = record {
  turn = record {
    first = c.note_read-2.ensures.first;
    failing = c.fail_allocation-in-Err-note_read.ensures.failing;
    either = inr (record {
      failed = refl;
      calls = c.in-Err-note_read.ensures.calls;
      failed_allocations = c.fail_allocation-in-Err-note_read.ensures.failed_allocations;
      faults = c.fail_allocation-in-Err-note_read.ensures.faults;
    });
  };
  changes = c.note_read-2.ensures.changes;
  counted = λ few. absurd (omega (arith, few, c.in-Err-note_read.ensures.full));
}
