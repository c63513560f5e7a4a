-- What a call of a disk in memory did, by what its parts ensure.
use Rattle.std.proofs.Common.{◌≡◌, ℕ, true, false, true≢false, [], ◌∷◌, ◌++◌}
use Rattle.std.proofs.Common.{length, Contains, refl, sym, subst}
use Rattle.mtc_io.specs.Counts.{with_count}
use Rattle.disk_core.specs.Noted.{made_calls}
use Rattle.disk_core.specs.Plan.{IsMade}
use Rattle.disk_core.specs.declared.memory.call.Made.{Made}
use Rattle.disk_core.specs.declared.memory.history.History.{History}
use Rattle.disk_core.specs.declared.memory.plan.Plan.{Plan}

-- a listed call fails, and is counted
pub listed_made : (plan plan' : Plan) (past past' : History) (made : Made) (number : ℕ)
    → number ≡ length (made_calls past.calls) → Contains plan.failing.items number
    → made_calls past'.calls ≡ made_calls past.calls ++ made ∷ []
    → plan'.failed_allocations ≡ plan.failed_allocations → plan'.faults ≡ with_count plan.faults 1
    → IsMade plan past made false plan' past'
listed_made plan plan' past past' made number is listed calls failed_allocations faults = record {
  calls = calls;
  listed = λ _. refl;
  other = λ _. subst (Contains plan.failing.items) is listed;
  failed_allocations = failed_allocations;
  faults = faults;
}

-- another is done
pub other_made : (plan : Plan) (past past' : History) (made : Made) (number : ℕ)
    → number ≡ length (made_calls past.calls) → (Contains plan.failing.items number → ⊥)
    → made_calls past'.calls ≡ made_calls past.calls ++ made ∷ []
    → IsMade plan past made true plan past'
other_made plan past past' made number is other calls = record {
  calls = calls;
  listed = λ listed. absurd (other (subst (Contains plan.failing.items) (sym is) listed));
  other = λ wrong. absurd (true≢false wrong);
  failed_allocations = refl;
  faults = refl;
}
