use Rattle.std.proofs.Common.{◌≡◌}
use Rattle.issuance_log.specs.Words.{LogStays, modelled_state}
use Rattle.journal_core.specs.Copies.{AppendsSome}
use Rattle.mtc_authority.proofs.Listed.{HaveGone}
use Rattle.mtc_authority.proofs.entries.write_items.Given as goal

-- the items so far went out, but for those that are held
abbrev pub invariant-loop-number : goal.invariant-loop-number
invariant-loop-number g l =
    let outs = g.O.Sink in
    record {
      stays : LogStays l.initial.log l.log;
      gone : HaveGone (modelled_state l.initial.log) (outs.taken l.initial.out) (outs.taken l.out)
          l.initial.first l.number l.held;
      grows : AppendsSome (outs.taken l.initial.out) (outs.taken l.out);
      fine : outs.faults l.out ≡ outs.faults l.initial.out;
    }
