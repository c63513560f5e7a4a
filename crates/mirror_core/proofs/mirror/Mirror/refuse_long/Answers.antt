use Rattle.std.proofs.Common.{refl, subst, sym, arith}
use Rattle.journal_core.specs.Appends.{JournalAppends}
use Rattle.state_journal.proofs.Kept.{end_stays, stay_kept}
use Rattle.mirror_core.specs.Kept.{IsMirrored, kept_leaves, kept_places}
use Rattle.mirror_core.specs.Places.{ArePlaced}
use Rattle.mirror_core.specs.Words.{mirror_view}
use Rattle.mirror_core.proofs.Leaving.{appends_err, owner_failed, refused_only}
use Rattle.mirror_core.proofs.mirror.Mirror.refuse_long.Goals as goal

pub returns-clause-appends : goal.returns-clause-appends
returns-clause-appends g c = λ seen next.
    let mirror = c.args.self.now in
    let why = c.in-Err.why in
    let did = c.in-Err.ensures in
    let records = (stay_kept (IsMirrored g.H.TreeHash.hash (mirror_view mirror)
    (kept_places mirror.machine.kept) (kept_leaves mirror.machine.kept)) mirror.journal
    c.append.new.self c.args.body.now why did (λ b is. let durable = mirror.durable b is in
    record { durable = durable.durable; holds = durable.kept })).1 in
    appends_err mirror _ refl c.args.body.now seen next _ why refl
    (owner_failed g.D.Disk mirror.journal c.append.new.self (mirror_view mirror) c.args.body.now
    (seen (mirror_view mirror)) why did) records refl

pub invariant_of-self : goal.invariant_of-self
invariant_of-self g c =
    let mirror = c.args.self.now in
    let journal = c.append.new.self in
    let body = c.args.body.now in
    let places = kept_places mirror.machine.kept in
    let only = refused_only mirror.journal journal body c.append.result c.append.ensures
    c.requires.long in
    let did = subst (JournalAppends body mirror.journal journal) only.1 c.append.ensures in
    let end = end_stays mirror.journal journal body only.0 did in
    let long = mirror.long in
    let kept = (stay_kept (IsMirrored g.H.TreeHash.hash (mirror_view mirror) places
    (kept_leaves mirror.machine.kept)) mirror.journal journal body only.0 did (λ b is.
    let durable = mirror.durable b is in
    record { durable = durable.durable; holds = durable.kept })).0 in
    record {
      counted = mirror.counted;
      adopted = mirror.adopted;
      stored = mirror.stored;
      placed = subst (ArePlaced places (mirror_view mirror).size) (sym end) mirror.placed;
      long = omega (arith, end, long);
      durable = λ b contents.
          let is = kept b contents in record { durable = is.durable; kept = is.holds };
    }
