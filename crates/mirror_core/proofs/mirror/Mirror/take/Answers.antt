use Rattle.std.proofs.Common.{ℕ, IfSome, Option, ap, length, refl, subst, ◌≡◌}
use Rattle.byte_formats.proofs.Values.{err_is}
use Rattle.mirror_core.specs.Folds.{MirrorView, more_mirrored, with_mirrored}
use Rattle.mirror_core.specs.Records.{mirror_batch_record}
use Rattle.mirror_core.specs.Refusals.{MirrorCountsAll, TakeAnswers, first_difference}
use Rattle.mirror_core.specs.Refusals.{next_batch, pairs_of}
use Rattle.mirror_core.specs.Words.{MirrorAppends, mirror_broken, mirror_end, mirror_view}
use Rattle.mirror_core.specs.Words.{mirror_disk, modelled_mirror}
use Rattle.mirror_core.specs.declared.error.MirrorError.TheVariants.{Differs}
use Rattle.mirror_core.proofs.Answering.{answers_differs, answers_next, answers_nothing, no_journal}
use Rattle.mirror_core.proofs.Answering.{take_same}
use Rattle.mirror_core.proofs.Leaving.{appends_not}
use Rattle.mirror_core.proofs.mirror.Mirror.take.Goals as goal

-- the items could not be compared
pub returns-in_err-number-clause-appends : goal.returns-in_err-number-clause-appends
returns-in_err-number-clause-appends g c =
    let new = next_batch (mirror_view c.args.self.now).size (pairs_of c.args.items.now) in
    record {
      read = c.compare.new.self;
      reads = c.compare.ensures.asks;
      appends = appends_not c.compare.new.self c.compare.new.self refl refl refl
          (mirror_batch_record new) (more_mirrored (length new)) (with_mirrored new)
          c.from_residual.result c.in_err-number.field-0.0 c.from_residual.ensures.1
          (no_journal c.in_err-number.field-0.0 c.in_err-number.ensures.why)
          (g.met.D.Disk.only_now _);
    }

pub returns-in_err-number-clause-answer : goal.returns-in_err-number-clause-answer
returns-in_err-number-clause-answer g c =
    let mirror = c.args.self.now in
    subst (TakeAnswers (modelled_mirror mirror) (mirror_view mirror).size (mirror_broken mirror)
    (mirror_end mirror) (pairs_of c.args.items.now))
    (err_is c.from_residual.result c.in_err-number.field-0.0 c.from_residual.ensures.1)
    (answers_nothing (modelled_mirror mirror) (mirror_view mirror).size (mirror_broken mirror)
    (mirror_end mirror) (pairs_of c.args.items.now) c.in_err-number.field-0.0
    c.in_err-number.ensures.why)

-- one differs
pub returns-in-Some-clause-appends : goal.returns-in-Some-clause-appends
returns-in-Some-clause-appends g c =
    let new = next_batch (mirror_view c.args.self.now).size (pairs_of c.args.items.now) in
    record {
      read = c.compare.new.self;
      reads = c.compare.ensures.asks;
      appends = appends_not c.compare.new.self c.compare.new.self refl refl refl
          (mirror_batch_record new) (more_mirrored (length new)) (with_mirrored new) _
          (Differs c.in-Some.number) refl refl (g.met.D.Disk.only_now _);
    }

pub returns-in-Some-clause-answer : goal.returns-in-Some-clause-answer
returns-in-Some-clause-answer g c =
    let mirror = c.args.self.now in
    answers_differs (modelled_mirror mirror) (mirror_view mirror).size (mirror_broken mirror)
    (mirror_end mirror) (pairs_of c.args.items.now) c.in-Some.number
    (subst (λ (o : Option ℕ). IfSome (modelled_mirror mirror)
    (λ s. o ≡ first_difference s.items (pairs_of c.args.items.now))) c.in-Some.is
    c.in_ok-number.ensures.found)

-- none does
pub returns-clause-appends : goal.returns-clause-appends
returns-clause-appends g c =
    let ys = pairs_of c.args.items.now in
    let same = ap (λ (v : MirrorView). v.size) c.compare.ensures.asks.stays.view in
    record {
      read = c.compare.new.self;
      reads = c.compare.ensures.asks;
      appends = subst (λ (n : ℕ). MirrorAppends (mirror_batch_record (next_batch n ys))
          (more_mirrored (length (next_batch n ys))) (with_mirrored (next_batch n ys))
          c.compare.new.self c.append_new.new.self c.append_new.result) same
          c.append_new.ensures.appends;
    }

pub returns-clause-answer : goal.returns-clause-answer
returns-clause-answer g c =
    let mirror = c.args.self.now in
    let ys = pairs_of c.args.items.now in
    let stays = c.compare.ensures.asks.stays in
    answers_next (modelled_mirror mirror) (mirror_view mirror).size (mirror_broken mirror)
    (mirror_end mirror) ys c.append_new.result
    (subst (λ (o : Option ℕ). IfSome (modelled_mirror mirror)
    (λ s. o ≡ first_difference s.items ys)) c.in_default.is c.in_ok-number.ensures.found)
    (take_same _ _ _ _ _ _ ys c.append_new.result (ap (λ (v : MirrorView). v.size) stays.view)
    stays.broken stays.end c.append_new.ensures.answer)

pub returns-clause-cause : goal.returns-clause-cause
returns-clause-cause g c =
    subst (λ (n : ℕ). MirrorCountsAll n (g.D.Disk.faults (mirror_disk c.append_new.new.self))
    c.append_new.result) c.in_ok-number.ensures.cause c.append_new.ensures.cause
