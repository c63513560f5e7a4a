use Rattle.std.proofs.Common.{◌≡◌, ◌+◌, ℕ, List, length, take, ap, ◌∙◌, add_comm, true≢false}
use Rattle.std.proofs.Common.{arith, rules, refl, le_trans, Option, Some, None, is_some, option_map}
use Rattle.journal_core.specs.Format.{tail_of, records_of}
use Rattle.journal_core.proofs.Steps.{done_durable, done_all, done_records, done_written}
use Rattle.journal_core.proofs.Steps.{one_step, both_steps, still_stands}
use Rattle.journal_core.proofs.Appends.{untouched_time}
use Rattle.journal_core.proofs.journal.Journal.put.Goals as goal

-- The piece that was written.
piece_is : (buffer capacity : List ℕ) (body : List ℕ) → buffer ≡ capacity
    → take (5 + length body) capacity ≡ tail_of body → take (length body + 5) buffer ≡ tail_of body
piece_is buffer capacity body same is =
    ap (λ (b : List ℕ). take (length body + 5) b) same
    ∙ ap (λ (n : ℕ). take n capacity) (add_comm (length body) 5) ∙ is

pub invariant_of-self : goal.invariant_of-self
invariant_of-self g c = record {
  capacity = search rules;
  there = le_trans c.args.self.now.there c.write_synced.ensures.known_kept;
  begun = c.args.self.now.begun;
  stands =
      still_stands g.D.Disk c.args.self.now.disk c.write_synced.new.disk c.args.body.now
      c.write_synced.ensures.contents
      (g.met.D.Disk.reads_crash_state _) (g.met.D.Disk.counts_now _)
      (one_step g.D.Disk c.args.self.now.disk c.write_synced.new.disk c.write_synced.new.disk
      c.args.body.now
      (take (length c.args.body.now + 5) c.deref.result.now) c.args.self.now.end
      (c.args.self.now.is_durable c.if-self.false)
      (piece_is _ _ _ c.deref.ensures.value c.pack.ensures.tail) c.requires.some c.requires.few
      c.write_synced.ensures.any_time);
  is_durable = λ sound. absurd (true≢false sound);
}

pub invariant_of-self-in-Break-branch-2 : goal.invariant_of-self-in-Break-branch-2
invariant_of-self-in-Break-branch-2 g c = record {
  capacity = search rules;
  there = le_trans (le_trans c.args.self.now.there c.write_synced.ensures.known_kept)
      c.write_synced-2.ensures.known_kept;
  begun = c.args.self.now.begun;
  stands =
      still_stands g.D.Disk c.args.self.now.disk c.write_synced-2.new.disk c.args.body.now
      (c.write_synced-2.ensures.contents ∙ c.write_synced.ensures.contents)
      (g.met.D.Disk.reads_crash_state _) (g.met.D.Disk.counts_now _)
      (both_steps g.D.Disk c.args.self.now.disk c.write_synced.new.disk c.write_synced-2.new.disk
      c.args.body.now
      (take (length c.args.body.now + 5) c.deref.result.now) c.args.self.now.end
      (c.args.self.now.is_durable c.if-self.false)
      (piece_is _ _ _ c.deref.ensures.value c.pack.ensures.tail) c.requires.some c.requires.few
      c.write_synced.ensures.any_time
      c.in_ok-write_synced.ensures.written c.in_ok-write_synced.ensures.durable
      c.write_synced-2.ensures.any_time);
  is_durable = λ sound. absurd (true≢false sound);
}

pub invariant_of-self-2-clause-stands : goal.invariant_of-self-2-clause-stands
invariant_of-self-2-clause-stands g c = λ b contents.
    (done_durable g.D.Disk c.args.self.now.disk c.write_synced.new.disk c.write_synced-2.new.disk
    c.args.body.now
    (take (length c.args.body.now + 5) c.deref.result.now) c.args.self.now.end
    (c.args.self.now.is_durable c.if-self.false)
    (piece_is _ _ _ c.deref.ensures.value c.pack.ensures.tail) c.requires.some c.requires.few
    c.in_ok-write_synced.ensures.written c.in_ok-write_synced-2.ensures.written
    c.in_ok-write_synced-2.ensures.durable b contents).stands

pub returns-then-self-size-clause-any_time : goal.returns-then-self-size-clause-any_time
returns-then-self-size-clause-any_time g c = λ sound.
    untouched_time g.D.Disk c.args.self.now.disk c.args.self.now.end c.args.body.now
    (c.args.self.now.is_durable sound) (g.met.D.Disk.only_now _)

pub invariant_of-self-2-clause-is_durable : goal.invariant_of-self-2-clause-is_durable
invariant_of-self-2-clause-is_durable g c = λ sound b contents.
    done_durable g.D.Disk c.args.self.now.disk c.write_synced.new.disk c.write_synced-2.new.disk
    c.args.body.now
    (take (length c.args.body.now + 5) c.deref.result.now) c.args.self.now.end
    (c.args.self.now.is_durable c.if-self.false)
    (piece_is _ _ _ c.deref.ensures.value c.pack.ensures.tail) c.requires.some c.requires.few
    c.in_ok-write_synced.ensures.written c.in_ok-write_synced-2.ensures.written
    c.in_ok-write_synced-2.ensures.durable b contents

pub returns-clause-leaves : goal.returns-clause-leaves
returns-clause-leaves g c = record {
  records = done_records g.D.Disk c.args.self.now.disk c.write_synced.new.disk
      c.write_synced-2.new.disk c.args.body.now
      (take (length c.args.body.now + 5) c.deref.result.now) c.args.self.now.end
      (c.args.self.now.is_durable c.if-self.false)
      (piece_is _ _ _ c.deref.ensures.value c.pack.ensures.tail) c.requires.some c.requires.few
      c.in_ok-write_synced.ensures.written c.in_ok-write_synced-2.ensures.written
      c.in_ok-write_synced-2.ensures.durable;
  end = omega arith;
  was_sound = c.if-self.false;
  sound = refl;
  all = done_all g.D.Disk c.args.self.now.disk c.write_synced.new.disk c.write_synced-2.new.disk
      c.args.body.now
      (take (length c.args.body.now + 5) c.deref.result.now) c.args.self.now.end
      (c.args.self.now.is_durable c.if-self.false)
      (piece_is _ _ _ c.deref.ensures.value c.pack.ensures.tail) c.requires.some c.requires.few
      c.in_ok-write_synced.ensures.written c.in_ok-write_synced-2.ensures.written
      c.in_ok-write_synced-2.ensures.durable;
  fine = c.in_ok-write_synced-2.ensures.cause.fine ∙ c.in_ok-write_synced.ensures.cause.fine;
  written = done_written g.D.Disk c.args.self.now.disk c.write_synced.new.disk
      c.write_synced-2.new.disk c.args.body.now
      (take (length c.args.body.now + 5) c.deref.result.now) c.args.self.now.end
      (c.args.self.now.is_durable c.if-self.false)
      (piece_is _ _ _ c.deref.ensures.value c.pack.ensures.tail) c.requires.some c.requires.few
      c.in_ok-write_synced.ensures.written c.in_ok-write_synced-2.ensures.written
      c.in_ok-write_synced-2.ensures.durable;
}

pub returns-in_err-write_synced-clause-any_time
    : goal.returns-in_err-write_synced-clause-any_time
returns-in_err-write_synced-clause-any_time g c = λ sound.
    one_step g.D.Disk c.args.self.now.disk c.write_synced.new.disk c.write_synced.new.disk
    c.args.body.now
    (take (length c.args.body.now + 5) c.deref.result.now) c.args.self.now.end
    (c.args.self.now.is_durable c.if-self.false)
    (piece_is _ _ _ c.deref.ensures.value c.pack.ensures.tail) c.requires.some c.requires.few
    c.write_synced.ensures.any_time

pub returns-in_err-write_synced-2-clause-any_time
    : goal.returns-in_err-write_synced-2-clause-any_time
returns-in_err-write_synced-2-clause-any_time g c = λ sound.
    both_steps g.D.Disk c.args.self.now.disk c.write_synced.new.disk c.write_synced-2.new.disk
    c.args.body.now
    (take (length c.args.body.now + 5) c.deref.result.now) c.args.self.now.end
    (c.args.self.now.is_durable c.if-self.false)
    (piece_is _ _ _ c.deref.ensures.value c.pack.ensures.tail) c.requires.some c.requires.few
    c.write_synced.ensures.any_time
    c.in_ok-write_synced.ensures.written c.in_ok-write_synced.ensures.durable
    c.write_synced-2.ensures.any_time

pub returns-clause-any_time : goal.returns-clause-any_time
returns-clause-any_time g c = λ sound.
    both_steps g.D.Disk c.args.self.now.disk c.write_synced.new.disk c.write_synced-2.new.disk
    c.args.body.now
    (take (length c.args.body.now + 5) c.deref.result.now) c.args.self.now.end
    (c.args.self.now.is_durable c.if-self.false)
    (piece_is _ _ _ c.deref.ensures.value c.pack.ensures.tail) c.requires.some c.requires.few
    c.write_synced.ensures.any_time
    c.in_ok-write_synced.ensures.written c.in_ok-write_synced.ensures.durable
    c.write_synced-2.ensures.any_time

-- whether the model knows the records
some_records : (old new : Option (List ℕ)) → is_some new ≡ is_some old
    → is_some (option_map records_of new) ≡ is_some (option_map records_of old)
some_records None None is = is
some_records None (Some new) is = is
some_records (Some old) None is = is
some_records (Some old) (Some new) is = is

pub returns-in_err-write_synced-clause-contents : goal.returns-in_err-write_synced-clause-contents
returns-in_err-write_synced-clause-contents g c = some_records _ _ c.write_synced.ensures.contents

pub returns-in_err-write_synced-2-clause-contents :
    goal.returns-in_err-write_synced-2-clause-contents
returns-in_err-write_synced-2-clause-contents g c =
    some_records _ _ (c.write_synced-2.ensures.contents ∙ c.write_synced.ensures.contents)

pub returns-clause-contents : goal.returns-clause-contents
returns-clause-contents g c =
    some_records _ _ (c.write_synced-2.ensures.contents ∙ c.write_synced.ensures.contents)

pub returns-in_err-write_synced-2-clause-count : goal.returns-in_err-write_synced-2-clause-count
returns-in_err-write_synced-2-clause-count g c =
    le_trans c.write_synced.ensures.cause.later c.write_synced-2.ensures.cause.later

pub returns-clause-count : goal.returns-clause-count
returns-clause-count g c =
    le_trans c.write_synced.ensures.cause.later c.write_synced-2.ensures.cause.later
