use Rattle.std.proofs.Common.{◌≡◌, ◌+◌, ◌≤◌, IfSome, Some, ℕ, List, length, true, false, sym, ◌∙◌}
use Rattle.std.proofs.Common.{refl, arith}
use Rattle.std.proofs.lemmas.List.{length-take, length-drop}
use Rattle.disk_core.specs.Disk.{part}
use Rattle.journal_core.specs.Format.{IsClosedAt}
use Rattle.journal_core.proofs.OpeningSteps.{step_reading, step_list, step_count, same_reading}
use Rattle.journal_core.proofs.OpeningSteps.{same_list, only_fails, refused_walk, ended_stands}
use Rattle.journal_core.proofs.OpeningSteps.{ended_walk}
use Rattle.disk_core.proofs.Times.{nothing_read}
use Rattle.journal_core.proofs.Modelled.{at_contents}
use Rattle.journal_core.proofs.opening.Opening.step.Goals as goal

length_is : (start n : ℕ) (buffer : List ℕ) → length buffer ≡ 131094 → start + n ≤ 131094
    → length (part start n buffer) ≡ n
length_is start n buffer capacity few = simp (length-take, length-drop) (omega arith)

next_is : (place n : ℕ) (body : List ℕ) → length body ≡ n
    → place + (5 + n) ≡ place + 5 + length body
next_is place n body size = omega arith

pub invariant_of-self-clause-reading : goal.invariant_of-self-clause-reading
invariant_of-self-clause-reading g c =
    let place = c.args.self.now.place in
    let lies = c.in-Ok-Some.body in
    let buffer = c.read_record.new.window.buffer.items in
    let body : List ℕ = part lies.start lies.size buffer in
    let within : (1 ≤ lies.size) × (lies.size ≤ 131072)
    × (place + 5 + lies.size ≤ c.args.self.now.size) × (lies.start + lies.size ≤ 131094)
    = rw c.in-Ok-Some.field-0-is at c.in-Ok-Some.ensures.within in
    step_reading g.D.Disk c.args.self.now.disk c.read_record.new.disk
    c.read_record.ensures.only_reads
    place c.args.self.now.reading
    body (rw c.in-Ok-Some.field-0-is at c.in-Ok-Some.ensures.found) (place + (5 + lies.size))
    (next_is place lies.size body (length_is lies.start lies.size buffer
    c.read_record.new.window.capacity within.3))

pub invariant_of-self-clause-counted : goal.invariant_of-self-clause-counted
invariant_of-self-clause-counted g c =
    let place = c.args.self.now.place in
    let lies = c.in-Ok-Some.body in
    let buffer = c.read_record.new.window.buffer.items in
    let body : List ℕ = part lies.start lies.size buffer in
    let within : (1 ≤ lies.size) × (lies.size ≤ 131072)
    × (place + 5 + lies.size ≤ c.args.self.now.size) × (lies.start + lies.size ≤ 131094)
    = rw c.in-Ok-Some.field-0-is at c.in-Ok-Some.ensures.within in
    step_count g.D.Disk c.args.self.now.disk c.read_record.new.disk c.read_record.ensures.only_reads
    place c.args.self.now.reading
    body (rw c.in-Ok-Some.field-0-is at c.in-Ok-Some.ensures.found) (place + (5 + lies.size))
    (next_is place lies.size body (length_is lies.start lies.size buffer
    c.read_record.new.window.capacity within.3))
    c.args.self.now.count c.args.self.now.counted

pub returns-in-Ok-Some : goal.returns-in-Ok-Some
returns-in-Ok-Some g c =
    let place = c.args.self.now.place in
    let lies = c.in-Ok-Some.body in
    let n = lies.size in
    let buffer = c.read_record.new.window.buffer.items in
    let body : List ℕ = part lies.start n buffer in
    let within : (1 ≤ n) × (n ≤ 131072) × (place + 5 + n ≤ c.args.self.now.size)
    × (lies.start + n ≤ 131094)
    = rw c.in-Ok-Some.field-0-is at c.in-Ok-Some.ensures.within in
    let size : length body ≡ n = length_is lies.start n buffer c.read_record.new.window.capacity
    within.3 in
    let some = within.0 in
    let few = within.1 in
    let ends = within.2 in (
      record {
        list = step_list g.D.Disk c.args.self.now.disk c.read_record.new.disk
            c.read_record.ensures.only_reads place c.args.self.now.reading
            body (rw c.in-Ok-Some.field-0-is at c.in-Ok-Some.ensures.found) (place + (5 + n))
            (next_is place n body size);
        some = omega arith;
        few = omega arith;
        place = omega arith;
        shorter = omega arith;
        continues = (c.if-self.false, c.in-None.is);
      },
      record {
        again = rw c.in-None.is tt;
        rests = λ ended none. let wrong : true ≡ false = sym ended ∙ c.if-self.false in cc;
        reason = λ none. tt;
        kind = λ none. tt;
        whole = λ none. tt;
        walk = λ none. tt;
        only_reads = c.read_record.ensures.only_reads;
        fine = λ none. c.in-Ok-Some.ensures.fine;
      },
    )

pub returns-in-Err : goal.returns-in-Err
returns-in-Err g c = (
  record {
    list = same_list g.D.Disk c.args.self.now.disk c.read_record.new.disk
        c.read_record.ensures.only_reads c.args.self.now.place c.args.self.now.reading;
    kept = refl;
    continues = refl;
  },
  record {
    again = rw c.in-None.is tt;
    rests = λ ended none. let wrong : true ≡ false = sym ended ∙ c.if-self.false in cc;
    reason = λ none. c.in-Err.ensures.reason;
    kind = λ none. c.in-Err.ensures.kind;
    whole = λ none. only_fails g.D.Disk c.args.self.now.disk c.read_record.new.disk
        c.read_record.ensures.only_reads c.args.self.now.place c.args.self.now.reading
        _ c.in-Err.ensures.reason c.in-Err.ensures.kind;
    walk = λ none. refused_walk g.D.Disk c.args.self.now.disk c.read_record.new.disk
        c.read_record.ensures.only_reads c.args.self.now.place c.args.self.now.reading
        _ c.in-Err.ensures.reason;
    only_reads = c.read_record.ensures.only_reads;
    fine = c.in-Err.ensures.fine;
  },
)

pub returns-then-self : goal.returns-then-self
returns-then-self g c =
    let closed = c.args.self.now.closed c.if-self.true in (
      record {
        list = refl;
        ended = c.if-self.true;
        place = refl;
        continues = c.in-None.is;
        stands = ended_stands g.D.Disk c.args.self.now.disk c.args.self.now.place
            c.args.self.now.reading closed;
        walk = ended_walk g.D.Disk c.args.self.now.disk c.args.self.now.place
            c.args.self.now.reading closed;
      },
      record {
        again = rw c.in-None.is tt;
        rests = λ ended none. (refl, refl, refl);
        reason = λ none. tt;
        kind = λ none. tt;
        whole = λ none. tt;
        walk = λ none. tt;
        only_reads = nothing_read g.D.Disk c.args.self.now.disk (g.met.D.Disk.only_now _);
        fine = λ none. refl;
      },
    )

pub returns-in-Ok-None : goal.returns-in-Ok-None
returns-in-Ok-None g c =
    let place = c.args.self.now.place in
    let only_reads = c.read_record.ensures.only_reads in
    let reading = same_reading g.D.Disk c.args.self.now.disk c.read_record.new.disk only_reads place
    c.args.self.now.reading in
    let found : IfSome (g.D.Disk.contents c.args.self.now.disk) (λ b. IsClosedAt b place) =
    rw c.in-Ok-None.field-0-is at c.in-Ok-None.ensures.found in
    let closed : (b : List ℕ) → g.D.Disk.contents c.read_record.new.disk ≡ Some b
    → IsClosedAt b place
    = λ b contents. at_contents (λ (bytes : List ℕ). IsClosedAt bytes place)
    (g.D.Disk.contents c.args.self.now.disk) b (sym only_reads.contents ∙ contents) found in (
      record {
        list = same_list g.D.Disk c.args.self.now.disk c.read_record.new.disk only_reads place
            c.args.self.now.reading;
        ended = refl;
        place = refl;
        continues = c.in-None.is;
        stands = ended_stands g.D.Disk c.read_record.new.disk place reading closed;
        walk = ended_walk g.D.Disk c.read_record.new.disk place reading closed;
      },
      record {
        again = rw c.in-None.is tt;
        rests = λ ended none. let wrong : true ≡ false = sym ended ∙ c.if-self.false in cc;
        reason = λ none. tt;
        kind = λ none. tt;
        whole = λ none. tt;
        walk = λ none. tt;
        only_reads = only_reads;
        fine = λ none. c.in-Ok-None.ensures.fine;
      },
    )
