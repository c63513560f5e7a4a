use Rattle.std.proofs.Common.{◌≡◌, ◌+◌, ◌≤◌, ℕ, List, [], ◌∷◌, ◌++◌, length, take, IfSome, Option}
use Rattle.std.proofs.Common.{option_map, is_some, ap, sym, subst, ◌∙◌, add_comm, arith, refl}
use Rattle.std.proofs.lemmas.List.{nil_from_length, length-take, length-drop}
use Rattle.journal_core.specs.Format.{header, record_bytes, new_file_of}
use Rattle.journal_core.specs.Packed.{first_body}
use Rattle.journal_core.specs.Durable.{IsDurable}
use Rattle.journal_core.specs.declared.first_record.FirstRecord.{FirstRecord}
use Rattle.journal_core.proofs.Modelled.{if_some}
use Rattle.journal_core.proofs.Begun.{started_durable, started_all, started_records}
use Rattle.journal_core.proofs.Begun.{started_written}
use Rattle.journal_core.proofs.first_record.FirstRecord.start.Goals as goal

-- the length of its body
sized : (packed : FirstRecord) → length (first_body packed) ≡ packed.size
sized packed = let capacity = packed.capacity in let few =
    packed.few in simp (length-take, length-drop) (omega arith)

-- the piece that was written
piece_is : (packed : FirstRecord) (buffer : List ℕ) → buffer ≡ packed.buffer.items
    → take (packed.size + 22) buffer ≡ new_file_of (first_body packed)
piece_is packed buffer same =
    ap (λ (b : List ℕ). take (packed.size + 22) b) same
    ∙ ap (λ (n : ℕ). take n packed.buffer.items) (add_comm packed.size 22) ∙ packed.packed

-- a file of no bytes
empty : (contents : Option (List ℕ)) (n : ℕ) → n ≡ 0 → IfSome contents (λ b. n ≡ length b)
    → IfSome contents (λ b. b ≡ [])
empty contents n none lengths = if_some (λ b. n ≡ length b) (λ b. b ≡ []) contents
    (λ b is. nil_from_length b (sym is ∙ none)) lengths

some_body : (packed : FirstRecord) → 1 ≤ length (first_body packed)
some_body packed = let some = packed.some in let size = sized packed in omega arith

few_body : (packed : FirstRecord) → length (first_body packed) ≤ 131072
few_body packed = let few = packed.few in let size = sized packed in omega arith

pub invariant_of-result-clause-is_durable : goal.invariant_of-result-clause-is_durable
invariant_of-result-clause-is_durable g c = λ sound b contents.
    subst (λ (n : ℕ). IsDurable b (g.D.Disk.may_leave c.write_first.new.disk) (n + 22))
    (sized c.args.self)
    (started_durable g.D.Disk c.read_len.new.disk c.write_first.new.disk (first_body c.args.self)
    (take (c.args.self.size + 22) c.deref.result.now)
    (subst (λ (contents : Option (List ℕ)). IfSome contents (λ b. b ≡ []))
    (sym c.read_len.ensures.only_reads.contents)
    (empty (g.D.Disk.contents c.args.disk) c.in-Ok.length c.if-length-ne0.false
    c.in-Ok.ensures.length))
    (piece_is c.args.self c.deref.result.now c.deref.ensures.value) (some_body c.args.self)
    (few_body c.args.self)
    c.in-Ok-write_first.ensures.written c.in-Ok-write_first.ensures.durable b contents)

pub invariant_of-result-clause-stands : goal.invariant_of-result-clause-stands
invariant_of-result-clause-stands g c = λ b contents.
    (started_durable g.D.Disk c.read_len.new.disk c.write_first.new.disk (first_body c.args.self)
    (take (c.args.self.size + 22) c.deref.result.now)
    (subst (λ (contents : Option (List ℕ)). IfSome contents (λ b. b ≡ []))
    (sym c.read_len.ensures.only_reads.contents)
    (empty (g.D.Disk.contents c.args.disk) c.in-Ok.length c.if-length-ne0.false
    c.in-Ok.ensures.length))
    (piece_is c.args.self c.deref.result.now c.deref.ensures.value) (some_body c.args.self)
    (few_body c.args.self)
    c.in-Ok-write_first.ensures.written c.in-Ok-write_first.ensures.durable b contents).stands

pub returns-in-Ok-write_first-clause-ok : goal.returns-in-Ok-write_first-clause-ok
returns-in-Ok-write_first-clause-ok g c =
    let none = subst (λ (contents : Option (List ℕ)). IfSome contents (λ b. b ≡ []))
    (sym c.read_len.ensures.only_reads.contents)
    (empty (g.D.Disk.contents c.args.disk) c.in-Ok.length c.if-length-ne0.false
    c.in-Ok.ensures.length) in
    let size = sized c.args.self in
    record {
      empty = empty (g.D.Disk.contents c.args.disk) c.in-Ok.length c.if-length-ne0.false
          c.in-Ok.ensures.length;
      contents = c.write_first.ensures.contents ∙ ap is_some c.read_len.ensures.only_reads.contents;
      list = started_records g.D.Disk c.read_len.new.disk c.write_first.new.disk
          (first_body c.args.self)
          (take (c.args.self.size + 22) c.deref.result.now) none
          (piece_is c.args.self c.deref.result.now c.deref.ensures.value) (some_body c.args.self)
          (few_body c.args.self)
          c.in-Ok-write_first.ensures.written c.in-Ok-write_first.ensures.durable
          ∙ ap (option_map (λ _. first_body c.args.self ∷ []))
          c.read_len.ensures.only_reads.contents;
      sound = refl;
      end = omega arith;
      all = started_all g.D.Disk c.read_len.new.disk c.write_first.new.disk (first_body c.args.self)
          (take (c.args.self.size + 22) c.deref.result.now) none
          (piece_is c.args.self c.deref.result.now c.deref.ensures.value) (some_body c.args.self)
          (few_body c.args.self)
          c.in-Ok-write_first.ensures.written c.in-Ok-write_first.ensures.durable;
      fine = c.in-Ok-write_first.ensures.cause.fine ∙ c.in-Ok.ensures.cause.fine;
      written = started_written g.D.Disk c.read_len.new.disk c.write_first.new.disk
          (first_body c.args.self) (take (c.args.self.size + 22) c.deref.result.now) none
          (piece_is c.args.self c.deref.result.now c.deref.ensures.value) (some_body c.args.self)
          (few_body c.args.self)
          c.in-Ok-write_first.ensures.written c.in-Ok-write_first.ensures.durable
          ∙ ap (option_map (λ _. header ++ record_bytes (first_body c.args.self)))
          c.read_len.ensures.only_reads.contents;
    }
