-- The two writes of an append, and what a crash makes of each.
use Rattle.std.proofs.Common.{◌≡◌, ◌≢◌, inl, inr, ℕ, ◌+◌, ◌-◌, ◌<◌, ◌≤◌, min, List, [], ◌∷◌, ◌++◌}
use Rattle.std.proofs.Common.{length, take, drop, get_or, slice_index, refl, ap, sym, ◌∙◌, subst}
use Rattle.std.proofs.Common.{arith}
use Rattle.std.specs.Int.{w32, to_be_bytes}
use Rattle.std.proofs.lemmas.List.{take-take, drop-take, drop-drop, take_all, take_at, drop_at}
use Rattle.std.proofs.lemmas.List.{get_or-take, get_or-drop, get_or_at, append_assoc, length-append}
use Rattle.std.proofs.lemmas.List.{length-take, length-drop, take-append-le}
use Rattle.std.proofs.lemmas.Bool.{cases_eq}
use Rattle.disk_core.specs.Disk.{overwritten, part, Torn}
use Rattle.disk_core.specs.Writes.{torn_all}
use Rattle.disk_core.proofs.Torn.{torn_after, torn_before}
use Rattle.journal_core.specs.Format.{following, IsClosedAt, Represents, RepresentsEither, tail_of}
use Rattle.journal_core.specs.Format.{new_file_of}
use Rattle.journal_core.proofs.Records.{part_kept, byte_kept, records_kept, header_kept}
use Rattle.journal_core.proofs.Records.{stands_kept, after_later, following-append, records-append}

-- The write after the closed commit byte leaves the list as it was, however it is torn.
pub torn_following : (end : ℕ) (piece : List ℕ) (records : List (List ℕ)) (old new : List ℕ)
    → end ≡ following 16 records + 1 → Torn end piece old new
    → Represents old records → Represents new records
torn_following end piece records old new end_is torn is =
    let there = is.ends.there in
    let longer = torn.no_shorter in
    let whole : min end (length old) ≡ end = omega arith in
    let same : take end new ≡ take end old = rw whole at (torn_before end piece old new torn) in
    stands_kept end records old new same (omega arith) (omega arith) is

-- The list stands, and after its closed commit byte lie the length of a body, the body and a closed
-- commit byte.
pub record IsStaged (bytes : List ℕ) (records : List (List ℕ)) (body : List ℕ) : Type 0 where
  pub stands : Represents bytes records
  pub tail : part (following 16 records + 1) (5 + length body) bytes ≡ tail_of body

pub length-tail : (body : List ℕ) → length (tail_of body) ≡ 5 + length body
length-tail body = simp length-append (omega arith)

-- after the first write
pub staged : (end : ℕ) (records : List (List ℕ)) (body old new : List ℕ)
    → end ≡ following 16 records + 1 → Represents old records
    → new ≡ overwritten end (tail_of body) old → IsStaged new records body
staged end records body old new end_is is new_is =
    let there = is.ends.there in
    let prefix : length (take end old) ≡ end = simp length-take (omega arith) in
    let back = drop (end + length (tail_of body)) old in
    let after_prefix : drop end (overwritten end (tail_of body) old) ≡ tail_of body ++ back
    = rw (append_assoc (take end old) (tail_of body) back) (drop_at (take end old) (tail_of body
    ++ back) end prefix) in
    let found : part end (5 + length body) (overwritten end (tail_of body) old) ≡ tail_of body
    = rw after_prefix (take_at (tail_of body) back (5 + length body) (length-tail body)) in
    record {
      stands = subst (λ (bytes : List ℕ). Represents bytes records) (sym new_is)
          (torn_following end (tail_of body) records old _ end_is
          (torn_all end (tail_of body) old) is);
      tail = subst (λ (bytes : List ℕ). part (following 16 records + 1) (5 + length body) bytes
          ≡ tail_of body) (sym new_is)
          (subst (λ (n : ℕ). part n (5 + length body) (overwritten end (tail_of body) old)
          ≡ tail_of body) end_is found);
    }

-- what lies after a torn range, below the old end
part_after : (from place count : ℕ) (old new : List ℕ) → take (length old - from) (drop from new)
    ≡ drop from old
    → from ≤ place → place + count ≤ length old → part place count new ≡ part place count old
part_after from place count old new same past within =
    let split : place ≡ from + (place - from) = omega arith in
    let kept : take (length old - from) (drop from new) ≡ take (length old - from) (drop from old)
    = same ∙ sym (take_all (length old - from) (drop from old) (simp length-drop (omega arith))) in
    let shifted : (bytes : List ℕ) → part place count bytes
    ≡ part (place - from) count (drop from bytes)
    = λ bytes. ap (take count) (ap (λ (n : ℕ). drop n bytes) split
    ∙ sym (drop-drop (place - from) from bytes)) in
    shifted new ∙ part_kept (length old - from) (place - from) count (drop from old)
    (drop from new) kept (omega arith) ∙ sym (shifted old)

byte_after : (from place : ℕ) (old new : List ℕ) → take (length old - from) (drop from new)
    ≡ drop from old
    → from ≤ place → place < length old → slice_index new place ≡ slice_index old place
byte_after from place old new same past within =
    let kept : take (length old - from) (drop from new) ≡ take (length old - from) (drop from old)
    = same ∙ sym (take_all (length old - from) (drop from old) (simp length-drop (omega arith))) in
    let split : from + (place - from) ≡ place = omega arith in
    let shifted : (bytes : List ℕ) → slice_index bytes place
    ≡ slice_index (drop from bytes) (place - from)
    = λ bytes. sym (get_or-drop from bytes (place - from) 0
    ∙ ap (λ (n : ℕ). get_or bytes n 0) split) in
    shifted new ∙ byte_kept (length old - from) (place - from) (drop from old) (drop from new) kept
    (omega arith) ∙ sym (shifted old)

-- what is written over the closed commit byte and after it
pub opened_before : (commit_byte end : ℕ) (tail bytes : List ℕ) → end ≡ commit_byte + 1
    → end ≤ length bytes
    → overwritten commit_byte (1 ∷ []) (overwritten end tail bytes)
    ≡ overwritten commit_byte (1 ∷ tail) bytes
opened_before commit_byte end tail bytes end_is there =
    let back = drop (end + length tail) bytes in
    let prefix : length (take end bytes) ≡ end = simp length-take (omega arith) in
    let split : overwritten end tail bytes ≡ take end bytes ++ (tail ++ back)
    = append_assoc (take end bytes) tail back in
    let before : take commit_byte (overwritten end tail bytes) ≡ take commit_byte bytes
    = ap (take commit_byte) split
    ∙ take-append-le commit_byte (take end bytes) (tail ++ back) (omega arith)
    ∙ take-take commit_byte end bytes (omega arith) in
    let after_commit_byte : drop (commit_byte + 1) (overwritten end tail bytes) ≡ tail ++ back
    = ap (drop (commit_byte + 1)) split
    ∙ drop_at (take end bytes) (tail ++ back) (commit_byte + 1) (omega arith) in
    let whole : end + length tail ≡ commit_byte + length (1 ∷ tail) = omega arith in
    ap (λ (f : List ℕ). f ++ 1 ∷ [] ++ drop (commit_byte + 1) (overwritten end tail bytes)) before
    ∙ ap (λ (r : List ℕ). take commit_byte bytes ++ 1 ∷ [] ++ r) after_commit_byte
    ∙ append_assoc (take commit_byte bytes) (1 ∷ []) (tail ++ back)
    ∙ sym (append_assoc (take commit_byte bytes) (1 ∷ tail) back)
    ∙ ap (λ (n : ℕ). take commit_byte bytes ++ (1 ∷ tail) ++ drop n bytes) whole

module _ (bytes : List ℕ) (records : List (List ℕ)) (body : List ℕ)
    (is : IsStaged bytes records body) where
  -- what the staged record holds
  staged_length : following 16 records + (5 + length body) < length bytes
  staged_length =
      let found : length (part (following 16 records + 1) (5 + length body) bytes)
      ≡ 5 + length body =
      ap length is.tail ∙ length-tail body in
      let there : length (part (following 16 records + 1) (5 + length body) bytes)
      ≤ length bytes - (following 16 records + 1)
      = simp (length-take, length-drop) (omega arith) in
      omega arith

  staged_size : part (following 16 records + 1) 4 bytes ≡ to_be_bytes w32 (length body)
  staged_size =
      sym (take-take 4 (5 + length body) (drop (following 16 records + 1) bytes) (omega arith))
      ∙ ap (take 4) is.tail
      ∙ ap (take 4) (append_assoc (to_be_bytes w32 (length body)) body (0 ∷ []))
      ∙ take_at (to_be_bytes w32 (length body)) (body ++ 0 ∷ []) 4 refl

  pub staged_body : part (following 16 records + 5) (length body) bytes ≡ body
  staged_body =
      let after_commit_byte = drop (following 16 records + 1) bytes in
      let split : following 16 records + 5 ≡ (following 16 records + 1) + 4 = omega arith in
      let size_and_body : length (to_be_bytes w32 (length body) ++ body) ≡ 4 + length body =
      length-append (to_be_bytes w32 (length body)) body in
      ap (λ (n : ℕ). take (length body) (drop n bytes)) split
      ∙ ap (take (length body)) (sym (drop-drop 4 (following 16 records + 1) bytes))
      ∙ sym (drop-take 4 (length body) after_commit_byte)
      ∙ ap (drop 4)
      (sym (take-take (4 + length body) (5 + length body) after_commit_byte (omega arith))
      ∙ ap (take (4 + length body)) is.tail
      ∙ take_at (to_be_bytes w32 (length body) ++ body) (0 ∷ []) (4 + length body) size_and_body)
      ∙ drop_at (to_be_bytes w32 (length body)) body 4 refl

  staged_end : slice_index bytes (following 16 records + 5 + length body) ≡ 0
  staged_end =
      let after_commit_byte = drop (following 16 records + 1) bytes in
      let split : following 16 records + 5 + length body
      ≡ (following 16 records + 1) + (4 + length body) = omega arith in
      let size_and_body : length (to_be_bytes w32 (length body) ++ body) ≡ 4 + length body =
      length-append (to_be_bytes w32 (length body)) body in
      ap (λ (n : ℕ). get_or bytes n 0) split
      ∙ sym (get_or-drop (following 16 records + 1) bytes (4 + length body) 0)
      ∙ sym (get_or-take (5 + length body) after_commit_byte (4 + length body) 0 (omega arith))
      ∙ ap (λ (t : List ℕ). get_or t (4 + length body) 0) is.tail
      ∙ get_or_at (to_be_bytes w32 (length body) ++ body) 0 [] 0 (4 + length body) size_and_body

  module _ (new : List ℕ) (torn : Torn (following 16 records) (1 ∷ []) bytes new) where
    prefix_same : take (following 16 records) new ≡ take (following 16 records) bytes
    prefix_same =
        let there = is.stands.ends.there in
        let whole : min (following 16 records) (length bytes) ≡ following 16 records =
        omega arith in
        rw whole at (torn_before (following 16 records) (1 ∷ []) bytes new torn)

    -- the commit byte is still closed
    pub commit_byte_shut : slice_index new (following 16 records) ≡ 0 → Represents new records
    commit_byte_shut shut = record {
      begins = header_kept (following 16 records) bytes new prefix_same (after_later 16 records)
          is.stands.begins;
      holds = records_kept (following 16 records) 16 records bytes new prefix_same
          (omega arith) is.stands.holds;
      ends = record {
        there = (let there = is.stands.ends.there in let longer =
            torn.no_shorter in omega arith);
        shut = shut;
      };
    }

    -- the commit byte is open
    pub commit_byte_open : 1 ≤ length body → length body ≤ 131072
        → slice_index new (following 16 records) ≢ 0
        → Represents new (records ++ body ∷ [])
    commit_byte_open some few opened =
        let commit_byte = following 16 records in
        let there : commit_byte + (5 + length body) < length bytes = staged_length in
        let longer = torn.no_shorter in
        let after : take (length bytes - (commit_byte + 1)) (drop (commit_byte + 1) new)
        ≡ drop (commit_byte + 1) bytes
        = torn_after commit_byte (1 ∷ []) bytes new torn in
        record {
          begins = header_kept commit_byte bytes new prefix_same (after_later 16 records)
              is.stands.begins;
          holds = records-append new 16 records body
              (records_kept commit_byte 16 records bytes new prefix_same (omega arith)
              is.stands.holds)
              (record {
                some = some;
                few = few;
                open_commit_byte = opened;
                size =
                    part_after (commit_byte + 1) (commit_byte + 1) 4 bytes new after (omega arith)
                    (omega arith) ∙ staged_size;
                body_is =
                    part_after (commit_byte + 1) (commit_byte + 5) (length body) bytes new after
                    (omega arith) (omega arith) ∙ staged_body;
              });
          ends =
              subst (λ (place : ℕ). IsClosedAt new place) (sym (following-append 16 records body))
              (record {
                there = omega arith;
                shut = byte_after (commit_byte + 1) (commit_byte + 5 + length body) bytes new after
                    (omega arith) (omega arith) ∙ staged_end;
              });
        }

    -- however the write of the commit byte is torn
    pub torn_commit_byte : 1 ≤ length body → length body ≤ 131072
        → RepresentsEither records body new
    torn_commit_byte some few = elim (cases_eq (slice_index new (following 16 records)) 0) [
      | inl shut ↦ inl (commit_byte_shut shut)
      | inr opened ↦ inr (commit_byte_open some few opened)
    ]

  -- after the second write
  pub opened : (new : List ℕ) → 1 ≤ length body → length body ≤ 131072
      → new ≡ overwritten (following 16 records) (1 ∷ []) bytes
      → Represents new (records ++ body ∷ [])
  opened new some few new_is =
      let commit_byte = following 16 records in
      let there = is.stands.ends.there in
      let prefix : length (take commit_byte bytes) ≡ commit_byte = simp length-take (omega arith) in
      let one : slice_index (overwritten commit_byte (1 ∷ []) bytes) commit_byte ≡ 1
      = rw (append_assoc (take commit_byte bytes) (1 ∷ []) (drop (commit_byte + 1) bytes))
      (get_or_at (take commit_byte bytes) 1 (drop (commit_byte + 1) bytes) 0 commit_byte prefix) in
      subst (λ (c : List ℕ). Represents c (records ++ body ∷ [])) (sym new_is)
      (commit_byte_open (overwritten commit_byte (1 ∷ []) bytes)
      (torn_all commit_byte (1 ∷ []) bytes) some few
      (λ (shut : _ ≡ 0). let wrong : 1 ≡ 0 = sym one ∙ shut in cc))

-- A new file, after its first write.
pub first_staged : (body : List ℕ) → IsStaged (new_file_of body) [] body
first_staged body = record {
  stands = record {
    begins = refl;
    holds = tt;
    ends = record { there = omega arith; shut = refl };
  };
  tail = take_all (5 + length body) (tail_of body) (omega (arith, length-tail body));
}

-- the body lies in the first bytes of a buffer that begins with a new file
pub packed_body : (body buffer : List ℕ) → take (22 + length body) buffer ≡ new_file_of body
    → part 21 (length body) buffer ≡ body
packed_body body buffer is =
    let whole : length (new_file_of body) ≡ 22 + length body = simp length-append (omega arith) in
    let same : take (22 + length body) buffer ≡ take (22 + length body) (new_file_of body)
    = is ∙ sym (take_all (22 + length body) (new_file_of body) (omega arith)) in
    part_kept (22 + length body) 21 (length body) (new_file_of body) buffer same (omega arith)
    ∙ staged_body (new_file_of body) [] body (first_staged body)
