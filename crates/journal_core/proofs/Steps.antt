-- The two writes of an append as steps of a disk: what its crash states represent, at each time and
-- afterwards.
use Rattle.std.proofs.Common.{◌≡◌, inl, inr, ℕ, ◌+◌, ◌-◌, ◌≤◌, List, [], ◌∷◌, ◌++◌, length, Option}
use Rattle.std.proofs.Common.{Some, None, IfSome, option_map, is_some, true, false, refl, ap, sym}
use Rattle.std.proofs.Common.{◌∙◌, subst, arith}
use Rattle.disk_core.specs.Disk.{overwritten, part, Torn, Only}
use Rattle.disk_core.specs.Times.{LeavesOnly}
use Rattle.disk_core.specs.declared.disk.Disk.{Ghosts}
use Rattle.disk_core.proofs.Times.{joined, weaker, left_now}
use Rattle.journal_core.specs.Format.{AreRecordsAt, following, Represents, RepresentsEither}
use Rattle.journal_core.specs.Format.{tail_of}
use Rattle.journal_core.specs.Format.{records_of, record_bytes}
use Rattle.journal_core.specs.Durable.{IsDurable}
use Rattle.journal_core.specs.Words.{AllRepresent, HoldsBody, HoldsLength}
use Rattle.journal_core.proofs.Records.{records_of-stands, following-append, body_there}
use Rattle.journal_core.proofs.Records.{length_there}
use Rattle.journal_core.proofs.Records.{part_there}
use Rattle.journal_core.proofs.Modelled.{if_modelled, at_contents, contents_before, of_records}
use Rattle.journal_core.proofs.Append.{IsStaged, staged, torn_following, torn_commit_byte, opened}
use Rattle.journal_core.proofs.Append.{opened_before}

module _ {D : Type 0} (g : Ghosts D) (old mid new : D) (bytes : List ℕ) (body : List ℕ)
    (end : ℕ) where
  -- the first write, at any time
  pub first_step : (records : List (List ℕ)) → Only bytes (g.may_leave old)
      → Represents bytes records → end ≡ following 16 records + 1 → (piece : List ℕ)
      → LeavesOnly g old mid (λ c. (d : List ℕ) × g.may_leave old d × Torn end piece d c)
      → LeavesOnly g old mid (RepresentsEither records body)
  first_step records only is end_is piece run =
      weaker g old mid _ _ (λ c (
        d,
        was,
        torn,
      ). inl (torn_following end piece records d c end_is torn
      (subst (λ (b : List ℕ). Represents b records) (sym (only d was)) is))) run

  -- the second write, at any time
  pub second_step : (records : List (List ℕ)) (staged_bytes : List ℕ)
      → Only staged_bytes (g.may_leave mid) → IsStaged staged_bytes records body
      → 1 ≤ length body → length body ≤ 131072 → end ≡ following 16 records + 1
      → LeavesOnly g mid new
      (λ c. (d : List ℕ) × g.may_leave mid d × Torn (end - 1) (1 ∷ []) d c)
      → LeavesOnly g mid new (RepresentsEither records body)
  second_step records staged_bytes only is some few end_is run =
      let commit_byte : end - 1 ≡ following 16 records = omega arith in
      weaker g mid new _ _ (λ c (d, was, torn). torn_commit_byte d records body
      (subst (λ (b : List ℕ). IsStaged b records body) (sym (only d was)) is) c
      (subst (λ (n : ℕ). Torn n (1 ∷ []) d c) commit_byte torn) some few) run

-- An append whose two writes are done.
module _ {D : Type 0} (g : Ghosts D) (old mid new : D) (body piece : List ℕ) (end : ℕ)
    (is_durable : (b : List ℕ) → g.contents old ≡ Some b → IsDurable b (g.may_leave old) end)
    (piece_is : piece ≡ tail_of body) (some : 1 ≤ length body) (few : length body ≤ 131072)
    (first : g.contents mid ≡ option_map (overwritten end piece) (g.contents old))
    (second : g.contents new ≡ option_map (overwritten (end - 1) (1 ∷ [])) (g.contents mid))
    (durable : IfSome (g.contents new) (λ b. Only b (g.may_leave new))) where
  -- the bytes represent the records from before, and the new one
  pub done_stands : (b : List ℕ) → g.contents new ≡ Some b
      → (was : List ℕ) × (g.contents old ≡ Some was) × (end ≡ following 16 (records_of was) + 1)
      × Represents b (records_of was ++ body ∷ [])
  done_stands b contents =
      let (staged_bytes, contents_mid, b_is) =
      contents_before (g.contents mid) (g.contents new) (overwritten (end - 1) (1 ∷ [])) b second
      contents in
      let (was, contents_old, staged_is) =
      contents_before (g.contents old) (g.contents mid) (overwritten end piece)
      staged_bytes first contents_mid in
      let was_durable = is_durable was contents_old in
      let commit_byte : end - 1 ≡ following 16 (records_of was) = let at =
      was_durable.end_is in omega arith in
      let is_staged : IsStaged staged_bytes (records_of was) body
      = staged end (records_of was) body was staged_bytes was_durable.end_is was_durable.stands
      (staged_is ∙ ap (λ (p : List ℕ). overwritten end p was) piece_is) in (
        was,
        contents_old,
        was_durable.end_is,
        opened staged_bytes (records_of was) body is_staged b some few
            (b_is ∙ ap (λ (n : ℕ). overwritten n (1 ∷ []) staged_bytes) commit_byte),
      )

  pub done_durable : (b : List ℕ) → g.contents new ≡ Some b
      → IsDurable b (g.may_leave new) (end + (length body + 5))
  done_durable b contents =
      let (was, contents_old, end_is, stands) = done_stands b contents in
      let same : records_of b ≡ records_of was ++ body ∷ [] = records_of-stands b _ stands in
      record {
        stands = subst (λ (list : List (List ℕ)). Represents b list) (sym same) stands;
        end_is = subst (λ (list : List (List ℕ)). end + (length body + 5)
            ≡ following 16 list + 1) (sym same)
            (let place = following-append 16 (records_of was) body in omega arith);
        only = at_contents (λ (bytes : List ℕ). Only bytes (g.may_leave new))
            (g.contents new) b contents durable;
      }

  pub done_all : IfSome (g.contents new) (λ b. AllRepresent g new (records_of b))
  done_all = if_modelled (λ (b : List ℕ). AllRepresent g new (records_of b)) (g.contents new)
      (λ b contents. let is = done_durable b contents in
      λ c left. subst (λ (bytes : List ℕ). Represents bytes (records_of b))
      (sym (is.only c left)) is.stands)

  pub done_records : option_map records_of (g.contents new) ≡ option_map (λ list. list ++ body ∷ [])
      (option_map records_of (g.contents old))
  done_records = go (g.contents old) refl
    where
      go : (was : Option (List ℕ)) → g.contents old ≡ was
          → option_map records_of (g.contents new) ≡ option_map (λ list. list ++ body ∷ [])
          (option_map records_of (g.contents old))
      go None is =
          let none : g.contents new ≡ None = second
          ∙ ap (option_map (overwritten (end - 1) (1 ∷ []))) (first
          ∙ ap (option_map (overwritten end piece)) is) in
          rw (none, is) refl
      go (Some bytes) is =
          let now : List ℕ = overwritten (end - 1) (1 ∷ []) (overwritten end piece bytes) in
          let contents : g.contents new ≡ Some now = second
          ∙ ap (option_map (overwritten (end - 1) (1 ∷ []))) (first
          ∙ ap (option_map (overwritten end piece)) is) in
          let (was, contents_old, end_is, stands) = done_stands now contents in
          let same : was ≡ bytes =
          (let both : Some was ≡ Some bytes = sym contents_old ∙ is in cc) in
          rw (contents, is) (ap Some (records_of-stands now _ stands
          ∙ ap (λ (b : List ℕ). records_of b ++ body ∷ []) same))

  pub done_written : g.contents new
      ≡ option_map (overwritten (end - 1) (record_bytes body)) (g.contents old)
  done_written = go (g.contents old) refl
    where
      both : (was : Option (List ℕ)) → g.contents old ≡ was → g.contents new
          ≡ option_map (overwritten (end - 1) (1 ∷ [])) (option_map (overwritten end piece) was)
      both was is = second ∙ ap (option_map (overwritten (end - 1) (1 ∷ []))) (first
          ∙ ap (option_map (overwritten end piece)) is)

      go : (was : Option (List ℕ)) → g.contents old ≡ was
          → g.contents new ≡ option_map (overwritten (end - 1) (record_bytes body)) was
      go None is = both None is
      go (Some b) is =
          let was = is_durable b is in
          let there = was.stands.ends.there in
          let end_is = was.end_is in
          both (Some b) is
          ∙ ap (λ (p : List ℕ). Some (overwritten (end - 1) (1 ∷ []) (overwritten end p b)))
          piece_is
          ∙ ap Some (opened_before (end - 1) end (tail_of body) b (omega arith) (omega arith))

-- An append at any time.
module _ {D : Type 0} (g : Ghosts D) (old mid new : D) (body piece : List ℕ) (end : ℕ)
    (is_durable : (b : List ℕ) → g.contents old ≡ Some b → IsDurable b (g.may_leave old) end)
    (piece_is : piece ≡ tail_of body) (some : 1 ≤ length body) (few : length body ≤ 131072) where
  -- in the first write
  pub one_step : LeavesOnly g old mid (λ c. (d : List ℕ) × g.may_leave old d × Torn end piece d c)
      → IfSome (option_map records_of (g.contents old))
      (λ list. LeavesOnly g old mid (RepresentsEither list body))
  one_step run = of_records (λ list. LeavesOnly g old mid (RepresentsEither list body))
      (g.contents old) (λ b contents.
      let was = is_durable b contents in
      first_step g old mid new b body end (records_of b) was.only was.stands was.end_is piece run)

  -- in the second write
  pub both_steps : LeavesOnly g old mid
      (λ c. (d : List ℕ) × g.may_leave old d × Torn end piece d c)
      → g.contents mid ≡ option_map (overwritten end piece) (g.contents old)
      → IfSome (g.contents mid) (λ b. Only b (g.may_leave mid))
      → LeavesOnly g mid new
      (λ c. (d : List ℕ) × g.may_leave mid d × Torn (end - 1) (1 ∷ []) d c)
      → IfSome (option_map records_of (g.contents old))
      (λ list. LeavesOnly g old new (RepresentsEither list body))
  both_steps run written durable run_on =
      of_records (λ list. LeavesOnly g old new (RepresentsEither list body)) (g.contents old)
      (λ b contents.
      let was = is_durable b contents in
      let now : List ℕ = overwritten end piece b in
      let contents_mid : g.contents mid ≡ Some now = written
      ∙ ap (option_map (overwritten end piece)) contents in
      let only : Only now (g.may_leave mid) =
      at_contents (λ (bytes : List ℕ). Only bytes (g.may_leave mid))
      (g.contents mid) now contents_mid durable in
      let is_staged : IsStaged now (records_of b) body
      = staged end (records_of b) body b now was.end_is was.stands
      (ap (λ (p : List ℕ). overwritten end p b) piece_is) in
      joined g old mid new _ (first_step g old mid new b body end (records_of b) was.only was.stands
      was.end_is piece run)
      (second_step g old mid new b body end (records_of b) now only is_staged some few
      was.end_is run_on))

-- What is read over the range of a body, of a part of one, or of its length.
module _ {D : Type 0} (g : Ghosts D) (old : D) (place : ℕ) (read : List ℕ)
    (stands : (b : List ℕ) → g.contents old ≡ Some b → Represents b (records_of b))
    (is : IfSome (g.contents old) (λ b. read ≡ part place (length read) b)) where
  found : (b : List ℕ) → g.contents old ≡ Some b → read ≡ part place (length read) b
  found b contents = at_contents (λ (bytes : List ℕ). read ≡ part place (length read) bytes)
      (g.contents old) b contents is

  are : (b : List ℕ) (list : List (List ℕ)) → g.contents old ≡ Some b → records_of b ≡ list
      → AreRecordsAt b 16 list
  are b list contents list_is = subst (λ (list : List (List ℕ)). AreRecordsAt b 16 list) list_is
      (stands b contents).holds

  pub read_body : IfSome (option_map records_of (g.contents old)) (HoldsBody place read)
  read_body = of_records (HoldsBody place read) (g.contents old)
      (λ b contents prefix body back from list_is offset_is within.
      let whole : place ≡ following 16 prefix + 5 + from = omega arith in
      found b contents ∙ ap (λ (n : ℕ). part n (length read) b) whole
      ∙ part_there b (following 16 prefix + 5) from (length read) body
      (body_there b 16 prefix body back
      (are b _ contents list_is)) within)

  pub read_length : IfSome (option_map records_of (g.contents old)) (HoldsLength place read)
  read_length = of_records (HoldsLength place read) (g.contents old)
      (λ b contents prefix body back list_is offset_is four.
      found b contents ∙ ap (λ (n : ℕ). part place n b) four ∙ ap (λ (n : ℕ). part n 4 b) offset_is
      ∙ length_there b 16 prefix body back (are b _ contents list_is))

-- After writes at each time of which a crash leaves the old records, or these and one more, the
-- bytes still represent their records.
module _ {D : Type 0} (g : Ghosts D) (old new : D) (body : List ℕ)
    (contents_kept : is_some (g.contents new) ≡ is_some (g.contents old))
    (reads_crash_state : (b : List ℕ) → g.contents new ≡ Some b → g.may_leave new b)
    (counts_now : (t : ℕ) (c : List ℕ) → t ≤ g.clock_at new → g.may_leave new c
    → g.left_since new t c)
    (run : IfSome (option_map records_of (g.contents old))
    (λ list. LeavesOnly g old new (RepresentsEither list body))) where
  pub still_stands : (b : List ℕ) → g.contents new ≡ Some b → Represents b (records_of b)
  still_stands b contents = go (g.contents old) refl
    where
      by_list : (list : List (List ℕ)) → Represents b list → Represents b (records_of b)
      by_list list stands = subst (λ (l : List (List ℕ)). Represents b l)
          (sym (records_of-stands b list stands)) stands

      go : (was : Option (List ℕ)) → g.contents old ≡ was → Represents b (records_of b)
      go None is =
          let wrong : true ≡ false = ap is_some (sym contents) ∙ contents_kept ∙ ap is_some is in cc
      go (Some bytes) is =
          let leaves : LeavesOnly g old new (RepresentsEither (records_of bytes) body)
          = at_contents
          (λ (list : List (List ℕ)). LeavesOnly g old new (RepresentsEither list body))
          (option_map records_of (g.contents old)) (records_of bytes)
          (ap (option_map records_of) is) run in
          elim (left_now g old new _ counts_now leaves b (reads_crash_state b contents)) [
            | inl stands ↦ by_list (records_of bytes) stands
            | inr stands ↦ by_list (records_of bytes ++ body ∷ []) stands
          ]
