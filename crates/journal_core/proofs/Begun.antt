-- A disk on which a journal begins.
use Rattle.std.proofs.Common.{◌≡◌, ℕ, ◌+◌, ◌≤◌, List, [], ◌∷◌, ◌++◌, length, Option, Some, None}
use Rattle.std.proofs.Common.{IfSome, option_map, refl, ap, sym, ◌∙◌, subst, arith}
use Rattle.std.proofs.lemmas.List.{append-nil, drop_all}
use Rattle.disk_core.specs.Disk.{overwritten, Only}
use Rattle.disk_core.specs.declared.disk.Disk.{Ghosts}
use Rattle.journal_core.specs.Format.{header, following, Represents, record_bytes, new_file_of}
use Rattle.journal_core.specs.Format.{records_of}
use Rattle.journal_core.specs.Durable.{IsDurable}
use Rattle.journal_core.specs.Words.{AllRepresent}
use Rattle.journal_core.proofs.Records.{records_of-stands}
use Rattle.journal_core.proofs.Append.{first_staged, opened}
use Rattle.journal_core.proofs.Modelled.{at_contents, contents_before, of_records}

-- the bytes of a new file of one record
pub first_stands : (first b : List ℕ) → 1 ≤ length first → length first ≤ 131072
    → b ≡ overwritten 16 (1 ∷ []) (overwritten 0 (new_file_of first) []) → Represents b (first ∷ [])
first_stands first b some few is =
    let whole : overwritten 0 (new_file_of first) [] ≡ new_file_of first
    = ap (λ (rest : List ℕ). new_file_of first ++ rest)
    (drop_all (0 + length (new_file_of first)) [] (omega arith))
    ∙ append-nil (new_file_of first) in
    opened (new_file_of first) [] first (first_staged first) b some few (is
    ∙ ap (overwritten 16 (1 ∷ [])) whole)

-- they are the header and the record
first_written : (first : List ℕ) → overwritten 16 (1 ∷ []) (overwritten 0 (new_file_of first) [])
    ≡ header ++ record_bytes first
first_written first =
    ap (λ (rest : List ℕ). overwritten 16 (1 ∷ []) (new_file_of first ++ rest))
    (drop_all (0 + length (new_file_of first)) [] (omega arith))
    ∙ ap (overwritten 16 (1 ∷ [])) (append-nil (new_file_of first))

module _ {D : Type 0} (g : Ghosts D) (old new : D) (first piece : List ℕ)
    (empty : IfSome (g.contents old) (λ b. b ≡ []))
    (piece_is : piece ≡ new_file_of first) (some : 1 ≤ length first) (few : length first ≤ 131072)
    (written : g.contents new ≡ option_map (λ b. overwritten 16 (1 ∷ []) (overwritten 0 piece b))
    (g.contents old))
    (durable : IfSome (g.contents new) (λ b. Only b (g.may_leave new))) where
  started_stands : (b : List ℕ) → g.contents new ≡ Some b → Represents b (first ∷ [])
  started_stands b contents =
      let (was, contents_old, b_is) = contents_before (g.contents old) (g.contents new)
      (λ (b : List ℕ). overwritten 16 (1 ∷ []) (overwritten 0 piece b)) b written contents in
      let none : was ≡ [] =
      at_contents (λ (b : List ℕ). b ≡ []) (g.contents old) was contents_old empty in
      first_stands first b some few (b_is
      ∙ ap (λ (b : List ℕ). overwritten 16 (1 ∷ []) (overwritten 0 piece b)) none
      ∙ ap (λ (p : List ℕ). overwritten 16 (1 ∷ []) (overwritten 0 p [])) piece_is)

  pub started_durable : (b : List ℕ) → g.contents new ≡ Some b
      → IsDurable b (g.may_leave new) (length first + 22)
  started_durable b contents =
      let stands = started_stands b contents in
      let same : records_of b ≡ first ∷ [] = records_of-stands b _ stands in
      record {
        stands = subst (λ (list : List (List ℕ)). Represents b list) (sym same) stands;
        end_is =
            subst (λ (list : List (List ℕ)). length first + 22 ≡ following 16 list + 1) (sym same)
            (omega arith);
        only = at_contents (λ (bytes : List ℕ). Only bytes (g.may_leave new))
            (g.contents new) b contents durable;
      }

  pub started_written : g.contents new
      ≡ option_map (λ _. header ++ record_bytes first) (g.contents old)
  started_written = go (g.contents old) refl
    where
      go : (was : Option (List ℕ)) → g.contents old ≡ was
          → g.contents new ≡ option_map (λ _. header ++ record_bytes first) was
      go None is = written
          ∙ ap (option_map (λ (b : List ℕ). overwritten 16 (1 ∷ []) (overwritten 0 piece b))) is
      go (Some b) is =
          let none : b ≡ [] = at_contents (λ (b : List ℕ). b ≡ []) (g.contents old) b is empty in
          written
          ∙ ap (option_map (λ (b : List ℕ). overwritten 16 (1 ∷ []) (overwritten 0 piece b))) is
          ∙ ap (λ (b : List ℕ). Some (overwritten 16 (1 ∷ []) (overwritten 0 piece b))) none
          ∙ ap (λ (p : List ℕ). Some (overwritten 16 (1 ∷ []) (overwritten 0 p []))) piece_is
          ∙ ap Some (first_written first)

  pub started_all : IfSome (option_map records_of (g.contents new)) (AllRepresent g new)
  started_all = of_records (AllRepresent g new) (g.contents new) (λ b contents. let is =
      started_durable b contents in
      λ c left. subst (λ (bytes : List ℕ). Represents bytes (records_of b))
      (sym (is.only c left)) is.stands)

  pub started_records : option_map records_of (g.contents new)
      ≡ option_map (λ _. first ∷ []) (g.contents old)
  started_records = go (g.contents old) refl
    where
      go : (was : Option (List ℕ)) → g.contents old ≡ was
          → option_map records_of (g.contents new) ≡ option_map (λ _. first ∷ []) (g.contents old)
      go None is =
          let none : g.contents new ≡ None = written
          ∙ ap (option_map (λ (b : List ℕ). overwritten 16 (1 ∷ []) (overwritten 0 piece b)))
          is in
          rw (none, is) refl
      go (Some bytes) is =
          let now : List ℕ = overwritten 16 (1 ∷ []) (overwritten 0 piece bytes) in
          let contents : g.contents new ≡ Some now = written
          ∙ ap (option_map (λ (b : List ℕ). overwritten 16 (1 ∷ []) (overwritten 0 piece b)))
          is in
          rw (contents, is) (ap Some (records_of-stands now _ (started_stands now contents)))
