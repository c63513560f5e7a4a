-- The records before an end, in the bytes of a journal.
use Rattle.std.proofs.Common.{◌≡◌, ℕ, ◌+◌, ◌-◌, ◌<◌, List, [], ◌∷◌, ◌++◌, length, inl, inr}
use Rattle.std.proofs.Common.{sym, subst, arith}
use Rattle.byte_formats.specs.Types.{Text}
use Rattle.journal_core.specs.Ends.{AreDurable, durable_of}
use Rattle.journal_core.specs.Format.{AreRecordsAt, RepresentsEither, following, end_offset}
use Rattle.journal_core.specs.Format.{records_of}
use Rattle.journal_core.specs.Durable.{IsDurable}
use Rattle.journal_core.proofs.Records.{following-append, records_before-are}

-- the records up to an end, and a commit byte after them
pub record HoldsUpTo (bytes : Text) (list : List Text) (end : ℕ) : Type 0 where
  pub there : AreRecordsAt bytes 16 list
  pub last : end ≡ end_offset list
  pub within : following 16 list < length bytes

pub is_durable-are : (bytes : Text) (list : List Text) (end : ℕ) → HoldsUpTo bytes list end
    → durable_of end bytes ≡ list
is_durable-are bytes list end is =
    records_before-are bytes list (end - 1) is.there (omega (arith, is.last))
    (omega (arith, is.last, is.within))

pub are_durable : (bytes : Text) (list : List Text) (end : ℕ) → HoldsUpTo bytes list end
    → AreDurable end bytes
are_durable bytes list end is =
    let same = sym (is_durable-are bytes list end is) in record {
      there = subst (AreRecordsAt bytes 16) same is.there;
      last = subst (λ (l : List Text). end ≡ end_offset l) same is.last;
    }

pub of_durable : (bytes : Text) (crash_states : Text → Type 0) (end : ℕ)
    → IsDurable bytes crash_states end
    → HoldsUpTo bytes (records_of bytes) end
of_durable bytes crash_states end is = record {
  there = is.stands.holds;
  last = is.end_is;
  within = is.stands.ends.there;
}

prefix_there : (bytes : Text) (place : ℕ) (list : List Text) (body : Text)
    → AreRecordsAt bytes place (list ++ body ∷ []) → AreRecordsAt bytes place list
prefix_there bytes place [] body are = tt
prefix_there bytes place (first ∷ list) body are =
    (are.0, prefix_there bytes (place + 5 + length first) list body are.1)

pub of_either : (bytes : Text) (list : List Text) (body : Text) (end : ℕ) → end ≡ end_offset list
    → RepresentsEither list body bytes → HoldsUpTo bytes list end
of_either bytes list body end last (inl stands) =
    record { there = stands.holds; last = last; within = stands.ends.there }
of_either bytes list body end last (inr stands) = record {
  there = prefix_there bytes 16 list body stands.holds;
  last = last;
  within = omega (arith, following-append 16 list body, stands.ends.there);
}
