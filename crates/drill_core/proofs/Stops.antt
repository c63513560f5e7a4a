-- What a stop within a call of a log leaves.
use Rattle.std.proofs.Common.{◌≡◌, ◌≤◌, inl, inr, List, [], ◌∷◌, ◌++◌, Ok, arith}
use Rattle.std.proofs.lemmas.List.{length-append}
use Rattle.byte_formats.specs.Types.{Text, HashFunction}
use Rattle.journal_core.specs.Format.{Represents}
use Rattle.issuance_log.specs.Folds.{LogState, log_of, view_in}
use Rattle.drill_core.specs.Calls.{count_in, log_called, record_of}
use Rattle.drill_core.specs.Parties.{IsEither, IsLeft}
use Rattle.drill_core.specs.declared.calls.LogCall.{LogCall}
use Rattle.drill_core.specs.declared.calls.LogCall.TheVariants.{Issue, Mark}

-- the log that is opened again is one of the two
pub reopened : (h : HashFunction) (call : LogCall) (s t : LogState) (crash_states : Text → Type 0)
    (bytes : Text) → IsLeft h call s crash_states → crash_states bytes
    → ((list : List Text) (u : LogState) → Represents bytes list → log_of h list ≡ Ok u → t ≡ u)
    → IsEither h call s t
reopened h call s t crash_states bytes left crash_state opened =
    elim (left.either bytes crash_state) [
      | inl stands ↦ inl (opened left.list s stands left.old)
      | inr stands ↦ inr (opened (left.list ++ record_of h (view_in s) call ∷ [])
          (log_called h s call) stands left.new)
    ]

-- a log with no more records of the call's kind is that from before
pub not_recovered : (h : HashFunction) (call : LogCall) (s t : LogState) → IsEither h call s t
    → count_in t call ≤ count_in s call → t ≡ s
not_recovered h call s t (inl same) few = same
not_recovered h (Issue request) s t (inr grown) few = grind (arith, length-append)
not_recovered h Mark s t (inr grown) few = grind (arith, length-append)
