-- What issuing answers, by what the log answers, and what writing answers after its tests.
use Rattle.std.proofs.Common.{◌≡◌, ℕ, Option, None, Result, Ok, Err, IfErr, ap, subst, sym}
use Rattle.std.proofs.Common.{◌∙◌}
use Rattle.std.specs.Result.{IsErrAnd}
use Rattle.std.proofs.lemmas.Result.{err_from_is_err_and}
use Rattle.byte_formats.specs.Types.{Text}
use Rattle.issuance_log.specs.Refusals.{ItemKeepsTo}
use Rattle.issuance_log.specs.declared.error.LogError.{LogError}
use Rattle.issuance_log.specs.declared.error.LogError.TheVariants.{Memory}
use Rattle.authority_core.specs.Certificates.{IsOfDisks, KeepsToLightRefusal, KeepsToRefusal}
use Rattle.authority_core.specs.Issues.{KeepsToOrMemory, of_log}
use Rattle.authority_core.specs.declared.issuing.error.IssueError.{IssueError}
use Rattle.authority_core.specs.declared.issuing.error.IssueError.TheVariants.{Log as OfLog}
use Rattle.authority_core.specs.declared.writing.error.WriteError.{WriteError}
use Rattle.authority_core.specs.declared.writing.error.WriteError.TheVariants as write_error

-- what holds of the log's refusal holds of the answer, where that is the refusal
pub of_refusal : (P : Result ℕ LogError → Type 0) (result : Result ℕ IssueError) (why : LogError)
    → IsErrAnd result (λ e. e ≡ OfLog why) → P (Err why) → P (of_log result)
of_refusal P result why is holds =
    let p = err_from_is_err_and result is in
    subst (λ (r : Result ℕ IssueError). P (of_log r)) (sym (p.1 ∙ ap Err p.2)) holds

pub or_memory : (wanted : Option LogError) (why : LogError) → ItemKeepsTo wanted (Err why)
    → KeepsToOrMemory wanted (Err why)
or_memory wanted Memory keeps = tt
or_memory wanted other keeps = keeps

-- after the tests a disk failed, or memory was refused
pub kept_after : (wanted : Option WriteError) (result : Result Text WriteError) → wanted ≡ None
    → IfErr result IsOfDisks → KeepsToRefusal wanted result
kept_after wanted (Ok bytes) none is = none
kept_after wanted (Err write_error.NoSuchEntry) none is = absurd is
kept_after wanted (Err write_error.NullEntry) none is = absurd is
kept_after wanted (Err write_error.BadSubtree) none is = absurd is
kept_after wanted (Err write_error.Outside) none is = absurd is
kept_after wanted (Err (write_error.Beyond size)) none is = absurd is
kept_after wanted (Err write_error.NotCovered) none is = absurd is
kept_after wanted (Err write_error.TooManySignatures) none is = absurd is
kept_after wanted (Err write_error.JournalFailed) none is = none
kept_after wanted (Err write_error.TilesFailed) none is = none
kept_after wanted (Err write_error.Memory) none is = none

pub lightly_after : (wanted : Option WriteError) (result : Result Text WriteError)
    → wanted ≡ None → IfErr result IsOfDisks → KeepsToLightRefusal wanted result
lightly_after wanted (Ok bytes) none is = none
lightly_after wanted (Err write_error.NoSuchEntry) none is = absurd is
lightly_after wanted (Err write_error.NullEntry) none is = absurd is
lightly_after wanted (Err write_error.BadSubtree) none is = absurd is
lightly_after wanted (Err write_error.Outside) none is = absurd is
lightly_after wanted (Err (write_error.Beyond size)) none is = absurd is
lightly_after wanted (Err write_error.NotCovered) none is = absurd is
lightly_after wanted (Err write_error.TooManySignatures) none is = absurd is
lightly_after wanted (Err write_error.JournalFailed) none is = none
lightly_after wanted (Err write_error.TilesFailed) none is = none
lightly_after wanted (Err write_error.Memory) none is = (λ one. cc, λ other. cc)

-- what the exit of a `?` returns, which only hands its refusal on
pub err_seen : {X E : Type 0} (P : E → Type 0) (result : Result X E) (why : E)
    → IsErrAnd result (λ e. e ≡ why) → P why → IfErr result P
err_seen P (Ok x) why is holds = tt
err_seen P (Err e) why is holds = subst P (sym is) holds
