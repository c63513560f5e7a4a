-- A call of a cosigner whose device failed was not refused.
use Rattle.std.proofs.Common.{◌≡◌, ◌∙◌, Option, None, Err, ap, subst}
use Rattle.journal_core.specs.declared.error.AppendError.{AppendError}
use Rattle.journal_core.specs.declared.error.AppendError.TheVariants as append_error
use Rattle.cosigner_core.specs.Refusals.{CosignKeepsTo}
use Rattle.cosigner_core.specs.declared.error.CosignError.{CosignError}
use Rattle.cosigner_core.specs.declared.error.CosignError.TheVariants.{Append}

pub failed_none : (wanted : Option CosignError) (e : CosignError) (a : AppendError)
    → e ≡ Append a → a ≡ append_error.Failed → CosignKeepsTo wanted (Err e) → wanted ≡ None
failed_none wanted e a outer inner keeps =
    subst (λ (x : CosignError). CosignKeepsTo wanted (Err x)) (outer ∙ ap Append inner) keeps
