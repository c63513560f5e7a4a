-- The answer to what was found in an export is the one that is wanted.
use Rattle.std.proofs.Common.{◌≡◌, ℕ, List, Option, None, Some, refl, sym, ap, subst}
use Rattle.std.specs.Prelude.{option_map}
use Rattle.byte_formats.specs.Types.{HashFunction}
use Rattle.cosigner_core.specs.declared.step.Step.{Step}
use Rattle.cosigner_steps.specs.Steps.{proof_inputs}
use Rattle.mtc_command.specs.Wanted.{Meets}
use Rattle.quarrel_core.specs.Conflicts.{keys_at, quarrel_of}
use Rattle.quarrel_core.specs.Quarrels.{IsQuarrel}
use Rattle.quarrel_core.specs.declared.answer.Quarrel.{Quarrel}
use Rattle.quarrel_core.specs.declared.answer.Quarrel.TheVariants.{Agree, Pair}
use Rattle.mtc_relying.specs.QuarrelOutcome.{quarrel_by}
use Rattle.mtc_relying.specs.Views.{quarrel_reply}

pub quarrel_meets : (h : HashFunction) (steps : List Step) (found : Quarrel)
    → IsQuarrel h steps found
    → Meets (quarrel_by h steps (quarrel_of steps)).answer (quarrel_reply found)
quarrel_meets h steps Agree is =
    subst
    (λ (keys : Option (ℕ × ℕ)). Meets (quarrel_by h steps keys).answer (quarrel_reply Agree))
    (sym (ap (option_map (keys_at steps)) is)) refl
quarrel_meets h steps (Pair first second x y) is =
    subst
    (λ (keys : Option (ℕ × ℕ)).
    Meets (quarrel_by h steps keys).answer (quarrel_reply (Pair first second x y)))
    (sym is.0) (
      refl,
      record {
        x = x;
        y = y;
        first = is.1.first;
        second = is.1.second;
        differ = is.1.differ;
        one_hash = is.1.one_hash;
        is = refl;
      },
    )
