-- What a list is asked for.
use Rattle.std.proofs.Common.{◌≡◌, ℕ, List, [], ◌∷◌, Option, None, Some, ap, ◌∙◌}
use Rattle.world_core.specs.declared.wanted.WantedHash.{WantedHash}
use Rattle.audit_stream.specs.Summaries.{asked_for}

pub index_asked : (start end at : ℕ) (wanted : Option WantedHash) (index : ℕ)
    → start ∷ end ∷ at ∷ [] ≡ asked_for wanted index → at ≡ index
index_asked start end at None index is = cc
index_asked start end at (Some w) index is = cc

module _ (start end at : ℕ) (wanted : Option WantedHash) (index : ℕ) (w : WantedHash)
    (is : start ∷ end ∷ at ∷ [] ≡ asked_for wanted index) (some : wanted ≡ Some w) where
  asked : start ∷ end ∷ at ∷ [] ≡ w.start ∷ w.end ∷ index ∷ []
  asked = is ∙ ap (λ (o : Option WantedHash). asked_for o index) some

  pub start_asked : start ≡ w.start
  start_asked = let all = asked in cc

  pub end_asked : end ≡ w.end
  end_asked = let all = asked in cc
