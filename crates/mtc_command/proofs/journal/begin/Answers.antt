use Rattle.std.proofs.Common.{◌≡◌, List, ℕ, [], ◌∷◌, Option, None, Some, IfSome, option_map}
use Rattle.std.proofs.Common.{ap, refl, ◌∙◌, subst}
use Rattle.journal_core.specs.Packed.{first_body}
use Rattle.journal_core.specs.Words.{AllRepresent, disk_of}
use Rattle.mtc_command.proofs.journal.begin.Goals as goal

-- what the model knew before was empty
begun : {Q : Type 0} (contents : Option (List ℕ)) → IfSome contents (λ bytes. bytes ≡ [])
    → ((bytes : List ℕ) → contents ≡ Some bytes → Q) → IfSome contents (λ bytes. (bytes ≡ []) × Q)
begun None empty then_ = tt
begun (Some bytes) empty then_ = (empty, then_ bytes refl)

pub returns-in-Ok-clause-begins : goal.returns-in-Ok-clause-begins
returns-in-Ok-clause-begins g c =
    let started = c.in-Ok.ensures.ok in (
      ap g.D.Disk.faults c.into_disk.ensures ∙ started.fine,
      begun (g.D.Disk.contents c.args.disk) started.empty (λ bytes contents crash_state left.
          let all = subst (λ (list : Option (List (List ℕ))). IfSome list
          (AllRepresent g.D.Disk (disk_of c.in-Ok.journal)))
          (started.list ∙ ap (option_map (λ _. first_body c.args.first ∷ [])) contents) started.all
          in
          all crash_state (subst (λ d. g.D.Disk.may_leave d crash_state) c.into_disk.ensures left)),
    )
