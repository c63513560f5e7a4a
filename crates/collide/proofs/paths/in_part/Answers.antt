use Rattle.std.proofs.Common.{◌≡◌, Err, sym, ◌∙◌, rules}
use Rattle.collide.proofs.Compared.{found_of}
use Rattle.collide.specs.declared.comparing.Halt.TheVariants.{Found}
use Rattle.collide.proofs.paths.in_part.Goals as goal

pub returns-then-eq : goal.returns-then-eq
returns-then-eq g c =
    let same : c.entry.result.now ≡ c.args.entry.now = search rules in
    sym c.entry.ensures ∙ same

pub returns-in-Err-Found : goal.returns-in-Err-Found
returns-in-Err-Found g c =
    let differ : c.entry.result.now ≡ c.args.entry.now → ⊥ = search rules in
    let is : c.compare_path.result ≡ Err (Found c.in-Err-Found.one c.in-Err-Found.other) =
    search rules in (
      λ same. differ (c.entry.ensures ∙ same),
      found_of g.H.TreeHash.hash _ _ _ _ _ c.compare_path.result _ _ is
          (c.compare_path.ensures _ c.requires.gives),
    )
