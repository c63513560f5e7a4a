use Rattle.std.proofs.Common.{◌-◌, ◌≡◌, ℕ, [], ap, sym, take, ◌∙◌, arith}
use Rattle.std.proofs.Common.{slice_index_or}
use Rattle.mirror_core.proofs.Longest.{first_of, none_of}
use Rattle.mirror_core.proofs.laws.law_the_first_difference_is_first.Goals as goal

pub returns-clause-some : goal.returns-clause-some
returns-clause-some c = λ held items number is.
    let first = first_of 0 number held items is in
    let whole : number - 0 ≡ number = omega arith in (
      sym (ap (λ (n : ℕ). take n held) whole) ∙ first.before
          ∙ ap (λ (n : ℕ). take n items) whole,
      omega (arith, first.in_held, whole),
      omega (arith, first.in_items, whole),
      λ same. first.differs (ap (λ (n : ℕ). slice_index_or held n ([], [])) whole ∙ same
          ∙ sym (ap (λ (n : ℕ). slice_index_or items n ([], [])) whole)),
    )

pub returns-clause-none : goal.returns-clause-none
returns-clause-none c = λ held items is. none_of 0 held items is
