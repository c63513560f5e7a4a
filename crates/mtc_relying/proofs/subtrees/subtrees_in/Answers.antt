use Rattle.std.proofs.Common.{sym, subst, ◌∙◌, rules}
use Rattle.byte_formats.proofs.Steps.{ok_is}
use Rattle.landmarks.specs.Landmarks.{LandmarkList}
use Rattle.landmarks.specs.declared.error.ListError.{ListError}
use Rattle.mtc_relying.specs.SubtreeTables.{AreInOrder, AreSubtreesOf}
use Rattle.mtc_relying.proofs.Trusted.{any_size}
use Rattle.mtc_relying.proofs.subtrees.subtrees_in.Goals as goal

pub returns-in_ok-spans-in-Ok-clause-of : goal.returns-in_ok-spans-in-Ok-clause-of
returns-in_ok-spans-in-Ok-clause-of c = λ size l is.
    subst (λ (x : LandmarkList). AreSubtreesOf x c.in_ok-spans-in-Ok.spans.items)
    (ok_is ListError c.in-Ok.landmarks l
    (sym c.in-Ok.ensures ∙ any_size c.args.text.now c.args.max_active size l is))
    c.in_ok-spans-in-Ok.ensures

pub returns-in-Err : goal.returns-in-Err
returns-in-Err c = record {
  order = subst (AreInOrder 0) (sym c.new.ensures.items) tt;
  of = λ size l is.
      let read = any_size c.args.text.now c.args.max_active size l is in
      let fault = c.in-Err.ensures (search rules) in
      absurd cc;
}
