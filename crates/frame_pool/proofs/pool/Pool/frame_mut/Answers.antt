use Rattle.std.proofs.Common.{◌≡◌, ◌<◌, [], get_or, length, refl, sym, ◌∙◌, ap, arith}
use Rattle.std.proofs.lemmas.List.{get_or_default}
use Rattle.frame_pool.specs.Frames.{frame_at}
use Rattle.frame_pool.specs.Borrowing.{with_frame}
use Rattle.frame_pool.proofs.pool.Pool.frame_mut.Goals as goal

pub returns : goal.returns
returns c =
    let count = ap (λ p. length p.keys) c.self.view_is in
    let frames = c.self.invariant.frames in
    let inside : c.args.slot.0 < length c.self.inside.frames.items = omega arith in
    let value : c.as_mut_slice.result.now ≡ get_or c.self.inside.frames.items c.args.slot.0 [] =
    c.as_mut_slice.ensures.value ∙ c.index_mut.ensures.value
    ∙ get_or_default c.self.inside.frames.items c.args.slot.0 c.index_mut.result.now [] inside in
    let whole = sym (ap length c.frame-whole.ensures.value) ∙ c.frame-whole.ensures.size in (
      (refl, λ w. ap (λ p. with_frame p c.args.slot.0 w) c.self.view_is),
      record {
        writes_back = tt;
        value = value ∙ ap (λ p. frame_at p c.args.slot.0) c.self.view_is;
        size = ap length value ∙ whole;
      },
    )
