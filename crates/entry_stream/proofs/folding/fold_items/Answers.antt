use Rattle.std.proofs.Common.{◌≡◌, ℕ, ◌+◌, ◌≤◌, ◌<◌, [], ◌∷◌, ◌++◌, length, take, refl, sym, ap}
use Rattle.std.proofs.Common.{Bool, true, false, not, subst, ◌∙◌, append-nil, arith, rules}
use Rattle.std.proofs.KnownBytes.{Consumes-nil, Consumes-trans}
use Rattle.std.proofs.lemmas.List.{length-append, length-drop, length-take-le}
use Rattle.std.proofs.lemmas.Result.{err_from_is_err_and}
use Rattle.std.specs.Io.KnownBytes.{Consumes}
use Rattle.byte_formats.specs.Types.{HashFunction, Text}
use Rattle.entry_list.specs.Items.{is_key_of}
use Rattle.entry_stream.proofs.Readings.{err_again, first_is, first_long, over, over_rest}
use Rattle.entry_stream.proofs.Readings.{reading_ended, reading_few, reading_first, reading_item}
use Rattle.entry_stream.proofs.Readings.{reading_bad, reading_more}
use Rattle.entry_stream.specs.Streams.{empty_list, items_with}
use Rattle.entry_stream.proofs.folding.fold_items.Goals as goal

pub each-init : goal.each-init
each-init g c = record {
  read = [];
  gave = Consumes-nil _;
  total = refl;
  within = omega arith;
  list = empty_list;
  taken = c.requires;
  many = refl;
  reading = reading_first g.H.TreeHash.hash _ c.new-window.ensures;
  same = refl;
  kept = refl;
  count = refl;
}

-- ---- an item that is whole

pub returns-in_err-skip_rest-in-Ok-clause-too_long :
    goal.returns-in_err-skip_rest-in-Ok-clause-too_long
returns-in_err-skip_rest-in-Ok-clause-too_long g c =
    let p = err_from_is_err_and c.from_residual.result c.from_residual.ensures.1 in
    let inv = c.each.invariant in
    rw (p.1, p.2) (λ is. over_rest _ _ inv.read _ _ inv.gave inv.total inv.within
    (c.in_err-skip_rest-in-Ok.ensures.too_long (err_again _ _ is)))

pub returns-in_err-skip_rest-in-Ok-clause-rest : goal.returns-in_err-skip_rest-in-Ok-clause-rest
returns-in_err-skip_rest-in-Ok-clause-rest g c =
    (_, Consumes-trans _ _ _ _ _ c.each.invariant.gave c.skip_rest.ensures.rest.1)

pub returns-then-not-is_key_of-clause-rest : goal.returns-then-not-is_key_of-clause-rest
returns-then-not-is_key_of-clause-rest g c =
    (_, Consumes-trans _ _ _ _ _ c.each.invariant.gave c.skip_rest.ensures.rest.1)

pub returns-then-not-is_key_of-clause-whole : goal.returns-then-not-is_key_of-clause-whole
returns-then-not-is_key_of-clause-whole g c =
    let inv = c.each.invariant in
    let item = c.in-Ok.item in
    let first = first_is c.each.window c.as_slice.result.now item.entry.now item.spki.now
    c.as_slice.ensures c.in-Ok.ensures.known c.in-Ok.ensures.exact in
    let other : is_key_of g.H.TreeHash.hash item.entry.now item.spki.now ≡ false = search rules in
    let rest = c.in_ok-skip_rest-in-Ok.ensures.whole in
    let few = c.in_ok-skip_rest-in-Ok.ensures.within in
    let total = inv.total in
    let within = inv.within in
    let long = rest.2 in
    let both = length-append inv.read rest.0 in
    record {
      bytes = inv.read ++ rest.0;
      whole = Consumes-trans _ _ _ _ _ inv.gave rest.1;
      spent = c.in_ok-skip_rest-in-Ok.ensures.spent;
      within = omega arith;
      holds =
          reading_bad g.H.TreeHash.hash inv.read c.each.window item.entry.now item.spki.now
          inv.list inv.reading first c.each.items inv.many other rest.0;
    }

pub take-requires : goal.take-requires
take-requires g c =
    let inv = c.each.invariant in
    let item = c.in-Ok.item in
    let first = first_is c.each.window c.as_slice.result.now item.entry.now item.spki.now
    c.as_slice.ensures c.in-Ok.ensures.known c.in-Ok.ensures.exact in
    let total = inv.total in
    let within = inv.within in
    record {
      items = inv.list;
      are = inv.taken;
      few =
          reading_few g.H.TreeHash.hash inv.read c.each.window item.entry.now item.spki.now
          inv.list inv.reading first c.args.limit (omega arith) (omega arith);
    }

pub overflow_add-size-in-Ok : goal.overflow_add-size-in-Ok
overflow_add-size-in-Ok g c =
    let item = c.in-Ok.item in
    let first = first_is c.each.window c.as_slice.result.now item.entry.now item.spki.now
    c.as_slice.ensures c.in-Ok.ensures.known c.in-Ok.ensures.exact in
    let one = first.fits.0 in
    let two = first.fits.1 in
    omega arith

pub pass-requires : goal.pass-requires
pass-requires g c =
    let item = c.in-Ok.item in
    let first = first_is c.each.window c.as_slice.result.now item.entry.now item.spki.now
    c.as_slice.ensures c.in-Ok.ensures.known c.in-Ok.ensures.exact in
    first_long c.each.window item.entry.now item.spki.now first

pub overflow_add-items : goal.overflow_add-items
overflow_add-items g c =
    let inv = c.each.invariant in
    let item = c.in-Ok.item in
    let first = first_is c.each.window c.as_slice.result.now item.entry.now item.spki.now
    c.as_slice.ensures c.in-Ok.ensures.known c.in-Ok.ensures.exact in
    let total = inv.total in
    let within = inv.within in
    let many = inv.many in
    let few = reading_few g.H.TreeHash.hash inv.read c.each.window item.entry.now item.spki.now
    inv.list inv.reading first c.args.limit (omega arith) (omega arith) in
    omega arith

pub each-smaller-in-Ok : goal.each-smaller-in-Ok
each-smaller-in-Ok g c =
    let item = c.in-Ok.item in
    let first = first_is c.each.window c.as_slice.result.now item.entry.now item.spki.now
    c.as_slice.ensures c.in-Ok.ensures.known c.in-Ok.ensures.exact in
    let long = first_long c.each.window item.entry.now item.spki.now first in
    let shorter = ap length c.pass.ensures in
    let cut =
    length-drop (4 + length item.entry.now + length item.spki.now) c.each.window in
    omega arith

pub each-preserved-in-Ok : goal.each-preserved-in-Ok
each-preserved-in-Ok g c =
    let inv = c.each.invariant in
    let item = c.in-Ok.item in
    let first = first_is c.each.window c.as_slice.result.now item.entry.now item.spki.now
    c.as_slice.ensures c.in-Ok.ensures.known c.in-Ok.ensures.exact in
    let own : is_key_of g.H.TreeHash.hash item.entry.now item.spki.now ≡ true = search rules in
    let many = inv.many in
    let more = length-append inv.list.entries (item.entry.now ∷ []) in
    record {
      read = inv.read;
      gave = inv.gave;
      total = inv.total;
      within = inv.within;
      list = items_with inv.list item.entry.now item.spki.now;
      taken = c.in_ok-take-in-Ok.ensures.taken inv.list inv.taken;
      many = omega arith;
      reading =
          reading_item g.H.TreeHash.hash inv.read c.each.window item.entry.now item.spki.now
          inv.list inv.reading first c.pass.new.self own c.pass.ensures;
      same = c.in_ok-take-in-Ok.ensures.same ∙ inv.same;
      kept = c.in_ok-take-in-Ok.ensures.kept ∙ inv.kept;
      count = inv.count;
    }

-- ---- more bytes

pub returns-then-count-eq0-clause-whole : goal.returns-then-count-eq0-clause-whole
returns-then-count-eq0-clause-whole g c =
    let inv = c.each.invariant in
    let none : c.in_ok-count-in-Err.count ≡ 0 = search rules in
    let piece = take c.in_ok-count-in-Err.count c.read.new.into in
    let all : inv.read ++ piece ≡ inv.read =
    ap (λ (n : ℕ). inv.read ++ take n c.read.new.into) none ∙ append-nil inv.read in
    let left = ap length c.as_slice-then-count-eq0.ensures in
    record {
      bytes = inv.read;
      whole =
          subst (λ (t : Text). Consumes (g.S.Source.left c.args.source.now)
          (g.S.Source.left c.read.new.self) t) all
          (Consumes-trans _ _ _ _ _ inv.gave c.in_ok-count-in-Err.ensures.bytes.0);
      spent = c.in_ok-count-in-Err.ensures.bytes.1 none (search rules);
      within = let total = inv.total in let within = inv.within in omega arith;
      holds =
          reading_ended g.H.TreeHash.hash (g.F.ItemFold.has_taken c.each.fold) inv.read inv.list
          c.each.items c.in-Err.short inv.taken inv.many c.each.window c.as_slice.result.now
          c.each.total _ c.ended.result inv.reading c.as_slice.ensures c.in-Err.ensures.exact
          (sym inv.total) left c.ended.ensures;
    }

pub returns-then-count-limit-clause-too_long : goal.returns-then-count-limit-clause-too_long
returns-then-count-limit-clause-too_long g c =
    let inv = c.each.invariant in
    let piece = take c.in_ok-count-in-Err.count c.read.new.into in
    let total = inv.total in
    let within = inv.within in
    let bound = c.in_ok-count-in-Err.ensures.bound in
    let size = length-take-le c.in_ok-count-in-Err.count c.read.new.into bound in
    let both = length-append inv.read piece in
    λ is. over _ _ (inv.read ++ piece) c.args.limit
    (Consumes-trans _ _ _ _ _ inv.gave c.in_ok-count-in-Err.ensures.bytes.0) (omega arith)

pub returns-then-count-limit-clause-rest : goal.returns-then-count-limit-clause-rest
returns-then-count-limit-clause-rest g c =
    (_, Consumes-trans _ _ _ _ _ c.each.invariant.gave c.in_ok-count-in-Err.ensures.bytes.0)

pub returns-in_err-append-in-Err-clause-rest : goal.returns-in_err-append-in-Err-clause-rest
returns-in_err-append-in-Err-clause-rest g c =
    (_, Consumes-trans _ _ _ _ _ c.each.invariant.gave c.in_ok-count-in-Err.ensures.bytes.0)

pub each-preserved : goal.each-preserved
each-preserved g c =
    let inv = c.each.invariant in
    let piece = take c.in_ok-count-in-Err.count c.read.new.into in
    let total = inv.total in
    let within = inv.within in
    let bound = c.in_ok-count-in-Err.ensures.bound in
    let size = length-take-le c.in_ok-count-in-Err.count c.read.new.into bound in
    let both = length-append inv.read piece in
    record {
      read = inv.read ++ piece;
      gave = Consumes-trans _ _ _ _ _ inv.gave c.in_ok-count-in-Err.ensures.bytes.0;
      total = omega arith;
      within = omega arith;
      list = inv.list;
      taken = inv.taken;
      many = inv.many;
      reading =
          reading_more g.H.TreeHash.hash inv.read c.each.window _ inv.list piece inv.reading
          (c.in_ok-append-in-Err.ensures {u = tt});
      same = inv.same;
      kept = inv.kept;
      count = c.in_ok-count-in-Err.ensures.cause.fine ∙ inv.count;
    }
