use Rattle.byte_formats.specs.Types.{Text}
use Rattle.std.proofs.Common.{◌≡◌, ◌+◌, ◌<◌, [], ◌∷◌, ◌++◌, length, take, ap, sym, subst, ◌∙◌}
use Rattle.std.proofs.Common.{arith}
use Rattle.std.proofs.lemmas.List.{length-take-le, take_all, take_more}
use Rattle.monitor_core.specs.Watched.{HasWatched, run_with}
use Rattle.monitor_core.proofs.running.monitor.Goals as goal

pub loop-index-init : goal.loop-index-init
loop-index-init g c = c.new-growth.ensures c.args.watch.now

pub take_entry-requires : goal.take_entry-requires
take_entry-requires g c =
    let texts = g.L.EntryList.texts c.args.entries.now in
    let within : c.loop-index.index < length texts =
    omega (arith, c.loop-index-test.true, c.len-index-end.ensures) in
    let count = length-take-le c.loop-index.index texts (omega arith) in
    record {
      items = record { entries = take c.loop-index.index texts; keys = [] };
      are = c.loop-index.invariant;
      few = omega (arith, count, c.loop-index-test.true);
    }

pub loop-index-preserved : goal.loop-index-preserved
loop-index-preserved g c =
    let a = c.args in
    let texts = g.L.EntryList.texts a.entries.now in
    let i = c.loop-index.index in
    let within : i < length texts =
    omega (arith, c.loop-index-test.true, c.len-index-end.ensures) in
    subst (HasWatched g.H.TreeHash.hash (run_with a.state.now a.watch.now c.take_entry.new.self))
    (ap (λ e. take i texts ++ e ∷ []) c.entry.ensures ∙ sym (take_more texts i [] within))
    (c.in_ok-take_entry.ensures (take i texts) c.loop-index.invariant)

pub returns : goal.returns
returns g c =
    let texts = g.L.EntryList.texts c.args.entries.now in
    c.found.ensures c.args.watch.now texts
    (subst (HasWatched g.H.TreeHash.hash
    (run_with c.args.state.now c.args.watch.now c.loop-index.growth))
    (take_all c.loop-index.index texts
    (omega (arith, c.loop-index-test.false, c.len-index-end.ensures)))
    c.loop-index.invariant)
