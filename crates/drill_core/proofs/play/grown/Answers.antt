use Rattle.std.proofs.Common.{◌≡◌, ◌∙◌, ◌+◌, length, sym, ap, subst, arith}
use Rattle.issuance_log.specs.Folds.{LogState}
use Rattle.drill_parties.specs.Cosigners.{IsAdvanced, Paired}
use Rattle.drill_core.specs.LogParties.{log_shown}
use Rattle.drill_core.specs.Played.{log_root}
use Rattle.drill_core.proofs.EntryCounts.{issued_length}
use Rattle.drill_core.proofs.Turns.{hold_less}
use Rattle.drill_core.proofs.play.grown.Goals as goal

pub hold_all-requires-clause-larger : goal.hold_all-requires-clause-larger
hold_all-requires-clause-larger g c =
    let longer : length (log_shown c.in_ok-log.log).entries
    ≡ length (log_shown c.args.log).entries + length c.args.entries.now =
    ap (λ (s : LogState). length s.entries) c.in_ok-log.ensures.state
    ∙ issued_length g.H.TreeHash.hash (length c.args.entries.now) (log_shown c.args.log) in
    let more = c.requires.more in
    hold_less (length (log_shown c.args.log).entries)
    (length (log_shown c.in_ok-log.log).entries) c.args.cosigners.parties.items
    (omega (arith, longer, more)) c.requires.held

pub returns-clause-log : goal.returns-clause-log
returns-clause-log g c = c.in_ok-hold_all.ensures.same.shown ∙ c.in_ok-log.ensures.state

pub returns-clause-each : goal.returns-clause-each
returns-clause-each g c =
    subst (λ (l : LogState). Paired (IsAdvanced (length l.entries) (log_root g.H.TreeHash.hash l))
    c.args.cosigners.parties.items c.hold_all.new.cosigners.parties.items)
    (sym c.in_ok-hold_all.ensures.same.shown) c.in_ok-hold_all.ensures.each

pub returns-clause-stops : goal.returns-clause-stops
returns-clause-stops g c =
    let issued = c.in_ok-log.ensures.stops in
    let held = c.in_ok-hold_all.ensures.stops in
    let same = c.in_ok-hold_all.ensures.same.stops in
    omega (arith, issued, held, same)
