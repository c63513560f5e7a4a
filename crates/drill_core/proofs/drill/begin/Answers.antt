use Rattle.std.proofs.Common.{◌≡◌, ◌∙◌, ◌+◌, List, [], sym, ap, subst, arith, refl, length}
use Rattle.byte_formats.specs.Types.{Text}
use Rattle.drill_parties.specs.Cosigners.{IsNewParty, stops_by}
use Rattle.drill_parties.specs.Rounds.{begun}
use Rattle.drill_parties.proofs.Pairs.{paired_length, paired_map}
use Rattle.drill_core.specs.LogParties.{log_stops}
use Rattle.drill_core.specs.Played.{AreWritten, IsPartyAfter, cosigner_arcs}
use Rattle.drill_core.specs.Stores.{store_with}
use Rattle.drill_core.proofs.Beginning.{known_first, log_first, no_keys, no_stops, party_first}
use Rattle.drill_core.proofs.drill.begin.Goals as goal

pub store_of-requires : goal.store_of-requires
store_of-requires g c = sym (paired_length (IsNewParty g.H.TreeHash.hash c.args.number)
    cosigner_arcs c.in_ok-cosigners.cosigners.parties.items c.in_ok-cosigners.ensures.state)

pub returns : goal.returns
returns g c =
    let h = g.H.TreeHash.hash in
    let number = c.args.number in
    let parties = c.in_ok-cosigners.cosigners.parties.items in
    let new = c.in_ok-cosigners.ensures.state in
    let keys = no_keys h number cosigner_arcs parties new in
    let none = no_stops h number cosigner_arcs parties new in
    let log = c.in_ok-log.ensures.stops in
    record {
      log = c.in_ok-log.ensures.state ∙ log_first h;
      cosigners = paired_map (IsNewParty h number) (IsPartyAfter h number 0 (begun number))
          (party_first h number) cosigner_arcs parties new;
      keys = omega (arith, keys);
      store = c.in_ok-store.ensures
          ∙ ap store_with (known_first h number cosigner_arcs parties new);
      certs = subst (λ (list : List Text). AreWritten h number list [])
          (sym c.new-certs.ensures.items) tt;
      sizes = tt;
      verified = refl;
      stands = refl;
      light = refl;
      few_marks = omega arith;
      stops = omega (arith, log, none);
      few_stops = omega arith;
    }
