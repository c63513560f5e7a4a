use Rattle.std.proofs.Common.{◌≡◌, ◌∙◌, ◌+◌, ◌++◌, ◌∷◌, [], ℕ, List, length, ap, subst, sym, arith}
use Rattle.std.specs.Prelude.{pos}
use Rattle.byte_formats.specs.Types.{Text}
use Rattle.issuance_log.specs.Folds.{LogState}
use Rattle.policy_core.specs.Judgement.{judgement}
use Rattle.policy_core.specs.declared.store.Store.{Store}
use Rattle.authority_core.specs.Certificates.{IsWritten}
use Rattle.drill_parties.specs.Cosigners.{IsAdvanced}
use Rattle.drill_parties.proofs.Pairs.{paired_length}
use Rattle.drill_core.specs.AuditViews.{AllStand}
use Rattle.drill_core.specs.LightStores.{IsDue}
use Rattle.drill_core.specs.LogParties.{log_shown}
use Rattle.drill_core.specs.Played.{with_landmark, log_root}
use Rattle.drill_core.specs.Stores.{StoresAcceptNow, one_accepted}
use Rattle.drill_core.proofs.PlayedRounds.{all_signed, each_turned, keys_so}
use Rattle.drill_core.proofs.parties.DrillParties.play.Goals as goal

pub mark_in-requires : goal.mark_in-requires
mark_in-requires g c =
    let grown = c.in_ok-grown.ensures.light in omega (arith, grown, c.requires.ready.light)

pub certify-requires-clause-three : goal.certify-requires-clause-three
certify-requires-clause-three g c =
    let h = g.H.TreeHash.hash in
    let grown = c.in_ok-grown.grown in
    let long = paired_length (IsAdvanced (length (log_shown grown.log).entries)
    (log_root h (log_shown grown.log))) c.args.self.cosigners.parties.items
    grown.cosigners.parties.items c.in_ok-grown.ensures.each in
    let same : length c.in_ok-played.played.cosigners.parties.items
    ≡ length grown.cosigners.parties.items =
    ap (λ x. length x.parties.items) c.in_ok-played.ensures.cosigners in
    let three = c.requires.ready.three in
    omega (arith, long, same, three)

pub certify-requires-clause-verified : goal.certify-requires-clause-verified
certify-requires-clause-verified g c =
    let grown = c.in_ok-grown.ensures.verified in
    let marked = c.in_ok-played.ensures.verified in
    omega (arith, grown, marked, c.requires.ready.verified)

pub certify-requires-clause-stands : goal.certify-requires-clause-stands
certify-requires-clause-stands g c =
    let grown = c.in_ok-grown.ensures.stands in
    let marked = c.in_ok-played.ensures.stands in
    omega (arith, grown, marked, c.requires.ready.stands)

pub returns : goal.returns
returns g c =
    let h = g.H.TreeHash.hash in
    let r = c.args.round.now in
    let old = c.args.self in
    let grown = c.in_ok-grown.grown in
    let marks = c.in_ok-played.played in
    let new = c.certify.new.self in
    let one = c.in_ok-grown.ensures in
    let two = c.in_ok-played.ensures in
    let three = c.in_ok-certify.ensures in
    let done = three.certified in
    let same = ap (λ x. x.parties.items) two.cosigners in
    let store = two.store ∙ one.store in
    let keys = three.keys in
    let keys_before = keys_so h r old grown marks new one.each two.log same done in
    let stops_one = one.stops in
    let stops_two = two.stops in
    let stops_three = three.stops in
    let stands_one = one.stands in
    let stands_two = two.stands in
    let light_one = one.light in
    let light_three = done.light in
    record {
      log = done.log.shown ∙ two.log ∙ ap (with_landmark r.landmark) one.log;
      store = done.store ∙ store;
      each = each_turned h r old grown marks new one.each two.log same done;
      signatures = done.signatures;
      signed = all_signed h r old grown marks new one.each two.log same done;
      cert = done.cert;
      certs = done.certs ∙ ap (λ v. v.items ++ done.cert ∷ []) (two.certs ∙ one.certs);
      written = subst (λ (l : LogState). IsWritten h l r.index 0 (length l.entries) done.signatures
          done.cert) (sym done.log.shown) done.written;
      accepts = subst (λ (l : LogState). StoresAcceptNow h l r.index done.signatures done.cert)
          (sym done.log.shown) done.accepts;
      verified = done.verified
          ∙ ap (λ (n : ℕ). n + one_accepted (judgement h done.cert marks.store (pos 1767225600)))
          (two.verified ∙ one.verified)
          ∙ ap (λ (s : Store). old.verified
          + one_accepted (judgement h done.cert s (pos 1767225600))) store;
      stands = λ all.
          let counted = done.stands (subst (λ (s : Store). AllStand h s done.cert
          (log_shown marks.log) new.cosigners.parties.items) (sym store)
          (subst (λ (l : LogState). AllStand h old.store done.cert l new.cosigners.parties.items)
          done.log.shown all)) in
          omega (arith, counted, stands_one, stands_two);
      light = λ due.
          let lit = two.light (subst (λ (l : LogState). IsDue h l) done.log.shown due) in
          omega (arith, lit, light_one, light_three);
      keys = omega (arith, keys, keys_before);
      stops = omega (arith, stops_one, stops_two, stops_three);
    }
