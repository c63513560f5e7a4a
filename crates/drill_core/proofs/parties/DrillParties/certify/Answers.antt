use Rattle.std.proofs.Common.{◌≡◌, ◌∙◌, ◌+◌, [], ℕ, length, sym, ap, subst, arith, refl}
use Rattle.byte_formats.specs.Types.{Text}
use Rattle.issuance_log.specs.Folds.{LogState}
use Rattle.authority_core.specs.Certificates.{IsWritten}
use Rattle.drill_parties.specs.Cosigners.{HaveSigned, IsSigned}
use Rattle.drill_parties.specs.CosignerViews.{IsStill}
use Rattle.drill_parties.proofs.Pairs.{paired_join, paired_length}
use Rattle.drill_core.specs.AuditViews.{AllStand}
use Rattle.drill_core.specs.LogParties.{log_shown}
use Rattle.drill_core.specs.Played.{log_root}
use Rattle.drill_core.specs.Stores.{StoresAcceptNow}
use Rattle.drill_core.proofs.Turns.{all_still, signed_still, still_keys, still_stops}
use Rattle.drill_core.proofs.parties.DrillParties.certify.Goals as goal

pub sign_all-requires : goal.sign_all-requires
sign_all-requires g c =
    let three = c.requires.three in let turns = c.requires.turns in omega (arith, three, turns)

pub returns-clause-certified : goal.returns-clause-certified
returns-clause-certified g c =
    let h = g.H.TreeHash.hash in
    let old = c.args.self.now in
    let s = log_shown old.log in
    let parties = old.cosigners.parties.items in
    let mid = c.sign_all.new.cosigners.parties.items in
    let new = c.audited.new.cosigners.parties.items in
    let cert : Text = c.in_ok-bytes.bytes in
    let one = c.in_ok-sign_all.ensures in
    let two = c.in_ok-bytes.ensures in
    let three = c.in_ok-stands.ensures in
    let long = paired_length (IsSigned (length s.entries) (log_root h s)) parties mid one.each in
    let are = c.requires.three in
    let all_same : log_shown c.certificate.new.log ≡ s = two.same.shown ∙ one.same.shown in
    record {
      log = record {
        shown = three.log.shown ∙ all_same;
        stops = three.log.stops ∙ two.same.stops ∙ one.same.stops;
      };
      store = refl;
      each = paired_join (IsSigned (length s.entries) (log_root h s)) IsStill
          (IsSigned (length s.entries) (log_root h s))
          (signed_still (length s.entries) (log_root h s)) parties mid new one.each three.still;
      signatures = c.sign_all.new.signatures;
      signed = subst (λ (t : Text). HaveSigned (length s.entries) (log_root h s) parties t
          c.sign_all.new.signatures) c.new-signatures.ensures one.signed;
      cert = cert;
      certs = c.in_ok-push.ensures.items;
      written = subst (λ (l : LogState). IsWritten h l c.args.index 0 (length l.entries)
          c.sign_all.new.signatures cert) one.same.shown two.written;
      accepts = subst (λ (l : LogState). StoresAcceptNow h l c.args.index
          c.sign_all.new.signatures cert) one.same.shown two.accepts;
      verified = ap (λ (n : ℕ). old.verified + n) c.one_accepted-accepted.ensures.value;
      stands = λ all.
          let count = three.count.0 (all_still h old.store cert (log_shown c.certificate.new.log)
          mid new three.still (subst (λ (l : LogState). AllStand h old.store cert l new)
          (sym all_same) all)) in
          omega (arith, count, long, are);
      light = refl;
    }

pub returns-clause-keys : goal.returns-clause-keys
returns-clause-keys g c =
    let keys = c.in_ok-sign_all.ensures.keys in
    let still = still_keys c.sign_all.new.cosigners.parties.items
    c.audited.new.cosigners.parties.items c.in_ok-stands.ensures.still in
    let are = c.requires.three in
    omega (arith, keys, still, are)

pub returns-clause-stops : goal.returns-clause-stops
returns-clause-stops g c =
    let stops = c.in_ok-sign_all.ensures.stops in
    let still = still_stops c.sign_all.new.cosigners.parties.items
    c.audited.new.cosigners.parties.items c.in_ok-stands.ensures.still in
    let one = c.in_ok-sign_all.ensures.same.stops in
    let two = c.in_ok-bytes.ensures.same.stops in
    let three = c.in_ok-stands.ensures.log.stops in
    omega (arith, stops, still, one, two, three)
