use Rattle.std.proofs.Common.{◌<◌, ◌≤◌, ◌^◌, ◌∙◌, ◌++◌, List, arith, length, refl, ap, subst}
use Rattle.byte_formats.specs.Types.{Text}
use Rattle.mtc_proof.specs.Proofs.{signature_text}
use Rattle.drill_parties.specs.CosignerViews.{cosigner_shown, records_shown}
use Rattle.drill_parties.proofs.CosignerStops.{says_sign}
use Rattle.drill_parties.proofs.signing.signed.Goals as goal

pub put_signature-requires-clause-signature_short :
    goal.put_signature-requires-clause-signature_short
put_signature-requires-clause-signature_short g c =
    let short = c.as_slice.ensures.short in omega (arith, short)

pub returns-clause-state : goal.returns-clause-state
returns-clause-state g c =
    let list : List Text = records_shown c.in_ok-party.party in
    let none : 0 < 2 ^ 64 = omega arith in
    let has = c.in_ok-party.ensures.state in
    record {
      state = record {
        id = has.id;
        log_id = has.log;
        held = has.held;
        key = has.key;
        more = has.more;
      };
      recorded = record {
        more = c.in_ok-party.ensures.grows;
        sign = says_sign _ list c.in_ok-party.ensures.recorded none c.ranges.size.fits
            c.law_are_hashes.ensures.one c.law_are_hashes.ensures.all;
      };
    }

pub returns-clause-put : goal.returns-clause-put
returns-clause-put g c =
    let has = c.in_ok-party.ensures.state in
    let out : Text = c.cosign.new.out in
    record {
      part = record { cosigner = (cosigner_shown c.args.party).id; signature = out };
      signed = record {
        cosigner = refl;
        verifies = has.signed;
        short = subst (λ (t : Text). length t ≤ 17748) c.as_slice.ensures.value
            c.as_slice.ensures.short;
      };
      put = c.in_ok-put_signature.ensures.ok
          ∙ ap (λ (t : Text). c.args.signatures.now
          ++ signature_text (record { cosigner = c.as_bytes.result.now; signature = t }))
          c.as_slice.ensures.value
          ∙ ap (λ (id : Text). c.args.signatures.now
          ++ signature_text (record { cosigner = id; signature = out }))
          (c.as_bytes.ensures.value ∙ c.id.ensures ∙ has.id);
    }

pub returns-clause-keys : goal.returns-clause-keys
returns-clause-keys g c = c.in_ok-party.ensures.state.few

pub returns-clause-stops : goal.returns-clause-stops
returns-clause-stops g c = c.in_ok-party.ensures.stops
