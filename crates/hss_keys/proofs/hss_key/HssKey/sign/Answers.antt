use Rattle.std.proofs.Common.{sym, subst}
use Rattle.byte_formats.specs.Types.{Text}
use Rattle.hss_core.specs.Hss.{Verifies}
use Rattle.hss_keys.specs.Keys.{public_of}
use Rattle.hss_keys.proofs.Newest.{signed_verifies}
use Rattle.hss_keys.proofs.hss_key.HssKey.sign.Goals as goal

pub returns-clause-verifies : goal.returns-clause-verifies
returns-clause-verifies c =
    let s = c.args.self.now in
    subst (λ (t : Text). Verifies (public_of s.key) c.args.message.now t)
    (sym c.sign_next.ensures.signature)
    (signed_verifies s c.args.message.now c.sign_next.ensures.id c.sign_next.ensures.few
    c.requires)
