use Rattle.std.proofs.Common.{◌≡◌, IfSome, List, arith, refl, subst, sym}
use Rattle.byte_formats.specs.Types.{Hash}
use Rattle.tree_proofs.proofs.Aligned.{first_valid}
use Rattle.issuance_log.specs.Staying.{asks_alone}
use Rattle.issuance_log.specs.Words.{log_tiles_disk, modelled_by_both}
use Rattle.mtc_authority.specs.RequestOutcomes.{growth_at}
use Rattle.mtc_authority.proofs.Asked.{growth_modelled, no_growth}
use Rattle.mtc_authority.proofs.tree.growth_of.Goals as goal

pub proof_of-requires-clause-valid : goal.proof_of-requires-clause-valid
proof_of-requires-clause-valid g c = first_valid c.args.old (omega (arith, c.if-old-eq0.false))

pub returns-then-old-eq0 : goal.returns-then-old-eq0
returns-then-old-eq0 g c =
    let h = g.H.TreeHash.hash in
    let log = c.args.log.now in
    record {
      proof = subst (λ (proof : List Hash). IfSome (modelled_by_both log)
          (λ s. proof ≡ growth_at h s.entries c.args.old c.args.new)) (sym c.new.ensures)
          (no_growth h c.args.old c.args.new c.if-old-eq0.true (modelled_by_both log));
      asks = asks_alone log (g.met.D.Disk.only_now (log_tiles_disk log));
      cause = record { later = omega arith; failed = tt; fine = refl };
    }

pub returns-else-old-eq0 : goal.returns-else-old-eq0
returns-else-old-eq0 g c = record {
  proof = growth_modelled g.H.TreeHash.hash c.args.old c.args.new c.if-old-eq0.false
      (modelled_by_both c.args.log.now) c.proof_of.result c.proof_of.ensures.proof;
  asks = c.proof_of.ensures.asks;
  cause = c.proof_of.ensures.cause;
}
