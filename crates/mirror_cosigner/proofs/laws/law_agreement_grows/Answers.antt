use Rattle.mirror_cosigner.proofs.Growing.{agreement_grows}
use Rattle.mirror_cosigner.proofs.laws.law_agreement_grows.Goals as goal

pub returns : goal.returns
returns g c =
    agreement_grows g.H.TreeHash.hash g.met.H.TreeHash.sized
    (λ list s is. c.law_records_determine_the_items.ensures.sound g.H.TreeHash.hash list s is)
