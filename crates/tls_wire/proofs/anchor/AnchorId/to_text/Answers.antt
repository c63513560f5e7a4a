use Rattle.tls_wire.proofs.AnchorTexts.{short_text}
use Rattle.tls_wire.proofs.anchor.AnchorId.to_text.Goals as goal

pub returns-clause-short : goal.returns-clause-short
returns-clause-short c = short_text c.args.self.now c.text_of_arcs.result c.as_bytes.ensures.anchor
    (rw c.as_bytes.ensures.value at c.text_of_arcs.ensures)
