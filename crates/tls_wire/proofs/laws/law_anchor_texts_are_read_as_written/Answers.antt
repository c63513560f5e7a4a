use Rattle.tls_wire.proofs.AnchorForm.{text_takes, text_again}
use Rattle.tls_wire.proofs.laws.law_anchor_texts_are_read_as_written.Goals as goal

pub returns-clause-again : goal.returns-clause-again
returns-clause-again c = text_again

pub returns-clause-read : goal.returns-clause-read
returns-clause-read c = text_takes
