use Rattle.log_entry.specs.Views.{given_entry}
use Rattle.log_entry.proofs.EntryForm.{written_again}
use Rattle.log_entry.proofs.writing.write_entry.Goals as goal

pub returns-clause-read : goal.returns-clause-read
returns-clause-read c = written_again (given_entry c.args.parts.now) c.with_validity.result
    c.with_validity.ensures
