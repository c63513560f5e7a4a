use Rattle.std.proofs.Common.{sym, ◌∙◌}
use Rattle.journal_core.proofs.Records.{records_of-stands}
use Rattle.journal_core.proofs.laws.law_a_file_represents_one_list_at_most.Goals as goal

pub returns : goal.returns
returns c = λ bytes one other is_one is_other. sym (records_of-stands bytes one is_one)
    ∙ records_of-stands bytes other is_other
