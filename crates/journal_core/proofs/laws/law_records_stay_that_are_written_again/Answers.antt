use Rattle.std.proofs.Common.{◌≡◌, List, ℕ, length, take, ap, sym, ◌∙◌, arith}
use Rattle.std.proofs.lemmas.List.{take_all}
use Rattle.disk_core.proofs.Torn.{same_extends}
use Rattle.journal_core.proofs.Records.{stands_kept}
use Rattle.journal_core.proofs.laws.law_records_stay_that_are_written_again.Goals as goal

pub returns : goal.returns
returns c = λ place piece old new list is there torn.
    let longer = torn.no_shorter in
    let commit_byte = is.ends.there in
    let whole : take (length old) old ≡ old = take_all (length old) old (omega arith) in
    stands_kept (length old) list old new (same_extends place piece old new there torn ∙ sym whole)
    commit_byte longer is
