use Rattle.std.proofs.Common.{◌≡◌, ℕ, List, Option, length, subst, sym, IfSome}
use Rattle.disk_core.specs.Disk.{part}
use Rattle.journal_core.proofs.Modelled.{if_some}
use Rattle.journal_core.proofs.Steps.{read_body, read_length}
use Rattle.journal_core.proofs.journal.Journal.read.Goals as goal

-- what was read, by its own length
read_is : (contents : Option (List ℕ)) (read : List ℕ) (place count : ℕ) → length read ≡ count
    → IfSome contents (λ b. read ≡ part place count b)
    → IfSome contents (λ b. read ≡ part place (length read) b)
read_is contents read place count size is =
    if_some (λ b. read ≡ part place count b) (λ b. read ≡ part place (length read) b) contents
    (λ b found. subst (λ (n : ℕ). read ≡ part place n b) (sym size) found) is

pub returns-clause-body : goal.returns-clause-body
returns-clause-body g c =
    read_body g.D.Disk c.args.self.now.disk c.args.place c.read_part.new.out c.args.self.now.stands
    (read_is (g.D.Disk.contents c.args.self.now.disk) c.read_part.new.out c.args.place _
    c.read_part.auto.out c.in_ok-read_part.ensures.read)

pub returns-clause-length : goal.returns-clause-length
returns-clause-length g c =
    read_length g.D.Disk c.args.self.now.disk c.args.place c.read_part.new.out
    c.args.self.now.stands
    (read_is (g.D.Disk.contents c.args.self.now.disk) c.read_part.new.out c.args.place _
    c.read_part.auto.out c.in_ok-read_part.ensures.read)
