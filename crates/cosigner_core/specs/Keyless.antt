-- What a cosigner without its key shows.
use Rattle.std.specs.Prelude.{Option, Some, None}
use Rattle.disk_core.specs.declared.disk.Disk.{Ghosts}
use Rattle.tree_core.specs.declared.hashing.TreeHash.{Ghosts as Hashes}
use Rattle.journal_core.specs.Ends.{durable_records}
use Rattle.journal_core.specs.Owners.{Owner, owner_over}
use Rattle.journal_core.specs.declared.error.AppendError.{AppendError}
use Rattle.cosigner_core.specs.Folds.{CosignerState}
use Rattle.cosigner_core.specs.declared.error.CosignError.{CosignError}
use Rattle.cosigner_core.specs.declared.error.CosignError.TheVariants.{WrongLog, NotNewer}
use Rattle.cosigner_core.specs.declared.error.CosignError.TheVariants.{BadSubtree, Beyond, BadProof}
use Rattle.cosigner_core.specs.declared.error.CosignError.TheVariants.{NeedsChild, Exhausted}
use Rattle.cosigner_core.specs.declared.error.CosignError.TheVariants.{Append}
use Rattle.cosigner_core.specs.declared.keyless.KeylessCosigner.{KeylessCosigner}

-- the journal's refusal, where it is one
abbrev pub of_cosigner_journal : CosignError → Option AppendError
of_cosigner_journal WrongLog = None
of_cosigner_journal (NotNewer held) = None
of_cosigner_journal BadSubtree = None
of_cosigner_journal (Beyond held) = None
of_cosigner_journal BadProof = None
of_cosigner_journal NeedsChild = None
of_cosigner_journal Exhausted = None
of_cosigner_journal (Append why) = Some why

-- What it shows as the owner of its journal. The records are those that make the cosigner, if the
-- model knows the bytes of the disk: unless an append has failed, all records of its journal. The
-- state has the ids, what is held, and what the key is by these records.
abbrev pub keyless_owner : {H D : Type 0} {hashes : Hashes H} {g : Ghosts D}
    → KeylessCosigner H D hashes g → Owner D CosignerState
keyless_owner it = owner_over it.journal (durable_records it.journal) it.machine.contents
