use Rattle.std.proofs.Common.{◌≡◌, ◌∙◌, false, true, [], ap, refl, subst, sym, true≢false}
use Rattle.mtc_words.proofs.Journals.{names_differ}
use Rattle.mtc_words.specs.Commands.{command_value, journals_of}
use Rattle.mtc_words.specs.Words.{HaveOwnNames, is_named_twice}
use Rattle.mtc_words.specs.declared.command.Command.{Command}
use Rattle.mtc_words.specs.declared.command.Command.TheVariants.{Member, Show, Verify, InitLog}
use Rattle.mtc_words.specs.declared.command.Command.TheVariants.{Issue, Checkpoint, Entries}
use Rattle.mtc_words.specs.declared.command.Command.TheVariants.{EntriesFrom, Consist, Subtree}
use Rattle.mtc_words.specs.declared.command.Command.TheVariants.{Keygen, InitCosigner, Advance}
use Rattle.mtc_words.specs.declared.command.Command.TheVariants.{Child, Cosign, Export, Landmark}
use Rattle.mtc_words.specs.declared.command.Command.TheVariants.{Landmarks, LightCert}
use Rattle.mtc_words.specs.declared.command.Command.TheVariants.{TrustLandmarks, Cert, Audit}
use Rattle.mtc_words.specs.declared.command.Command.TheVariants.{Quarrel, Drill, Tile, TileAnew}
use Rattle.mtc_words.specs.declared.command.Command.TheVariants.{Switch}
use Rattle.mtc_words.specs.declared.command.Command.TheVariants.{IssueList, LightCerts, Certs}
use Rattle.mtc_words.specs.declared.command.Command.TheVariants.{MirrorAdvance, MirrorCosign}
use Rattle.mtc_words.specs.declared.command.Command.TheVariants.{MirrorEntries, MirrorInit}
use Rattle.mtc_words.specs.declared.command.Command.TheVariants.{MirrorTake, MirrorTile}
use Rattle.mtc_words.specs.declared.command.Command.TheVariants.{Root, Held, MonitorInit, Monitor}
use Rattle.mtc_words.specs.declared.command.Command.TheVariants.{Help, Version}
use Rattle.mtc_mirror_steps.proofs.Stores.{both_store}
use Rattle.mtc_mirror_steps.specs.StepOutcomes.{mirror_advance_outcome, mirror_cosign_outcome}
use Rattle.mtc_plans.proofs.Names.{no_tiles_place}
use Rattle.mtc_plans.specs.Words.{streams}
use Rattle.mtc_top.proofs.Spared.{spared}
use Rattle.mtc_top.proofs.top.perform.Goals as goal

pub returns-in-InitLog-clause-valid : goal.returns-in-InitLog-clause-valid
returns-in-InitLog-clause-valid g c =
    rw c.in-InitLog.is (c.init_log.ensures.valid g.H.TreeHash.hash)

pub returns-in-InitCosigner-clause-valid : goal.returns-in-InitCosigner-clause-valid
returns-in-InitCosigner-clause-valid g c =
    rw c.in-InitCosigner.is (c.init_cosigner.ensures.valid g.H.TreeHash.hash)

pub returns-in-InitLog-clause-began : goal.returns-in-InitLog-clause-began
returns-in-InitLog-clause-began g c = rw c.in-InitLog.is c.init_log.ensures.begins

pub returns-in-InitCosigner-clause-began : goal.returns-in-InitCosigner-clause-began
returns-in-InitCosigner-clause-began g c = rw c.in-InitCosigner.is c.init_cosigner.ensures.begins

pub returns-in-InitLog-clause-spares : goal.returns-in-InitLog-clause-spares
returns-in-InitLog-clause-spares g c = rw c.in-InitLog.is
    (spared g.R.Room c.args.room.now c.init_log.new.room _ c.init_log.ensures.serves.back, tt)

pub returns-in-InitCosigner-clause-spares : goal.returns-in-InitCosigner-clause-spares
returns-in-InitCosigner-clause-spares g c = rw c.in-InitCosigner.is (
  spared g.R.Room c.args.room.now c.init_cosigner.new.room _
      c.init_cosigner.ensures.serves.back,
  tt,
)

pub returns-in-Advance-clause-spares : goal.returns-in-Advance-clause-spares
returns-in-Advance-clause-spares g c = rw c.in-Advance.is
    (spared g.R.Room c.args.room.now c.advance.new.room _ c.advance.ensures.serves.back, tt)

pub returns-in-Child-clause-spares : goal.returns-in-Child-clause-spares
returns-in-Child-clause-spares g c = rw c.in-Child.is
    (spared g.R.Room c.args.room.now c.child.new.room _ c.child.ensures.serves.back, tt)

pub returns-in-Cosign-clause-spares : goal.returns-in-Cosign-clause-spares
returns-in-Cosign-clause-spares g c = rw c.in-Cosign.is
    (spared g.R.Room c.args.room.now c.cosign.new.room _ c.cosign.ensures.serves.back, tt)

pub returns-in-InitLog-clause-stores : goal.returns-in-InitLog-clause-stores
returns-in-InitLog-clause-stores g c = rw c.in-InitLog.is (λ t. (λ named. absurd named, tt))

pub returns-in-InitCosigner-clause-stores : goal.returns-in-InitCosigner-clause-stores
returns-in-InitCosigner-clause-stores g c =
    rw c.in-InitCosigner.is (λ t. (λ named. absurd named, tt))

pub returns-in-Advance-clause-stores : goal.returns-in-Advance-clause-stores
returns-in-Advance-clause-stores g c = rw c.in-Advance.is (λ t. (λ named. absurd named, tt))

pub returns-in-Child-clause-stores : goal.returns-in-Child-clause-stores
returns-in-Child-clause-stores g c = rw c.in-Child.is (λ t. (λ named. absurd named, tt))

pub returns-in-Cosign-clause-stores : goal.returns-in-Cosign-clause-stores
returns-in-Cosign-clause-stores g c = rw c.in-Cosign.is (λ t. (λ named. absurd named, tt))

-- ---- mirrors

pub returns-in-MirrorInit-clause-valid : goal.returns-in-MirrorInit-clause-valid
returns-in-MirrorInit-clause-valid g c =
    rw c.in-MirrorInit.is (c.mirror_init.ensures.valid g.H.TreeHash.hash)

pub returns-in-MirrorInit-clause-began : goal.returns-in-MirrorInit-clause-began
returns-in-MirrorInit-clause-began g c = rw c.in-MirrorInit.is c.mirror_init.ensures.begins

pub returns-in-MirrorInit-clause-spares : goal.returns-in-MirrorInit-clause-spares
returns-in-MirrorInit-clause-spares g c = rw c.in-MirrorInit.is (
  spared g.R.Room c.args.room.now c.mirror_init.new.room _ c.mirror_init.ensures.serves.back,
  tt,
)

pub returns-in-MirrorInit-clause-stores : goal.returns-in-MirrorInit-clause-stores
returns-in-MirrorInit-clause-stores g c =
    rw c.in-MirrorInit.is (λ t. (λ named. absurd named, tt))

pub returns-in-MirrorTake-clause-done : goal.returns-in-MirrorTake-clause-done
returns-in-MirrorTake-clause-done g c =
    rw c.in-MirrorTake.is c.mirror_take.ensures.served.serves

pub returns-in-MirrorTake-clause-valid : goal.returns-in-MirrorTake-clause-valid
returns-in-MirrorTake-clause-valid g c =
    rw c.in-MirrorTake.is c.mirror_take.ensures.served.valid

pub returns-in-MirrorTake-clause-only_read : goal.returns-in-MirrorTake-clause-only_read
returns-in-MirrorTake-clause-only_read g c =
    rw c.in-MirrorTake.is (λ t. (c.mirror_take.ensures.only_read t, tt))

pub returns-in-MirrorTake-clause-spares : goal.returns-in-MirrorTake-clause-spares
returns-in-MirrorTake-clause-spares g c =
    rw c.in-MirrorTake.is (c.mirror_take.ensures.served.spares, tt)

pub returns-in-MirrorTake-clause-stores : goal.returns-in-MirrorTake-clause-stores
returns-in-MirrorTake-clause-stores g c =
    rw c.in-MirrorTake.is c.mirror_take.ensures.served.stores

pub returns-in-MirrorTile-clause-done : goal.returns-in-MirrorTile-clause-done
returns-in-MirrorTile-clause-done g c = rw c.in-MirrorTile.is c.mirror_tile.ensures.serves

pub returns-in-MirrorTile-clause-valid : goal.returns-in-MirrorTile-clause-valid
returns-in-MirrorTile-clause-valid g c = rw c.in-MirrorTile.is c.mirror_tile.ensures.valid

pub returns-in-MirrorTile-clause-spares : goal.returns-in-MirrorTile-clause-spares
returns-in-MirrorTile-clause-spares g c = rw c.in-MirrorTile.is (c.mirror_tile.ensures.spares, tt)

pub returns-in-MirrorTile-clause-stores : goal.returns-in-MirrorTile-clause-stores
returns-in-MirrorTile-clause-stores g c = rw c.in-MirrorTile.is c.mirror_tile.ensures.stores

-- ---- a cosigner and a mirror

pub mirror_advance-requires-clause-apart : goal.mirror_advance-requires-clause-apart
mirror_advance-requires-clause-apart g c =
    let own = subst (λ command. HaveOwnNames (journals_of (command_value command)))
    c.in-MirrorAdvance.is c.requires.own_names in
    no_tiles_place g.R.Room.leads_to c.in-MirrorAdvance.mirror.now
    c.in-MirrorAdvance.cosigner.now own.0

pub returns-in-MirrorAdvance-clause-done : goal.returns-in-MirrorAdvance-clause-done
returns-in-MirrorAdvance-clause-done g c = rw c.in-MirrorAdvance.is c.mirror_advance.ensures.done

pub returns-in-MirrorAdvance-clause-valid : goal.returns-in-MirrorAdvance-clause-valid
returns-in-MirrorAdvance-clause-valid g c = rw c.in-MirrorAdvance.is c.mirror_advance.ensures.valid

pub returns-in-MirrorAdvance-clause-only_read : goal.returns-in-MirrorAdvance-clause-only_read
returns-in-MirrorAdvance-clause-only_read g c =
    rw c.in-MirrorAdvance.is (λ t. (c.mirror_advance.ensures.only_read t, tt))

pub returns-in-MirrorAdvance-clause-spares : goal.returns-in-MirrorAdvance-clause-spares
returns-in-MirrorAdvance-clause-spares g c = rw c.in-MirrorAdvance.is (
  c.mirror_advance.ensures.spares_first,
  (c.mirror_advance.ensures.spares_second, tt),
)

pub returns-in-MirrorAdvance-clause-second : goal.returns-in-MirrorAdvance-clause-second
returns-in-MirrorAdvance-clause-second g c =
    rw c.in-MirrorAdvance.is c.mirror_advance.ensures.second

pub returns-in-MirrorAdvance-clause-stores : goal.returns-in-MirrorAdvance-clause-stores
returns-in-MirrorAdvance-clause-stores g c =
    let s = c.in-MirrorAdvance.cosigner.now in
    let m = c.in-MirrorAdvance.mirror.now in
    let h = g.H.TreeHash.hash in
    let old = c.args.room.now in
    let wanted = mirror_advance_outcome h s m c.in-MirrorAdvance.size (g.R.Room.file old) in
    let differ = subst (λ command. is_named_twice (journals_of (command_value command)) ≡ false)
    c.in-MirrorAdvance.is c.requires.differ in
    rw c.in-MirrorAdvance.is (both_store _ _ g.R.Room g.R.Dsk.Disk h s m wanted old
    c.mirror_advance.new.room _ (names_differ s m differ) c.mirror_advance.ensures)

pub mirror_cosign-requires-clause-apart : goal.mirror_cosign-requires-clause-apart
mirror_cosign-requires-clause-apart g c =
    let own = subst (λ command. HaveOwnNames (journals_of (command_value command)))
    c.in-MirrorCosign.is c.requires.own_names in
    no_tiles_place g.R.Room.leads_to c.in-MirrorCosign.mirror.now
    c.in-MirrorCosign.cosigner.now own.0

pub returns-in-MirrorCosign-clause-done : goal.returns-in-MirrorCosign-clause-done
returns-in-MirrorCosign-clause-done g c = rw c.in-MirrorCosign.is c.mirror_cosign.ensures.done

pub returns-in-MirrorCosign-clause-valid : goal.returns-in-MirrorCosign-clause-valid
returns-in-MirrorCosign-clause-valid g c = rw c.in-MirrorCosign.is c.mirror_cosign.ensures.valid

pub returns-in-MirrorCosign-clause-only_read : goal.returns-in-MirrorCosign-clause-only_read
returns-in-MirrorCosign-clause-only_read g c =
    rw c.in-MirrorCosign.is (λ t. (c.mirror_cosign.ensures.only_read t, tt))

pub returns-in-MirrorCosign-clause-spares : goal.returns-in-MirrorCosign-clause-spares
returns-in-MirrorCosign-clause-spares g c = rw c.in-MirrorCosign.is (
  c.mirror_cosign.ensures.spares_first,
  (c.mirror_cosign.ensures.spares_second, tt),
)

pub returns-in-MirrorCosign-clause-second : goal.returns-in-MirrorCosign-clause-second
returns-in-MirrorCosign-clause-second g c = rw c.in-MirrorCosign.is c.mirror_cosign.ensures.second

pub returns-in-MirrorCosign-clause-stores : goal.returns-in-MirrorCosign-clause-stores
returns-in-MirrorCosign-clause-stores g c =
    let s = c.in-MirrorCosign.cosigner.now in
    let m = c.in-MirrorCosign.mirror.now in
    let h = g.H.TreeHash.hash in
    let old = c.args.room.now in
    let wanted = mirror_cosign_outcome h s m c.in-MirrorCosign.start c.in-MirrorCosign.end
    (g.R.Room.file old) in
    let differ = subst (λ command. is_named_twice (journals_of (command_value command)) ≡ false)
    c.in-MirrorCosign.is c.requires.differ in
    rw c.in-MirrorCosign.is (both_store _ _ g.R.Room g.R.Dsk.Disk h s m wanted old
    c.mirror_cosign.new.room _ (names_differ s m differ) c.mirror_cosign.ensures)

-- ---- none of these

-- a command that no arm took before, and that doesn't write while it reads, has no journal
pub perform_reading-requires-clause-alone : goal.perform_reading-requires-clause-alone
perform_reading-requires-clause-alone g c = go c.args.command refl
  where
    kept : (command : Command) → c.args.command ≡ command
        → streams (command_value command) ≡ true → ⊥
    kept command is writes = true≢false
        (sym writes ∙ (ap (λ x. streams (command_value x)) (sym is) ∙ c.requires.kept))

    go : (command : Command) → c.args.command ≡ command
        → journals_of (command_value command) ≡ []
    go (Member file) is = refl
    go (Show file) is = refl
    go (Verify certificate store unix_time) is = refl
    go (InitLog journal id active limit) is =
        absurd (c.in_default.not-InitLog journal id active limit is)
    go (Issue journal request) is = absurd (c.in_default.not-Issue journal request is)
    go (Checkpoint journal) is = absurd (c.in_default.not-Checkpoint journal is)
    go (Entries journal size) is = absurd (kept (Entries journal size) is refl)
    go (EntriesFrom journal first size) is =
        absurd (kept (EntriesFrom journal first size) is refl)
    go (Consist journal old new) is = absurd (c.in_default.not-Consist journal old new is)
    go (Subtree journal start end size) is =
        absurd (c.in_default.not-Subtree journal start end size is)
    go (Keygen height width secret) is = refl
    go (InitCosigner journal id log top low width secret) is =
        absurd (c.in_default.not-InitCosigner journal id log top low width secret is)
    go (Advance journal request) is = absurd (c.in_default.not-Advance journal request is)
    go (Child journal) is = absurd (c.in_default.not-Child journal is)
    go (Cosign journal request) is = absurd (c.in_default.not-Cosign journal request is)
    go (Export journal) is = absurd (kept (Export journal) is refl)
    go (Landmark journal) is = absurd (c.in_default.not-Landmark journal is)
    go (Landmarks journal) is = absurd (c.in_default.not-Landmarks journal is)
    go (LightCert journal index) is = absurd (c.in_default.not-LightCert journal index is)
    go (TrustLandmarks list active items) is = refl
    go (Cert journal index start end signatures) is =
        absurd (c.in_default.not-Cert journal index start end signatures is)
    go (Audit certificate store unix_time items kept) is = refl
    go (Quarrel kept) is = refl
    go (Drill number) is = refl
    go (Tile journal) is = absurd (c.in_default.not-Tile journal is)
    go (TileAnew journal) is = absurd (c.in_default.not-TileAnew journal is)
    go (Switch journal) is = absurd (c.in_default.not-Switch journal is)
    go (IssueList journal requests) is =
        absurd (c.in_default.not-IssueList journal requests is)
    go (LightCerts journal first last) is =
        absurd (c.in_default.not-LightCerts journal first last is)
    go (Certs journal first last start end signatures) is =
        absurd (c.in_default.not-Certs journal first last start end signatures is)
    go (MirrorInit journal id) is = absurd (c.in_default.not-MirrorInit journal id is)
    go (MirrorTake journal items) is = absurd (c.in_default.not-MirrorTake journal items is)
    go (MirrorTile journal) is = absurd (c.in_default.not-MirrorTile journal is)
    go (MirrorEntries journal size) is = absurd (kept (MirrorEntries journal size) is refl)
    go (MirrorAdvance signer journal size) is =
        absurd (c.in_default.not-MirrorAdvance signer journal size is)
    go (MirrorCosign signer journal start end) is =
        absurd (c.in_default.not-MirrorCosign signer journal start end is)
    go (Root items) is = refl
    go (Held kept) is = refl
    go (MonitorInit id) is = refl
    go (Monitor state watch request items) is = refl
    go Help is = refl
    go Version is = refl
