use Rattle.std.proofs.Common.{◌≡◌, false, refl}
use Rattle.mtc_words.specs.Commands.{command_value}
use Rattle.mtc_words.specs.declared.command.Command.{Command}
use Rattle.mtc_words.specs.declared.command.Command.TheVariants.{Entries, EntriesFrom}
use Rattle.mtc_words.specs.declared.command.Command.TheVariants.{Export, MirrorEntries}
use Rattle.mtc_lines.proofs.Outputs.{some_ending, streams_so}
use Rattle.mtc_plans.specs.Words.{streams}
use Rattle.mtc_top.proofs.Spared.{spared}
use Rattle.mtc_top.proofs.top.carry_out.Goals as goal

pub returns-in-Export-clause-done : goal.returns-in-Export-clause-done
returns-in-Export-clause-done g c = rw c.in-Export.is (
  refl,
  streams_so g.O.Sink c.args.out.now c.export.new.out _ _ (λ ending served. (served, (tt, tt)))
      c.export.result c.export.ensures.streams,
)

pub returns-in-Export-clause-spares : goal.returns-in-Export-clause-spares
returns-in-Export-clause-spares g c =
    let served = some_ending g.O.Sink c.args.out.now c.export.new.out _ c.export.result
    c.export.ensures.streams in
    rw c.in-Export.is (spared g.R.Room c.args.room.now c.export.new.room _ served.1.back, tt)

pub returns-in-Export-clause-stores : goal.returns-in-Export-clause-stores
returns-in-Export-clause-stores g c = rw c.in-Export.is (λ t. (λ named. absurd named, tt))

-- any other command has written nothing
pub perform-requires-clause-kept : goal.perform-requires-clause-kept
perform-requires-clause-kept g c = go c.args.command refl
  where
    go : (command : Command) → c.args.command ≡ command
        → streams (command_value command) ≡ false
    go (Entries journal size) is = absurd (c.in_default.not-Entries journal size is)
    go (EntriesFrom journal first size) is =
        absurd (c.in_default.not-EntriesFrom journal first size is)
    go (Export journal) is = absurd (c.in_default.not-Export journal is)
    go (MirrorEntries journal size) is =
        absurd (c.in_default.not-MirrorEntries journal size is)
    go other is = refl

pub returns-in-Entries-clause-done : goal.returns-in-Entries-clause-done
returns-in-Entries-clause-done g c = rw c.in-Entries.is (
  refl,
  streams_so g.O.Sink c.args.out.now c.stream_log.new.out _ _ (λ ending served. (served, (tt, tt)))
      c.stream_log.result c.stream_log.ensures.streams,
)

pub returns-in-Entries-clause-valid : goal.returns-in-Entries-clause-valid
returns-in-Entries-clause-valid g c = rw c.in-Entries.is c.stream_log.ensures.valid

pub returns-in-Entries-clause-only_read : goal.returns-in-Entries-clause-only_read
returns-in-Entries-clause-only_read g c =
    rw c.in-Entries.is (λ t. (c.stream_log.ensures.only_read t, tt))

pub returns-in-Entries-clause-spares : goal.returns-in-Entries-clause-spares
returns-in-Entries-clause-spares g c = rw c.in-Entries.is (c.stream_log.ensures.spares, tt)

pub returns-in-Entries-clause-stores : goal.returns-in-Entries-clause-stores
returns-in-Entries-clause-stores g c = rw c.in-Entries.is c.stream_log.ensures.stores

pub returns-in-EntriesFrom-clause-done : goal.returns-in-EntriesFrom-clause-done
returns-in-EntriesFrom-clause-done g c = rw c.in-EntriesFrom.is (
  refl,
  streams_so g.O.Sink c.args.out.now c.stream_log-in-EntriesFrom.new.out _ _
      (λ ending served. (served, (tt, tt))) c.stream_log-in-EntriesFrom.result
      c.stream_log-in-EntriesFrom.ensures.streams,
)

pub returns-in-EntriesFrom-clause-valid : goal.returns-in-EntriesFrom-clause-valid
returns-in-EntriesFrom-clause-valid g c =
    rw c.in-EntriesFrom.is c.stream_log-in-EntriesFrom.ensures.valid

pub returns-in-EntriesFrom-clause-only_read : goal.returns-in-EntriesFrom-clause-only_read
returns-in-EntriesFrom-clause-only_read g c =
    rw c.in-EntriesFrom.is (λ t. (c.stream_log-in-EntriesFrom.ensures.only_read t, tt))

pub returns-in-EntriesFrom-clause-spares : goal.returns-in-EntriesFrom-clause-spares
returns-in-EntriesFrom-clause-spares g c =
    rw c.in-EntriesFrom.is (c.stream_log-in-EntriesFrom.ensures.spares, tt)

pub returns-in-EntriesFrom-clause-stores : goal.returns-in-EntriesFrom-clause-stores
returns-in-EntriesFrom-clause-stores g c =
    rw c.in-EntriesFrom.is c.stream_log-in-EntriesFrom.ensures.stores

pub returns-in-MirrorEntries-clause-done : goal.returns-in-MirrorEntries-clause-done
returns-in-MirrorEntries-clause-done g c = rw c.in-MirrorEntries.is (
  refl,
  streams_so g.O.Sink c.args.out.now c.mirror_entries.new.out _ _
      (λ ending served. (served.serves, (tt, tt))) c.mirror_entries.result
      c.mirror_entries.ensures.streams,
)

pub returns-in-MirrorEntries-clause-valid : goal.returns-in-MirrorEntries-clause-valid
returns-in-MirrorEntries-clause-valid g c =
    let served = some_ending g.O.Sink c.args.out.now c.mirror_entries.new.out _
    c.mirror_entries.result c.mirror_entries.ensures.streams in
    rw c.in-MirrorEntries.is served.1.valid

pub returns-in-MirrorEntries-clause-only_read : goal.returns-in-MirrorEntries-clause-only_read
returns-in-MirrorEntries-clause-only_read g c =
    rw c.in-MirrorEntries.is (λ t. (c.mirror_entries.ensures.only_read t, tt))

pub returns-in-MirrorEntries-clause-spares : goal.returns-in-MirrorEntries-clause-spares
returns-in-MirrorEntries-clause-spares g c =
    let served = some_ending g.O.Sink c.args.out.now c.mirror_entries.new.out _
    c.mirror_entries.result c.mirror_entries.ensures.streams in
    rw c.in-MirrorEntries.is (served.1.spares, tt)

pub returns-in-MirrorEntries-clause-stores : goal.returns-in-MirrorEntries-clause-stores
returns-in-MirrorEntries-clause-stores g c =
    let served = some_ending g.O.Sink c.args.out.now c.mirror_entries.new.out _
    c.mirror_entries.result c.mirror_entries.ensures.streams in
    rw c.in-MirrorEntries.is served.1.stores
