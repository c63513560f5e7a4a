use Rattle.std.proofs.Common.{◌≡◌, ◌≤◌, ◌+◌, ◌*◌, ◌-◌, length}
use Rattle.std.specs.Io.KnownBytes.{Consumes}
use Rattle.byte_formats.specs.Types.{Text}
use Rattle.entry_list.specs.Items.{ItemLists}
use Rattle.entry_stream.proofs.Readings.{IsReading}
use Rattle.entry_stream.proofs.folding.fold_items.Given as goal

-- the fold took these items of the bytes that the source gave, which aren't too many
pub record Invariant (g : goal.Over) (l : goal.Live-each g) : Type 0 where
  pub read : Text
  pub gave : Consumes (g.S.Source.left l.initial.source) (g.S.Source.left l.source) read
  pub total : length read ≡ l.total
  pub within : l.total ≤ l.limit
  pub list : ItemLists
  pub taken : g.F.ItemFold.has_taken l.fold list
  pub many : l.items ≡ length list.entries
  pub reading : IsReading g.H.TreeHash.hash read l.window list
  pub same : g.F.ItemFold.made_with l.fold ≡ g.F.ItemFold.made_with l.initial.fold
  pub kept : g.F.ItemFold.purpose l.fold ≡ g.F.ItemFold.purpose l.initial.fold
  pub count : g.S.Source.faults l.source ≡ g.S.Source.faults l.initial.source

abbrev pub invariant-each : goal.invariant-each
invariant-each g l = Invariant g l

-- a byte that is read is pending, and an item that is taken isn't
abbrev pub decreases-each : goal.decreases-each
decreases-each g l = 2 * (l.limit - l.total) + length l.window
