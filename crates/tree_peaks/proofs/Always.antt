-- The laws of peaks.
use Rattle.byte_formats.specs.Types.{HashFunction}
use Rattle.tree_peaks.proofs.Pushing.{no_leaves, takes-leaf, takes-leaves}
use Rattle.tree_peaks.proofs.Tops.{count-peaks, peaks-at, peaks-none}
use Rattle.tree_peaks.specs.PeakLaws.{ArePeaks, PeaksTakeLeaves}

pub ArePeaks_always : (h : HashFunction) → ArePeaks h
ArePeaks_always h = record { none = peaks-none h; more = peaks-at h; count = count-peaks h }

pub PeaksTakeLeaves_always : (h : HashFunction) → PeaksTakeLeaves h
PeaksTakeLeaves_always h = record {
  none = no_leaves h;
  one = takes-leaf h;
  more = takes-leaves h;
}
