-- The tables of subtrees, in one pass over a list.
use Rattle.std.specs.Prelude.{◌≡◌, ℕ, ◌+◌, ◌<◌, ◌≤◌, ◌==◌, List, [], ◌∷◌, ◌++◌, length, map}
use Rattle.std.specs.Prelude.{slice_index, Option, None, Some, if◌then◌else◌}
use Rattle.std.specs.List.{AllByRecursion, concat}
use Rattle.byte_formats.specs.Types.{HashFunction, Text}
use Rattle.landmarks.specs.Landmarks.{LandmarkList}
use Rattle.tree_core.specs.Laws.{IsSubtree}
use Rattle.tree_core.specs.Tree.{leaf_hash}
use Rattle.tree_core.specs.declared.spans.Cover.{Cover}
use Rattle.tree_core.specs.declared.spans.Span.{Span}
use Rattle.tree_peaks.specs.Peaks.{ArePeaksOf, PeaksState}
use Rattle.mtc_relying.specs.TrustOutcome.{subtree_table, trust_text}

-- ---- subtrees

-- These are subtrees, of which each ends above the one before it, and the first above this number.
abbrev pub AreInOrder : ℕ → List Span → Type 0
AreInOrder before [] = Unit {0}
AreInOrder before (span ∷ rest) =
    IsSubtree span.start span.end × ((before < span.end) × AreInOrder span.end rest)

-- They end by this number.
abbrev pub EndBy : ℕ → List Span → Type 0
EndBy size = AllByRecursion (λ span. span.end ≤ size)

-- The one subtree or the two of a cover.
abbrev pub second_span : Option Span → List Span
second_span None = []
second_span (Some span) = span ∷ []

abbrev pub spans_of : Cover → List Span
spans_of cover = cover.first ∷ second_span cover.second

-- They are those of the active landmarks.
pub record AreSubtreesOf (l : LandmarkList) (spans : List Span) : Type 0 where
  pub order : AreInOrder 0 spans
  pub within : EndBy (slice_index l.sizes 0) spans
  pub tables : (h : HashFunction) (entries : List Text)
      → concat (map (subtree_table h entries) spans) ≡ trust_text h entries l

-- ---- their tables

-- The first of them, if it ends with the entry after so many.
abbrev pub closing_of : List Span → ℕ → Option Span
closing_of [] size = None
closing_of (span ∷ rest) size = if span.end == size + 1 then Some span else None

-- Subtrees, how many of them have a table, these tables, and the peaks of a list so far.
pub record TablesState : Type 0 where
  pub spans : List Span
  pub done : ℕ
  pub text : Text
  pub peaks : PeaksState

-- The list has these entries, and the subtrees that end in it have their tables.
pub record HasTables (h : HashFunction) (t : TablesState) (entries : List Text) : Type 0 where
  pub peaks : ArePeaksOf h (map (leaf_hash h) entries) t.peaks
  pub first : List Span
  pub left : List Span
  pub whole : t.spans ≡ first ++ left
  pub done : t.done ≡ length first
  pub text : t.text ≡ concat (map (subtree_table h entries) first)
  pub ended : EndBy (length entries) first
  pub later : AreInOrder (length entries) left
