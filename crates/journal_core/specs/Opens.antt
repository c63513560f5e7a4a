-- Why a file is not read on.
use Rattle.std.specs.Prelude.{◌≡◌, ◌≢◌, ℕ, List, take, IfSome}
use Rattle.byte_formats.specs.Types.{Text}
use Rattle.mtc_io.specs.Counts.{Rose}
use Rattle.disk_core.specs.declared.disk.Disk.{Ghosts}
use Rattle.journal_core.specs.Format.{header, IsBadLengthAt, IsCutShortAt}
use Rattle.journal_core.specs.Walk.{walk_of, at_bad_length, at_cut}
use Rattle.journal_core.specs.declared.error.OpenError.{OpenError}
use Rattle.journal_core.specs.declared.error.OpenError.TheVariants.{NotJournal, BadLength, CutShort}
use Rattle.journal_core.specs.declared.error.OpenError.TheVariants.{Failed, Memory}

-- the cause of a refusal at an offset, over the disk before the call and after it
abbrev pub HasReason : {D : Type 0} → Ghosts D → D → D → ℕ → OpenError → Type 0
HasReason g old new place NotJournal = IfSome (g.contents old) (λ bytes. take 16 bytes ≢ header)
HasReason g old new place (BadLength at) = (at ≡ place)
    × IfSome (g.contents old) (λ bytes. IsBadLengthAt bytes place)
HasReason g old new place (CutShort at) = (at ≡ place)
    × IfSome (g.contents old) (λ bytes. IsCutShortAt bytes place)
HasReason g old new place Failed = Rose (g.faults old) (g.faults new)
HasReason g old new place Memory = Unit {0}

-- after the header a file is refused for what stands at the offset, or for a failure
abbrev pub IsOfRecord : OpenError → Type 0
IsOfRecord NotJournal = ⊥
IsOfRecord (BadLength at) = Unit {0}
IsOfRecord (CutShort at) = Unit {0}
IsOfRecord Failed = Unit {0}
IsOfRecord Memory = ⊥

-- the header is refused, or the disk failed, or memory ran out
abbrev pub IsOfHeader : OpenError → Type 0
IsOfHeader NotJournal = Unit {0}
IsOfHeader (BadLength at) = ⊥
IsOfHeader (CutShort at) = ⊥
IsOfHeader Failed = Unit {0}
IsOfHeader Memory = Unit {0}

-- the walk of the bytes finds these records and ends as the refusal says
abbrev pub IsWalkTo : OpenError → Text → List Text → Type 0
IsWalkTo NotJournal bytes list = Unit {0}
IsWalkTo (BadLength at) bytes list =
    walk_of bytes ≡ record { records = list; end = at_bad_length at }
IsWalkTo (CutShort at) bytes list = walk_of bytes ≡ record { records = list; end = at_cut at }
IsWalkTo Failed bytes list = Unit {0}
IsWalkTo Memory bytes list = Unit {0}
