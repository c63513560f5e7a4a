-- A further lower tree of a cosigner: its record, and what is refused of it.
use Rattle.std.specs.Prelude.{◌≡◌, ℕ, ◌-◌, ◌==◌, nat_lt, not, Bool, [], Option, Some, None, IfSome}
use Rattle.std.specs.Prelude.{Result, Ok, Err, if◌then◌else◌}
use Rattle.byte_formats.specs.Types.{Text}
use Rattle.hss_keys.specs.Keys.{lower_key, most_children}
use Rattle.journal_core.specs.declared.error.AppendError.{AppendError}
use Rattle.journal_core.specs.declared.error.AppendError.TheVariants as append_error
use Rattle.lms_core.specs.declared.heights.LmsType.{LmsType}
use Rattle.lms_core.specs.declared.private_key.PrivateKey.{PrivateKey}
use Rattle.cosigner_core.specs.Folds.{CosignerState, key_count}
use Rattle.cosigner_core.specs.Records.{child_record}
use Rattle.cosigner_core.specs.Refusals.{append_refusal_as, earlier}
use Rattle.cosigner_core.specs.declared.error.ChildError.{ChildError}
use Rattle.cosigner_core.specs.declared.error.ChildError.TheVariants.{OneLevel, ChildLeft}
use Rattle.cosigner_core.specs.declared.error.ChildError.TheVariants.{Exhausted, Append, Memory}

-- the record of lower tree c, where there are lower trees
abbrev pub child_text : ℕ → Option LmsType → Text
child_text c None = []
child_text c (Some low) = child_record c low

-- The record of the next lower tree of a cosigner.
abbrev pub next_child : CosignerState → Text
next_child s = child_text s.key.children s.key.key.low

-- of a further lower tree, by the height of the lower trees: a key of one level; a newest lower
-- tree with so many one-time keys left; an upper tree whose one-time keys have all signed
abbrev pub child_refusal_with : Option LmsType → CosignerState → Option ChildError
child_refusal_with None s = Some OneLevel
child_refusal_with (Some low) s =
    if not (key_count s - s.key.next == 0) then Some (ChildLeft (key_count s - s.key.next))
    else (if not (nat_lt s.key.children (most_children s.key.key.top.lms s.key.key.low))
    then Some Exhausted else None)

-- The refusal of a further lower tree.
unfoldable pub child_refusal : CosignerState → Option ChildError
child_refusal s = child_refusal_with s.key.key.low s

-- The refusal of a further lower tree, and then of its record.
abbrev pub child_refused : CosignerState → Bool → ℕ → Option ChildError
child_refused s broken end =
    earlier (child_refusal s) (append_refusal_as Append broken end (next_child s))

-- the journal's refusal, where it is one
abbrev pub of_child_journal : ChildError → Option AppendError
of_child_journal OneLevel = None
of_child_journal (ChildLeft left) = None
of_child_journal Exhausted = None
of_child_journal (Append why) = Some why
of_child_journal Memory = None

-- The answer follows that refusal. A failure may be reported if there is none. Memory may be
-- refused instead of what the record is answered, if nothing else is refused.
abbrev pub ChildKeepsTo : CosignerState → Bool → ℕ → Result ℕ ChildError → Type 0
ChildKeepsTo s broken end (Ok child) = child_refused s broken end ≡ None
ChildKeepsTo s broken end (Err OneLevel) = child_refused s broken end ≡ Some OneLevel
ChildKeepsTo s broken end (Err (ChildLeft left)) =
    child_refused s broken end ≡ Some (ChildLeft left)
ChildKeepsTo s broken end (Err Exhausted) = child_refused s broken end ≡ Some Exhausted
ChildKeepsTo s broken end (Err (Append append_error.Broken)) =
    child_refused s broken end ≡ Some (Append append_error.Broken)
ChildKeepsTo s broken end (Err (Append append_error.Full)) =
    child_refused s broken end ≡ Some (Append append_error.Full)
ChildKeepsTo s broken end (Err (Append append_error.Failed)) = child_refused s broken end ≡ None
ChildKeepsTo s broken end (Err Memory) = child_refusal s ≡ None

-- a refusal by the key
abbrev pub IsOfKey : ChildError → Type 0
IsOfKey OneLevel = Unit {0}
IsOfKey (ChildLeft left) = Unit {0}
IsOfKey Exhausted = Unit {0}
IsOfKey (Append why) = ⊥
IsOfKey Memory = ⊥

-- The lower trees have this height and a further one is to be made, or this is the refusal.
abbrev pub TestsChild : CosignerState → Result LmsType ChildError → Type 0
TestsChild s (Ok low) = (child_refusal s ≡ None) × (s.key.key.low ≡ Some low)
TestsChild s (Err why) = (child_refusal s ≡ Some why) × IsOfKey why

-- The next lower tree was made, or it isn't to be made, or memory was refused.
abbrev pub PreparesChild : CosignerState → Result PrivateKey ChildError → Type 0
PreparesChild s (Ok lower) = (child_refusal s ≡ None)
    × IfSome s.key.key.low (λ low. lower ≡ lower_key s.key.key.top low s.key.children)
PreparesChild s (Err OneLevel) = child_refusal s ≡ Some OneLevel
PreparesChild s (Err (ChildLeft left)) = child_refusal s ≡ Some (ChildLeft left)
PreparesChild s (Err Exhausted) = child_refusal s ≡ Some Exhausted
PreparesChild s (Err (Append why)) = ⊥
PreparesChild s (Err Memory) = child_refusal s ≡ None
