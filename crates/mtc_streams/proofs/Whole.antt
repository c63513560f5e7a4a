-- A source that was read to its end gave the bytes of its file.
use Rattle.std.proofs.Common.{◌≡◌, ℕ, ◌++◌, Option, None, Some, IsSome, sym, ap, subst, ◌∙◌}
use Rattle.std.proofs.Common.{append-nil, rules}
use Rattle.std.specs.Io.KnownBytes.{Consumes, IsAtEnd}
use Rattle.byte_formats.specs.Types.{Text}
use Rattle.entry_stream.specs.Streams.{IsReadWhole}
use Rattle.mtc_room.specs.Room.{OpensBytes}
use Rattle.mtc_streams.specs.Inputs.{IsStreamed}

all_given : (left left' : Option Text) (bytes : Text) → Consumes left left' bytes → IsAtEnd left'
    → IsSome left → left ≡ Some bytes
all_given None left' bytes gave spent there = absurd (grind (rules, there))
all_given (Some xs) None bytes gave spent there = absurd gave
all_given (Some xs) (Some ys) bytes gave spent there =
    ap (λ (t : Text). Some t) (gave ∙ ap (λ (t : Text). bytes ++ t) spent ∙ append-nil bytes)

pub file_read : (Models : Type 0) (file left left' : Option Text) (limit : ℕ)
    (Holds : Text → Type 0) → (Models → OpensBytes file left)
    → IsReadWhole limit left left' Holds → IsStreamed Models limit file Holds
file_read Models file left left' limit Holds opens read = record {
  bytes = read.bytes;
  is = λ t. let opened = opens t in (
    sym opened.same
        ∙ all_given left left' read.bytes read.whole read.spent
        (subst IsSome (sym opened.same) opened.there),
    read.within,
  );
  holds = read.holds;
}
