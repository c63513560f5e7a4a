use Rattle.std.proofs.Common.{◌≡◌, ◌∷◌, ◌++◌, decimal, string_bytes, take}
use Rattle.std.specs.List.{flat_map}
use Rattle.landmarks.specs.Landmarks.{active_count}
use Rattle.landmarks.specs.Texts.{line}
use Rattle.landmarks.proofs.writing.write_list.Given as goal

-- Line 0 and the lines of the sizes so far.
abbrev pub invariant-loop-size : goal.invariant-loop-size
invariant-loop-size l =
    string_bytes l.text
    ≡ decimal l.l.last ++ (0x20 ∷ line (active_count l.l)
    ++ flat_map line (take l.size-index l.l.sizes))
