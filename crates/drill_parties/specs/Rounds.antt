-- The rounds of a drill, of which nothing but the draws is known: how many entries the log has, the
-- sizes at its landmarks, the stops, and of which entry and size each certificate is.
use Rattle.std.specs.Prelude.{ℕ, zero, suc, ◌+◌, List, [], ◌∷◌, ◌++◌, length, Option, Some, None}
use Rattle.std.specs.Option.{is_some}
use Rattle.std.specs.List.{count_by}
use Rattle.drill_parties.specs.Draws.{round}
use Rattle.drill_parties.specs.declared.round.Round.{Round}
use Rattle.drill_parties.specs.declared.turns.Stop.{Stop}

-- A drill so far: the number for its next draw, the entries, the landmarks, and the stops.
pub record Drill : Type 0 where
  pub next : ℕ
  pub size : ℕ
  pub marks : List ℕ
  pub stops : ℕ
  -- of each certificate its index, and the size at which it was written
  pub written : List (ℕ × ℕ)

-- a new log has the null entry
abbrev pub begun : ℕ → Drill
begun number = record { next = number; size = 1; marks = []; stops = 0; written = [] }

-- how many of these are stopped
abbrev pub stops_in : List (Option Stop) → ℕ
stops_in turns = count_by is_some turns

-- the turn of the landmark as a list, if there is one
abbrev pub landmark_turns : Option (Option Stop) → List (Option Stop)
landmark_turns None = []
landmark_turns (Some turn) = turn ∷ []

-- the stops of a round
abbrev pub stops_of : Round → ℕ
stops_of r =
    stops_in r.entries + stops_in r.advances + stops_in (landmark_turns r.landmark)
    + stops_in r.signs

-- the landmarks after a round that ends at this size
abbrev pub marks_after : List ℕ → Option (Option Stop) → ℕ → List ℕ
marks_after marks None size = marks
marks_after marks (Some turn) size = marks ++ size ∷ []

-- the drill after this round
abbrev pub following_round : Drill → Round → ℕ → Drill
following_round d r next =
    let size = d.size + length r.entries in
    record {
      next = next;
      size = size;
      marks = marks_after d.marks r.landmark size;
      stops = d.stops + stops_of r;
      written = d.written ++ (r.index, size) ∷ [];
    }

-- the drill after its next round
unfoldable pub after_round : Drill → Drill
after_round d = following_round d (round d.size d.next).0 (round d.size d.next).1

-- the drill after so many rounds
unfoldable pub after_rounds : ℕ → Drill → Drill
after_rounds zero d = d
after_rounds (suc count) d = after_round (after_rounds count d)

-- The drill with a number: sixteen rounds.
abbrev pub drill_of : ℕ → Drill
drill_of number = after_rounds 16 (begun number)
