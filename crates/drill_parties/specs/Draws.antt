-- The draws of a drill. Each is made of a number, and leaves the number for the next one.
use Rattle.std.specs.Prelude.{ℕ, zero, suc, ◌+◌, ◌*◌, ◌/◌, ◌%◌, ◌^◌, ◌==◌, if◌then◌else◌, List}
use Rattle.std.specs.Prelude.{[], ◌∷◌, ◌++◌, Option, Some, None}
use Rattle.drill_parties.specs.declared.round.Round.{Round}
use Rattle.drill_parties.specs.declared.turns.Stop.{Stop}

-- the number after another one: a linear congruential generator of 64 bits
unfoldable pub number_after : ℕ → ℕ
number_after x = (x * 6364136223846793005 + 1442695040888963407) % 2 ^ 64

-- a number below that one, and the number for the next draw
unfoldable pub draw : ℕ → ℕ → ℕ × ℕ
draw below x = ((number_after x / 2 ^ 33) % below, number_after x)

-- a stop within a call
unfoldable pub stop_drawn : ℕ → Stop × ℕ
stop_drawn x =
    let passes = draw 5 x in
    let pick = draw 65536 passes.1 in
    (record { passes = 1 + passes.0; pick = pick.0 }, pick.1)

-- the turn of a call: it is stopped where the draw below 8 is 0
unfoldable pub turn : ℕ → Option Stop × ℕ
turn x =
    let die = draw 8 x in
    if die.0 == 0 then (Some (stop_drawn die.1).0, (stop_drawn die.1).1) else (None, die.1)

-- one turn after others
abbrev pub with_turn : List (Option Stop) × ℕ → List (Option Stop) × ℕ
with_turn before = (before.0 ++ (turn before.1).0 ∷ [], (turn before.1).1)

-- so many turns
unfoldable pub turns : ℕ → ℕ → List (Option Stop) × ℕ
turns zero x = ([], x)
turns (suc count) x = with_turn (turns count x)

-- the landmark of a round: there is one where the draw below 3 is 0
unfoldable pub landmark : ℕ → Option (Option Stop) × ℕ
landmark x =
    let die = draw 3 x in
    if die.0 == 0 then (Some (turn die.1).0, (turn die.1).1) else (None, die.1)

-- a round of a log with so many entries, whose cosigners are three
unfoldable pub round : ℕ → ℕ → Round × ℕ
round size x =
    let count = draw 3 x in
    let entries = turns (1 + count.0) count.1 in
    let advances = turns 3 entries.1 in
    let landmark = landmark advances.1 in
    let index = draw (size + count.0) landmark.1 in
    let signs = turns 3 index.1 in (
      record {
        entries = entries.0;
        advances = advances.0;
        landmark = landmark.0;
        index = 1 + index.0;
        signs = signs.0;
      },
      signs.1,
    )
