-- A refusal, or none, as what a call returns.
use Rattle.std.specs.Prelude.{Option, Some, None, Result, Ok, Err}

-- A refusal as an answer: Ok where there is none.
abbrev pub answer_of : {E : Type 0} → Option E → Result (Unit {0}) E
answer_of None = Ok tt
answer_of (Some refusal) = Err refusal
