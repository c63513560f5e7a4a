-- The bytes of the files of a plan, and what is reported of them.
use Rattle.std.proofs.Common.{◌≡◌, inl, inr, ℕ, Bool, true, false, List, [], ◌∷◌, None, refl, ap}
use Rattle.std.proofs.Common.{if◌then◌else◌}
use Rattle.mtc_command.specs.Answers.{Reply}
use Rattle.mtc_command.specs.Made.{reads}
use Rattle.mtc_command.specs.Steps.{Outcome, answers_on}
use Rattle.mtc_command.specs.Wanted.{Wanted, exactly}
use Rattle.command_plans.specs.Outcomes.{opened_did, wanted_of}
use Rattle.command_plans.specs.Plans.{Input, Judged, Read}
use Rattle.mtc_plans.specs.Steps.{StepReport}

-- ---- what is read

abbrev pub first_read : (one : Input) (rest : List Input) → List ℕ → Read (one ∷ rest)
first_read one rest text = record { file = one; text = text; is_input = inl refl }

abbrev pub second_read : (one two : Input) (rest : List Input) → List ℕ → Read (one ∷ (two ∷ rest))
second_read one two rest text =
    record { file = two; text = text; is_input = inr (inl refl) }

abbrev pub third_read : (one two three : Input) (rest : List Input) → List ℕ
    → Read (one ∷ (two ∷ (three ∷ rest)))
third_read one two three rest text =
    record { file = three; text = text; is_input = inr (inr (inl refl)) }

abbrev pub fourth_read : (one two three four : Input) (rest : List Input) → List ℕ
    → Read (one ∷ (two ∷ (three ∷ (four ∷ rest))))
fourth_read one two three four rest text =
    record { file = four; text = text; is_input = inr (inr (inr (inl refl))) }

-- ---- what is reported

-- without a journal
abbrev pub reported_alone : Judged → Outcome
reported_alone judged = record { answer = wanted_of judged; journals = [] }

-- over an open journal with these records
abbrev pub reported_on : List (List ℕ) → StepReport → Outcome
reported_on list reported = record {
  answer = wanted_of reported.0;
  journals = opened_did list reported.1 ∷ [];
}

-- one of two answers
pub either_same : (test : Bool) (one other : Reply) (first second : Judged)
    → exactly one ≡ wanted_of first → exactly other ≡ wanted_of second
    → exactly (if test then one else other) ≡ wanted_of (if test then first else second)
either_same true one other first second so not = so
either_same false one other first second so not = not

pub on_list : (list : List (List ℕ)) (reply : Reply) (judged : Judged)
    → exactly reply ≡ wanted_of judged → answers_on list reply ≡ reported_on list (judged, None)
on_list list reply judged same =
    let F : Wanted → Outcome = λ wanted. record { answer = wanted; journals = reads list ∷ [] } in
    ap F same
