-- What comes of reading the files of a command.
use Rattle.std.proofs.Common.{◌≡◌, inl, inr, ℕ, List, [], ◌∷◌, None, codes, refl, ap}
use Rattle.mtc_command.specs.Endings.{IsNamed}
use Rattle.mtc_command.specs.Steps.{Files, Outcome, stops_at}
use Rattle.mtc_command.specs.declared.answer.Stopped.TheVariants.{Beyond, Missing}
use Rattle.command_plans.specs.Found.{AreRead, IsTooLong}
use Rattle.command_plans.specs.Names.{input_names}
use Rattle.command_plans.specs.Outcomes.{read_from}
use Rattle.command_plans.specs.Plans.{Input, IsInputOf, ReadEach}
use Rattle.command_plans.proofs.Steps.{bytes_comes}

-- a file that is read is one by its name
pub input_named : (inputs : List Input) (input : Input) → IsInputOf inputs input
    → IsNamed (input_names inputs) input.name
input_named [] input is = absurd is
input_named (first ∷ rest) input is = elim is [
  | inl same ↦ inl (ap (λ (i : Input). i.name) same)
  | inr other ↦ inr (input_named rest input other)
]

module _ (P : Outcome → Type 0) (files : Files) (inputs : List Input)
    (none : (file : List ℕ) → IsNamed (input_names inputs) file → files file ≡ None
    → P (stops_at Missing file (codes "Absent")))
    (long : (file : List ℕ) → IsTooLong files inputs file
    → P (stops_at Beyond file (codes "TooLong"))) where
  pub read_comes : (rest : List Input)
      (among : (input : Input) → IsInputOf rest input → IsInputOf inputs input)
      (next : Files → ReadEach inputs rest → Outcome)
      → ((read : ReadEach inputs rest) → AreRead files inputs rest read → P (next files read))
      → P (read_from inputs rest among files next)
  read_comes [] among next done = done tt tt
  read_comes (input ∷ rest) among next done =
      let is_input = among input (inl refl) in
      bytes_comes P input.limit input.name (files input.name) _
      (λ is. none input.name (input_named inputs input is_input) is)
      (λ bytes is many. long input.name (record {
        input = input;
        is_input = is_input;
        named = refl;
        bytes = bytes;
        there = is;
        many = many;
      }))
      (λ bytes is few. read_comes rest (λ other is_other. among other (inr is_other)) _
      (λ read are. done (record { file = input; text = bytes; is_input = is_input }, read)
      (record { is = refl; there = is; few = few }, are)))
