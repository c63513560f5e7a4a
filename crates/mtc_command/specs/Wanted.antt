-- Which replies a command has to give.
use Rattle.std.specs.Prelude.{◌≡◌, ◌≢◌, Bool, true, List, Contains}
use Rattle.byte_formats.specs.Types.{HashFunction, Text}
use Rattle.mtc_command.specs.Answers.{Reply, said, refused}
use Rattle.mtc_command.specs.declared.answer.Said.{Said}

-- The replies from which a command may choose.
pub data Wanted : Type 0 where
  -- This reply.
  exactly : Reply → Wanted
  -- A text of this form, with this status.
  formed : Said → (Text → Bool) → Wanted
  -- Two different strings with one hash, one of each list, encoded so, with this status.
  pair_of : Said → HashFunction → (Text → Text → Text)
      → List Text → List Text → Wanted

-- The text is of two different strings with one hash, the first of one list and the second of the
-- other.
pub record IsPair (h : HashFunction) (encoded : Text → Text → Text)
    (firsts seconds : List Text) (text : Text) : Type 0 where
  pub x : Text
  pub y : Text
  pub first : Contains firsts x
  pub second : Contains seconds y
  pub differ : x ≢ y
  pub one_hash : h x ≡ h y
  pub is : text ≡ encoded x y

-- The reply is one that is wanted.
abbrev pub Meets : Wanted → Reply → Type 0
Meets (exactly wanted) reply = reply ≡ wanted
Meets (formed status form) (said kind text) = (kind ≡ status) × (form text ≡ true)
Meets (formed status form) (refused why file reason) = ⊥
Meets (pair_of status h encoded firsts seconds) (said kind text) =
    (kind ≡ status) × IsPair h encoded firsts seconds text
Meets (pair_of status h encoded firsts seconds) (refused why file reason) = ⊥
