-- What `trust-landmarks` answers by the list of landmarks, once it has read the entries.
use Rattle.std.proofs.Common.{◌≡◌, ℕ, List, length, Ok, sym, ap, subst, ◌∙◌}
use Rattle.byte_formats.specs.Types.{HashFunction, Text}
use Rattle.landmarks.specs.Landmarks.{LandmarkList}
use Rattle.landmarks.specs.Reasons.{list_fault_text}
use Rattle.landmarks.specs.Texts.{list_of}
use Rattle.landmarks.specs.declared.error.ListError.{ListError}
use Rattle.std.specs.Prelude.{Result}
use Rattle.mtc_command.specs.Answers.{Ending, replied, said}
use Rattle.mtc_command.specs.Endings.{Replies}
use Rattle.mtc_command.specs.Steps.{says, with_form}
use Rattle.mtc_command.specs.declared.answer.Answer.{Answer}
use Rattle.mtc_command.specs.declared.answer.Said.TheVariants.{Done}
use Rattle.mtc_relying.specs.TrustOutcome.{list_says, trust_text}

pub listed_replies : (h : HashFunction) (list text : Text) (most count : ℕ) (l : LandmarkList)
    (entries : List Text) (tables : Text) (answer : Answer) → list_of text most count ≡ Ok l
    → count ≡ length entries → tables ≡ trust_text h entries l
    → answer ≡ record { status = Done; text = tables }
    → Replies (list_says h list most text entries).answer
    (replied (said answer.status answer.text))
listed_replies h list text most count l entries tables answer read many is says_so =
    subst (λ (a : Answer). Replies (list_says h list most text entries).answer
    (replied (said a.status a.text))) (sym says_so)
    (subst (λ (r : Result LandmarkList ListError). Replies (with_form list_fault_text list r
    (λ l. says Done (trust_text h entries l))).answer (replied (said Done tables)))
    (sym (ap (list_of text most) (sym many) ∙ read))
    (ap (said Done) is, λ bad. absurd cc))
