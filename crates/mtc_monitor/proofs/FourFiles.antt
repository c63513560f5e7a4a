-- A command after each of the four files that it reads.
use Rattle.std.proofs.Common.{◌≡◌, ◌≤◌, ℕ, List, [], ◌∷◌, length, Option, Some, inl, inr, refl, ap}
use Rattle.std.proofs.Common.{subst, ◌∙◌, arith}
use Rattle.disk_core.specs.declared.disk.Disk.{Ghosts as Disks}
use Rattle.mtc_room.specs.declared.room.Room.{Ghosts as Rooms}
use Rattle.byte_formats.specs.Types.{Text}
use Rattle.mtc_command.specs.Answers.{Ending}
use Rattle.mtc_command.specs.Served.{ClosesAll, HasAnswered}
use Rattle.mtc_command.specs.Steps.{Outcome, with_bytes}
use Rattle.mtc_command.specs.Endings.{IsNamed, Replies}
use Rattle.mtc_command.proofs.Inputs.{after_file}
use Rattle.mtc_command.proofs.Served.{following}

module _ (says : Text → Text → Text → Text → Outcome) (one two three four : Text) where
  -- What is to be answered where the files from here on hold this, and the bytes of the ones before
  -- are known.
  abbrev pub from_fourth : Option Text → Text → Text → Text → Outcome
  from_fourth f4 a b c = with_bytes 8589934592 four f4 (λ d. says a b c d)

  abbrev pub from_third : Option Text → Option Text → Text → Text → Outcome
  from_third f3 f4 a b = with_bytes 16777216 three f3 (λ c. from_fourth f4 a b c)

  abbrev pub from_second : Option Text → Option Text → Option Text → Text → Outcome
  from_second f2 f3 f4 a = with_bytes 16777216 two f2 (λ b. from_third f3 f4 a b)

  abbrev pub from_first : Option Text → Option Text → Option Text → Option Text → Outcome
  from_first f1 f2 f3 f4 = with_bytes 16777216 one f1 (λ a. from_second f2 f3 f4 a)

  abbrev pub names : List Text
  names = one ∷ two ∷ three ∷ four ∷ []

  -- the bytes that were read are these
  module _ (sa sb sc a b c : Text) (is_a : sa ≡ a) (is_b : sb ≡ b) (is_c : sc ≡ c) where
    pub says_so : (d : Text) → says sa sb sc d ≡ says a b c d
    says_so d =
        ap (λ t. says t sb sc d) is_a
        ∙ ap (λ t. says a t sc d) is_b
        ∙ ap (λ t. says a b t d) is_c

    pub replies_so : (ending : Ending) (d : Text) → Replies (says sa sb sc d).answer ending
        → Replies (says a b c d).answer ending
    replies_so ending d = subst (λ (w : Outcome). Replies w.answer ending) (says_so d)

  module _ {R S D : Type 0} (rooms : Rooms R S D) (disks : Disks D) (old mid new : R)
      (ending : Ending) (back : ClosesAll rooms old mid []) where
    abbrev Was : ℕ → Text → Text → Type 0
    Was limit name bytes =
        rooms.is_modelled old → (rooms.file old name ≡ Some bytes) × (length bytes ≤ limit)

    abbrev Ends : Outcome → R → Type 0
    Ends wanted from = HasAnswered rooms disks names wanted from new ending

    same : (name : Text) → rooms.file mid name ≡ rooms.file old name
    same name = (back.others name tt).bytes

    pub after_third : (a b c : Text) → Was 16777216 three c
        → Ends (from_fourth (rooms.file mid four) a b c) mid
        → Ends (from_third (rooms.file old three) (rooms.file old four) a b) old
    after_third a b c is = after_file rooms disks 16777216 three old mid new c back is
        names [] [] (λ y. from_fourth (rooms.file old four) a b y)
        (from_fourth (rooms.file mid four) a b c) ending
        (λ t. ap (λ f4. from_fourth f4 a b c) (same four))

    pub after_second : (a b : Text) → Was 16777216 two b
        → Ends (from_third (rooms.file mid three) (rooms.file mid four) a b) mid
        → Ends (from_second (rooms.file old two) (rooms.file old three) (rooms.file old four) a)
        old
    after_second a b is = after_file rooms disks 16777216 two old mid new b back is names [] []
        (λ y. from_third (rooms.file old three) (rooms.file old four) a y)
        (from_third (rooms.file mid three) (rooms.file mid four) a b) ending
        (λ t. ap (λ f3. from_third f3 (rooms.file mid four) a b) (same three)
        ∙ ap (λ f4. from_third (rooms.file old three) f4 a b) (same four))

    pub following_first : (a : Text) → Was 16777216 one a
        → Ends (from_second (rooms.file mid two) (rooms.file mid three) (rooms.file mid four) a)
        mid
        → Ends (from_first (rooms.file old one) (rooms.file old two) (rooms.file old three)
        (rooms.file old four)) old
    following_first a is = after_file rooms disks 16777216 one old mid new a back is names [] []
        (λ y. from_second (rooms.file old two) (rooms.file old three) (rooms.file old four) y)
        (from_second (rooms.file mid two) (rooms.file mid three) (rooms.file mid four) a) ending
        (λ t. ap (λ f2. from_second f2 (rooms.file mid three) (rooms.file mid four) a) (same two)
        ∙ ap (λ f3. from_second (rooms.file old two) f3 (rooms.file mid four) a) (same three)
        ∙ ap (λ f4. from_second (rooms.file old two) (rooms.file old three) f4 a) (same four))

  -- the rest of the command reads the last file
  module _ {R S D : Type 0} (rooms : Rooms R S D) (disks : Disks D) (old new : R)
      (ending : Ending) where
    stays : ClosesAll rooms old old []
    stays = record {
      opened = refl;
      later = omega arith;
      is_modelled = λ t. t;
      others = λ name other. record { bytes = refl; disk = refl };
    }

    among : (file : Text) → IsNamed (four ∷ []) file → IsNamed names file
    among file is = elim is [
      | inl same ↦ inr (inr (inr (inl same)))
      | inr never ↦ absurd never
    ]

    pub at_fourth : (a b c : Text) (next : Text → Outcome)
        → ((d : Text) → next d ≡ says a b c d)
        → HasAnswered rooms disks (four ∷ [])
        (with_bytes 8589934592 four (rooms.file old four) next) old new ending
        → HasAnswered rooms disks names (from_fourth (rooms.file old four) a b c) old new ending
    at_fourth a b c next same done =
        following rooms disks names (four ∷ []) [] [] (from_fourth (rooms.file old four) a b c)
        (with_bytes 8589934592 four (rooms.file old four) next) old old new ending stays
        (λ t. ap (λ (n : Text → Outcome). with_bytes 8589934592 four (rooms.file old four) n)
        (λ i d. same d i)) among done
