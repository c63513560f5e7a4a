-- A journal that isn't opened as a party's, on the device that the file system opened: what any
-- command that refuses it has done.
use Rattle.std.proofs.Common.{◌≡◌, ◌∙◌, inl, inr, ℕ, Option, None, Some, Err, IfSome, ap, refl}
use Rattle.std.proofs.Common.{subst}
use Rattle.std.proofs.lemmas.Option.{IfSome_then}
use Rattle.byte_formats.specs.Types.{Text}
use Rattle.disk_core.specs.Times.{OnlyReads}
use Rattle.disk_core.specs.declared.disk.Disk.{Ghosts}
use Rattle.disk_core.proofs.Times.{only_read_on}
use Rattle.mtc_io.specs.Counts.{Rose}
use Rattle.journal_core.specs.Folds.{AreRefused, IsCauseOf, read_by}
use Rattle.journal_core.specs.Reasons.{open_fault_text}
use Rattle.journal_core.specs.declared.error.OpenError.{OpenError}
use Rattle.journal_core.specs.declared.error.OpenError.TheVariants as open_error
use Rattle.mtc_command.specs.Answers.{bad_tile, no_memory, refused, replied, room_failed}
use Rattle.mtc_command.specs.Answers.{tiles_name}
use Rattle.mtc_command.specs.Steps.{Outcome, answers}
use Rattle.mtc_command.specs.Works.{HasWorkedOn, HasWorkedTiledOn}
use Rattle.mtc_command.specs.declared.answer.Stopped.TheVariants.{BadForm}
use Rattle.mtc_command.proofs.Tiled.{tiled_early}
use Rattle.mtc_command.proofs.Works.{each_some, not_opened}
use Rattle.mtc_tiled.specs.Endings.{journal_open_ending}
use Rattle.mtc_tiled.specs.Parties.{RefusesNoParty, TiledParty}

-- what is so of the bytes of both, in the other order
pub swapped : (x y : Option Text) (P : Text → Text → Type 0)
    → IfSome x (λ b. IfSome y (λ held. P b held)) → IfSome y (λ held. IfSome x (λ b. P b held))
swapped None None P is = tt
swapped None (Some held) P is = tt
swapped (Some b) None P is = tt
swapped (Some b) (Some held) P is = is

module _ {State Fault : Type 0} (party : TiledParty State Fault) (name : Text)
    (says : Text → Text → Outcome) (refuses : RefusesNoParty party name says) where
  -- a file that is no journal is refused in the words of the journal
  refuses_worded : (bytes held : Text) (why : OpenError)
      → read_by party.fold bytes ≡ Err (party.fold.not_read why)
      → says bytes held ≡ answers (refused BadForm (Some name) (open_fault_text why))
  refuses_worded bytes held why is = refuses bytes held (party.fold.not_read why) is
      ∙ ap (λ (t : Text). answers (refused BadForm (Some name) t)) (party.journal_words why)

  -- a file that doesn't begin as a journal
  module _ {D : Type 0} (g : Ghosts D) (old new : D) (held : Text)
      (only_reads : OnlyReads g old new) where
    no_journal : (why : OpenError)
        → AreRefused party.fold (g.contents old) (party.fold.not_read why)
        → HasWorkedOn g name (λ b. says b held) old new
        (replied (refused BadForm (Some name) (open_fault_text why)))
    no_journal why is = not_opened g name (λ b. says b held) old new only_reads
        (replied (refused BadForm (Some name) (open_fault_text why)))
        (record { plain = λ e. absurd cc; later = only_reads.faults; fault = tt }) (inr (inl refl))
        (IfSome_then (g.contents old) is (λ b read. refuses_worded b held why read))

    pub header_says : (why : OpenError) → IsCauseOf g party.fold old new why
        → HasWorkedOn g name (λ b. says b held) old new (journal_open_ending name why)
    header_says open_error.Failed is =
        not_opened g name (λ b. says b held) old new only_reads (room_failed name)
        (record { plain = tt; later = only_reads.faults; fault = (is, inl refl) }) tt tt
    header_says open_error.Memory is =
        not_opened g name (λ b. says b held) old new only_reads no_memory
        (record { plain = tt; later = only_reads.faults; fault = tt }) tt tt
    header_says why is = no_journal why is

  -- the device of the journal was read since it was opened, as `old`
  module _ {D : Type 0} (g : Ghosts D) (old mid new tiles tiles' : D)
      (first : OnlyReads g old mid) (fine : g.faults mid ≡ g.faults old)
      (second : OnlyReads g mid new) where
    only_reads : OnlyReads g old new
    only_reads = only_read_on g old mid new first second

    refused_for : (text : Text)
        → IfSome (g.contents mid) (λ b. (held : Text)
        → says b held ≡ answers (refused BadForm (Some name) text))
        → HasWorkedTiledOn g name says old new tiles tiles'
        (replied (refused BadForm (Some name) text))
    refused_for text is = tiled_early g name says old new tiles tiles' only_reads
        (replied (refused BadForm (Some name) text))
        (record { plain = λ e. absurd cc; later = only_reads.faults; fault = tt }) (inr (inl refl))
        (each_some (g.contents tiles) _ (λ held. IfSome_then (g.contents old)
        (subst (λ (o : Option Text). IfSome o (λ b. (held : Text)
        → says b held ≡ answers (refused BadForm (Some name) text))) first.contents is)
        (λ b says_so. says_so held)))

    -- a file that is no such party's
    pub party_says : (why : Fault) → AreRefused party.fold (g.contents mid) why
        → HasWorkedTiledOn g name says old new tiles tiles'
        (replied (refused BadForm (Some name) (party.fault_text why)))
    party_says why is = refused_for (party.fault_text why)
        (IfSome_then (g.contents mid) is (λ b read held. refuses b held why read))

    -- a file that isn't read as a journal
    pub journal_says : (why : OpenError) → IsCauseOf g party.fold mid new why
        → HasWorkedTiledOn g name says old new tiles tiles' (journal_open_ending name why)
    journal_says open_error.Failed is =
        tiled_early g name says old new tiles tiles' only_reads (room_failed name)
        (record {
          plain = tt;
          later = only_reads.faults;
          fault = inl (refl, subst (λ n. Rose n (g.faults new)) fine is);
        }) tt tt
    journal_says open_error.Memory is =
        tiled_early g name says old new tiles tiles' only_reads no_memory
        (record { plain = tt; later = only_reads.faults; fault = tt }) tt tt
    journal_says why is = refused_for (open_fault_text why)
        (IfSome_then (g.contents mid) is (λ b read held. refuses_worded b held why read))

    -- the device of the tiles failed
    pub tiles_say : Rose (g.faults tiles) (g.faults tiles')
        → HasWorkedTiledOn g name says old new tiles tiles' (room_failed (tiles_name name))
    tiles_say rose = tiled_early g name says old new tiles tiles' only_reads
        (room_failed (tiles_name name))
        (record { plain = tt; later = only_reads.faults; fault = inr (refl, rose) }) tt tt

    -- a tile isn't there
    pub bad_tile_says : (level place : ℕ) → IfSome (g.contents mid) (λ b.
        IfSome (g.contents tiles) (λ held. says b held ≡ answers (bad_tile name level place)))
        → HasWorkedTiledOn g name says old new tiles tiles' (replied (bad_tile name level place))
    bad_tile_says level place is = tiled_early g name says old new tiles tiles' only_reads
        (replied (bad_tile name level place))
        (record { plain = λ e. absurd cc; later = only_reads.faults; fault = tt }) (inr (inl refl))
        (swapped (g.contents old) (g.contents tiles) (λ b held.
        says b held ≡ answers (bad_tile name level place))
        (subst (λ (o : Option Text). IfSome o (λ b. IfSome (g.contents tiles)
        (λ held. says b held ≡ answers (bad_tile name level place)))) first.contents is))
