-- Status 2 after an execution is about an input, or a tile that the file of a journal's tiles
-- doesn't have.
use Rattle.std.proofs.Common.{◌≡◌, inl, inr, ℕ, List, [], ◌∷◌, Option, None, Some}
use Rattle.std.proofs.Common.{Result, Ok, Err, IsOk, refl, sym, subst, ◌∙◌, arith}
use Rattle.std.proofs.lemmas.Option.{same_Some}
use Rattle.byte_formats.specs.Offsets.{IsBytes}
use Rattle.byte_formats.specs.Types.{HashFunction}
use Rattle.disk_core.specs.declared.disk.Disk.{Ghosts as Disks}
use Rattle.journal_core.specs.Folds.{read_by, state_after}
use Rattle.journal_core.specs.Format.{Represents}
use Rattle.journal_core.proofs.Found.{read_standing}
use Rattle.journal_core.proofs.Standing.{found_stands}
use Rattle.mtc_io.specs.declared.sink.Sink.{Ghosts as Sinks}
use Rattle.mtc_room.specs.declared.room.Room.{Ghosts as Rooms}
use Rattle.mtc_words.specs.Commands.{CommandValue}
use Rattle.mtc_words.specs.Words.{command_of, known_word}
use Rattle.mtc_words.specs.declared.error.WordError.{WordError}
use Rattle.cosigner_core.specs.Folds.{cosigner_fold}
use Rattle.mirror_core.specs.Folds.{MirrorState, entries_in_mirror, mirror_fold}
use Rattle.issuance_log.specs.Folds.{LogState}
use Rattle.mtc_mirror.specs.Works.{first_bad_in_mirror}
use Rattle.mtc_tiled.specs.BadTiles.{first_bad_tile}
use Rattle.tree_core.specs.Tree.{leaf_hash}
use Rattle.std.specs.Prelude.{map}
use Rattle.issuance_log.specs.Folds.{log_fold}
use Rattle.mtc_command.specs.Answers.{Reply, bad_tile_text, err_of, refused, tiles_name}
use Rattle.mtc_command.specs.Lines.{line_of}
use Rattle.mtc_command.specs.Steps.{Files, held_in}
use Rattle.mtc_command.specs.Wanted.{Meets}
use Rattle.mtc_command.specs.declared.answer.Stopped.TheVariants.{BadForm}
use Rattle.mtc_command.proofs.Made.{OnlyNow, ReadsCrashState}
use Rattle.mtc_authority.specs.BadTiles.{first_bad}
use Rattle.command_plans.specs.Found.{AnyIsRefused, IsLacking, IsRefused}
use Rattle.command_plans.specs.Kinds.{Kinds}
use Rattle.command_plans.specs.Names.{journal_names}
use Rattle.command_plans.specs.Plans.{Journal, makes, opens}
use Rattle.command_plans.specs.Rules.{AreOfFirst, AreOfKind}
use Rattle.command_plans.proofs.Facts.{misread_about}
use Rattle.mtc_plans.specs.Commands.{plan_of}
use Rattle.mtc_plans.specs.PartyKinds.{PartyKind, cosigner, log, mirror, missing_text}
use Rattle.mtc_plans.specs.PartyKinds.{rebuilt_log}
use Rattle.mtc_plans.specs.PartyKinds.{party_fold}
use Rattle.mtc_plans.specs.PartyKinds.{party_kinds}
use Rattle.party_history.specs.Rules.{IsReadAs}
use Rattle.party_history.specs.declared.start.PartyStart.{PartyStart}
use Rattle.party_history.specs.declared.start.PartyStart.TheVariants.{Cosigner, Log, Mirror}
use Rattle.party_history.proofs.Chains.{no_some}
use Rattle.mtc_top.specs.Concluded.{Reports}
use Rattle.mtc_laws.specs.ExecutionLaws.{AreOfParty}
use Rattle.mtc_top.specs.Facts.{facts, facts_of}
use Rattle.mtc_laws.specs.StatusLaws.{IsAboutInput, LacksTile, MisreadFilesAreInputs}
use Rattle.party_history.proofs.Agreement.{made_so}
use Rattle.mtc_laws.proofs.Recovered.{modelled_then, read_again}
use Rattle.mtc_top.proofs.Runs.{answered, wrote_of}
use Rattle.mtc_laws.proofs.HeardRuns.{file_bytes}
use Rattle.mtc_top.specs.Executions.{program, Run}
use Rattle.mtc_laws.proofs.Aliases.{IsRun}
use Rattle.mtc_laws.proofs.Aliases.{ModelsFiles}

one_is : (x y : List ℕ) (xs : List (List ℕ)) → x ∷ xs ≡ y ∷ [] → x ≡ y
one_is x y xs is = cc

no_more : (x y : List ℕ) (xs : List (List ℕ)) → x ∷ xs ≡ y ∷ [] → xs ≡ []
no_more x y xs is = cc

not_read : {F E : Type 0} (r : Result F E) (why : E) → IsOk r → r ≡ Err why → ⊥
not_read (Ok found) why ok is = cc
not_read (Err other) why ok is = cc

-- the reason names the tile
missing_tile : (o : Option (ℕ × ℕ)) (reason : List ℕ) → missing_text o ≡ Some reason
    → (tile : ℕ × ℕ) × ((o ≡ Some tile) × (reason ≡ bad_tile_text tile.0 tile.1))
missing_tile None reason is = no_some reason is
missing_tile (Some tile) reason is =
    (tile, (refl, sym (same_Some (bad_tile_text tile.0 tile.1) reason is)))

-- no journal is refused where there is none
none_refused : (k : Kinds) (files : Files) (journals : List (Journal k)) (file reason : List ℕ)
    → journal_names journals ≡ [] → AnyIsRefused k files journals file reason → ⊥
none_refused k files [] file reason none any = any
none_refused k files (opens kind beside name ∷ rest) file reason none any = cc
none_refused k files (makes kind name ∷ rest) file reason none any = cc

-- the tile that a log or a mirror lacks
log_lacks : (h : HashFunction) (s : LogState) (tiles : List ℕ) (tile : ℕ × ℕ)
    → first_bad h s tiles ≡ Some tile
    → first_bad_tile h (map (leaf_hash h) s.entries) s.tiled tiles ≡ Some tile
unfolding first_bad
log_lacks h s tiles tile is = is

mirror_lacks : (h : HashFunction) (m : MirrorState) (tiles : List ℕ) (tile : ℕ × ℕ)
    → first_bad_in_mirror h m tiles ≡ Some tile
    → first_bad_tile h (map (leaf_hash h) (entries_in_mirror m)) m.tiled tiles ≡ Some tile
unfolding first_bad_in_mirror
mirror_lacks h m tiles tile is = is

-- ---- a journal that represents the records of a party

module _ (h : HashFunction) (start : PartyStart) (first name : List ℕ) (files : Files)
    (stands : (c : List ℕ) → files name ≡ Some c
    → (list : List (List ℕ)) × (Represents c list × AreOfParty h start first list)) where
  abbrev KeepTo : (List (List ℕ) → Type 0) → Type 0
  KeepTo Valid = (list : List (List ℕ)) → AreOfParty h start first list → Valid list

  -- it is read, if the party is of this kind
  is_read : (kind : PartyKind) → KeepTo (AreOfKind (party_kinds h) kind) → (c : List ℕ)
      → files name ≡ Some c → IsOk (read_by (party_fold h kind) c)
  is_read kind keeps c is =
      let s = stands c is in
      let made = made_so (state_after (party_fold h kind) s.0) (keeps s.0 s.1.1) in
      subst IsOk (sym (read_standing (party_fold h kind) c s.0 made.0 s.1.0 made.1)) refl

  -- only a log and a mirror have a file beside them
  pub of_tiles : (kind : PartyKind) (file reason : List ℕ)
      → IsLacking (party_kinds h) files kind name file reason → LacksTile h files name file reason
  of_tiles log file reason wants =
      let found = wants.found in
      let named : tiles_name name ≡ file = same_Some (tiles_name name) file wants.beside in
      let tile =
      missing_tile (first_bad h found.state (held_in (files file))) reason wants.lacks in
      record {
        bytes = wants.bytes;
        leaves = map (leaf_hash h) found.state.entries;
        tiled = found.state.tiled;
        missing = tile.0;
        there = wants.there;
        is_read = inl (found, (wants.is, refl, refl));
        lacks = log_lacks h found.state (held_in (files (tiles_name name))) tile.0
            (subst (λ (n : List ℕ). first_bad h found.state (held_in (files n)) ≡ Some tile.0)
            (sym named) tile.1.0);
        named = sym named;
        says = tile.1.1;
      }
  of_tiles mirror file reason wants =
      let found = wants.found in
      let named : tiles_name name ≡ file = same_Some (tiles_name name) file wants.beside in
      let tile = missing_tile (first_bad_in_mirror h found.state (held_in (files file))) reason
      wants.lacks in
      record {
        bytes = wants.bytes;
        leaves = map (leaf_hash h) (entries_in_mirror found.state);
        tiled = found.state.tiled;
        missing = tile.0;
        there = wants.there;
        is_read = inr (found, (wants.is, refl, refl));
        lacks = mirror_lacks h found.state (held_in (files (tiles_name name))) tile.0
            (subst (λ (n : List ℕ).
            first_bad_in_mirror h found.state (held_in (files n)) ≡ Some tile.0) (sym named)
            tile.1.0);
        named = sym named;
        says = tile.1.1;
      }
  of_tiles rebuilt_log file reason wants = no_some reason wants.lacks
  of_tiles cosigner file reason wants = no_some file wants.beside

  of_kind : (kind : PartyKind) (file reason : List ℕ) → KeepTo (AreOfKind (party_kinds h) kind)
      → IsRefused (party_kinds h) files kind name file reason → LacksTile h files name file reason
  of_kind kind file reason keeps (inl not) =
      absurd (not_read (read_by (party_fold h kind) not.bytes) not.why
      (is_read kind keeps not.bytes not.there) not.is)
  of_kind kind file reason keeps (inr wants) = of_tiles kind file reason wants

  -- so only a tile is refused of a command on this journal
  of_journals : (journals : List (Journal (party_kinds h))) (file reason : List ℕ)
      → journal_names journals ≡ name ∷ [] → KeepTo (AreOfFirst (party_kinds h) journals)
      → AnyIsRefused (party_kinds h) files journals file reason
      → LacksTile h files name file reason
  of_journals [] file reason named keeps any = absurd any
  of_journals (opens kind beside journal ∷ rest) file reason named keeps (inl here) =
      of_kind kind file reason keeps
      (subst (λ (n : List ℕ). IsRefused (party_kinds h) files kind n file reason)
      (one_is journal name (journal_names rest) named) here)
  of_journals (opens kind beside journal ∷ rest) file reason named keeps (inr there) =
      absurd (none_refused (party_kinds h) files rest file reason
      (no_more journal name (journal_names rest) named) there)
  of_journals (makes kind journal ∷ rest) file reason named keeps any =
      absurd (none_refused (party_kinds h) files rest file reason
      (no_more journal name (journal_names rest) named) any)

-- a file that is read as a party's
pub stands_of : (h : HashFunction) (start : PartyStart) (c : List ℕ) (list : List (List ℕ))
    → IsBytes c → IsReadAs h start c list → Represents c list
stands_of h (Log settings) c list are read =
    (found_stands (log_fold h) c (record { records = list; state = read.0 }) are read.1).0
stands_of h (Cosigner settings public) c list are read =
    (found_stands (cosigner_fold h) c (record { records = list; state = read.0 }) are read.1).0
stands_of h (Mirror id) c list are read =
    (found_stands (mirror_fold h) c (record { records = list; state = read.0 }) are read.1).0

module _ {R S D O E : Type 0} (h : HashFunction) (rooms : Rooms R S D) (disks : Disks D)
    (outs : Sinks O) (errs : Sinks E) (crash_state : ReadsCrashState disks) (only : OnlyNow disks)
    (contents : ModelsFiles rooms disks)
    (bytes : (d : D) (b : List ℕ) → disks.contents d ≡ Some b → IsBytes b) where
  -- the line of a refusal
  refused_line : (run : Run R O E) (reply : Reply) (file reason : List ℕ)
      → reply ≡ refused BadForm (Some file) reason
      → Reports errs run.err run.err_after (err_of (known_word run.words) reply)
      → Reports errs run.err run.err_after (line_of (known_word run.words) (Some file) reason)
  refused_line run reply file reason is line =
      subst (λ (r : Reply). Reports errs run.err run.err_after
      (err_of (known_word run.words) r)) is line

  pub about_input : (name : List ℕ) (room : R) (command : CommandValue) (run : Run R O E)
      → rooms.is_modelled room
      → IsRun h rooms disks outs errs room run → command_of run.words ≡ Ok command
      → run.status ≡ 2
      → ((file reason : List ℕ)
      → AnyIsRefused (party_kinds h) (rooms.file room) (plan_of h command).journals file reason
      → LacksTile h (rooms.file room) name file reason)
      → IsAboutInput h (program h rooms disks outs errs) errs name command room run
  about_input name room command run is_modelled is_run spoken two lacks =
      let a = answered h rooms disks outs errs run.words room run.room run.out run.out_after
      run.err run.err_after run.status is_run (λ five. omega (arith, two, five))
      (λ eight. omega (arith, two, eight)) in
      let wrote = wrote_of outs errs (known_word run.words) run.out run.out_after run.err
      run.err_after a.reply run.status a.concludes (λ six. omega (arith, two, six)) in
      let meets = subst (λ (r : Result CommandValue WordError).
      Meets ((facts h r).outcome (rooms.file room)).answer a.reply) spoken (a.is (inl is_modelled))
      in
      let about = misread_about (party_kinds h) (plan_of h command) (rooms.file room) a.reply
      meets (sym wrote.code ∙ two) in
      record {
        file = about.file;
        reason = about.reason;
        input = elim about.about [
          | inl named ↦ inl named
          | inr any ↦ inr (lacks about.file about.reason any)
        ];
        asked = subst (λ (r : Reply).
            Meets ((facts_of h command).outcome (rooms.file room)).answer r) about.is meets;
        line = refused_line run a.reply about.file about.reason about.is wrote.line;
      }

  pub misread_inputs : MisreadFilesAreInputs h (program h rooms disks outs errs) errs
  misread_inputs name start first begins new events begun execution command run on is_run spoken
      two =
      let is_modelled =
      modelled_then h rooms disks outs errs crash_state only contents bytes name start
      first begins new events begun execution in
      about_input name new command run is_modelled is_run spoken two
      (λ file reason any. of_journals h start first name (rooms.file new) (λ c is.
      let party =
      read_again h rooms disks outs errs crash_state only contents bytes name start first begins
      new events begun execution c (inr is) in
      let are = file_bytes disks (rooms.file new name) (rooms.device new name) c bytes
      (contents.0 new name is_modelled) is in
      (party.0, (stands_of h start c party.0 are party.1.1, party.1.0)))
      (plan_of h command).journals file reason on.works on.kind any)
