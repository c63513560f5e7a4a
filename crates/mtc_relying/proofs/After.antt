-- `audit` after each of the files that it reads: the entries last.
use Rattle.std.proofs.Common.{◌≡◌, ◌≤◌, ℕ, List, [], ◌∷◌, length, Option, Some, ap, sym, subst, ◌∙◌}
use Rattle.std.proofs.Common.{inl, inr, arith}
use Rattle.disk_core.specs.declared.disk.Disk.{Ghosts as Disks}
use Rattle.mtc_io.specs.Counts.{Rose}
use Rattle.mtc_room.specs.declared.room.Room.{Ghosts as Rooms}
use Rattle.byte_formats.specs.Types.{HashFunction, Text}
use Rattle.mtc_command.specs.Answers.{Ending}
use Rattle.mtc_command.specs.Served.{ClosesAll, HasAnswered}
use Rattle.mtc_command.specs.Steps.{Outcome, with_bytes}
use Rattle.mtc_command.specs.Endings.{IsNamed}
use Rattle.mtc_command.specs.Wanted.{Meets}
use Rattle.mtc_command.proofs.Inputs.{after_file, bytes_read}
use Rattle.mtc_command.proofs.Served.{failed_so, following, reply_so}
use Rattle.mtc_relying.specs.AuditOutcome.{InputFile, audit_store_says}

rose_until : (old mid new : ℕ) → mid ≤ new → Rose old mid → Rose old new
rose_until old mid new later rose = elim rose [
  | inl more ↦ inl (omega (arith, later, more))
  | inr last ↦ inr (omega (arith, later, last))
]

module _ {R S D : Type 0} (rooms : Rooms R S D) (disks : Disks D) (files : List Text)
    (wanted wanted' : Outcome) (old mid new : R) (ending : Ending)
    (late : ClosesAll rooms mid new []) where
  -- a command that only reads ends so also where it reads another file before it ends
  pub followed : (rooms.is_modelled old → wanted' ≡ wanted)
      → HasAnswered rooms disks files wanted' old mid ending
      → HasAnswered rooms disks files wanted old new ending
  followed same done = record {
    back = record {
      opened = late.opened ∙ done.back.opened;
      later = let one = late.later in let two = done.back.later in omega (arith, one, two);
      is_modelled = λ t. late.is_modelled (done.back.is_modelled t);
      others = λ name other. record {
        bytes = (late.others name tt).bytes ∙ (done.back.others name other).bytes;
        disk = (late.others name tt).disk ∙ (done.back.others name other).disk;
      };
    };
    ends = record {
      reply = reply_so ending _ _ (λ reply is t. subst (λ (w : Outcome). Meets w.answer reply)
          (same t) (is t)) done.ends.reply;
      words = λ bad. absurd bad;
      not_words = done.ends.not_words;
      fault = failed_so ending _ _ files files (rose_until _ _ _ late.later)
          (λ file among. among) done.ends.fault;
      early = reply_so ending _ _ (λ reply is t. tt) done.ends.early;
    };
    made = λ t. record { no_file = tt; unmade = λ memory. tt; left = tt };
  }

module _ {R S D : Type 0} (rooms : Rooms R S D) (disks : Disks D) (files : List Text) (limit : ℕ)
    (name : Text) (next : Text → Outcome) (old mid new : R) (ending : Ending)
    (read : ClosesAll rooms old mid []) where
  -- a file that is read once more is the same
  pub read_again : HasAnswered rooms disks files
      (with_bytes limit name (rooms.file mid name) next) mid new ending
      → HasAnswered rooms disks files (with_bytes limit name (rooms.file old name) next) old new
      ending
  read_again done =
      following rooms disks files files [] [] (with_bytes limit name (rooms.file old name) next)
      (with_bytes limit name (rooms.file mid name) next) old mid new ending read
      (λ t. ap (λ f. with_bytes limit name f next) (read.others name tt).bytes)
      (λ file among. among) done

module _ {R S D : Type 0} (rooms : Rooms R S D) (disks : Disks D) (files : List Text) (limit : ℕ)
    (name : Text) (file : Option Text) (next next' : Text → Outcome) (old new : R)
    (ending : Ending) where
  -- another definition says the same of each file
  pub with_same : ((bytes : Text) → next bytes ≡ next' bytes)
      → HasAnswered rooms disks files (with_bytes limit name file next') old new ending
      → HasAnswered rooms disks files (with_bytes limit name file next) old new ending
  with_same same = subst (λ (n : Text → Outcome).
      HasAnswered rooms disks files (with_bytes limit name file n) old new ending)
      (λ i bytes. sym (same bytes) i)

module _ (h : HashFunction) (unix_time : ℕ) (cert store entries export : Text) where
  -- What is to be answered to the bytes of all files.
  abbrev pub says : Text → Text → Text → Text → Outcome
  says c s e x = audit_store_says h (record { name = cert; text = c })
      (record { name = store; text = s }) unix_time (record { name = entries; text = e })
      (record { name = export; text = x })

  -- The same where those from here on hold this, and the bytes of the ones before are known.
  abbrev pub of_export : Option Text → Text → Text → Text → Outcome
  of_export fx c s e = with_bytes 8589934592 export fx (λ x. says c s e x)

  abbrev pub of_entries : Option Text → Option Text → Text → Text → Outcome
  of_entries fe fx c s = with_bytes 8589934592 entries fe (λ e. of_export fx c s e)

  abbrev pub of_store : Option Text → Option Text → Option Text → Text → Outcome
  of_store fs fe fx c = with_bytes 16777216 store fs (λ s. of_entries fe fx c s)

  abbrev pub of_cert : Option Text → Option Text → Option Text → Option Text → Outcome
  of_cert fc fs fe fx = with_bytes 16777216 cert fc (λ c. of_store fs fe fx c)

  abbrev pub names : List Text
  names = cert ∷ store ∷ entries ∷ export ∷ []

  module _ {R S D : Type 0} (rooms : Rooms R S D) (disks : Disks D) (old mid new : R)
      (ending : Ending) (back : ClosesAll rooms old mid []) where
    abbrev Was : ℕ → Text → Text → Type 0
    Was limit name bytes =
        rooms.is_modelled old → (rooms.file old name ≡ Some bytes) × (length bytes ≤ limit)

    abbrev Ends : Outcome → R → Type 0
    Ends wanted from = HasAnswered rooms disks names wanted from new ending

    same : (name : Text) → rooms.file mid name ≡ rooms.file old name
    same name = (back.others name tt).bytes

    pub after_store : (c s : Text) → Was 16777216 store s
        → Ends (of_entries (rooms.file mid entries) (rooms.file mid export) c s) mid
        → Ends (of_store (rooms.file old store) (rooms.file old entries) (rooms.file old export) c)
        old
    after_store c s is = after_file rooms disks 16777216 store old mid new s back is names [] []
        (λ y. of_entries (rooms.file old entries) (rooms.file old export) c y)
        (of_entries (rooms.file mid entries) (rooms.file mid export) c s) ending
        (λ t. ap (λ fe. of_entries fe (rooms.file mid export) c s) (same entries)
        ∙ ap (λ fx. of_entries (rooms.file old entries) fx c s) (same export))

    pub after_cert : (c : Text) → Was 16777216 cert c
        → Ends (of_store (rooms.file mid store) (rooms.file mid entries) (rooms.file mid export) c)
        mid
        → Ends (of_cert (rooms.file old cert) (rooms.file old store) (rooms.file old entries)
        (rooms.file old export)) old
    after_cert c is = after_file rooms disks 16777216 cert old mid new c back is names [] []
        (λ y. of_store (rooms.file old store) (rooms.file old entries) (rooms.file old export) y)
        (of_store (rooms.file mid store) (rooms.file mid entries) (rooms.file mid export) c) ending
        (λ t. ap (λ fs. of_store fs (rooms.file mid entries) (rooms.file mid export) c) (same store)
        ∙ ap (λ fe. of_store (rooms.file old store) fe (rooms.file mid export) c) (same entries)
        ∙ ap (λ fx. of_store (rooms.file old store) (rooms.file old entries) fx c) (same export))

  -- the export was read before the entries
  module _ {R S D : Type 0} (rooms : Rooms R S D) (disks : Disks D) (old mid new : R)
      (ending : Ending) (read : ClosesAll rooms old mid []) where
    listed : rooms.file mid entries ≡ rooms.file old entries
    listed = (read.others entries tt).bytes

    -- what is wanted of both files, where the bytes of the others are these
    abbrev pub of_both : Text → Text → Outcome
    of_both c s = of_entries (rooms.file old entries) (rooms.file old export) c s

    named : (file : Text) → IsNamed (entries ∷ []) file → IsNamed names file
    named file among = elim among [
      | inl is ↦ inr (inr (inl is))
      | inr never ↦ absurd never
    ]

    -- and the entries stop the command
    pub before_export : (c s : Text)
        → HasAnswered rooms disks names
        (with_bytes 8589934592 entries (rooms.file mid entries)
        (λ e. of_export (rooms.file old export) c s e)) mid new ending
        → HasAnswered rooms disks names (of_both c s) old new ending
    before_export c s done =
        following rooms disks names names [] [] (of_both c s)
        (with_bytes 8589934592 entries (rooms.file mid entries)
        (λ e. of_export (rooms.file old export) c s e)) old mid new ending read
        (λ t. ap (λ f. of_entries f (rooms.file old export) c s) listed) (λ file among. among) done

    -- or the rest of the command comes after both
    pub after_export : (fc fs fx : InputFile) (c s x : Text)
        → (rooms.is_modelled old → (rooms.file old export ≡ Some x) × (length x ≤ 8589934592))
        → fc ≡ record { name = cert; text = c } → fs ≡ record { name = store; text = s }
        → fx ≡ record { name = export; text = x }
        → HasAnswered rooms disks (entries ∷ [])
        (with_bytes 8589934592 entries (rooms.file mid entries)
        (λ e. audit_store_says h fc fs unix_time (record { name = entries; text = e }) fx))
        mid new ending
        → HasAnswered rooms disks names (of_both c s) old new ending
    after_export fc fs fx c s x is_x at_c at_s at_x done =
        let next : Text → Outcome =
        λ e. audit_store_says h fc fs unix_time (record { name = entries; text = e }) fx in
        let so : rooms.is_modelled old → next ≡ (λ e. of_export (rooms.file old export) c s e) =
        λ t i e. ((λ j. audit_store_says h (at_c j) (at_s j) unix_time
        (record { name = entries; text = e }) (at_x j))
        ∙ sym (bytes_read 8589934592 export (rooms.file old export) x (λ y. says c s e y)
        (is_x t).0 (is_x t).1)) i in
        following rooms disks names (entries ∷ []) [] [] (of_both c s)
        (with_bytes 8589934592 entries (rooms.file mid entries) next) old mid new ending read
        (λ t. ap (λ f. with_bytes 8589934592 entries f next) listed
        ∙ ap (λ (n : Text → Outcome). with_bytes 8589934592 entries (rooms.file old entries) n)
        (so t)) named done

    -- or the export stops the command, after the entries were read
    pub at_export : (c s e : Text) (late : ClosesAll rooms mid new [])
        → (rooms.is_modelled mid → (rooms.file mid entries ≡ Some e) × (length e ≤ 8589934592))
        → HasAnswered rooms disks names (of_export (rooms.file old export) c s e) old mid ending
        → HasAnswered rooms disks names (of_both c s) old new ending
    at_export c s e late is_e done =
        followed rooms disks names (of_both c s) (of_export (rooms.file old export) c s e) old mid
        new ending late
        (λ t. sym (bytes_read 8589934592 entries (rooms.file old entries) e
        (λ y. of_export (rooms.file old export) c s y)
        (sym listed ∙ (is_e (read.is_modelled t)).0) (is_e (read.is_modelled t)).1)) done
