-- What the opening of a journal shows, and what a step of it finds.
use Rattle.std.specs.Prelude.{◌≡◌, ◌≢◌, ℕ, ◌+◌, ◌-◌, ◌<◌, ◌≤◌, Bool, true, false, List, [], ◌∷◌}
use Rattle.std.specs.Prelude.{◌++◌, length, take, Option, Some, None, option_map, IfSome, Result}
use Rattle.std.specs.Prelude.{Ok, Err}
use Rattle.std.specs.Borrow.{Bor}
use Rattle.byte_formats.specs.Types.{Text}
use Rattle.disk_core.specs.Disk.{part}
use Rattle.disk_core.specs.Times.{OnlyReads}
use Rattle.disk_core.specs.declared.disk.Disk.{Ghosts}
use Rattle.journal_core.specs.Format.{header, Represents, records_before}
use Rattle.journal_core.specs.Opens.{HasReason, IsOfRecord, IsWalkTo}
use Rattle.journal_core.specs.Walk.{walk_of, at_commit_byte}
use Rattle.journal_core.specs.declared.error.OpenError.{OpenError}
use Rattle.journal_core.specs.declared.error.OpenError.TheVariants.{Failed}
use Rattle.journal_core.specs.declared.opening.Opening.{Opening}

module _ {D : Type 0} {g : Ghosts D} where
  -- the disk that is read
  abbrev pub opening_disk : Opening D g → D
  opening_disk opening = opening.disk

  -- the records that were read, if the model knows the bytes of the disk
  abbrev pub read_list : Opening D g → Option (List Text)
  read_list opening =
      option_map (λ bytes. records_before bytes opening.place) (g.contents opening.disk)

  -- the offset of the next commit byte
  abbrev pub next_offset : Opening D g → ℕ
  next_offset opening = opening.place

  -- the closed commit byte was read
  abbrev pub is_ended : Opening D g → Bool
  is_ended opening = opening.ended

  -- the refusal that is given again
  abbrev pub refusal : Opening D g → Option OpenError
  refusal opening = opening.refused

  -- the body that was read last
  abbrev pub last_body : Opening D g → Text
  last_body opening = part opening.body.start opening.body.size opening.window.buffer.items

  -- the bytes that are left, which a loop over the records uses up
  abbrev pub bytes_left : Opening D g → ℕ
  bytes_left opening = opening.size - opening.place

  -- A file with the header is to be read from its first record on. All of it is on the disk.
  pub record HasBegun (old : D) (new : Opening D g) : Type 0 where
    pub begins : IfSome (g.contents old) (λ bytes. take 16 bytes ≡ header)
    pub list : read_list new ≡ option_map (λ _. []) (g.contents old)
    pub place : next_offset new ≡ 16
    pub continues : (is_ended new ≡ false) × (refusal new ≡ None)
    pub only_reads : OnlyReads g old (opening_disk new)
    pub fine : g.faults (opening_disk new) ≡ g.faults old

  -- one record more was read
  pub record HasRead (old new : Opening D g) : Type 0 where
    pub list : read_list new ≡ option_map (λ list. list ++ last_body new ∷ []) (read_list old)
    pub some : 1 ≤ length (last_body new)
    pub few : length (last_body new) ≤ 131072
    pub place : next_offset new ≡ next_offset old + 5 + length (last_body new)
    pub shorter : bytes_left new < bytes_left old
    pub continues : (is_ended new ≡ false) × (refusal new ≡ None)

  -- the closed commit byte was read: the file represents the records that were read
  pub record HasEnded (old new : Opening D g) : Type 0 where
    pub list : read_list new ≡ read_list old
    pub ended : is_ended new ≡ true
    pub place : next_offset new ≡ next_offset old
    pub continues : refusal new ≡ None
    pub stands : IfSome (g.contents (opening_disk new))
        (λ bytes. IfSome (read_list new) (Represents bytes))
    pub walk : IfSome (g.contents (opening_disk new)) (λ bytes. IfSome (read_list new)
        (λ list. walk_of bytes ≡ record { records = list; end = at_commit_byte }))

  -- the file is not read on, and this refusal is given again
  pub record HasRefused (old new : Opening D g) (why : OpenError) : Type 0 where
    pub list : read_list new ≡ read_list old
    pub kept : refusal new ≡ Some why
    pub continues : is_ended new ≡ is_ended old

  -- What every step does. A refusal that was given is given again, and so is the end; a fresh
  -- refusal has its cause, and on a file that represents records it is a failure of the disk.
  pub record HasStepped (old new : Opening D g) (ended : Bool)
      (why : Option OpenError) : Type 0 where
    pub again : IfSome (refusal old) (λ kept. (why ≡ Some kept)
        × (opening_disk new ≡ opening_disk old))
    pub rests : is_ended old ≡ true → refusal old ≡ None
        → (ended ≡ true) × (why ≡ None) × (opening_disk new ≡ opening_disk old)
    pub reason : refusal old ≡ None
        → IfSome why (HasReason g (opening_disk old) (opening_disk new) (next_offset old))
    pub kind : refusal old ≡ None → IfSome why IsOfRecord
    pub whole : refusal old ≡ None
        → IfSome why (λ e. IfSome (g.contents (opening_disk old)) (λ bytes. (list : List Text)
        → Represents bytes list → e ≡ Failed))
    pub walk : refusal old ≡ None
        → IfSome why (λ e. IfSome (g.contents (opening_disk old))
        (λ bytes. IfSome (read_list old) (IsWalkTo e bytes)))
    pub only_reads : OnlyReads g (opening_disk old) (opening_disk new)
    pub fine : IfSome why (λ e. e ≢ Failed)
        → g.faults (opening_disk new) ≡ g.faults (opening_disk old)

  -- a step, by its answer: a record, the end, or a refusal
  abbrev pub Steps : Opening D g → Opening D g → Result Bool OpenError → Type 0
  Steps old new (Ok true) = HasRead old new × HasStepped old new false None
  Steps old new (Ok false) = HasEnded old new × HasStepped old new true None
  Steps old new (Err why) = HasRefused old new why × HasStepped old new false (Some why)

  -- the same of `next`, which borrows the body
  abbrev pub Nexts : Opening D g → Opening D g → Result (Option (Bor Text)) OpenError → Type 0
  Nexts old new (Ok (Some body)) = (last_body new ≡ body.now) × HasRead old new
      × HasStepped old new false None
  Nexts old new (Ok None) = HasEnded old new × HasStepped old new true None
  Nexts old new (Err why) = HasRefused old new why × HasStepped old new false (Some why)
