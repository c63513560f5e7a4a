-- What calls that add a record make of a log.
use Rattle.std.specs.Prelude.{◌≡◌, ℕ, true, false, List, [], ◌∷◌, ◌++◌, length, IfSome, Ok, Bool}
use Rattle.std.specs.Prelude.{Some, option_map}
use Rattle.byte_formats.specs.Types.{Text, HashFunction}
use Rattle.disk_core.specs.declared.disk.Disk.{Ghosts}
use Rattle.tree_core.specs.declared.hashing.TreeHash.{Ghosts as Hashes}
use Rattle.journal_core.specs.Format.{Represents, RepresentsEither}
use Rattle.journal_core.specs.Words.{AllRepresent}
use Rattle.issuance_log.specs.Folds.{LogState, LogView, log_of, view_in, with_mark}
use Rattle.issuance_log.specs.Records.{landmark_record}
use Rattle.issuance_log.specs.Shown.{shown_with}
use Rattle.issuance_log.specs.Words.{log_broken, log_disk, log_records, modelled_state, view_of}
use Rattle.issuance_log.specs.declared.log.Log.{Log}
use Rattle.authority_core.specs.Issues.{issued_log, issued_record}
use Rattle.drill_core.specs.declared.calls.LogCall.{LogCall}
use Rattle.drill_core.specs.declared.calls.LogCall.TheVariants.{Issue, Mark}

-- the record of a call of a log
abbrev pub record_of : HashFunction → LogView → LogCall → Text
record_of h v (Issue request) = issued_record h v request
record_of h v Mark = landmark_record v.size

-- what the record of a call makes of a log that shows this
abbrev pub made_by : HashFunction → LogView → LogCall → LogState → LogState
made_by h v (Issue request) = issued_log h v request
made_by h v Mark = with_mark

-- the log that the record of a call makes
abbrev pub log_called : HashFunction → LogState → LogCall → LogState
log_called h s call = made_by h (view_in s) call s

-- how many entries the log has, or how many landmarks, by the kind of the call
abbrev pub count_in : LogState → LogCall → ℕ
count_in s (Issue request) = length s.entries
count_in s Mark = length s.marks

module _ {H D T : Type 0} {hashes : Hashes H} {g : Ghosts D} {k : Ghosts T} where
  -- This record more, which makes this of the log that the journal has, as the model knows it; and
  -- each crash state of its disk represents the records with it.
  pub record HasGrownBy (body : Text) (next : LogState → LogState) (old new : Log H D T hashes g k)
      : Type 0 where
    pub records : log_records new ≡ option_map (λ list. list ++ body ∷ []) (log_records old)
    pub contents : modelled_state new ≡ option_map next (modelled_state old)
    pub sound : log_broken new ≡ false
    pub kept : IfSome (log_records old) (λ list. AllRepresent g (log_disk new) (list ++ body ∷ []))

  -- A call of a log, which shows what its journal has: the records with that of the call are a
  -- log's, and each crash state of the disk represents the old records or these. If the call is
  -- done, the log has grown by its record.
  pub record HasCalledLog (h : HashFunction) (call : LogCall) (old new : Log H D T hashes g k)
      (done : Bool) : Type 0 where
    pub view : IfSome (modelled_state old) (λ s. view_in s ≡ view_of old)
    pub valid : IfSome (log_records old) (λ list.
        log_of h (list ++ record_of h (view_of old) call ∷ [])
        ≡ Ok (made_by h (view_of old) call (shown_with (view_of old) list)))
    pub crash_states : log_broken old ≡ false → IfSome (log_records old) (λ list. (c : Text)
        → g.may_leave (log_disk new) c
        → RepresentsEither list (record_of h (view_of old) call) c)
    pub grown : done ≡ true → HasGrownBy (record_of h (view_of old) call)
        (made_by h (view_of old) call) old new

  -- An open log with this state, over the records that make it.
  pub record IsLogWith (h : HashFunction) (s : LogState) (it : Log H D T hashes g k)
      : Type 0 where
    pub sound : log_broken it ≡ false
    pub state : modelled_state it ≡ Some s
    pub view : view_in s ≡ view_of it
    pub list : List Text
    pub records : log_records it ≡ Some list
    pub valid : log_of h list ≡ Ok s

  -- A disk that represents records was opened as the log that they make.
  pub record HasOpenedLog (h : HashFunction) (disk : D) (it : Log H D T hashes g k)
      : Type 0 where
    pub sound : log_broken it ≡ false
    pub found : IfSome (g.contents disk) (λ b. (list : List Text) (s : LogState) → Represents b list
        → log_of h list ≡ Ok s → (log_records it ≡ Some list) × (modelled_state it ≡ Some s))
    pub valid : IfSome (log_records it) (λ list. log_of h list ≡ Ok (shown_with (view_of it) list))
    pub crash_states : IfSome (log_records it) (AllRepresent g (log_disk it))
