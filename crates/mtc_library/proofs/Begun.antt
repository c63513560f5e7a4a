-- What is opened over a journal that was just started is the new cosigner, or the new log.
use Rattle.std.proofs.Common.{ℕ, ◌≤◌, le_refl, ◌≡◌, ◌∙◌, ap, subst, List, [], ◌∷◌}
use Rattle.std.proofs.Common.{Option, Some, None, Ok}
use Rattle.std.specs.Prelude.{option_map, IfSome}
use Rattle.byte_formats.specs.Types.{HashFunction, Text}
use Rattle.disk_core.specs.Disk.{NoNew}
use Rattle.disk_core.specs.Times.{OnlyReads}
use Rattle.disk_core.specs.declared.disk.Disk.{Ghosts}
use Rattle.tree_core.specs.declared.hashing.TreeHash.{Ghosts as Hashes}
use Rattle.journal_core.specs.Format.{records_of}
use Rattle.journal_core.specs.Starts.{HasStarted}
use Rattle.journal_core.specs.Words.{AllRepresent, disk_of, records}
use Rattle.journal_core.specs.declared.journal.Journal.{Journal}
use Rattle.cosigner_core.specs.Folds.{CosignerState, cosigner_of, new_cosigner}
use Rattle.cosigner_core.specs.Records.{cosigner_record}
use Rattle.cosigner_core.specs.Words.{cosigner_disk, cosigner_records, cosigner_owner}
use Rattle.cosigner_core.specs.Words.{cosigner_state}
use Rattle.cosigner_core.specs.declared.cosigner.Cosigner.{Cosigner}
use Rattle.cosigner_core.specs.declared.settings.CosignerSettings.{CosignerSettings}
use Rattle.cosigner_core.specs.Openings.{CosignerIsOpened}
use Rattle.issuance_log.specs.Folds.{LogState, log_of, new_log}
use Rattle.issuance_log.specs.Opened.{LogIsOpened}
use Rattle.issuance_log.specs.Records.{settings_record}
use Rattle.issuance_log.specs.Settings.{Settings}
use Rattle.issuance_log.specs.Shown.{shown_with}
use Rattle.issuance_log.specs.Words.{log_disk, log_records, view_of}
use Rattle.issuance_log.specs.declared.log.Log.{Log}
use Rattle.mtc_library.specs.Beginnings.{HasNewJournal, IsNewCosigner, IsNewLog}

left_by : {D : Type 0} (g : Ghosts D) (first : Text) (known : Option Text)
    (list : Option (List Text)) (old new : D)
    → list ≡ option_map (λ _. first ∷ []) known → IfSome list (AllRepresent g old)
    → NoNew (g.may_leave old) (g.may_leave new)
    → IfSome known (λ _. AllRepresent g new (first ∷ []))
left_by g first None list old new is all less = tt
left_by g first (Some bytes) list old new is all less =
    let holds : AllRepresent g old (first ∷ []) =
    subst (λ (r : Option (List Text)). IfSome r (AllRepresent g old)) is all in
    λ c left. holds c (less c left)

-- A journal that was started stands on its disk, also after that was read.
pub stands : {D : Type 0} {g : Ghosts D} (first : Text) (disk new : D) (journal : Journal D g)
    → HasStarted first disk journal → OnlyReads g (disk_of journal) new
    → HasNewJournal g first disk new
stands {D} {g} first disk new journal started reads = record {
  empty = started.empty;
  written = reads.contents ∙ started.written;
  all = left_by g first (g.contents disk) (records journal) (disk_of journal) new started.list
      started.all reads.crash;
  later = subst (λ (n : ℕ). n ≤ g.faults new) started.fine reads.faults;
}

-- The disk of the journal that was started.
pub just_begun : {D : Type 0} {g : Ghosts D} (first : Text) (disk : D) (journal : Journal D g)
    → HasStarted first disk journal → HasNewJournal g first disk (disk_of journal)
just_begun {D} {g} first disk journal started = record {
  empty = started.empty;
  written = started.written;
  all = left_by g first (g.contents disk) (records journal) (disk_of journal) (disk_of journal)
      started.list started.all (λ c left. left);
  later = subst (λ (n : ℕ). n ≤ g.faults (disk_of journal)) started.fine
      (le_refl (g.faults (disk_of journal)));
}

list_is : {D : Type 0} {g : Ghosts D} (first : Text) (disk new : D) (journal : Journal D g)
    (list : Option (List Text)) → HasStarted first disk journal
    → OnlyReads g (disk_of journal) new → list ≡ option_map records_of (g.contents new)
    → list ≡ option_map (λ _. first ∷ []) (g.contents disk)
list_is first disk new journal list started reads is =
    is ∙ (ap (option_map records_of) reads.contents ∙ started.list)

state_is : (h : HashFunction) (first : Text) (state made : CosignerState) (known : Option Text)
    (list : Option (List Text)) → list ≡ option_map (λ _. first ∷ []) known
    → IfSome list (λ found. cosigner_of h found ≡ Ok state)
    → cosigner_of h (first ∷ []) ≡ Ok made → IfSome known (λ _. state ≡ made)
state_is h first state made None list is valid begins = tt
state_is h first state made (Some bytes) list is valid begins =
    let here : cosigner_of h (first ∷ []) ≡ Ok state =
    subst (λ (r : Option (List Text)). IfSome r (λ found. cosigner_of h found ≡ Ok state)) is valid
    in
    cc

pub new_cosigner_is : {H D : Type 0} {hashes : Hashes H} {g : Ghosts D}
    (settings : CosignerSettings) (secret : Text) (disk : D) (journal : Journal D g)
    (it : Cosigner H D hashes g)
    → HasStarted (cosigner_record settings secret) disk journal
    → cosigner_of hashes.hash (cosigner_record settings secret ∷ [])
    ≡ Ok (new_cosigner hashes.hash settings secret)
    → CosignerIsOpened g hashes.hash (disk_of journal) (cosigner_owner it)
    → IsNewCosigner settings secret disk it
new_cosigner_is {H} {D} {hashes} {g} settings secret disk journal it started begins opened =
    let first : Text = cosigner_record settings secret in
    let recorded = list_is first disk (cosigner_disk it) journal (cosigner_records it) started
    opened.only_reads opened.list in
    record {
      begun = stands first disk (cosigner_disk it) journal started opened.only_reads;
      fine = opened.fine ∙ started.fine;
      sound = opened.sound;
      records = recorded;
      state = state_is hashes.hash first (cosigner_state it)
          (new_cosigner hashes.hash settings secret) (g.contents disk) (cosigner_records it)
          recorded opened.valid begins;
    }

log_is : (h : HashFunction) (first : Text) (shown : List Text → LogState) (made : LogState)
    (known : Option Text) (list : Option (List Text))
    → list ≡ option_map (λ _. first ∷ []) known
    → IfSome list (λ found. log_of h found ≡ Ok (shown found))
    → log_of h (first ∷ []) ≡ Ok made
    → option_map shown list ≡ option_map (λ _. made) known
log_is h first shown made None list is valid begins = ap (option_map shown) is
log_is h first shown made (Some bytes) list is valid begins =
    let here : log_of h (first ∷ []) ≡ Ok (shown (first ∷ [])) =
    subst (λ (r : Option (List Text)). IfSome r (λ found. log_of h found ≡ Ok (shown found))) is
    valid in
    let same : shown (first ∷ []) ≡ made = cc in
    ap (option_map shown) is ∙ ap Some same

pub new_log_is : {H D T : Type 0} {hashes : Hashes H} {g : Ghosts D} {k : Ghosts T}
    (settings : Settings) (disk : D) (tiles : T) (journal : Journal D g)
    (it : Log H D T hashes g k)
    → HasStarted (settings_record settings) disk journal
    → log_of hashes.hash (settings_record settings ∷ []) ≡ Ok (new_log settings)
    → LogIsOpened (disk_of journal) tiles it → IsNewLog settings disk tiles it
new_log_is {H} {D} {T} {hashes} {g} {k} settings disk tiles journal it started begins opened =
    let first : Text = settings_record settings in
    let recorded = list_is first disk (log_disk it) journal (log_records it) started
    opened.only_reads opened.list in
    record {
      begun = stands first disk (log_disk it) journal started opened.only_reads;
      fine = opened.fine ∙ started.fine;
      sound = opened.sound;
      records = recorded;
      state = log_is hashes.hash first (shown_with (view_of it)) (new_log settings)
          (g.contents disk) (log_records it) recorded opened.valid begins;
      only_reads = opened.only_reads_tiles;
    }
