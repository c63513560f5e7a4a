use Rattle.std.proofs.Common.{◌≡◌, ◌∙◌, [], ◌∷◌, Ok, length, sym, subst, ap, refl}
use Rattle.std.proofs.lemmas.Option.{same_Some}
use Rattle.std.proofs.lemmas.Result.{IfOk-weaker}
use Rattle.disk_core.specs.Memory.{bytes_of}
use Rattle.disk_core.specs.declared.memory.mem_disk.MemDisk.{MemDisk}
use Rattle.journal_core.specs.Format.{Represents}
use Rattle.issuance_log.specs.Folds.{log_of, new_log}
use Rattle.issuance_log.specs.Records.{settings_record}
use Rattle.issuance_log.specs.Settings.{Settings}
use Rattle.drill_core.specs.Entries.{log_settings}
use Rattle.drill_parties.specs.Disks.{records_on}
use Rattle.drill_core.proofs.log_party.LogParty.create.Goals as goal

pub returns-in-Ok-clause-state : goal.returns-in-Ok-clause-state
returns-in-Ok-clause-state g c =
    let settings : Settings = c.in_ok-settings.settings in
    let holds : Represents (bytes_of c.into_disk.result) (records_on c.into_disk.result) =
    subst (λ (d : MemDisk). Represents (bytes_of d) (records_on d)) (sym c.into_disk.ensures)
    (c.in-Ok.journal.stands (bytes_of c.in-Ok.journal.disk) refl) in
    let first : records_on c.into_disk.result ≡ settings_record settings ∷ [] =
    ap records_on c.into_disk.ensures
    ∙ same_Some (records_on c.in-Ok.journal.disk) (settings_record settings ∷ [])
    c.in-Ok.ensures.ok.list in
    IfOk-weaker c.opened.result _ _ (λ _ is. is (records_on c.into_disk.result)
    (new_log log_settings) holds (ap (log_of g.H.TreeHash.hash) first
    ∙ c.in-Ok.ensures.valid g.H.TreeHash.hash
    ∙ ap (λ (s : Settings). Ok (new_log s)) c.in_ok-settings.ensures)) c.opened.ensures.state

pub returns-in-Ok-clause-stops : goal.returns-in-Ok-clause-stops
returns-in-Ok-clause-stops g c =
    IfOk-weaker c.opened.result _ _ (λ _ is. is ∙ ap length c.new-in-Ok-2.ensures.made)
    c.opened.ensures.stops
