use Rattle.std.proofs.Common.{◌≡◌, ◌∙◌, [], ◌∷◌, Ok, length, sym, subst, ap, refl}
use Rattle.std.proofs.lemmas.Option.{same_Some}
use Rattle.std.proofs.lemmas.Result.{IfOk-weaker}
use Rattle.disk_core.specs.Memory.{bytes_of}
use Rattle.disk_core.specs.declared.memory.mem_disk.MemDisk.{MemDisk}
use Rattle.journal_core.specs.Format.{Represents}
use Rattle.byte_formats.specs.Types.{Text}
use Rattle.cosigner_core.specs.Folds.{cosigner_of, new_cosigner}
use Rattle.cosigner_core.specs.Records.{cosigner_record}
use Rattle.cosigner_core.specs.declared.settings.CosignerSettings.{CosignerSettings}
use Rattle.drill_parties.specs.CosignerParties.{cosigner_settings, secret_of}
use Rattle.drill_parties.specs.Disks.{records_on}
use Rattle.drill_parties.proofs.cosigner_party.CosignerParty.create.Goals as goal

pub returns-in-Ok-clause-state : goal.returns-in-Ok-clause-state
returns-in-Ok-clause-state g c =
    let h = g.H.TreeHash.hash in
    let holds : Represents (bytes_of c.into_disk.result) (records_on c.into_disk.result) =
    subst (λ (d : MemDisk). Represents (bytes_of d) (records_on d)) (sym c.into_disk.ensures)
    (c.in-Ok.journal.stands (bytes_of c.in-Ok.journal.disk) refl) in
    let first : records_on c.into_disk.result
    ≡ cosigner_record c.in_ok-settings.settings c.in_ok-secret.secret ∷ [] =
    ap records_on c.into_disk.ensures
    ∙ same_Some (records_on c.in-Ok.journal.disk)
    (cosigner_record c.in_ok-settings.settings c.in_ok-secret.secret ∷ [])
    c.in-Ok.ensures.ok.list in
    IfOk-weaker c.opened.result _ _ (λ it is. (is (records_on c.into_disk.result)
    (new_cosigner h (cosigner_settings c.args.last) (secret_of c.args.last c.args.number)) holds
    (ap (cosigner_of h) first ∙ c.in-Ok.ensures.valid h
    ∙ ap (λ (s : CosignerSettings). Ok (new_cosigner h s c.in_ok-secret.secret))
    c.in_ok-settings.ensures
    ∙ ap (λ (t : Text). Ok (new_cosigner h (cosigner_settings c.args.last) t))
    c.in_ok-secret.ensures)).0) c.opened.ensures.state

pub returns-in-Ok-clause-stops : goal.returns-in-Ok-clause-stops
returns-in-Ok-clause-stops g c =
    IfOk-weaker c.opened.result _ _ (λ it is. is ∙ ap length c.new-in-Ok.ensures.made)
    c.opened.ensures.stops
