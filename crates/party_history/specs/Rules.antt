-- The rules of the records of logs, cosigners and mirrors, by what begins them.
use Rattle.std.specs.Prelude.{◌≡◌, ◌⊎◌, Bool, List, Some, Ok, IsOk}
use Rattle.byte_formats.specs.Types.{Text, HashFunction}
use Rattle.cosigner_core.specs.Folds.{CosignerState, cosigner_of}
use Rattle.cosigner_core.specs.Openings.{cosigner_read}
use Rattle.cosigner_core.specs.Progress.{may_follow_cosigner, terms_of}
use Rattle.cosigner_core.specs.Records.{cosigner_in}
use Rattle.hss_keys.specs.Keys.{public_of, signing_key}
use Rattle.issuance_log.specs.Folds.{LogState, log_of, may_follow_log}
use Rattle.issuance_log.specs.Openings.{log_read}
use Rattle.issuance_log.specs.Records.{settings_in}
use Rattle.mirror_core.specs.Folds.{MirrorState, may_follow_mirror, mirror_of}
use Rattle.mirror_core.specs.Openings.{mirror_read}
use Rattle.mirror_core.specs.Records.{mirror_log_in}
use Rattle.party_history.specs.declared.start.PartyStart.{PartyStart}
use Rattle.party_history.specs.declared.start.PartyStart.TheVariants.{Log, Cosigner, Mirror}

-- These bodies may follow the record with which a party begins.
abbrev pub may_follow : HashFunction → PartyStart → List Text → Bool
may_follow h (Log settings) bodies = may_follow_log h settings bodies
may_follow h (Cosigner settings public) bodies =
    may_follow_cosigner h (terms_of settings.lms settings.low) bodies
may_follow h (Mirror log) bodies = may_follow_mirror h log bodies

-- The first record of a party's journal says how it began: the settings of a log; the settings of a
-- cosigner and a secret, to which its public key belongs; or the id of the log of a mirror.
abbrev pub StartsWith : PartyStart → Text → Type 0
StartsWith (Log settings) first = settings_in first ≡ Some settings
StartsWith (Cosigner settings public) first = (secret : Text)
    × ((cosigner_in first ≡ Some (settings, secret))
    × (public_of (signing_key settings.lms settings.low settings.ots secret) ≡ public))
StartsWith (Mirror log) first = mirror_log_in first ≡ Some log

-- A journal may hold these records: they make a log, a cosigner or a mirror.
abbrev pub AreRecords : HashFunction → List Text → Type 0
AreRecords h list =
    IsOk (log_of h list) ⊎ (IsOk (cosigner_of h list) ⊎ IsOk (mirror_of h list))

-- A file with these bytes is opened as the log, the cosigner or the mirror that has these records.
abbrev pub IsReadAs : HashFunction → PartyStart → Text → List Text → Type 0
IsReadAs h (Log settings) bytes list =
    (s : LogState) × (log_read h bytes ≡ Ok (record { records = list; state = s }))
IsReadAs h (Cosigner settings public) bytes list =
    (s : CosignerState) × (cosigner_read h bytes ≡ Ok (record { records = list; state = s }))
IsReadAs h (Mirror log) bytes list =
    (s : MirrorState) × (mirror_read h bytes ≡ Ok (record { records = list; state = s }))
