-- The records of each journal of a command are those of a log, a cosigner or a mirror.
use Rattle.std.proofs.Common.{inl, inr, ℕ, List, [], ◌∷◌, Result, Ok, Err}
use Rattle.byte_formats.specs.Types.{HashFunction}
use Rattle.mtc_words.specs.declared.error.WordError.{WordError}
use Rattle.mtc_words.specs.Commands.{CommandValue}
use Rattle.command_plans.specs.Plans.{Journal, makes, opens}
use Rattle.command_plans.specs.Rules.{AreOfKind}
use Rattle.mtc_plans.specs.Commands.{plan_of}
use Rattle.mtc_plans.specs.PartyKinds.{PartyKind, cosigner, log, mirror, rebuilt_log}
use Rattle.mtc_plans.specs.PartyKinds.{party_kinds}
use Rattle.party_history.specs.Rules.{AreRecords}
use Rattle.mtc_laws.proofs.Opened.{EachKeeps, SpokenKeeps}

kind_records : (h : HashFunction) (kind : PartyKind) (list : List (List ℕ))
    → AreOfKind (party_kinds h) kind list → AreRecords h list
kind_records h log list is = inl is
kind_records h rebuilt_log list is = inl is
kind_records h cosigner list is = inr (inl is)
kind_records h mirror list is = inr (inr is)

each_records : (h : HashFunction) (journals : List (Journal (party_kinds h)))
    → EachKeeps (party_kinds h) (AreRecords h) journals
each_records h [] = tt
each_records h (opens kind beside name ∷ rest) = (kind_records h kind, each_records h rest)
each_records h (makes kind name ∷ rest) = (kind_records h kind, each_records h rest)

pub spoken_records : (h : HashFunction) (r : Result CommandValue WordError)
    → SpokenKeeps h (AreRecords h) r
spoken_records h (Ok command) = each_records h (plan_of h command).journals
spoken_records h (Err why) = tt
