-- What the records of a journal make of a cosigner. The first one begins it, and each later one is
-- an Advance, a Sign or a Child that its state allows. Its key counts up as RFC 8554, section 5.2
-- has it.
use Rattle.std.specs.Prelude.{ℕ, ◌+◌, List, Option, Some, None, option_map, option_and_then}
use Rattle.std.specs.Prelude.{Result, if◌then◌else◌}
use Rattle.byte_formats.specs.Types.{Hash, HashFunction, Text}
use Rattle.tree_proofs.specs.Checkpoints.{empty_checkpoint}
use Rattle.tree_proofs.specs.declared.checkpoint.Checkpoint.{Checkpoint}
use Rattle.journal_core.specs.Folds.{Fold, state_after}
use Rattle.state_journal.specs.declared.error.StateOpenError.{StateOpenError}
use Rattle.state_journal.specs.declared.error.StateOpenError.TheVariants.{BadRecord, Open}
use Rattle.hss_keys.specs.Keys.{SigningState, keys_there, signing_state}
use Rattle.cosigner_core.specs.Progress.{is_allowed, shown_low, terms_of, with_step}
use Rattle.cosigner_core.specs.Records.{cosigner_in, step_in}
use Rattle.cosigner_core.specs.declared.step.Step.{Step}
use Rattle.cosigner_core.specs.declared.progress.Progress.{Progress}
use Rattle.cosigner_core.specs.declared.settings.CosignerSettings.{CosignerSettings}
use Rattle.cosigner_core.specs.declared.terms.KeyTerms.{KeyTerms}

-- A cosigner: its id and that of its log, what it holds of the log, and its key, which counts.
pub record CosignerState : Type 0 where
  pub id : Text
  pub log : Text
  pub held : Checkpoint
  pub key : SigningState

-- a new cosigner holds no entries, and no one-time key has signed
abbrev pub new_cosigner : HashFunction → CosignerSettings → Text → CosignerState
new_cosigner h s secret = record {
  id = s.id;
  log = s.log;
  held = empty_checkpoint h;
  key = signing_state s.lms s.low s.ots secret 0 0;
}

-- this checkpoint instead of the one that is held
abbrev pub holding : ℕ → Hash → CosignerState → CosignerState
holding size root s =
    record { id = s.id; log = s.log; held = record { size = size; root = root }; key = s.key }

-- the next one-time key has signed
abbrev pub having_signed : CosignerState → CosignerState
having_signed s = record {
  id = s.id;
  log = s.log;
  held = s.held;
  key = record { key = s.key.key; children = s.key.children; next = s.key.next + 1 };
}

-- there is one lower tree more
abbrev pub having_child : CosignerState → CosignerState
having_child s = record {
  id = s.id;
  log = s.log;
  held = s.held;
  key = record { key = s.key.key; children = s.key.children + 1; next = s.key.next };
}

-- how many one-time keys there are
abbrev pub key_count : CosignerState → ℕ
key_count s = keys_there s.key.key.top.lms s.key.key.low s.key.children

-- the terms of its key
abbrev pub terms_by : CosignerState → KeyTerms
terms_by s = terms_of s.key.key.top.lms s.key.key.low

-- how far it has come
abbrev pub progress_of : CosignerState → Progress
progress_of s = record {
  held = s.held;
  next = s.key.next;
  children = s.key.children;
  low = shown_low s.key.children s.key.key.low;
}

-- the same cosigner, having come so far
abbrev pub with_progress : CosignerState → Progress → CosignerState
with_progress s p = record {
  id = s.id;
  log = s.log;
  held = p.held;
  key = record { key = s.key.key; children = p.children; next = p.next };
}

-- the cosigner after a step, where it is allowed
abbrev pub after_step : HashFunction → CosignerState → Step → Option CosignerState
after_step h s step =
    if is_allowed h (terms_by s) (progress_of s) step
    then Some (with_progress s (with_step (progress_of s) step)) else None

-- the cosigner that a first record begins
unfoldable pub begun_cosigner : HashFunction → Text → Option CosignerState
begun_cosigner h body = option_map (λ x. new_cosigner h x.0 x.1) (cosigner_in body)

-- the cosigner after one record more, or none where the record breaks the rules
unfoldable pub next_state : HashFunction → CosignerState → Text → Option CosignerState
next_state h s body = option_and_then (after_step h s) (step_in body)

-- A cosigner as a kind of journal.
abbrev pub cosigner_fold : HashFunction → Fold CosignerState StateOpenError
cosigner_fold h =
    record {
      begins = begun_cosigner h;
      takes = next_state h;
      bad_record = BadRecord;
      not_read = Open;
    }

-- The cosigner of a journal with these records, or the number of the first record that breaks the
-- rules. Without a record the first one is missing.
abbrev pub cosigner_of : HashFunction → List Text → Result CosignerState ℕ
cosigner_of h list = state_after (cosigner_fold h) list
