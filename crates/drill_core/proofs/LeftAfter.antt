-- What a call that may be stopped leaves of the device of a log.
use Rattle.std.proofs.Common.{◌≡◌, ◌∙◌, List, [], ◌∷◌, ◌++◌, Option, Ok, Bool, option_map, ap, sym}
use Rattle.std.proofs.Common.{subst}
use Rattle.std.specs.Prelude.{IfSome}
use Rattle.std.proofs.lemmas.Option.{same_Some}
use Rattle.byte_formats.specs.Types.{Text, HashFunction}
use Rattle.disk_core.specs.declared.disk.Disk.{Ghosts}
use Rattle.tree_core.specs.declared.hashing.TreeHash.{Ghosts as Hashes}
use Rattle.journal_core.specs.Format.{RepresentsEither}
use Rattle.issuance_log.specs.Folds.{LogState, LogView, log_of}
use Rattle.issuance_log.specs.Shown.{shown_with}
use Rattle.issuance_log.specs.Words.{log_disk, view_of}
use Rattle.issuance_log.specs.declared.log.Log.{Log}
use Rattle.drill_core.specs.Calls.{HasCalledLog, IsLogWith, made_by, record_of}
use Rattle.drill_core.specs.Parties.{IsLeft}
use Rattle.drill_core.specs.declared.calls.LogCall.{LogCall}

module _ {H D T : Type 0} {hashes : Hashes H} {g : Ghosts D} {k : Ghosts T} (h : HashFunction)
    (crash_states : Text → Type 0) where
  pub log_left : (call : LogCall) (old new : Log H D T hashes g k) (done : Bool) (s : LogState)
      → ((c : Text) → crash_states c → g.may_leave (log_disk new) c) → IsLogWith h s old
      → HasCalledLog h call old new done → IsLeft h call s crash_states
  log_left call old new done s leaves is called =
      let seen : shown_with (view_of old) is.list ≡ s =
      same_Some (shown_with (view_of old) is.list) s
      (sym (ap (option_map (shown_with (view_of old))) is.records) ∙ is.state) in
      let valid = subst (λ (o : Option (List Text)). IfSome o (λ list.
      log_of h (list ++ record_of h (view_of old) call ∷ [])
      ≡ Ok (made_by h (view_of old) call (shown_with (view_of old) list)))) is.records
      called.valid in
      let either = subst (λ (o : Option (List Text)). IfSome o (λ list. (c : Text)
      → g.may_leave (log_disk new) c → RepresentsEither list (record_of h (view_of old) call) c))
      is.records (called.crash_states is.sound) in
      record {
        list = is.list;
        old = is.valid;
        new = subst (λ (v : LogView). log_of h (is.list ++ record_of h v call ∷ [])
            ≡ Ok (made_by h v call s)) (sym is.view)
            (subst (λ (t : LogState). log_of h (is.list ++ record_of h (view_of old) call ∷ [])
            ≡ Ok (made_by h (view_of old) call t)) seen valid);
        either = λ c there. subst (λ (v : LogView). RepresentsEither is.list (record_of h v call) c)
            (sym is.view) (either c (leaves c there));
      }
