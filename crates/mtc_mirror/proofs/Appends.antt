-- What comes of appending a record to the journal of a mirror that was opened just now, which is
-- only read before.
use Rattle.std.proofs.Common.{◌≡◌, ◌≤◌, ◌++◌, [], ◌∷◌, List, Option, None, Some, IfSome, inl, inr}
use Rattle.std.proofs.Common.{option_map, refl, subst, ap, ◌∙◌}
use Rattle.std.specs.Prelude.{◌≢◌, option_and_then}
use Rattle.byte_formats.specs.Types.{Text}
use Rattle.disk_core.specs.Times.{LeavesOnly, OnlyReads}
use Rattle.disk_core.specs.declared.disk.Disk.{Ghosts}
use Rattle.disk_core.proofs.Times.{joined, weaker}
use Rattle.journal_core.specs.Ends.{durable_of}
use Rattle.journal_core.specs.Format.{RepresentsEither}
use Rattle.journal_core.specs.Words.{AllRepresent}
use Rattle.mtc_io.specs.Counts.{Rose}
use Rattle.tree_core.specs.declared.hashing.TreeHash.{Ghosts as Hashes}
use Rattle.mirror_core.specs.Words.{mirror_both_records, mirror_disk, mirror_end, mirror_records}
use Rattle.mirror_core.specs.Words.{mirror_tiles_disk}
use Rattle.mirror_core.specs.declared.mirror.Mirror.{Mirror}
use Rattle.mtc_command.specs.Answers.{Ending, Reply, no_memory, replied, room_failed, said}
use Rattle.mtc_command.specs.Answers.{status_of}
use Rattle.mtc_command.specs.Steps.{Outcome, answers_on, appends}
use Rattle.mtc_command.specs.Works.{HasWorked, HasWorkedTiled}
use Rattle.mtc_command.specs.declared.answer.Said.TheVariants.{Done}
use Rattle.mtc_command.proofs.Tiled.{tiled_less, tiled_of}
use Rattle.mtc_command.proofs.Works.{appended_on, both_some, failed_on, out_of_memory_on, read_on}
use Rattle.mtc_command.proofs.Works.{says_so}
use Rattle.mtc_mirror.specs.Works.{IsReadyMirror}

-- the records are known if the bytes of the tiles are known too
pub known_more : {X : Type 0} (P : X → Type 0) (x : Option X) (contents : Option Text)
    → IfSome x P → IfSome (option_and_then (λ bytes. x) contents) P
known_more P x None is = tt
known_more P x (Some bytes) is = is

-- a mirror whose journal was only read has the same records
pub same_records : {H D : Type 0} {hashes : Hashes H} {g : Ghosts D}
    (old read : Mirror H D D hashes g g) → OnlyReads g (mirror_disk old) (mirror_disk read)
    → mirror_end read ≡ mirror_end old → mirror_records read ≡ mirror_records old
same_records {g = g} old read only end =
    ap (λ n. option_map (durable_of n) (g.contents (mirror_disk read))) end
    ∙ ap (option_map (durable_of (mirror_end old))) only.contents

module _ {H D : Type 0} {hashes : Hashes H} {g : Ghosts D} (name : Text)
    (old read new : Mirror H D D hashes g g) (ready : IsReadyMirror old)
    (reads : OnlyReads g (mirror_disk old) (mirror_disk read))
    (records : mirror_records read ≡ mirror_records old) (says : List Text → Outcome) where
  abbrev Works : Ending → Type 0
  Works = HasWorkedTiled g name (mirror_both_records old) says (mirror_disk old) (mirror_disk new)
      (mirror_tiles_disk old) (mirror_tiles_disk new)

  -- the work is on the device of the journal alone, and the outcome is said in other words
  alone : (wanted : List Text → Outcome) (ending : Ending)
      → IfSome (mirror_records old) (λ list. wanted list ≡ says list)
      → HasWorked g name (mirror_records old) wanted (mirror_disk old) (mirror_disk new) ending
      → Works ending
  alone wanted ending same work =
      tiled_less g name (mirror_records old) (mirror_disk old) (mirror_disk new)
      (mirror_tiles_disk old) (mirror_tiles_disk new) (g.contents (mirror_tiles_disk old)) says
      ending
      (tiled_of g name (mirror_records old) (mirror_disk old) (mirror_disk new)
      (mirror_tiles_disk old) (mirror_tiles_disk new) says ending
      (says_so g name (mirror_records old) (mirror_disk old) (mirror_disk new) wanted says ending
      same work))

  module _ (body text : Text)
      (same : IfSome (mirror_records old) (λ list. appends list body text ≡ says list))
      (later : g.faults (mirror_disk old) ≤ g.faults (mirror_disk new))
      (leaves : IfSome (mirror_records read) (λ list.
      LeavesOnly g (mirror_disk read) (mirror_disk new) (RepresentsEither list body))) where
    -- at any time since the opening
    any_time : IfSome (mirror_records old) (λ list.
        LeavesOnly g (mirror_disk old) (mirror_disk new) (RepresentsEither list body))
    any_time = both_some (mirror_records old) ready.all
        (subst (λ (o : Option (List Text)). IfSome o (λ list.
        LeavesOnly g (mirror_disk read) (mirror_disk new) (RepresentsEither list body))) records
        leaves)
        (λ list all run. joined g (mirror_disk old) (mirror_disk read) (mirror_disk new)
        (RepresentsEither list body)
        (weaker g (mirror_disk old) (mirror_disk read) (g.may_leave (mirror_disk old))
        (RepresentsEither list body) (λ c at. inl (all c at)) reads.times) run)

    -- the record was appended, and memory for the text was taken before
    pub made_so : IfSome (mirror_records read)
        (λ list. AllRepresent g (mirror_disk new) (list ++ body ∷ []))
        → Works (replied (said Done text))
    made_so kept = alone (λ list. appends list body text) (replied (said Done text)) same
        (appended_on g name (mirror_records old) (mirror_disk old) (mirror_disk new) body text later
        any_time
        (subst (λ (o : Option (List Text)). IfSome o (λ list.
        AllRepresent g (mirror_disk new) (list ++ body ∷ []))) records kept))

    -- the device failed in the append
    pub lost_so : Rose (g.faults (mirror_disk old)) (g.faults (mirror_disk new))
        → IfSome (mirror_records read) (λ list. (c : Text) → g.may_leave (mirror_disk new) c
        → RepresentsEither list body c) → Works (room_failed name)
    lost_so cause after = alone (λ list. appends list body text) (room_failed name) same
        (failed_on g name (mirror_records old) (mirror_disk old) (mirror_disk new) body text cause
        later any_time
        (subst (λ (o : Option (List Text)). IfSome o (λ list. (c : Text)
        → g.may_leave (mirror_disk new) c → RepresentsEither list body c)) records after))

  -- the mirror refuses, and its journal was only read
  pub refused_so : (reply : Reply)
      → IfSome (mirror_records old) (λ list. answers_on list reply ≡ says list)
      → status_of reply ≢ 1 → OnlyReads g (mirror_disk old) (mirror_disk new)
      → Works (replied reply)
  refused_so reply same code only = alone (λ list. answers_on list reply) (replied reply) same
      (read_on g name (mirror_records old) (mirror_disk old) (mirror_disk new) reply
      (replied reply) (inr only) (refl, code))

  -- memory was refused
  pub spared_so : OnlyReads g (mirror_disk old) (mirror_disk new) → Works no_memory
  spared_so only =
      tiled_less g name (mirror_records old) (mirror_disk old) (mirror_disk new)
      (mirror_tiles_disk old) (mirror_tiles_disk new) (g.contents (mirror_tiles_disk old)) says
      no_memory
      (tiled_of g name (mirror_records old) (mirror_disk old) (mirror_disk new)
      (mirror_tiles_disk old) (mirror_tiles_disk new) says no_memory
      (out_of_memory_on g name (mirror_records old) (mirror_disk old) (mirror_disk new) says
      (inr only)))
