-- The work on a journal's device: from the device after the journal was opened to the one that the
-- file system opened, and from that to the file system.
use Rattle.std.proofs.Common.{◌≡◌, ◌≤◌, inl, inr, ℕ, List, [], ◌∷◌, ◌++◌, Option, None}
use Rattle.std.proofs.Common.{Some}
use Rattle.std.proofs.Common.{IfSome, IsSome, option_map, subst, sym, ◌∙◌, ap, refl, arith, rules}
use Rattle.std.proofs.lemmas.Option.{IfSome_then}
use Rattle.mtc_io.specs.Counts.{Rose, with_count}
use Rattle.disk_core.specs.declared.disk.Disk.{Ghosts}
use Rattle.disk_core.specs.Times.{LeavesOnly, OnlyReads}
use Rattle.journal_core.specs.Format.{Represents, RepresentsEither, records_of}
use Rattle.journal_core.specs.Words.{AllRepresent}
use Rattle.mtc_room.specs.Room.{OpensBytes}
use Rattle.mtc_room.specs.declared.room.Room.{Ghosts as Rooms}
use Rattle.mtc_command.specs.Answers.{Ending, replied, room_failed, no_memory, IfReply, Reply}
use Rattle.mtc_command.specs.Answers.{said, status_of, IsEarly}
use Rattle.mtc_command.specs.Endings.{AddsBy, FailedOnly, IsNamed, LeftBy, Replies}
use Rattle.mtc_command.specs.Made.{IsOpen, Journaled, Leaves, ReadsAtMost, untouched}
use Rattle.mtc_command.specs.Served.{HasServed}
use Rattle.mtc_command.specs.Steps.{Outcome, answers, answers_on, appends, with_file}
use Rattle.mtc_command.specs.Wanted.{Meets, exactly}
use Rattle.mtc_command.specs.declared.answer.Said.TheVariants.{Done}
use Rattle.mtc_command.specs.Works.{HasFinished, HasGiven, HasOpened, HasClosed, HasWorked}
use Rattle.mtc_command.specs.Works.{HasWorkedOn}
use Rattle.mtc_command.specs.Works.{journaled_by}
use Rattle.mtc_command.proofs.Made.{ReadsCrashState, kept_of, left_kept, left_opened, worked}
use Rattle.mtc_command.proofs.Served.{failed_so, reply_so}

module _ {X : Type 0} where
  pub each_some : (x : Option X) (P : X → Type 0) → ((y : X) → P y) → IfSome x P
  each_some None P is = tt
  each_some (Some y) P is = is y

  pub both_some : {P Q R : X → Type 0} (x : Option X) → IfSome x P → IfSome x Q
      → ((y : X) → P y → Q y → R y) → IfSome x R
  both_some None p q so = tt
  both_some (Some y) p q so = so y p q

-- What the work on an open device, where these records were found, has given.
module _ {D : Type 0} (g : Ghosts D) (name : List ℕ) (list : Option (List (List ℕ)))
    (mid new : D) where
  later_of : ReadsAtMost g mid new → g.faults mid ≤ g.faults new
  later_of only =
      elim only [ inl same ↦ omega (arith, ap g.faults same) | inr only_reads ↦ only_reads.faults ]

  -- it was opened to be read
  pub read_on : (reply : Reply) (ending : Ending) → ReadsAtMost g mid new
      → Replies (exactly reply) ending
      → HasWorked g name list (λ records. answers_on records reply) mid new ending
  read_on reply (replied given) only is = record {
    ends = record { plain = is.1; later = later_of only; fault = tt };
    reply = each_some list _ (λ records. is.0);
    adds = each_some list _ (λ records opened. (opened, only));
  }
  read_on reply (room_failed file) only is = absurd is
  read_on reply no_memory only is = record {
    ends = record { plain = tt; later = later_of only; fault = tt };
    reply = tt;
    adds = each_some list _ (λ records opened. only);
  }

  -- memory was refused before there was anything to append
  pub out_of_memory_on : (says : List (List ℕ) → Outcome) → ReadsAtMost g mid new
      → HasWorked g name list says mid new no_memory
  out_of_memory_on says only = record {
    ends = record { plain = tt; later = later_of only; fault = tt };
    reply = tt;
    adds = each_some list _ (λ records opened. only);
  }

  -- a record was appended, and a text made before
  pub appended_on : (body text : List ℕ) → g.faults mid ≤ g.faults new
      → IfSome list (λ records. LeavesOnly g mid new (RepresentsEither records body))
      → IfSome list (λ records. AllRepresent g new (records ++ body ∷ []))
      → HasWorked g name list (λ records. appends records body text) mid new
      (replied (said Done text))
  appended_on body text later any after = record {
    ends = record { plain = λ is. absurd cc; later = later; fault = tt };
    reply = each_some list _ (λ records. refl);
    adds = both_some list any after (λ records run all opened. (opened, run, all));
  }

  -- the device failed in the append
  pub failed_on : (body text : List ℕ) → Rose (g.faults mid) (g.faults new)
      → g.faults mid ≤ g.faults new
      → IfSome list (λ records. LeavesOnly g mid new (RepresentsEither records body))
      → IfSome list (λ records. (c : List ℕ) → g.may_leave new c → RepresentsEither records body c)
      → HasWorked g name list (λ records. appends records body text) mid new (room_failed name)
  failed_on body text rose later any after = record {
    ends = record { plain = tt; later = later; fault = (rose, inl refl) };
    reply = tt;
    adds = both_some list any after (λ records run all opened. (opened, run, all));
  }

  -- the outcome in other words
  pub says_so : (says says' : List (List ℕ) → Outcome) (ending : Ending)
      → IfSome list (λ records. says records ≡ says' records)
      → HasWorked g name list says mid new ending → HasWorked g name list says' mid new ending
  says_so says says' ending same work = record {
    ends = work.ends;
    reply = reply_so ending _ _ (λ reply is. both_some list same is (λ records equal meets.
        subst (λ (o : Outcome). Meets o.answer reply) equal meets)) work.reply;
    adds = both_some list same work.adds (λ records equal adds opened.
        subst (λ o. AddsBy g ending (journaled_by o) mid new) equal (adds opened));
  }

-- The journal was opened, which only read the device: mid, where its records were found.
module _ {D : Type 0} (g : Ghosts D) (name : List ℕ) (says : List ℕ → Outcome)
    (next : List (List ℕ) → Outcome) (old mid new : D) where
  pub opened_at : (P : Outcome → Type 0) (contents x : Option (List ℕ)) → g.contents mid ≡ x
      → x ≡ contents
      → IfSome contents (λ b. IfSome (option_map records_of x) (λ list. says b ≡ next list))
      → IfSome x (λ b. IfSome (option_map records_of x) (Represents b))
      → IfSome (option_map records_of x) (AllRepresent g mid)
      → IfSome (option_map records_of x) (λ list. IsOpen g mid list → P (next list))
      → IfSome contents (λ b. P (says b))
  opened_at P None x is same found stands all then = tt
  opened_at P (Some b) None is same found stands all then = absurd cc
  opened_at P (Some b) (Some x) is same found stands all then = subst P (sym found)
      (then (record { bytes = x; contents = is; stands = stands; all = all }))

  abbrev list : Option (List (List ℕ))
  list = option_map records_of (g.contents mid)

  no_early : (ending : Ending)
      → IfSome list (λ l. IsOpen g mid l → AddsBy g ending (journaled_by (next l)) mid new)
      → IfReply ending (λ reply. IfSome list (λ l. IsOpen g mid l
      → journaled_by (next l) ≡ untouched → IsEarly (status_of reply)))
  no_early (replied reply) adds = IfSome_then list adds (λ l made opened is.
      absurd (subst (λ did. AddsBy g (replied reply) did mid new) is (made opened)))
  no_early (room_failed file) adds = tt
  no_early no_memory adds = tt

  -- the work after an opening has given what work on the device that was opened gives
  pub given_on : (ending : Ending) → ReadsCrashState g → OnlyReads g old mid
      → IfSome (g.contents old) (λ b. IfSome list (λ l. says b ≡ next l))
      → IfSome (g.contents mid) (λ b. IfSome list (Represents b))
      → IfSome list (AllRepresent g mid)
      → IfReply ending (λ reply. IfSome list (λ l. Meets (next l).answer reply))
      → IfSome list (λ l. IsOpen g mid l → AddsBy g ending (journaled_by (next l)) mid new)
      → HasGiven g says old new ending
  given_on ending crash_state only_reads found stands all reply adds = record {
    reply = reply_so ending _ _ (λ reply is. opened_at (λ o. Meets o.answer reply) (g.contents old)
        (g.contents mid) refl only_reads.contents found stands all
        (IfSome_then list is (λ l meets opened. meets))) reply;
    left = opened_at (λ o. Leaves g (LeftBy ending (journaled_by o)) (Some old) (Some new))
        (g.contents old) (g.contents mid) refl only_reads.contents found stands all
        (IfSome_then list adds (λ l made opened.
        worked g old mid new ending (journaled_by (next l)) crash_state only_reads (made opened)));
    early = reply_so ending _ _ (λ reply is. opened_at
        (λ o. journaled_by o ≡ untouched → IsEarly (status_of reply)) (g.contents old)
        (g.contents mid)
        refl only_reads.contents found stands all is) (no_early ending adds);
  }

  -- and is work on it
  pub worked_on : (ending : Ending) → ReadsCrashState g → OnlyReads g old mid
      → g.faults mid ≡ g.faults old
      → IfSome (g.contents old) (λ b. IfSome list (λ l. says b ≡ next l))
      → IfSome (g.contents mid) (λ b. IfSome list (Represents b))
      → IfSome list (AllRepresent g mid)
      → HasWorked g name list next mid new ending → HasWorkedOn g name says old new ending
  worked_on ending crash_state only_reads fine found stands all work = record {
    ends = record {
      plain = work.ends.plain;
      later = omega (arith, fine, work.ends.later);
      fault = failed_so ending _ _ (name ∷ []) (name ∷ [])
          (subst (λ n. Rose n (g.faults new)) fine) (λ file is. is) work.ends.fault;
    };
    reply = (given_on ending crash_state only_reads found stands all work.reply work.adds).reply;
    left = (given_on ending crash_state only_reads found stands all work.reply work.adds).left;
    early = (given_on ending crash_state only_reads found stands all work.reply work.adds).early;
  }

-- The opening was refused, and the device was only read.
module _ {D : Type 0} (g : Ghosts D) (says : List ℕ → Outcome) (old new : D)
    (only_reads : OnlyReads g old new) where
  kept : (ending : Ending) (did : Journaled) → IfReply ending (λ reply. did ≡ untouched)
      → Leaves g (LeftBy ending did) (Some old) (Some new)
  kept ending did not =
      left_kept g ending did (Some old) (Some new) not (kept_of g old new did only_reads)

  refused_left : (ending : Ending)
      → IfReply ending (λ reply. IfSome (g.contents old) (λ b. says b ≡ answers reply))
      → IfSome (g.contents old) (λ b.
      Leaves g (LeftBy ending (journaled_by (says b))) (Some old) (Some new))
  refused_left (replied reply) is = IfSome_then (g.contents old) is
      (λ b same. kept (replied reply) (journaled_by (says b)) (ap journaled_by same))
  refused_left (room_failed file) is = each_some (g.contents old) _
      (λ b. kept (room_failed file) (journaled_by (says b)) tt)
  refused_left no_memory is = each_some (g.contents old) _
      (λ b. kept no_memory (journaled_by (says b)) tt)

  pub given_early : (ending : Ending) → IfReply ending (λ reply. IsEarly (status_of reply))
      → IfReply ending (λ reply. IfSome (g.contents old) (λ b. says b ≡ answers reply))
      → HasGiven g says old new ending
  given_early ending early is = record {
    reply = reply_so ending _ _ (λ reply same. IfSome_then (g.contents old) same
        (λ b wanted. subst (λ (o : Outcome). Meets o.answer reply) (sym wanted) refl)) is;
    left = refused_left ending is;
    early = reply_so ending _ _ (λ reply soon. each_some (g.contents old) _ (λ b none. soon)) early;
  }

pub not_opened : {D : Type 0} (g : Ghosts D) (name : List ℕ) (says : List ℕ → Outcome)
    (old new : D) → OnlyReads g old new → (ending : Ending) → HasFinished g name old new ending
    → IfReply ending (λ reply. IsEarly (status_of reply))
    → IfReply ending (λ reply. IfSome (g.contents old) (λ b. says b ≡ answers reply))
    → HasWorkedOn g name says old new ending
not_opened g name says old new only_reads ending ends early is =
    let given = given_early g says old new only_reads ending early is in
    record { ends = ends; reply = given.reply; left = given.left; early = given.early }

-- a count that began at 0 and rose, added to another one
pub rose_with : (before count : ℕ) → Rose 0 count → Rose before (with_count before count)
rose_with before count rose = search rules

-- a fact of the bytes that were opened is one of the file
pub of_bytes : (P : Outcome → Type 0) (name : List ℕ) (file contents : Option (List ℕ))
    (says : List ℕ → Outcome) → OpensBytes file contents
    → IfSome contents (λ bytes. P (says bytes)) → P (with_file name file says)
of_bytes P name None contents says opens is =
    let there = opens.there in absurd cc
of_bytes P name (Some bytes) contents says opens is =
    subst (λ t. IfSome t (λ b. P (says b))) opens.same is

module _ {R S D : Type 0} (rooms : Rooms R S D) (g : Ghosts D) (name : List ℕ)
    (files : List (List ℕ)) (says : List ℕ → Outcome) (old mid new : R) (d e : D)
    (ending : Ending) where
  abbrev wanted : Outcome
  wanted = with_file name (rooms.file old name) says

  fault_of : HasOpened rooms g name old mid d → HasClosed rooms g name mid new e
      → IsNamed files name → FailedOnly (Rose (g.faults d) (g.faults e)) (name ∷ []) ending
      → FailedOnly (Rose (rooms.faults old) (rooms.faults new)) files ending
  fault_of opened closed among =
      failed_so ending _ _ (name ∷ []) files
      (λ rose. subst (λ n. Rose n (rooms.faults new)) opened.fine
      (subst (Rose (rooms.faults mid)) (sym closed.count)
      (rose_with (rooms.faults mid) (g.faults e)
      (subst (λ n. Rose n (g.faults e)) opened.begins rose))))
      (λ file is. elim is [
        | inl same ↦ subst (IsNamed files) (sym same) among
        | inr never ↦ absurd never
      ])

  -- a journal was opened, worked on and closed
  pub served : HasOpened rooms g name old mid d → HasWorkedOn g name says d e ending
      → HasClosed rooms g name mid new e → IsNamed files name
      → HasServed rooms g files name wanted old new ending
  served opened worked closed among = record {
    back = record {
      opened = omega (arith, opened.opened, closed.opened);
      later = omega (arith, opened.fine, closed.count);
      is_modelled = λ t. closed.is_modelled (opened.is_modelled t);
      others = λ other is. record {
        bytes = (closed.others other is.0).bytes ∙ (opened.stay other).bytes;
        disk = (closed.others other is.0).disk ∙ (opened.stay other).disk;
      };
    };
    ends = record {
      reply = reply_so ending _ _ (λ reply is t. of_bytes (λ o. Meets o.answer reply) name _ _ says
          (opened.bytes t) is) worked.reply;
      words = λ bad. absurd bad;
      not_words = worked.ends.plain;
      fault = fault_of opened closed among worked.ends.fault;
      early = reply_so ending _ _ (λ reply is t. (
        of_bytes
            (λ o. journaled_by o ≡ untouched → IsEarly (status_of reply)) name _ _ says
            (opened.bytes t) is,
        tt,
      )) worked.early;
    };
    made = λ t. record {
      no_file =
          (λ on none. closed.none (opened.is_modelled t) ((opened.stay name).bytes ∙ none), tt);
      unmade = λ memory.
          (λ none. closed.none (opened.is_modelled t) ((opened.stay name).bytes ∙ none), tt);
      left = (
        left_opened g ending (journaled_by wanted) _ _ d e (opened.device t)
            (closed.device (opened.is_modelled t)
            (subst IsSome (sym (opened.stay name).bytes) (opened.bytes t).there))
            (of_bytes (λ o. Leaves g (LeftBy ending (journaled_by o)) (Some d) (Some e)) name _ _
            says (opened.bytes t) worked.left),
        tt,
      );
    };
  }
