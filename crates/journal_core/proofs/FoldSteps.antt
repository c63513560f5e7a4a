-- One step of the reading of a file by a fold, over its opening.
use Rattle.std.proofs.Common.{◌≡◌, ◌≢◌, ℕ, false, List, [], ◌∷◌, ◌++◌, length, take, Option, Some}
use Rattle.std.proofs.Common.{None, IfSome, option_map, Ok, Err, refl, ap, sym, ◌∙◌, subst}
use Rattle.std.proofs.Common.{append_assoc, arith}
use Rattle.std.proofs.lemmas.Option.{same_Some}
use Rattle.disk_core.specs.Times.{OnlyReads}
use Rattle.disk_core.specs.declared.disk.Disk.{Ghosts}
use Rattle.journal_core.specs.Folds.{Fold, state_after, read_by, AreRefused, IsCauseOf}
use Rattle.journal_core.specs.Format.{header, records_before}
use Rattle.journal_core.specs.Opens.{HasReason, IsOfHeader, IsOfRecord, IsWalkTo}
use Rattle.journal_core.specs.Openings.{opening_disk, read_list, next_offset, refusal, last_body}
use Rattle.journal_core.specs.Openings.{HasRead, HasEnded, HasStepped}
use Rattle.journal_core.specs.Readings.{HasFolded, HasFound}
use Rattle.journal_core.specs.Walk.{FileEnd, walk_of, at_commit_byte, at_bad_length, at_cut}
use Rattle.journal_core.specs.declared.opening.Opening.{Opening}
use Rattle.journal_core.specs.declared.error.OpenError.{OpenError}
use Rattle.journal_core.specs.declared.error.OpenError.TheVariants.{NotJournal, BadLength, CutShort}
use Rattle.journal_core.specs.declared.error.OpenError.TheVariants.{Failed, Memory}
use Rattle.journal_core.proofs.Folds.{state_next, state_stops, state_begins, state_begins_not}
use Rattle.journal_core.proofs.Found.{read_ends, read_none, read_bad, read_other}
use Rattle.journal_core.proofs.Modelled.{if_modelled, at_contents, if_some}
use Rattle.journal_core.proofs.Walk.{records_begin}

abbrev pub pushed : List ℕ → List (List ℕ) → List (List ℕ)
pushed body list = list ++ body ∷ []

-- a fact of the records that were read, and one of these with a record more
pub if_pushed : (P Q : List (List ℕ) → Type 0) (old new : Option (List (List ℕ))) (body : List ℕ)
    → new ≡ option_map (pushed body) old
    → ((list : List (List ℕ)) → P list → Q (pushed body list)) → IfSome old P → IfSome new Q
if_pushed P Q None new body is step fact =
    subst (λ (o : Option (List (List ℕ))). IfSome o Q) (sym is) tt
if_pushed P Q (Some list) new body is step fact =
    subst (λ (o : Option (List (List ℕ))). IfSome o Q) (sym is) (step list fact)

pub all_empty : (contents : Option (List ℕ)) (list : Option (List (List ℕ)))
    → list ≡ option_map (λ _. []) contents → IfSome list (λ l. l ≡ [])
all_empty None list is = subst (λ (o : Option (List (List ℕ))). IfSome o (λ l. l ≡ [])) (sym is) tt
all_empty (Some b) list is = subst (λ (o : Option (List (List ℕ))). IfSome o (λ l. l ≡ []))
    (sym is) refl

module _ {D : Type 0} {g : Ghosts D} {S E : Type 0} (fold : Fold S E) (old new : Opening D g) where
  -- the bytes of the disk and the records that were read, if the model knows the bytes
  read_at : (o : Opening D g) (b : List ℕ) → g.contents (opening_disk o) ≡ Some b
      → read_list o ≡ Some (records_before b (next_offset o))
  read_at o b contents =
      ap (option_map (λ (bytes : List ℕ). records_before bytes (next_offset o))) contents

  of_list : (o : Opening D g) (b : List ℕ) → g.contents (opening_disk o) ≡ Some b
      → (P : List (List ℕ) → Type 0) → IfSome (read_list o) P → P (records_before b (next_offset o))
  of_list o b contents P fact = at_contents P (read_list o) (records_before b (next_offset o))
      (read_at o b contents) fact

  -- ---- one record more

  module _ (body : List ℕ) (last : last_body new ≡ body) (read : HasRead old new) where
    pub list_is : read_list new ≡ option_map (pushed body) (read_list old)
    list_is = subst (λ (b : List ℕ). read_list new
        ≡ option_map (λ list. list ++ b ∷ []) (read_list old)) last read.list

    pub folded_next : (s t : S) → HasFolded fold s old → fold.takes s body ≡ Some t
        → HasFolded fold t new
    folded_next s t was next = record {
      unended = read.continues.0;
      unrefused = read.continues.1;
      made = if_pushed (λ (list : List (List ℕ)). state_after fold list
          ≡ Ok s) (λ (list : List (List ℕ)). state_after fold list ≡ Ok t)
          (read_list old) (read_list new) body list_is
          (λ list is. state_next fold list s body t is next) was.made;
    }

    pub folded_first : (s : S)
        → read_list old ≡ option_map (λ _. []) (g.contents (opening_disk old))
        → fold.begins body ≡ Some s → HasFolded fold s new
    folded_first s none is = record {
      unended = read.continues.0;
      unrefused = read.continues.1;
      made = if_pushed (λ (list : List (List ℕ)). list
          ≡ []) (λ (list : List (List ℕ)). state_after fold list ≡ Ok s) (read_list old)
          (read_list new) body
          list_is (λ list empty. ap (λ (l : List (List ℕ)). state_after fold (pushed body l)) empty
          ∙ state_begins fold body s is) (all_empty _ (read_list old) none);
    }

    module _ (only_reads : OnlyReads g (opening_disk old) (opening_disk new)) where
      -- the whole records of the file begin with those that were read and this one
      walk_begins : (b : List ℕ) → g.contents (opening_disk old) ≡ Some b
          → (rest : List (List ℕ)) × ((walk_of b).records ≡ records_before b (next_offset old)
          ++ body ∷ rest)
      walk_begins b contents =
          let contents_new : g.contents (opening_disk new) ≡ Some b =
          only_reads.contents ∙ contents in
          let begin = records_begin b (g.may_leave (opening_disk new)) (next_offset new)
          (new.reading b contents_new) in
          let more : records_before b (next_offset new)
          ≡ pushed body (records_before b (next_offset old))
          = same_Some _ _ (sym (read_at new b contents_new) ∙ list_is
          ∙ ap (option_map (pushed body)) (read_at old b contents)) in (
            begin.0,
            begin.1 ∙ ap (λ (list : List (List ℕ)). list ++ begin.0) more
                ∙ append_assoc (records_before b (next_offset old)) (body ∷ []) begin.0,
          )

      -- the record with this number is not taken
      pub refused_next : (s : S) (k : ℕ) → IfSome (read_list old) (λ list. k ≡ length list)
          → HasFolded fold s old → fold.takes s body ≡ None
          → AreRefused fold (g.contents (opening_disk old)) (fold.bad_record k)
      refused_next s k count was next =
          if_modelled (λ (b : List ℕ). read_by fold b ≡ Err (fold.bad_record k))
          (g.contents (opening_disk old)) (λ b contents.
          let list = records_before b (next_offset old) in
          let walk = walk_begins b contents in
          let state : state_after fold list ≡ Ok s =
          of_list old b contents (λ (l : List (List ℕ)). state_after fold l ≡ Ok s) was.made in
          let number : k ≡ length list = of_list old b contents (λ (l : List (List ℕ)). k
          ≡ length l) count in
          read_bad fold b list body walk.0 k (old.reading b contents).begins walk.1
          (state_stops fold list s body walk.0 state next ∙ ap Err (sym number)))

      -- the first record is not taken
      pub refused_first : read_list old ≡ option_map (λ _. []) (g.contents (opening_disk old))
          → fold.begins body ≡ None
          → AreRefused fold (g.contents (opening_disk old)) (fold.bad_record 0)
      refused_first none next =
          if_modelled (λ (b : List ℕ). read_by fold b ≡ Err (fold.bad_record 0))
          (g.contents (opening_disk old)) (λ b contents.
          let list = records_before b (next_offset old) in
          let walk = walk_begins b contents in
          let empty : list ≡ [] = of_list old b contents (λ (l : List (List ℕ)). l
          ≡ []) (all_empty _ (read_list old) none) in
          read_bad fold b [] body walk.0 0 (old.reading b contents).begins (walk.1
          ∙ ap (λ (l : List (List ℕ)). l ++ body ∷ walk.0) empty)
          (state_begins_not fold body walk.0 next))

  -- ---- the closed commit byte

  module _ (ended : HasEnded old new)
      (only_reads : OnlyReads g (opening_disk old) (opening_disk new)) where
    walk_ends : (b : List ℕ) → g.contents (opening_disk new) ≡ Some b → walk_of b ≡ record {
      records =
          records_before b (next_offset new);
      end = at_commit_byte;
    }
    walk_ends b contents = of_list new b contents (λ (l : List (List ℕ)). walk_of b ≡ record {
      records =
          l;
      end = at_commit_byte;
    })
        (at_contents (λ (bytes : List ℕ). IfSome (read_list new) (λ l. walk_of bytes
        ≡ record { records = l; end = at_commit_byte })) (g.contents (opening_disk new)) b contents
        ended.walk)

    pub found_last : (s : S) → HasFolded fold s old → HasFound fold s new
    found_last s was =
        let made : IfSome (read_list new) (λ l. state_after fold l ≡ Ok s) =
        subst (λ (o : Option (List (List ℕ))). IfSome o (λ l. state_after fold l ≡ Ok s))
        (sym ended.list) was.made in
        record {
          ended = ended.ended;
          made = made;
          found = if_modelled (λ (b : List ℕ). IfSome (read_list new) (λ l. read_by fold b
              ≡ Ok (record { records = l; state = s }))) (g.contents (opening_disk new))
              (λ b contents.
              subst (λ (o : Option (List (List ℕ))). IfSome o (λ l. read_by fold b
              ≡ Ok (record { records = l; state = s }))) (sym (read_at new b contents))
              (read_ends fold b (records_before b (next_offset new)) at_commit_byte s
              (new.reading b contents).begins (walk_ends b contents)
              (of_list new b contents (λ (l : List (List ℕ)). state_after fold l ≡ Ok s) made)));
          stands = ended.stands;
        }

    pub missing_first : read_list old ≡ option_map (λ _. []) (g.contents (opening_disk old))
        → AreRefused fold (g.contents (opening_disk old)) (fold.bad_record 0)
    missing_first none = if_modelled (λ (b : List ℕ). read_by fold b ≡ Err (fold.bad_record 0))
        (g.contents (opening_disk old)) (λ b contents.
        let contents_new : g.contents (opening_disk new) ≡ Some b =
        only_reads.contents ∙ contents in
        let empty : records_before b (next_offset new) ≡ []
        = of_list new b contents_new (λ (l : List (List ℕ)). l
        ≡ []) (subst (λ (o : Option (List (List ℕ))). IfSome o (λ l. l ≡ [])) (sym ended.list)
        (all_empty _ (read_list old) none)) in
        read_none fold b at_commit_byte (old.reading b contents).begins
        (subst (λ (l : List (List ℕ)). walk_of b ≡ record {
          records = l;
          end =
              at_commit_byte;
        }) empty (walk_ends b contents_new)))

  -- ---- the journal's own refusals

  abbrev EndsSo : List ℕ → ℕ → FileEnd → E → Type 0
  EndsSo b at end why = g.contents (opening_disk old) ≡ Some b → walk_of b ≡ record {
    records =
        records_before b (next_offset old);
    end = end;
  } → read_by fold b ≡ Err why

  cause_by : ((b : List ℕ) (at : ℕ) → EndsSo b at (at_bad_length at) (fold.not_read (BadLength at)))
      → ((b : List ℕ) (at : ℕ) → EndsSo b at (at_cut at) (fold.not_read (CutShort at)))
      → (why : OpenError) → HasReason g (opening_disk old) (opening_disk new) (next_offset old) why
      → IsOfRecord why
      → IfSome (g.contents (opening_disk old)) (λ b. IfSome (read_list old) (IsWalkTo why b))
      → IsCauseOf g fold (opening_disk old) (opening_disk new) why
  cause_by bad cut NotJournal reason kind walk = absurd kind
  cause_by bad cut (BadLength at) reason kind walk =
      if_modelled (λ (b : List ℕ). read_by fold b ≡ Err (fold.not_read (BadLength at)))
      (g.contents (opening_disk old)) (λ b contents.
      bad b at contents (of_list old b contents (IsWalkTo (BadLength at) b)
      (at_contents (λ (bytes : List ℕ). IfSome (read_list old) (IsWalkTo (BadLength at) bytes))
      (g.contents (opening_disk old)) b contents walk)))
  cause_by bad cut (CutShort at) reason kind walk =
      if_modelled (λ (b : List ℕ). read_by fold b ≡ Err (fold.not_read (CutShort at)))
      (g.contents (opening_disk old)) (λ b contents.
      cut b at contents (of_list old b contents (IsWalkTo (CutShort at) b)
      (at_contents (λ (bytes : List ℕ). IfSome (read_list old) (IsWalkTo (CutShort at) bytes))
      (g.contents (opening_disk old)) b contents walk)))
  cause_by bad cut Failed reason kind walk = reason
  cause_by bad cut Memory reason kind walk = tt

  pub cause_next : (s : S) (why : OpenError) → HasFolded fold s old
      → HasStepped old new false (Some why)
      → IsCauseOf g fold (opening_disk old) (opening_disk new) why
  cause_next s why was step =
      let log : (b : List ℕ) → g.contents (opening_disk old) ≡ Some b
      → state_after fold (records_before b (next_offset old)) ≡ Ok s
      = λ b contents. of_list old b contents (λ (l : List (List ℕ)). state_after fold l ≡ Ok s)
      was.made in
      cause_by (λ b at contents walk. read_ends fold b (records_before b (next_offset old))
      (at_bad_length at) s (old.reading b contents).begins walk (log b contents))
      (λ b at contents walk. read_ends fold b (records_before b (next_offset old)) (at_cut at) s
      (old.reading b contents).begins walk (log b contents))
      why (step.reason was.unrefused) (step.kind was.unrefused) (step.walk was.unrefused)

  pub cause_first : (why : OpenError)
      → read_list old ≡ option_map (λ _. []) (g.contents (opening_disk old)) → refusal old ≡ None
      → HasStepped old new false (Some why)
      → IsCauseOf g fold (opening_disk old) (opening_disk new) why
  cause_first why none unrefused step =
      let empty : (b : List ℕ) → g.contents (opening_disk old) ≡ Some b
      → records_before b (next_offset old) ≡ []
      = λ b contents. of_list old b contents (λ (l : List (List ℕ)). l
      ≡ []) (all_empty _ (read_list old) none) in
      let walked : (b : List ℕ) (end : FileEnd) → g.contents (opening_disk old) ≡ Some b
      → walk_of b ≡ record { records = records_before b (next_offset old); end = end }
      → walk_of b ≡ record { records = []; end = end }
      = λ b end contents walk. subst (λ (l : List (List ℕ)). walk_of b ≡ record {
        records = l;
        end =
            end;
      }) (empty b contents) walk in
      cause_by
      (λ b at contents walk. read_none fold b (at_bad_length at) (old.reading b contents).begins
      (walked b (at_bad_length at) contents walk))
      (λ b at contents walk. read_none fold b (at_cut at) (old.reading b contents).begins
      (walked b (at_cut at) contents walk))
      why (step.reason unrefused) (step.kind unrefused) (step.walk unrefused)

module _ {D : Type 0} (g : Ghosts D) {S E : Type 0} (fold : Fold S E) where
  -- a file whose reading has not begun
  pub cause_begin : (old new : D) (why : OpenError) → HasReason g old new 0 why → IsOfHeader why
      → IsCauseOf g fold old new why
  cause_begin old new NotJournal reason kind =
      if_some (λ (b : List ℕ). take 16 b ≢ header) (λ (b : List ℕ). read_by fold b
      ≡ Err (fold.not_read NotJournal))
      (g.contents old) (λ b other. read_other fold b other) reason
  cause_begin old new (BadLength at) reason kind = absurd kind
  cause_begin old new (CutShort at) reason kind = absurd kind
  cause_begin old new Failed reason kind = reason
  cause_begin old new Memory reason kind = tt

  -- a refusal after calls that only read
  pub refused_later : (old mid : D) (why : E) → OnlyReads g old mid
      → AreRefused fold (g.contents mid) why
      → AreRefused fold (g.contents old) why
  refused_later old mid why only_reads are =
      subst (λ (contents : Option (List ℕ)). AreRefused fold contents why) only_reads.contents are

  pub cause_later : (old mid new : D) (why : OpenError) → OnlyReads g old mid
      → IsCauseOf g fold mid new why → IsCauseOf g fold old new why
  cause_later old mid new NotJournal only_reads cause =
      refused_later old mid (fold.not_read NotJournal) only_reads cause
  cause_later old mid new (BadLength at) only_reads cause =
      refused_later old mid (fold.not_read (BadLength at)) only_reads cause
  cause_later old mid new (CutShort at) only_reads cause =
      refused_later old mid (fold.not_read (CutShort at)) only_reads cause
  cause_later old mid new Failed only_reads cause = let a = only_reads.faults in grind arith
  cause_later old mid new Memory only_reads cause = tt
