-- Records that are copied from a journal, one after the other.
use Rattle.std.proofs.Common.{◌≡◌, ℕ, ◌+◌, ◌-◌, ◌<◌, ◌≤◌, min, List, [], ◌∷◌, ◌++◌, length}
use Rattle.std.proofs.Common.{take, drop, Option, Some, None, IfSome, OnOk, Result, Ok, Err}
use Rattle.std.proofs.Common.{subst, sym, ap, ◌∙◌, refl, arith, append_assoc, append-nil}
use Rattle.std.specs.Int.{w32, to_be_bytes}
use Rattle.std.specs.Io.KnownBytes.{Appends}
use Rattle.std.proofs.KnownBytes.{Appends-trans, Appends-nil}
use Rattle.std.proofs.Math.Seq.{take-add}
use Rattle.std.proofs.lemmas.List.{drop-drop}
use Rattle.byte_formats.specs.Types.{Text}
use Rattle.byte_formats.specs.Offsets.{IsBytes}
use Rattle.byte_formats.proofs.Steps.{IsBytes-drop, IsBytes-take}
use Rattle.disk_core.specs.Disk.{part}
use Rattle.journal_core.specs.Copies.{AppendsSome, sized, sized_text}
use Rattle.journal_core.specs.Ends.{StandBetween}
use Rattle.journal_core.specs.Format.{AreRecordsAt, IsRecordAt, following, end_offset}
use Rattle.journal_core.proofs.Records.{after_later}
use Rattle.mtc_io.specs.Streams.{AppendsPrefix}
use Rattle.mtc_io.proofs.Streams.{prefix_more, prefix_whole}

-- ---- facts if a call went well

pub when_ok : {T E : Type 0} (r : Result T E) (P Q : Type 0) → (P → Q) → OnOk r P → OnOk r Q
when_ok (Ok x) P Q f is = f is
when_ok (Err e) P Q f is = tt

-- ---- bytes that are added

pub grows_none : (a : Option (List ℕ)) → AppendsSome a a
grows_none a = ([], Appends-nil a)

pub grows_prefix : (a b : Option (List ℕ)) (xs : List ℕ) → AppendsPrefix a b xs → AppendsSome a b
grows_prefix a b xs is = (take is.0 xs, is.1)

pub grows_more : (a b c : Option (List ℕ)) → AppendsSome a b → AppendsSome b c → AppendsSome a c
grows_more a b c some more = (some.0 ++ more.0, Appends-trans a b c some.0 more.0 some.1 more.1)

-- ---- prefixes

-- nothing yet
pub prefix_none : (a : Option (List ℕ)) (xs : List ℕ) → AppendsPrefix a a xs
prefix_none a xs = (0, Appends-nil a)

-- a prefix of a prefix
pub prefix_of_prefix : (a b : Option (List ℕ)) (xs ys : List ℕ) → AppendsPrefix a b xs
    → AppendsPrefix a b (xs ++ ys)
prefix_of_prefix a b xs ys is = prefix_more a a b [] xs ys (Appends-nil a) is

-- the prefix, and a prefix of what follows it
pub prefix_following : (a b c : Option (List ℕ)) (xs ys : List ℕ) → Appends a b xs
    → AppendsPrefix b c ys → AppendsPrefix a c (xs ++ ys)
prefix_following a b c xs ys first second =
    subst (λ (zs : List ℕ). AppendsPrefix a c (xs ++ zs)) (append-nil ys)
    (prefix_more a b c xs ys [] first second)

-- ---- parts of a file

-- One part after the other.
pub part-more : (place done more : ℕ) (bytes : Text)
    → part place (done + more) bytes ≡ part place done bytes ++ part (place + done) more bytes
part-more place done more bytes =
    take-add done more (drop place bytes)
    ∙ ap (λ (rest : Text). part place done bytes ++ take more rest) (drop-drop done place bytes)

-- A part of it was written, and then a prefix of the next part.
pub part_prefix : (place done more count : ℕ) (bytes : Text) (a b c : Option (List ℕ))
    → done + more ≤ count → Appends a b (part place done bytes)
    → AppendsPrefix b c (part (place + done) more bytes)
    → AppendsPrefix a c (part place count bytes)
part_prefix place done more count bytes a b c within first second =
    let left = count - done - more in
    let rest : done + (more + left) ≡ count = omega arith in
    let all : part place count bytes ≡ part place done bytes
    ++ (part (place + done) more bytes ++ part (place + done + more) left bytes) =
    ap (λ (n : ℕ). part place n bytes) (sym rest) ∙ part-more place done (more + left) bytes
    ∙ ap (λ (ys : Text). part place done bytes ++ ys) (part-more (place + done) more left bytes) in
    subst (AppendsPrefix a c) (sym all) (prefix_more a b c _ _ _ first second)

-- Two parts, one after the other.
pub part_whole : (place done more : ℕ) (bytes : Text) (a b c : Option (List ℕ))
    → Appends a b (part place done bytes) → Appends b c (part (place + done) more bytes)
    → Appends a c (part place (done + more) bytes)
part_whole place done more bytes a b c first second =
    subst (Appends a c) (sym (part-more place done more bytes))
    (Appends-trans a b c _ _ first second)

-- The same of the bytes of a disk, as the model knows them, also after a call that only reads it.
module _ (contents later : Option Text) (same : later ≡ contents) (place done more count : ℕ)
    (a b c : Option (List ℕ))
    (first : IfSome contents (λ bytes. Appends a b (part place done bytes)))
  where
    pub contents_prefix : done + more ≤ count
        → IfSome later (λ bytes. AppendsPrefix b c (part (place + done) more bytes))
        → IfSome contents (λ bytes. AppendsPrefix a c (part place count bytes))
    contents_prefix within second = go contents first
        (subst (λ (o : Option Text). IfSome o (λ bytes. AppendsPrefix b c
        (part (place + done) more bytes))) same second)
      where
        go : (o : Option Text) → IfSome o (λ bytes. Appends a b (part place done bytes))
            → IfSome o (λ bytes. AppendsPrefix b c (part (place + done) more bytes))
            → IfSome o (λ bytes. AppendsPrefix a c (part place count bytes))
        go None p q = tt
        go (Some bytes) p q = part_prefix place done more count bytes a b c within p q

    pub contents_whole : IfSome later (λ bytes. Appends b c (part (place + done) more bytes))
        → IfSome contents (λ bytes. Appends a c (part place (done + more) bytes))
    contents_whole second = go contents first
        (subst (λ (o : Option Text). IfSome o (λ bytes. Appends b c
        (part (place + done) more bytes))) same second)
      where
        go : (o : Option Text) → IfSome o (λ bytes. Appends a b (part place done bytes))
            → IfSome o (λ bytes. Appends b c (part (place + done) more bytes))
            → IfSome o (λ bytes. Appends a c (part place (done + more) bytes))
        go None p q = tt
        go (Some bytes) p q = part_whole place done more bytes a b c p q

-- ---- records

-- The part of the file that a record of an export is.
pub record_part : (bytes body : Text) (commit_byte : ℕ) → IsRecordAt bytes commit_byte body
    → part (commit_byte + 1) (4 + length body) bytes ≡ sized body
record_part bytes body commit_byte is =
    part-more (commit_byte + 1) 4 (length body) bytes
    ∙ ap (λ (size : Text). size ++ part (commit_byte + 1 + 4) (length body) bytes) is.size
    ∙ ap (λ (rest : Text). to_be_bytes w32 (length body) ++ rest)
    (let same : commit_byte + 1 + 4 ≡ commit_byte + 5 = omega arith in
    ap (λ (n : ℕ). part n (length body) bytes) same ∙ is.body_is)

-- a fact of the record at a commit byte that ends before an end, in the bytes of a disk, as the
-- model knows them
abbrev pub AtRecord : Option Text → ℕ → ℕ → (Text → Type 0) → Type 0
AtRecord contents commit_byte end P =
    IfSome contents (λ bytes. (body : Text) → IsRecordAt bytes commit_byte body
    → commit_byte + 6 + length body ≤ end → P body)

-- What was written of the part is written of the record.
pub record_of_part : (P : Text → Type 0) (contents later : Option Text) → later ≡ contents
    → (commit_byte end size : ℕ) → AtRecord contents commit_byte end (λ body. size ≡ length body)
    → IfSome later (λ bytes. P (part (commit_byte + 1) (4 + size) bytes))
    → AtRecord contents commit_byte end (λ body. P (sized body))
record_of_part P contents later same commit_byte end size long is = go contents long
    (subst (λ (o : Option Text). IfSome o (λ bytes. P (part (commit_byte + 1) (4 + size) bytes)))
    same is)
  where
    go : (o : Option Text) → AtRecord o commit_byte end (λ body. size ≡ length body)
        → IfSome o (λ bytes. P (part (commit_byte + 1) (4 + size) bytes))
        → AtRecord o commit_byte end (λ body. P (sized body))
    go None long is = tt
    go (Some bytes) long is = λ body there within.
        subst P (record_part bytes body commit_byte there)
        (subst (λ (n : ℕ). P (part (commit_byte + 1) (4 + n) bytes)) (long body there within) is)

-- nothing was written of any record
pub record_none : (contents : Option Text) (commit_byte end : ℕ) (a : Option (List ℕ))
    → AtRecord contents commit_byte end (λ body. AppendsPrefix a a (sized body))
record_none None commit_byte end a = tt
record_none (Some bytes) commit_byte end a = λ body there within. prefix_none a (sized body)

-- Up to this commit byte the records were written; these are left.
pub record IsCopied (bytes whole : Text) (commit_byte end : ℕ) (old now : Option Text) : Type
    0 where
  pub written : Text
  pub rest : List Text
  pub there : AreRecordsAt bytes commit_byte rest
  pub last : end ≡ following commit_byte rest + 1
  pub appended : Appends old now written
  pub made : written ++ sized_text rest ≡ whole

-- none was written yet
pub copied_none : (bytes : Text) (bodies : List Text) (commit_byte end : ℕ) (a : Option Text)
    → AreRecordsAt bytes commit_byte bodies → end ≡ following commit_byte bodies + 1
    → IsCopied bytes (sized_text bodies) commit_byte end a a
copied_none bytes bodies commit_byte end a there last = record {
  written = [];
  rest = bodies;
  there = there;
  last = last;
  appended = Appends-nil a;
  made = refl;
}

-- all were written
pub copied_all : (bytes whole : Text) (commit_byte end : ℕ) (a b : Option Text)
    → end - commit_byte < 6 → IsCopied bytes whole commit_byte end a b → Appends a b whole
copied_all bytes whole commit_byte end a b few is = go is.rest is.last is.made
  where
    go : (rest : List Text) → end ≡ following commit_byte rest + 1
        → is.written ++ sized_text rest ≡ whole → Appends a b whole
    go [] last made = subst (Appends a b) (sym (append-nil is.written) ∙ made) is.appended
    go (body ∷ rest) last made =
        let later = after_later (commit_byte + 5 + length body) rest in absurd (omega arith)

module _ (bytes whole : Text) (commit_byte end : ℕ) (a b c : Option Text)
    (some : 6 ≤ end - commit_byte) where
  -- a prefix of one record more
  pub copied_prefix : IsCopied bytes whole commit_byte end a b
      → ((body : Text) → IsRecordAt bytes commit_byte body → commit_byte + 6 + length body ≤ end
      → AppendsPrefix b c (sized body))
      → AppendsPrefix a c whole
  copied_prefix is more = go is.rest is.there is.last is.made
    where
      go : (rest : List Text) → AreRecordsAt bytes commit_byte rest
          → end ≡ following commit_byte rest + 1
          → is.written ++ sized_text rest ≡ whole → AppendsPrefix a c whole
      go [] there last made = absurd (omega arith)
      go (body ∷ rest) there last made =
          let later = after_later (commit_byte + 5 + length body) rest in
          subst (AppendsPrefix a c) made
          (prefix_more a b c is.written (sized body) (sized_text rest) is.appended
          (more body there.0 (omega arith)))

  -- one record more
  pub copied_more : (next : ℕ) → IsCopied bytes whole commit_byte end a b
      → ((body : Text) → IsRecordAt bytes commit_byte body → commit_byte + 6 + length body ≤ end
      → next ≡ commit_byte + 5 + length body)
      → ((body : Text) → IsRecordAt bytes commit_byte body → commit_byte + 6 + length body ≤ end
      → Appends b c (sized body))
      → IsCopied bytes whole next end a c
  copied_more next is far more = go is.rest is.there is.last is.made
    where
      go : (rest : List Text) → AreRecordsAt bytes commit_byte rest
          → end ≡ following commit_byte rest + 1
          → is.written ++ sized_text rest ≡ whole → IsCopied bytes whole next end a c
      go [] there last made = absurd (omega arith)
      go (body ∷ rest) there last made =
          let later = after_later (commit_byte + 5 + length body) rest in
          let here : next ≡ commit_byte + 5 + length body = far body there.0 (omega arith) in
          record {
            written = is.written ++ sized body;
            rest = rest;
            there = subst (λ (n : ℕ). AreRecordsAt bytes n rest) (sym here) there.1;
            last = last ∙ ap (λ (n : ℕ). following n rest + 1) (sym here);
            appended = Appends-trans a b c _ _ is.appended (more body there.0 (omega arith));
            made = append_assoc is.written (sized body) (sized_text rest) ∙ made;
          }

-- a fact of the records from a commit byte to an end, in the bytes of a disk, as the model knows
-- them
abbrev pub OfRecords : Option Text → ℕ → ℕ → (Text → List Text → Type 0) → Type 0
OfRecords contents first end P = IfSome contents (λ bytes. (bodies : List Text)
    → AreRecordsAt bytes first bodies → end ≡ following first bodies + 1 → P bytes bodies)

-- the same from the end after the commit byte on
pub between : (contents : Option Text) (from end : ℕ) (P : List Text → Type 0)
    → OfRecords contents (from - 1) end (λ bytes bodies. P bodies)
    → IfSome contents
    (λ bytes. (bodies : List Text) → StandBetween bytes from end bodies → P bodies)
between None from end P is = tt
between (Some bytes) from end P is = λ bodies stand. is bodies stand.0 stand.1

pub records_none : (contents : Option Text) (first end : ℕ) (a : Option (List ℕ))
    → OfRecords contents first end
    (λ bytes bodies. IsCopied bytes (sized_text bodies) first end a a)
records_none None first end a = tt
records_none (Some bytes) first end a = λ bodies there last.
    copied_none bytes bodies first end a there last

pub records_all : (contents : Option Text) (first commit_byte end : ℕ) (a b : Option (List ℕ))
    → end - commit_byte < 6 → OfRecords contents first end
    (λ bytes bodies. IsCopied bytes (sized_text bodies) commit_byte end a b)
    → OfRecords contents first end (λ bytes bodies. Appends a b (sized_text bodies))
records_all None first commit_byte end a b few is = tt
records_all (Some bytes) first commit_byte end a b few is = λ bodies there last.
    copied_all bytes (sized_text bodies) commit_byte end a b few (is bodies there last)

pub records_whole : (contents : Option Text) (first end : ℕ) (a b : Option (List ℕ))
    → OfRecords contents first end (λ bytes bodies. Appends a b (sized_text bodies))
    → OfRecords contents first end (λ bytes bodies. AppendsPrefix a b (sized_text bodies))
records_whole None first end a b is = tt
records_whole (Some bytes) first end a b is = λ bodies there last.
    prefix_whole a b (sized_text bodies) (is bodies there last)

module _ (contents later : Option Text) (same : later ≡ contents) (first commit_byte end : ℕ)
    (a b c : Option (List ℕ)) (some : 6 ≤ end - commit_byte)
    (copied : OfRecords contents first end
    (λ bytes bodies. IsCopied bytes (sized_text bodies) commit_byte end a b)) where
  pub records_prefix : AtRecord later commit_byte end (λ body. AppendsPrefix b c (sized body))
      → OfRecords contents first end (λ bytes bodies. AppendsPrefix a c (sized_text bodies))
  records_prefix more = go contents copied
      (subst (λ (o : Option Text). AtRecord o commit_byte end
      (λ body. AppendsPrefix b c (sized body))) same more)
    where
      go : (o : Option Text) → OfRecords o first end
          (λ bytes bodies. IsCopied bytes (sized_text bodies) commit_byte end a b)
          → AtRecord o commit_byte end (λ body. AppendsPrefix b c (sized body))
          → OfRecords o first end (λ bytes bodies. AppendsPrefix a c (sized_text bodies))
      go None is more = tt
      go (Some bytes) is more = λ bodies there last.
          copied_prefix bytes (sized_text bodies) commit_byte end a b c some (is bodies there last)
          more

  pub records_more : (next : ℕ)
      → AtRecord later commit_byte end (λ body. next ≡ commit_byte + 5 + length body)
      → AtRecord later commit_byte end (λ body. Appends b c (sized body))
      → OfRecords contents first end
      (λ bytes bodies. IsCopied bytes (sized_text bodies) next end a c)
  records_more next far more = go contents copied
      (subst (λ (o : Option Text). AtRecord o commit_byte end
      (λ body. next ≡ commit_byte + 5 + length body)) same far)
      (subst (λ (o : Option Text). AtRecord o commit_byte end
      (λ body. Appends b c (sized body))) same more)
    where
      go : (o : Option Text) → OfRecords o first end
          (λ bytes bodies. IsCopied bytes (sized_text bodies) commit_byte end a b)
          → AtRecord o commit_byte end (λ body. next ≡ commit_byte + 5 + length body)
          → AtRecord o commit_byte end (λ body. Appends b c (sized body))
          → OfRecords o first end
          (λ bytes bodies. IsCopied bytes (sized_text bodies) next end a c)
      go None is far more = tt
      go (Some bytes) is far more = λ bodies there last.
          copied_more bytes (sized_text bodies) commit_byte end a b c some next
          (is bodies there last)
          far more

-- The records after the first one follow the end of the first one.
pub following_first : (bytes first : Text) (bodies : List Text) (from end : ℕ)
    → AreRecordsAt bytes 16 (first ∷ bodies) → end ≡ end_offset (first ∷ bodies)
    → from ≡ min (end_offset (first ∷ [])) end → StandBetween bytes from end bodies
following_first bytes first bodies from end there last is =
    let later = after_later (16 + 5 + length first) bodies in
    let same : from - 1 ≡ 16 + 5 + length first = omega (arith, is, last, later) in (
      subst (λ (n : ℕ). AreRecordsAt bytes n bodies) (sym same) there.1,
      last ∙ ap (λ (n : ℕ). following n bodies + 1) (sym same),
    )

-- The first body that stands in bytes are bytes.
pub first_are_bytes : (bytes first : Text) (bodies : List Text) → IsBytes bytes
    → AreRecordsAt bytes 16 (first ∷ bodies) → IsBytes first
first_are_bytes bytes first bodies are there = subst IsBytes there.0.body_is
    (IsBytes-take (length first) (drop (16 + 5) bytes) (IsBytes-drop (16 + 5) bytes are))
