use Rattle.std.proofs.Common.{◌≡◌, [], ◌∷◌, inl, inr, refl, ap, sym, subst, ◌∙◌, arith}
use Rattle.std.proofs.lemmas.Result.{err_from_is_err_and}
use Rattle.byte_formats.specs.Types.{Text}
use Rattle.landmarks.specs.Texts.{list_of}
use Rattle.mtc_command.specs.Answers.{ending_of}
use Rattle.mtc_command.specs.Endings.{Replies}
use Rattle.mtc_command.specs.Steps.{with_bytes}
use Rattle.mtc_command.proofs.Inputs.{after_file}
use Rattle.mtc_command.proofs.Served.{answered, following}
use Rattle.mtc_streams.proofs.Answered.{streamed}
use Rattle.mtc_relying.specs.SubtreeTables.{AreSubtreesOf}
use Rattle.mtc_relying.specs.TrustOutcome.{trust_outcome, trust_says}
use Rattle.mtc_relying.proofs.trust.trust_landmarks.Goals as goal

pub returns-in_err-text : goal.returns-in_err-text
returns-in_err-text g c =
    let p = err_from_is_err_and c.from_residual.result c.from_residual.ensures.1 in
    rw (p.1, p.2) (c.in_err-text.ensures.stops (c.args.list.now ∷ c.args.entries.now ∷ []) []
    (λ text. with_bytes 8589934592 c.args.entries.now
    (g.R.Room.file c.args.room.now c.args.entries.now)
    (λ bytes. trust_says g.H.TreeHash.hash c.args.list.now c.args.max_active c.args.entries.now text
    bytes)) (inl refl))

pub returns-in_err-spans : goal.returns-in_err-spans
returns-in_err-spans g c =
    let p = err_from_is_err_and c.from_residual-in_err-spans.result
    c.from_residual-in_err-spans.ensures.1 in
    let a = c.args in
    rw (p.1, p.2) (answered g.R.Room g.R.Dsk.Disk (a.list.now ∷ a.entries.now ∷ []) [] []
    (trust_outcome g.H.TreeHash.hash a.list.now a.max_active a.entries.now
    (g.R.Room.file a.room.now)) _ _ c.in_ok-text.ensures.all_closed
    g.met.R.Dsk.Disk.only_now _ _ (λ t. refl) tt)

pub returns-in_err-counted : goal.returns-in_err-counted
returns-in_err-counted g c =
    let p = err_from_is_err_and c.from_residual-in_err-counted.result
    c.from_residual-in_err-counted.ensures.1 in
    let a = c.args in
    let e = a.entries.now in
    let says = trust_says g.H.TreeHash.hash a.list.now a.max_active e in
    rw (p.1, p.2)
    (after_file g.R.Room g.R.Dsk.Disk 16777216 a.list.now _ _ _ c.in_ok-text.text
    c.in_ok-text.ensures.all_closed c.in_ok-text.ensures.bytes (a.list.now ∷ e ∷ []) [] []
    (λ text. with_bytes 8589934592 e (g.R.Room.file a.room.now e) (says text)) _ _
    (λ t. ap (λ f. with_bytes 8589934592 e f (says c.in_ok-text.text))
    (c.in_ok-text.ensures.all_closed.others e tt).bytes)
    (c.in_err-counted.ensures.stops (a.list.now ∷ e ∷ []) [] (says c.in_ok-text.text)
    (inr (inl refl))))

pub entries_answer-requires : goal.entries_answer-requires
entries_answer-requires g c = λ size l read.
    subst (AreSubtreesOf l) (sym (c.in_ok-counted.ensures.kept ∙ c.new-tables.ensures.spans))
    (c.in_ok-spans.ensures.of size l (sym (ap (λ t. list_of t c.args.max_active size)
    (c.as_slice-2.ensures ∙ sym c.as_slice.ensures)) ∙ read))

pub returns : goal.returns
returns g c =
    let a = c.args in
    let e = a.entries.now in
    let says = trust_says g.H.TreeHash.hash a.list.now a.max_active e in
    after_file g.R.Room g.R.Dsk.Disk 16777216 a.list.now _ _ _ c.in_ok-text.text
    c.in_ok-text.ensures.all_closed c.in_ok-text.ensures.bytes (a.list.now ∷ e ∷ []) [] []
    (λ text. with_bytes 8589934592 e (g.R.Room.file a.room.now e) (says text)) _ _
    (λ t. ap (λ f. with_bytes 8589934592 e f (says c.in_ok-text.text))
    (c.in_ok-text.ensures.all_closed.others e tt).bytes)
    (streamed g.R.Room g.R.Dsk.Disk g.met.R.Dsk.Disk.only_now (a.list.now ∷ e ∷ []) _ e
    (says c.in_ok-text.text) _ _ _ c.in_ok-counted.ensures.all_closed _
    c.in_ok-counted.ensures.items (λ bytes holds.
    subst (λ t. Replies (says t bytes).answer (ending_of c.entries_answer.result))
    c.as_slice-2.ensures
    (c.entries_answer.ensures bytes holds)))
