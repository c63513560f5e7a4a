use Rattle.std.proofs.Common.{[], ◌∷◌, Option, Ok, inl, refl, subst, ◌∙◌}
use Rattle.std.proofs.lemmas.Result.{err_from_is_err_and}
use Rattle.mtc_command.specs.declared.answer.Answer.{Answer}
use Rattle.mtc_streams.proofs.Answered.{streamed}
use Rattle.mtc_relying.specs.Compared.{IfClaims, LeavesOf, RepliesFirst, claim_says, wanted_by}
use Rattle.mtc_relying.specs.declared.claim.Judged.{Judged}
use Rattle.mtc_relying.proofs.After.{read_again, with_same}
use Rattle.mtc_relying.proofs.Compared.{ended, of_items}
use Rattle.mtc_relying.proofs.comparing.compared.Goals as goal

pub returns-in_err-counted : goal.returns-in_err-counted
returns-in_err-counted g c =
    let p = err_from_is_err_and c.from_residual.result c.from_residual.ensures.1 in
    rw (p.1, p.2) (λ wanted leaves.
    c.in_err-counted.ensures.stops (c.args.entries.now ∷ []) [] wanted (inl refl))

pub returns-in-BadStore : goal.returns-in-BadStore
returns-in-BadStore g c = λ wanted leaves.
    let h = g.H.TreeHash.hash in
    let e = c.args.entries.now in
    let stops = subst (λ (j : Judged). LeavesOf h e wanted j) c.in-BadStore.is leaves in
    streamed g.R.Room g.R.Dsk.Disk g.met.R.Dsk.Disk.only_now (e ∷ []) _ e wanted _ _ _
    c.in_ok-counted.ensures.all_closed _ c.in_ok-counted.ensures.items (λ bytes holds. stops bytes)

pub returns-in-Ends : goal.returns-in-Ends
returns-in-Ends g c = λ wanted leaves.
    let h = g.H.TreeHash.hash in
    let e = c.args.entries.now in
    let after = subst (λ (j : Judged). LeavesOf h e wanted j) c.in-Ends.is leaves in
    streamed g.R.Room g.R.Dsk.Disk g.met.R.Dsk.Disk.only_now (e ∷ []) _ e wanted _ _ _
    c.in_ok-counted.ensures.all_closed _ c.in_ok-counted.ensures.items (λ bytes holds.
    ended h e _ bytes c.in_ok-counted.counted c.in_ok-tested-in-Ends.field-0 wanted _ after holds
    c.in_ok-tested-in-Ends.ensures)

pub returns-in_err-answer-in-Claims : goal.returns-in_err-answer-in-Claims
returns-in_err-answer-in-Claims g c =
    let h = g.H.TreeHash.hash in
    let e = c.args.entries.now in
    let k = c.in-Claims.claim in
    let p = err_from_is_err_and c.from_residual-in_err-answer-in-Claims.result
    c.from_residual-in_err-answer-in-Claims.ensures.1 in
    let made = c.in_ok-counted.ensures.same
    ∙ subst (IfClaims _) c.in-Claims.is c.asking-fold.ensures.made_with in
    rw (p.1, p.2) (λ wanted leaves.
    let same = subst (λ (j : Judged). LeavesOf h e wanted j) c.in-Claims.is leaves in
    with_same g.R.Room g.R.Dsk.Disk (e ∷ []) 8589934592 e (g.R.Room.file c.args.room.now e) wanted
    (claim_says h e k) _ _ _ same
    (streamed g.R.Room g.R.Dsk.Disk g.met.R.Dsk.Disk.only_now (e ∷ []) 8589934592 e
    (claim_says h e k) _ _ _
    c.in_ok-counted.ensures.all_closed _ c.in_ok-counted.ensures.items (λ bytes holds.
    c.in_err-answer-in-Claims.ensures bytes (of_items h _ _ bytes c.in_ok-counted.counted
    (λ items taken. c.summary_of.ensures items (wanted_by h k)
    k.accepted.accepted.index taken made) holds))))

pub returns-in-Some : goal.returns-in-Some
returns-in-Some g c = λ wanted leaves.
    let h = g.H.TreeHash.hash in
    let e = c.args.entries.now in
    let k = c.in-Claims.claim in
    let made = c.in_ok-counted.ensures.same
    ∙ subst (IfClaims _) c.in-Claims.is c.asking-fold.ensures.made_with in
    let same = subst (λ (j : Judged). LeavesOf h e wanted j) c.in-Claims.is leaves in
    with_same g.R.Room g.R.Dsk.Disk (e ∷ []) 8589934592 e (g.R.Room.file c.args.room.now e) wanted
    (claim_says h e k) _ _ _ same
    (streamed g.R.Room g.R.Dsk.Disk g.met.R.Dsk.Disk.only_now (e ∷ []) 8589934592 e
    (claim_says h e k) _ _ _
    c.in_ok-counted.ensures.all_closed _ c.in_ok-counted.ensures.items (λ bytes holds.
    subst (λ (r : Option Answer). RepliesFirst (claim_says h e k bytes) (Ok r)) c.in-Some.is
    (c.in_ok-answer-in-Claims.ensures bytes (of_items h _ _ bytes c.in_ok-counted.counted
    (λ items taken. c.summary_of.ensures items (wanted_by h k)
    k.accepted.accepted.index taken made) holds))))

pub returns : goal.returns
returns g c = λ wanted leaves.
    let h = g.H.TreeHash.hash in
    let e = c.args.entries.now in
    let k = c.in-Claims.claim in
    let same = subst (λ (j : Judged). LeavesOf h e wanted j) c.in-Claims.is leaves in
    with_same g.R.Room g.R.Dsk.Disk (e ∷ []) 8589934592 e (g.R.Room.file c.args.room.now e) wanted
    (claim_says h e k) _ _ _ same
    (read_again g.R.Room g.R.Dsk.Disk (e ∷ []) 8589934592 e (claim_says h e k) _ _ _ _
    c.in_ok-counted.ensures.all_closed c.shown.ensures)
