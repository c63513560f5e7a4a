-- Which runs are heard.
use Rattle.std.proofs.Common.{◌≡◌, ◌⊎◌, inl, inr, ℕ, true, List, length, Option, Some, None}
use Rattle.std.proofs.Common.{◌||◌, ◌==◌, nat_lt}
use Rattle.std.proofs.lemmas.Bool.{eq-eqb, lt-ltb, or_right}
use Rattle.file_events.specs.Worlds.{Program, Run, heard_of, is_heard}
use Rattle.mtc_laws.specs.RunLaws.{TookSome}
use Rattle.mtc_laws.proofs.HeardBytes.{done_heard, heard_ways}
use Rattle.mtc_headline.specs.Endings.{HeardIsSent, MayHaveSent}

took_heard : (status : ℕ) (old new : Option (List ℕ)) → TookSome old new
    → is_heard status old new ≡ true
took_heard status None new took = absurd took
took_heard status (Some xs) None took = absurd took
took_heard status (Some xs) (Some ys) took =
    or_right (status == 0) (nat_lt (length xs) (length ys)) (lt-ltb (length xs) (length ys) took)

lost_heard : (status : ℕ) (old new : Option (List ℕ)) → status ≡ 6 → old ≡ None
    → is_heard status old new ≡ true
lost_heard status None new six none =
    or_right (status == 0) (status == 6) (eq-eqb status 6 six)
lost_heard status (Some xs) new six none = absurd cc

pub heard_sent : HeardIsSent
heard_sent status old new = (
  heard_ways status old new,
  λ any. elim any [
    | inl zero_ ↦ done_heard status old new zero_
    | inr other ↦ elim other [
      | inl took ↦ took_heard status old new took
      | inr lost ↦ lost_heard status old new lost.0 lost.1
    ]
  ],
)

module _ (p : Program) where
  pub sent_heard : (run : Run p.R p.O p.E)
      → MayHaveSent run.status (p.outs.taken run.out) (p.outs.taken run.out_after)
      → heard_of p run ≡ true
  sent_heard run sent =
      (heard_sent run.status (p.outs.taken run.out) (p.outs.taken run.out_after)).1 sent
