use Rattle.std.proofs.Common.{◌≡◌, ◌++◌, ◌∷◌, [], true, sym, ap, subst, ◌∙◌, List, ℕ}
use Rattle.disk_core.specs.Noted.{made_calls}
use Rattle.disk_core.specs.Replay.{state_now}
use Rattle.disk_core.specs.declared.memory.call.Call.TheVariants.{Write}
use Rattle.disk_core.specs.declared.memory.call.Made.{Made}
use Rattle.disk_core.proofs.Replay.{torn_pushed, torn_same, written_pushed, time_pushed, time_same}
use Rattle.disk_core.proofs.memory.history.write_noted.Goals as goal

-- the call that was noted
noted : (c : goal.After-push) → made_calls c.push.new.self
    ≡ made_calls c.args.calls.now ++ record {
      call =
          Write c.args.place c.args.piece.now;
      ok = true;
    } ∷ []
noted c = subst (λ (piece : List ℕ). made_calls c.push.new.self ≡ made_calls c.args.calls.now
    ++ record { call = Write c.args.place piece; ok = true } ∷ [])
    c.in_ok-kept.ensures (c.push.ensures
    ∙ ap (λ (calls : List Made). calls
    ++ record { call = Write c.args.place c.in_ok-kept.kept; ok = true } ∷ [])
    c.reserve.ensures.calls)

pub returns-clause-seen : goal.returns-clause-seen
returns-clause-seen c = λ first was. written_pushed first _ _ _ _ _ _
    (noted c) was c.in_ok-overwrite.ensures.ok

pub returns-clause-crash : goal.returns-clause-crash
returns-clause-crash c = λ first. torn_pushed first _ _ _ _ _ (noted c)

pub returns-clause-time : goal.returns-clause-time
returns-clause-time c = λ first. time_pushed first _ _ _ (noted c)

pub returns-clause-calls : goal.returns-clause-calls
returns-clause-calls c = noted c

pub returns-in_err-overwrite-clause-seen : goal.returns-in_err-overwrite-clause-seen
returns-in_err-overwrite-clause-seen c = λ first was. c.in_err-overwrite.ensures.err ∙ was
    ∙ ap (λ (calls : List Made). (state_now first calls).seen) (sym c.reserve.ensures.calls)

pub returns-in_err-overwrite-clause-crash : goal.returns-in_err-overwrite-clause-crash
returns-in_err-overwrite-clause-crash c = λ first. torn_same first _ _ _ _
    c.reserve.ensures.calls

pub returns-in_err-overwrite-clause-time : goal.returns-in_err-overwrite-clause-time
returns-in_err-overwrite-clause-time c = λ first. time_same first _ _ c.reserve.ensures.calls

pub returns-in_err-reserve-clause-seen : goal.returns-in_err-reserve-clause-seen
returns-in_err-reserve-clause-seen c = λ first was. was
    ∙ ap (λ (calls : List Made). (state_now first calls).seen) (sym c.reserve.ensures.calls)

pub returns-in_err-reserve-clause-crash : goal.returns-in_err-reserve-clause-crash
returns-in_err-reserve-clause-crash c = λ first. torn_same first _ _ _ _ c.reserve.ensures.calls

pub returns-in_err-reserve-clause-time : goal.returns-in_err-reserve-clause-time
returns-in_err-reserve-clause-time c = λ first. time_same first _ _ c.reserve.ensures.calls
