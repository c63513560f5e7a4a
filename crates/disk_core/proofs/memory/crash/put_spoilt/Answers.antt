use Rattle.std.proofs.Common.{◌≡◌, ◌+◌, ◌<◌, ◌∙◌, ℕ, List, length, drop, min, slice_index, ap, sym}
use Rattle.std.proofs.Common.{subst, arith, rules}
use Rattle.std.proofs.lemmas.List.{length-drop, get_or-drop, take_rest}
use Rattle.disk_core.specs.Disk.{Torn, overwritten}
use Rattle.disk_core.specs.Writes.{torn_other}
use Rattle.disk_core.proofs.memory.crash.put_spoilt.Goals as goal

-- bytes that are the old ones where the piece is, put over them
spoilt_torn : (place start : ℕ) (piece bytes over there old new : List ℕ)
    → start ≡ min (length old) place → there ≡ drop start old → over ≡ bytes
    → length bytes ≡ length piece
    → ((k : ℕ) → k < length piece → k < length there → slice_index piece k ≡ slice_index there k
    → slice_index bytes k ≡ slice_index there k)
    → new ≡ overwritten place over old → Torn place piece old new
spoilt_torn place start piece bytes over there old new start_is there_is over_is size same new_is =
    subst (Torn place piece old)
    (sym (new_is ∙ ap (λ (b : List ℕ). overwritten place b old) over_is))
    (torn_other place piece bytes old (omega arith) (λ k within below is.
    let rest : length there ≡ length (drop start old) = ap length there_is in
    let size_of_rest = length-drop start old in
    let shift : start + k ≡ place + k = omega arith in
    let at : slice_index there k ≡ slice_index old (place + k)
    = ap (λ (b : List ℕ). slice_index b k) there_is ∙ get_or-drop start old k 0
    ∙ ap (λ (n : ℕ). slice_index old n) shift in
    same k (omega arith) (omega arith) (is ∙ sym at) ∙ at))

pub returns : goal.returns
returns c =
    let start_is : c.min-start.result ≡ min (length c.args.crash_state.now.items) c.args.place =
    search rules in
    spoilt_torn c.args.place c.min-start.result c.args.piece.now c.in_ok-bytes.bytes.items
    c.deref-2.result.now _ c.args.crash_state.now.items _ start_is
    (take_rest c.deref.result.now c.min-start.result
    ∙ ap (drop c.min-start.result) c.deref.ensures.value)
    c.deref-2.ensures.value c.in_ok-bytes.ensures.size c.in_ok-bytes.ensures.same
    c.in_ok-overwrite.ensures.ok
