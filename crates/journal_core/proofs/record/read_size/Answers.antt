use Rattle.std.proofs.Common.{◌≡◌, ◌+◌, ◌-◌, ℕ, List, take, drop, ap, sym, ◌∙◌, arith}
use Rattle.std.specs.Int.{w32, to_be_bytes}
use Rattle.disk_core.specs.Disk.{part}
use Rattle.journal_core.specs.Windows.{Holds}
use Rattle.journal_core.proofs.Modelled.{if_modelled, at_contents}
use Rattle.journal_core.proofs.Windows.{held_part}
use Rattle.journal_core.proofs.record.read_size.Goals as goal

pub returns-clause-size : goal.returns-clause-size
returns-clause-size g c =
    let place = c.args.place in
    let commit_byte = c.in_ok-commit_byte.commit_byte in
    let window = c.hold.new.window in
    let four : (commit_byte + 5) - (commit_byte + 1) ≡ 4 = omega arith in
    let encoded : to_be_bytes w32 c.number.result ≡ part (commit_byte + 1) 4 window.buffer.items
    = c.number.ensures ∙ ap (λ (n : ℕ). take n (drop (commit_byte + 1) c.deref.result.now)) four
    ∙ ap (λ (items : List ℕ). take 4 (drop (commit_byte + 1) items)) c.deref.ensures.value in
    let at = c.in_ok-commit_byte.ensures.at in
    let all = c.in_ok-commit_byte.ensures.all in
    if_modelled (λ (b : List ℕ). part (place + 1) 4 b ≡ to_be_bytes w32 c.number.result)
    (g.D.Disk.contents c.args.disk.now) (λ b is.
    let holds : Holds window b = at_contents (Holds window) (g.D.Disk.contents c.hold.new.disk) b
    (c.hold.ensures.only_reads.contents ∙ is) c.hold.ensures.holds in
    sym (encoded
    ∙ held_part window b (commit_byte + 1) (place + 1) 4 holds (omega arith) (omega arith)))
