use Rattle.std.proofs.Common.{◌≡◌, ℕ, ◌+◌, ◌-◌, List, length, take, drop, arith, length-drop, sym}
use Rattle.std.proofs.lemmas.List.{take_all}
use Rattle.cert_names.proofs.Labels.{labels_of-dot, labels_of-last}
use Rattle.cert_names.proofs.hosts.cut.Goals as goal

-- a slice up to the end is all that is left
rest : (n : ℕ) (xs : List ℕ) → take (length xs - n) (drop n xs) ≡ drop n xs
rest n xs = take_all (length xs - n) (drop n xs) (omega (arith, length-drop n xs))

pub returns-in-Some-clause-parts : goal.returns-in-Some-clause-parts
returns-in-Some-clause-parts c =
    rw (rest (c.in-Some.end + 1) c.args.text.now) (labels_of-dot c.args.text.now c.in-Some.end
    (sym c.in-Some.ensures.value))

pub returns-in-None-clause-last : goal.returns-in-None-clause-last
returns-in-None-clause-last c = labels_of-last c.args.text.now (sym c.in-None.ensures.value)
