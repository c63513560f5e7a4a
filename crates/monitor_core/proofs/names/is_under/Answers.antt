use Rattle.std.proofs.Common.{◌+◌, ◌-◌, ◌∙◌, length, refl}
use Rattle.std.proofs.lemmas.List.{take_rest}
use Rattle.monitor_core.proofs.Under.{is_under-dot, is_under-other, is_under-short}
use Rattle.monitor_core.proofs.names.is_under.Goals as goal

pub returns-then-name-domain : goal.returns-then-name-domain
returns-then-name-domain c =
    c.is_same_name.ensures
    ∙ is_under-short c.args.name.now c.args.domain.now c.if-name-domain.true

pub returns-then-name-dot-eq46 : goal.returns-then-name-dot-eq46
returns-then-name-dot-eq46 c =
    let name = c.args.name.now in
    let dot = length name - length c.args.domain.now - 1 in
    c.is_same_name-then-name-dot-eq46.ensures
    ∙ is_under-dot name c.args.domain.now _ dot c.if-name-domain.false refl c.if-name-dot-eq46.true
    (take_rest name (dot + 1))

pub returns-else-name-dot-eq46 : goal.returns-else-name-dot-eq46
returns-else-name-dot-eq46 c =
    let name = c.args.name.now in
    let dot = length name - length c.args.domain.now - 1 in
    is_under-other name c.args.domain.now dot c.if-name-domain.false refl c.if-name-dot-eq46.false
