use Rattle.mirror_core.proofs.bodies.items_of.Goals as goal

pub returns-clause-bytes : goal.returns-clause-bytes
returns-clause-bytes c = λ i. (c.type_inv.body i).fits

pub returns-then-body-lt-BEFORE_ITEMS-clause-bytes :
    goal.returns-then-body-lt-BEFORE_ITEMS-clause-bytes
returns-then-body-lt-BEFORE_ITEMS-clause-bytes c = λ i. (c.type_inv.body i).fits
