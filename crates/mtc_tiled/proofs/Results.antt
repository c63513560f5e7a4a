-- Facts of an answer.
use Rattle.std.proofs.Common.{Result, Ok, Err, IfOk, IfErr}

pub ok_so : {T E : Type 0} {P Q : T → Type 0} (r : Result T E) → IfOk r P
    → ((x : T) → P x → Q x) → IfOk r Q
ok_so (Ok x) is so = so x is
ok_so (Err e) is so = tt

pub err_so : {T E : Type 0} {P Q : E → Type 0} (r : Result T E) → IfErr r P
    → ((e : E) → P e → Q e) → IfErr r Q
err_so (Ok x) is so = tt
err_so (Err e) is so = so e is
