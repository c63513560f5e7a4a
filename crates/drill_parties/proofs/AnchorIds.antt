-- The bytes that are read as an anchor id are that id.
use Rattle.std.proofs.Common.{◌≡◌, ◌==◌, ℕ, Bool, true, false, Result, Ok, Err, length}
use Rattle.std.specs.Prelude.{if◌then◌else◌, nat_lt}
use Rattle.byte_formats.specs.Types.{Text}
use Rattle.byte_formats.specs.Readings.{◌>>=◌}
use Rattle.tls_wire.specs.Anchors.{anchor_of, arcs_only}
use Rattle.tls_wire.specs.declared.fault.AnchorBytesError.{AnchorBytesError}
use Rattle.drill_parties.specs.Ids.{id_of}

only_these : (r : Result (Unit {0}) AnchorBytesError) (bytes id : Text)
    → (r >>= λ done. Ok bytes) ≡ Ok id → id ≡ bytes
only_these (Ok done) bytes id e = cc
only_these (Err why) bytes id e = absurd cc

pub id_is : (last : ℕ) (id : Text) → anchor_of (id_of last) ≡ Ok id → id ≡ id_of last
unfolding anchor_of
id_is last id e = only_these (arcs_only (id_of last)) (id_of last) id e

passed_by : (b : Bool) (e : AnchorBytesError) (r : Result Text AnchorBytesError) (id : Text)
    → (if b then Err e else r) ≡ Ok id → r ≡ Ok id
passed_by true e r id is = absurd cc
passed_by false e r id is = is

-- the same of any bytes
pub copy_is : (bytes id : Text) → anchor_of bytes ≡ Ok id → id ≡ bytes
unfolding anchor_of
copy_is bytes id e =
    only_these (arcs_only bytes) bytes id
    (passed_by (nat_lt 255 (length bytes)) _ _ id (passed_by (length bytes == 0) _ _ id e))
