-- What a pool is once a frame of it was borrowed.
use Rattle.std.specs.Prelude.{ℕ, slice_set}
use Rattle.std.specs.Borrow.{Array, Fml, Lends, MutBor, u8}
use Rattle.byte_formats.specs.Types.{Text}
use Rattle.frame_pool.specs.Frames.{PoolState}
use Rattle.frame_pool.specs.contracts.pool.Pool.{the_row}

-- The pool with other bytes in the frame of a slot.
abbrev pub with_frame : PoolState → ℕ → Text → PoolState
with_frame pool slot bytes = record pool { frames = slice_set pool.frames slot bytes }

-- The pool ends with what is left in the frame.
abbrev pub BorrowsFrame : MutBor PoolState → ℕ → MutBor Text → Fml
BorrowsFrame pool slot frame = Lends the_row (Array u8 0) pool frame (with_frame pool.now slot)
