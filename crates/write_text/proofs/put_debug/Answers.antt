-- `write_text::put_debug` meets its contract: with little room the cut does not show, and else it is a nearer limit.
-- Assumes nothing.
use mathlib.Core.Path.{refl}
use native.Mathlib.Omega.{arith}
use Rattle.write_bytes.proofs.Cutting.{cut_short, cut_long}
use Rattle.write_text.proofs.put_debug.Goals as goal

pub returns-then-room-lt-MOST : goal.returns-then-room-lt-MOST
returns-then-room-lt-MOST c = cut_short c.room.ensures c.if-room-lt-MOST.true c.put_quoted.ensures

pub overflow_add-end : goal.overflow_add-end
overflow_add-end c = omega (arith, c.room.ensures, c.if-room-lt-MOST.false)

pub returns : goal.returns
returns c = cut_long c.room.ensures c.if-room-lt-MOST.false (omega arith) refl c.min-w.ensures c.put_quoted-2.ensures
