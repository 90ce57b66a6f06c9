-- `write_text::comment::put_blanked` meets its contract: each turn writes a run without control characters and the byte after it, as long as
-- the place is not past the limit. The measure is what is left of the text.
-- Assumes nothing.
use Prim.Native.Nat.{◌-◌, ◌≤◌}
use lib.ListN.{length, drop}
use Rattle.script_spec.specs.Text.{blanked}
use Rattle.write_bytes.proofs.Loop.{Along}
use Rattle.write_text.proofs.comment.put_blanked.Given as goal

abbrev pub invariant-loop-w : goal.invariant-loop-w
invariant-loop-w l = Along l.initial.w l.w (blanked (drop l.from l.s)) (blanked l.s) × (l.from ≤ length l.s)

abbrev pub decreases-loop-w : goal.decreases-loop-w
decreases-loop-w l = length l.s - l.from
