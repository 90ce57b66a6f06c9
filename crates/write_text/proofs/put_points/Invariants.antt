-- `write_text::put_points` meets its contract: each turn writes a run of plain bytes and one code point of what is to be written, as long
-- as the place is not past the limit. The measure is what is left of the text.
-- Assumes nothing.
use Prim.Native.Nat.{◌-◌, ◌≤◌}
use lib.ListN.{length, drop}
use Rattle.script_spec.specs.Base.{collect}
use Rattle.write_bytes.proofs.Loop.{Along}
use Rattle.read_utf8.specs.Decoding.{points}
use Rattle.write_text.specs.Written.{spelling}
use Rattle.write_text.proofs.put_points.Given as goal

abbrev pub invariant-loop-rest : goal.invariant-loop-rest
invariant-loop-rest l =
    Along l.initial.w l.w (collect (spelling l.quotes) (points (drop l.rest.at l.rest.text.now))) (collect (spelling l.quotes) (points l.s))
    × (l.rest.at ≤ length l.rest.text.now)

abbrev pub decreases-loop-rest : goal.decreases-loop-rest
decreases-loop-rest l = length l.rest.text.now - l.rest.at
