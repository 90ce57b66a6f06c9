-- `index_compare::segments::Segments::all` meets its contract: all bytes are cut.
-- Assumes nothing.
use native.Mathlib.Omega.{arith}
use lib.ListN.{length}
use lib.Seq.{take_all, drop-length}
use Rattle.index_compare.specs.Segment.{plain}
use Rattle.index_compare.specs.Machine.{remaining}
use Rattle.index_compare.proofs.Steps.{cut_at}
use Rattle.index_compare.proofs.segments.Segments.all.Goals as goal

pub returns : goal.returns
returns c =
    let s = c.args.self.now.rest.now in
    rw (cut_at (length s) s plain (remaining c.args.then) (omega arith), take_all (length s) s (omega arith), drop-length s) at c.plain.ensures
