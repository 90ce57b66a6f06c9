-- `termscript_run::answer`: what is printed lies in its buffer.
use Rattle.std.proofs.Common.{sym, arith, length-take-le}
use Rattle.termscript_run.proofs.RunLaws.{shown_within}
use Rattle.termscript_run.proofs.answer.Goals as goal

pub slice_bounds-script-end : goal.slice_bounds-script-end
slice_bounds-script-end g c = omega (arith, shown_within c.print-n.ensures.shows)

pub slice_bounds-write_all-end : goal.slice_bounds-write_all-end
slice_bounds-write_all-end g c = sym (length-take-le _ _ (omega (arith, shown_within c.print-n.ensures.shows)))
