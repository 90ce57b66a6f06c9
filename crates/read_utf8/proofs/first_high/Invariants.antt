-- The first high code point is the first of what is left of the text, behind those that passed.
-- Assumes nothing.
use Rattle.std.specs.Iterator.Adapters.{enumerate_source, enumerate_count}
use Rattle.read_utf8.proofs.Laws.{HighLeft}
use Rattle.read_utf8.proofs.first_high.Given as goal

abbrev pub invariant-loop-n : goal.invariant-loop-n
invariant-loop-n l = HighLeft l.s (enumerate_count l.n-iterator) (enumerate_source l.n-iterator)
