-- `write_numeral::put_five` meets its contract: the digits one by one.
-- Assumes nothing.
use mathlib.Core.Path.{refl}
use Rattle.write_bytes.proofs.Laws.{says}
use Rattle.write_numeral.specs.Last.{last_digits}
use Rattle.write_numeral.proofs.put_five.Goals as goal

pub returns : goal.returns
unfolding last_digits
returns c = says (rw (c.ones.ensures, c.ones-2.ensures, c.ones-3.ensures, c.ones-4.ensures, c.ones-5.ensures) refl) c.put.ensures
