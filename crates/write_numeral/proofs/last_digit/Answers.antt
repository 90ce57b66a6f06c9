-- `write_numeral::last_digit` meets its contract: the formula of a digit below ten, and of one from ten on.
-- Assumes nothing.
use mathlib.Core.Path.{sym}
use native.Mathlib.Omega.{arith}
use Rattle.script_spec.proofs.Numerals.{digit_low, digit_high}
use Rattle.write_numeral.proofs.Laws.{mod_small}
use Rattle.write_numeral.proofs.last_digit.Goals as goal

pub overflow_cast-d : goal.overflow_cast-d
overflow_cast-d c = omega (arith, mod_small c.args.n _ c.requires)

pub returns-then-d-lt10 : goal.returns-then-d-lt10
returns-then-d-lt10 c = sym (digit_low _ (omega arith))

pub overflow_add-result-2 : goal.overflow_add-result-2
overflow_add-result-2 c = omega (arith, mod_small c.args.n _ c.requires)

pub returns : goal.returns
returns c = sym (digit_high _ (omega arith))
