-- `write_numeral::put_decimal` and `write_numeral::put_long` end: what precedes the last five digits is smaller.
-- Assumes nothing.
use Prim.Native.Nat.{◌+◌, ◌*◌}
use Rattle.write_numeral.proofs.+put_decimal_put_long.Given as goal

abbrev pub decreases-put_decimal : goal.decreases-put_decimal
decreases-put_decimal a = a.n * 2 + 1

abbrev pub decreases-put_long : goal.decreases-put_long
decreases-put_long a = a.n * 2
