-- `write_bitvec::spelling::put_decimal128` ends: what precedes the last ten digits is smaller.
-- Assumes nothing.
use Rattle.write_bitvec.proofs.spelling.+put_decimal128.Given as goal

abbrev pub decreases-put_decimal128 : goal.decreases-put_decimal128
decreases-put_decimal128 a = a.n
