-- `write_numeral::put_hex` ends: what precedes the last digit is smaller.
-- Assumes nothing.
use Rattle.write_numeral.proofs.+put_hex.Given as goal

abbrev pub decreases-put_hex : goal.decreases-put_hex
decreases-put_hex a = a.n
