-- The last digits of a number.
-- Assumes nothing.
use Rattle.std.specs.Prelude.{ℕ, zero, suc, ◌/◌, ◌%◌, [], ◌∷◌, ◌++◌}
use Rattle.script_spec.specs.Base.{Bytes}
use Rattle.script_spec.specs.Text.{digit}

-- the last k digits of n in a base, with zeros in front where n has fewer
unfoldable pub last_digits : ℕ → ℕ → ℕ → Bytes
last_digits zero base n = []
last_digits (suc k) base n = last_digits k base (n / base) ++ (digit (n % base) ∷ [])
