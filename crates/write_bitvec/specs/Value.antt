-- The values of signed numbers. Assumes nothing.
use Rattle.std.specs.Prelude.{ℕ, ◌-◌, ◌%◌, ◌^◌, ℤ, pos, negsuc}

-- a signed number in n bits, by two's complement: the number modulo 2 ^ n; `negsuc v` is −1 − v
unfoldable pub twos_complement : ℕ → ℤ → ℕ
twos_complement n (pos v) = v % 2 ^ n
twos_complement n (negsuc v) = 2 ^ n - 1 - v % 2 ^ n
