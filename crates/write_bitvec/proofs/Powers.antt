-- Powers of two below 2 ^ 128: tests and remainders by them. Assumes nothing.
use mathlib.Core.Path.{◌≡◌, sym, ap, ◌∙◌}
use Prim.Native.Nat.{ℕ, ◌+◌, ◌-◌, ◌*◌, ◌%◌, ◌^◌, ◌≤◌, ◌<◌}
use native.Mathlib.Nat.{mod-eq_of_lt, mul-mod_left, lt_of_lt_of_le}
use native.Mathlib.Omega.{arith}
use lib.Pow.{pow_mono, pow-lt, pow-add}

-- a power is the power that is m bits less, moved up by m bits
pub pow_split : (m k : ℕ) → m ≤ k → 2 ^ k ≡ 2 ^ (k - m) * 2 ^ m
pow_split m k h = ap (λ (j : ℕ). 2 ^ j) (let e : k ≡ k - m + m = omega arith in e) ∙ pow-add 2 (k - m) m

-- a power below 2 ^ 128 is whole
pub power_whole : (k : ℕ) → k < 128 → 2 ^ k % 2 ^ 128 ≡ 2 ^ k
power_whole k h = mod-eq_of_lt (pow-lt h)

pub power_past : (k : ℕ) → 128 ≤ k → 0 ≡ 2 ^ k % 2 ^ 128
power_past k h = sym (ap (λ (n : ℕ). n % 2 ^ 128) (pow_split 128 k h) ∙ mul-mod_left (2 ^ (k - 128)) (2 ^ 128))

-- every number below 2 ^ 128 is below a power from there on
pub fits_past : (n v : ℕ) → 128 ≤ n → v < 2 ^ 128 → v < 2 ^ n
fits_past n v g a = lt_of_lt_of_le a (pow_mono g)
