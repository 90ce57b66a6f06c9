-- A number by its last ten digits and what precedes them. Assumes nothing.
use mathlib.Core.Path.{◌≡◌, sym, ap, ◌∙◌}
use mathlib.Core.List.{◌++◌}
use Prim.Native.Nat.{ℕ, ◌/◌, ◌%◌, ◌≤◌}
use native.Mathlib.Omega.{arith}
use Rattle.script_spec.specs.Base.{Bytes}
use Rattle.script_spec.specs.Text.{decimal}
use Rattle.write_numeral.specs.Last.{last_digits}
use Rattle.write_numeral.proofs.Laws.{base_ten, numeral_split, last_digits_mod}

-- the last ten digits follow the numeral of the rest
pub decimal_next : (n : ℕ) {rest last : ℕ} → 10000000000 ≤ n → rest ≡ n / 10000000000 → last ≡ n % 10000000000
    → decimal rest ++ last_digits 10 10 last ≡ decimal n
unfolding decimal
decimal_next n h hr hl =
    rw (hr, hl) (ap (λ (s : Bytes). decimal (n / 10000000000) ++ s) (last_digits_mod 10 n 10 (omega arith)) ∙ sym (numeral_split 10 base_ten h))
