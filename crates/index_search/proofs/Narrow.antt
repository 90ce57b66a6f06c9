-- A number that fits is itself after `try_from`.
-- Assumes nothing.
use mathlib.Core.Path.{◌≡◌, ◌∙◌}
use Prim.Native.Nat.{ℕ}
use Rattle.std.specs.Result.{OkIff, result_unwrap_or}
use Rattle.std.specs.Prelude.{Result, Ok, Err}

pub narrowed : {E P : Type 0} (r : Result ℕ E) (d : ℕ) {n m : ℕ} → OkIff r P n → m ≡ result_unwrap_or r d → P → m ≡ n
narrowed (Ok k) d h e p = e ∙ h.1
narrowed (Err x) d h e p = absurd (h p)
