-- Buffers zeroed from a place on.
-- Assumes nothing.
use mathlib.Core.Path.{◌≡◌, refl, ap}
use mathlib.Core.List.{[], ◌∷◌, ◌++◌, append-nil}
use Prim.Native.Nat.{ℕ, zero, suc, ◌-◌, ◌≤◌, min}
use native.Mathlib.Omega.{arith}
use lib.ListN.{length, take, drop, replicate, length-drop, drop_of_length-le}
use lib.Seq.{take-nil, take_all}
use Rattle.script_spec.specs.Base.{Bytes}
use Rattle.write_bytes.specs.Writing.{cleared}

-- a cut at the end or past it
take_min : (x : Bytes) (n p : ℕ) → p ≡ min n (length x) → take p x ≡ take n x
take_min [] n p h = simp take-nil
take_min (b ∷ x) zero zero h = refl
take_min (b ∷ x) zero (suc p) h = absurd (omega arith)
take_min (b ∷ x) (suc n) zero h = absurd (omega arith)
take_min (b ∷ x) (suc n) (suc p) h = ap (λ (l : Bytes). b ∷ l) (take_min x n p (omega arith))

-- zeros in the part from p on
pub cleared_part : (x ys : Bytes) (from p : ℕ) → p ≡ min from (length x) → ys ≡ replicate (length (take (length x - p) (drop p x))) 0
    → take p x ++ (ys ++ drop (length x - p) (drop p x)) ≡ cleared x from
unfolding cleared
cleared_part x ys from p h k =
    let l : length (drop p x) ≤ length x - p = simp length-drop (omega arith) in
    let m : length x - p ≡ length x - from = omega arith in
    rw (k, take_all (length x - p) (drop p x) l, drop_of_length-le (drop p x) l, append-nil, length-drop, m, take_min x from p h)
