-- The answers of the constructors of bit vectors, by the tests on the way. Assumes nothing.
use mathlib.Core.Path.{◌≡◌, ap, ◌∙◌}
use mathlib.Core.Bool.{Bool, true, false}
use Prim.Native.Nat.{ℕ, ◌-◌, ◌%◌, ◌^◌, ◌≤◌}
use native.Mathlib.Omega.{arith}
use lib.Dec.{leb, leb→le}
use lib.IntN.{ℤ}
use Rattle.script_spec.specs.Base.{accepted, refused, between}
use Rattle.script_spec.proofs.Laws.{and_parts}
use Rattle.write_bitvec.specs.Value.{twos_complement}
use Rattle.write_bitvec.specs.Vector.{is_width, vector_if}
use Rattle.write_bitvec.proofs.Powers.{power_whole}
use Rattle.write_bitvec.proofs.TwosComplement.{twos_wrap}

pub is_width_range : (n : ℕ) → is_width n ≡ true → (1 ≤ n) × (n ≤ 128)
unfolding between
is_width_range n h = let p = and_parts (leb 1 n) (leb n 128) (rw h tt) in (leb→le 1 n p.0, leb→le n 128 p.1)

pub vector_if_no : (b : Bool) (n v : ℕ) → b ≡ false → refused 7 0 0 ≡ vector_if b n v
unfolding vector_if
vector_if_no b n v h = simp h

pub vector_if_yes : (b : Bool) (n v w : ℕ) → b ≡ true → v ≡ w → accepted (n, v) ≡ vector_if b n w
unfolding vector_if
vector_if_yes b n v w h e = simp (h, e)

pub of_int_value : (n : ℕ) (z : ℤ) (a v : ℕ) → is_width n ≡ true → a ≡ twos_complement 128 z → v ≡ a % 2 ^ n → v ≡ twos_complement n z
of_int_value n z a v h e f = f ∙ ap (λ (x : ℕ). x % 2 ^ n) e ∙ twos_wrap n z (is_width_range n h).1

pub int_min_value : (n v : ℕ) → is_width n ≡ true → v ≡ 2 ^ (n - 1) % 2 ^ 128 → v ≡ 2 ^ (n - 1)
int_min_value n v h e =
    let r = is_width_range n h in
    e ∙ power_whole (n - 1) (omega arith)
