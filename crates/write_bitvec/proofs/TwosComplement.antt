-- A signed number in 128 bits and in fewer, by its sign. Assumes nothing.
use mathlib.Core.Path.{◌≡◌, sym, ap, ◌∙◌}
use Prim.Native.Nat.{ℕ, ◌+◌, ◌-◌, ◌*◌, ◌/◌, ◌%◌, ◌^◌, ◌≤◌, ◌<◌}
use native.Mathlib.Nat.{mod-eq_of_lt, mod-lt, lt_of_lt_of_le, div-lt_iff_lt-mul, div-add-mod', add-mul}
use native.Mathlib.Omega.{arith}
use lib.Dec.{lit<, lit≤}
use lib.IntN.{ℤ, pos, negsuc}
use lib.Arith.{mul_pred, digits_mod}
use lib.Pow.{pow_pos, mod-mod-pow}
use mir.Syntax.{w64, w128}
use mir.Val.{SFits, of_z}
use Rattle.write_bitvec.specs.Value.{twos_complement}
use Rattle.write_bitvec.proofs.Powers.{pow_split}

sub_digits : (pc mc qc c a r : ℕ) → pc - 1 ≡ mc + qc + (c - 1) → a ≡ qc + r → r < c → pc - 1 - a ≡ mc + (c - 1 - r)
sub_digits pc mc qc c a r e f h = omega arith

-- the last digit of a complement, of p digits of which each is below c
complement_mod : (p c a : ℕ) → 0 < p → 0 < c → a < p * c → (p * c - 1 - a) % c ≡ c - 1 - a % c
complement_mod p c a hp hc h =
    let q : a / c < p = (div-lt_iff_lt-mul hc).1 h in
    let m : p - 1 ≡ p - 1 - a / c + a / c = omega arith in
    let all : p * c - 1 ≡ (p - 1 - a / c) * c + a / c * c + (c - 1) =
    mul_pred hp hc ∙ ap (λ (x : ℕ). x + (c - 1)) (ap (λ (x : ℕ). x * c) m ∙ add-mul (p - 1 - a / c) (a / c) c) in
    let r : a % c < c = mod-lt a hc in
    let last : c - 1 - a % c < c = omega arith in
    ap (λ (x : ℕ). x % c) (sub_digits (p * c) ((p - 1 - a / c) * c) (a / c * c) c a (a % c) all (sym (div-add-mod' a c)) r) ∙ digits_mod (p - 1 - a / c) last

wrapped : (v n : ℕ) → n ≤ 128 → v % 2 ^ 128 % 2 ^ n ≡ v % 2 ^ n
wrapped v n h =
    let s : 128 ≡ 128 - n + n = omega arith in
    ap (λ (x : ℕ). v % 2 ^ x % 2 ^ n) s ∙ mod-mod-pow v (128 - n) n

-- the last n of 128 bits
pub twos_wrap : (n : ℕ) (z : ℤ) → n ≤ 128 → twos_complement 128 z % 2 ^ n ≡ twos_complement n z
unfolding twos_complement
twos_wrap n (pos v) h = wrapped v n h
twos_wrap n (negsuc v) h =
    let s : 2 ^ (128 - n) * 2 ^ n ≡ 2 ^ 128 = sym (pow_split n 128 h) in
    let b : v % 2 ^ 128 < 2 ^ (128 - n) * 2 ^ n = rw s (mod-lt v (lit< tt)) in
    ap (λ (x : ℕ). (x - 1 - v % 2 ^ 128) % 2 ^ n) (sym s)
    ∙ complement_mod (2 ^ (128 - n)) (2 ^ n) (v % 2 ^ 128) (pow_pos (128 - n)) (pow_pos n) b
    ∙ ap (λ (x : ℕ). 2 ^ n - 1 - x) (wrapped v n h)

-- a signed number of 64 bits, which 128 bits hold
pub signed_value : (z : ℤ) → SFits w64 z → of_z w128 z ≡ twos_complement 128 z
unfolding twos_complement
signed_value (pos n) f = sym (mod-eq_of_lt (lt_of_lt_of_le f.sfits (lit≤ tt)))
signed_value (negsuc n) f = let m : n % 2 ^ 128 ≡ n = mod-eq_of_lt (lt_of_lt_of_le f.sfits (lit≤ tt)) in rw m (omega arith)
