-- Laws of numerals by their last digits: what precedes the last one and the last k, and that the last k are those of a remainder.
-- Assumes nothing.
use mathlib.Core.Path.{◌≡◌, refl, sym, ap, ◌∙◌}
use mathlib.Core.List.{[], ◌∷◌, ◌++◌, append-nil, append_assoc}
use Prim.Native.Nat.{ℕ, zero, suc, ◌+◌, ◌*◌, ◌/◌, ◌%◌, ◌^◌, ◌≤◌, ◌<◌}
use native.Mathlib.Nat.{pow-zero, pow-suc, pow-succ', one-le-pow, one-mul, mod-eq_of_lt, mod-lt, div-one, div-div-eq-div-mul, le-div_iff_mul-le}
use native.Mathlib.Omega.{arith}
use lib.Dec.{lit≤}
use lib.Arith.{mod-mul, digits_div, digits_mod}
use Rattle.script_spec.specs.Base.{Bytes}
use Rattle.script_spec.specs.Text.{digit, digits}
use Rattle.script_spec.proofs.LastDigit.{digits_one, digits_more, digits_rest}
use Rattle.write_numeral.specs.Base.{IsBase}
use Rattle.write_numeral.specs.Last.{last_digits}

-- a numeral in a base
abbrev pub numeral : ℕ → ℕ → Bytes
numeral base n = digits n base n []

pub base_ten : IsBase 10
base_ten = record { least = lit≤ tt; most = lit≤ tt }

pub base_sixteen : IsBase 16
base_sixteen = record { least = lit≤ tt; most = lit≤ tt }

-- a digit is below sixteen
pub mod_small : (n base : ℕ) → IsBase base → n % base < 16
mod_small n base b =
    let pos : 0 < base = omega (arith, b.least) in
    omega (arith, mod-lt n pos, b.most)

-- a numeral of one digit
pub numeral_one : {n base a : ℕ} → n < base → a ≡ digit (n % base) → a ∷ [] ≡ numeral base n
numeral_one {n} {base} h e = rw (e, mod-eq_of_lt h) (sym (digits_one base n n [] h))

-- a last digit after the numeral of the quotient
pub numeral_more : {n base a : ℕ} {s : Bytes} → IsBase base → base ≤ n → s ≡ numeral base (n / base) → a ≡ digit (n % base) → s ++ (a ∷ []) ≡ numeral base n
numeral_more {n} {base} b h e f =
    let two : 2 ≤ base = omega (arith, b.least) in
    rw (digits_more base two n [] h, digits_rest base two (n / base) (n / base) (digit (n % base) ∷ []), e, f)

-- a number of more than one digit is not below the base
many : (n base m : ℕ) → 0 < base → 0 < m → m ≤ n / base → base ≤ n
many n base m b p h =
    let one : 1 ≤ n / base = omega arith in
    let more : 1 * base ≤ n = (le-div_iff_mul-le b).0 one in
    rw (one-mul base) at more

-- a numeral of five digits
pub five_digits : (n : ℕ) {base : ℕ} → IsBase base → base ≤ n / base / base / base → n / base / base / base / base < base → last_digits 5 base n ≡ numeral base n
unfolding last_digits
five_digits n {base} b h k =
    let pos : 0 < base = omega (arith, b.least) in
    let t : base ≤ n / base / base = many (n / base / base) base base pos pos h in
    let s : base ≤ n / base = many (n / base) base base pos pos t in
    let r : base ≤ n = many n base base pos pos s in
    numeral_more b r (numeral_more b s (numeral_more b t (numeral_more b h (numeral_one k refl) refl) refl) refl) refl

-- what precedes the last k digits
pub numeral_split : (k : ℕ) {n base : ℕ} → IsBase base → base ^ k ≤ n → numeral base n ≡ numeral base (n / base ^ k) ++ last_digits k base n
unfolding last_digits
numeral_split zero {n} {base} b h = rw (pow-zero base, div-one n) (sym (append-nil (numeral base n)))
numeral_split (suc k) {n} {base} b h =
    let pos : 0 < base = omega (arith, b.least) in
    let q : base ^ k ≤ n / base = (le-div_iff_mul-le pos).1 (rw (pow-suc base k) at h) in
    let d = digit (n % base) ∷ [] in
    rw (pow-succ' base k, ← div-div-eq-div-mul n base (base ^ k))
    (sym (numeral_more b (many n base (base ^ k) pos (one-le-pow k base pos) q) refl refl) ∙ ap (λ (s : Bytes). s ++ d) (numeral_split k b q)
    ∙ append_assoc (numeral base (n / base / base ^ k)) (last_digits k base (n / base)) d)

-- the last k digits of a remainder by k digits
pub last_digits_mod : (k : ℕ) (n base : ℕ) → 0 < base → last_digits k base (n % base ^ k) ≡ last_digits k base n
unfolding last_digits
last_digits_mod zero n base h = refl
last_digits_mod (suc k) n base h =
    let r : n % base < base = mod-lt n h in
    let e : n % base ^ suc k ≡ (n / base % base ^ k) * base + n % base = rw (pow-suc base k) (mod-mul n (one-le-pow k base h) h) in
    rw (e, digits_div (n / base % base ^ k) r, digits_mod (n / base % base ^ k) r, last_digits_mod k (n / base) base h) refl

-- ten decimal digits are five, and five more
pub last_ten : (n : ℕ) → last_digits 10 10 n ≡ last_digits 5 10 (n / 100000) ++ last_digits 5 10 n
unfolding last_digits
last_ten n = simp div-div-eq-div-mul
