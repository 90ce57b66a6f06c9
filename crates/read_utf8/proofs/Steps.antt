-- One law for each way through the code that finds a code point.
-- Assumes nothing.
use mathlib.Core.Path.{◌≡◌, refl, sym, ap, ◌∙◌}
use mathlib.Core.Bool.{true, false}
use mathlib.Core.List.{◌∷◌}
use Prim.Native.Nat.{ℕ, zero, suc, ◌+◌, ◌-◌, ◌*◌, ◌^◌, ◌≤◌, ◌<◌}
use native.Mathlib.Nat.{mul-le-mul_right, mul-le-mul_left, one-le-pow, mul_assoc, pow-succ', le_refl, le_trans}
use native.Mathlib.Numerals.{add-one, sub-one}
use native.Mathlib.Omega.{arith}
use borrow.Author.Tests.{lt-ltb, le-ltb, eq-eqb, ne_eqb}
use lib.Dec.{eqb}
use lib.ListN.{length, drop, get_or, drop_of_length-le}
use lib.Seq.{drop-cons}
use Rattle.script_spec.specs.Base.{Bytes, between}
use Rattle.std.specs.Prelude.{Option, None, Some, Result, Ok, Err}
use Rattle.read_utf8.specs.declared.CodePoints.{CodePoints}
use Rattle.read_utf8.specs.declared.Malformed.{Malformed}
use Rattle.read_utf8.specs.Decoding.{First, malformed, point, longer, follow, led, first_point, choose, next_said, Decodes, Small}

-- what is left of a text
abbrev left : CodePoints → Bytes
left c = drop c.at c.text.now

-- bytes that are not UTF-8, where nothing moves
decodes_malformed : {f : First} {c : CodePoints} {m : Malformed} → f ≡ malformed → Decodes f c c (Some (Err m))
unfolding next_said
decodes_malformed {c = c} e = record { is = sym e; onward = le_refl c.at; text = refl }

-- a code point of k bytes
decodes_point : {f : First} {c d : CodePoints} {v : ℕ} (k : ℕ) → f ≡ point v k → d.at ≡ c.at + k → d.text ≡ c.text → Decodes f c d (Some (Ok v))
unfolding next_said
decodes_point {f} {c} {d} {v} k e h t =
    let n : d.at - c.at ≡ k = omega arith in
    record { is = ap (λ (m : ℕ). point v m) n ∙ sym e; onward = omega arith; text = t }

-- one byte more is one place further
decodes_longer : {f : First} {b c d : CodePoints} (r : Result ℕ Malformed) → c.at ≡ b.at + 1 → c.text ≡ b.text → Decodes f c d (Some r) → Decodes (longer f) b d (Some r)
unfolding next_said longer
decodes_longer {b = b} {c} {d} (Err m) e t F =
    let h : c.at ≤ d.at = F.onward in
    record { is = ap longer F.is; onward = omega arith; text = F.text ∙ t }
decodes_longer {b = b} {c} {d} (Ok v) e t F =
    let h : c.at ≤ d.at = F.onward in
    let n : d.at - b.at ≡ suc (d.at - c.at) = omega arith in
    record { is = ap (λ (m : ℕ). point v m) n ∙ ap longer F.is; onward = omega arith; text = F.text ∙ t }

-- ---- a byte that continues a code point

pub follow_done : (more low high v : ℕ) (c : CodePoints) → more ≡ 0 → Decodes (follow more low high v (left c)) c c (Some (Ok v))
unfolding follow
follow_done zero low high v c h = decodes_point 0 refl (omega arith) refl
follow_done (suc m) low high v c h = absurd (omega arith)

pub follow_short : (more low high v : ℕ) (c : CodePoints) {m : Malformed} → (more ≡ 0 → ⊥) → length c.text.now ≤ c.at → Decodes (follow more low high v (left c)) c c (Some (Err m))
unfolding follow
follow_short zero low high v c h k = absurd (h refl)
follow_short (suc n) low high v c h k = decodes_malformed (rw (drop_of_length-le c.text.now k))

pub follow_outside : (more low high v b : ℕ) (c : CodePoints) {m : Malformed} → (more ≡ 0 → ⊥) → c.at < length c.text.now → b ≡ get_or c.text.now c.at 0 → between low high b ≡ false
    → Decodes (follow more low high v (left c)) c c (Some (Err m))
unfolding follow
follow_outside zero low high v b c h k e q = absurd (h refl)
follow_outside (suc n) low high v b c h k e q = decodes_malformed (rw (drop-cons c.text.now c.at 0 k, ← e, q, follow))

pub follow_more : (more low high v b : ℕ) {c n d : CodePoints} (r : Result ℕ Malformed) → (more ≡ 0 → ⊥) → c.at < length c.text.now → b ≡ get_or c.text.now c.at 0 → between low high b ≡ true
    → n.at ≡ c.at + 1 → n.text ≡ c.text → Decodes (follow (more - 1) 128 191 (v * 64 + (b - 128)) (left n)) n d (Some r) → Decodes (follow more low high v (left c)) c d (Some r)
unfolding follow
follow_more zero low high v b r h k e q i t F = absurd (h refl)
follow_more (suc m) low high v b {c} {n} r h k e q i t F =
    let x : left c ≡ b ∷ left n = rw (t, i) (rw (drop-cons c.text.now c.at 0 k, add-one, e)) in
    rw (x, q, follow) (decodes_longer r i t (rw sub-one at F))

-- ---- the bits of a code point

-- a factor of a power
power_first : (m w : ℕ) → w * 64 ^ suc m ≡ w * 64 * 64 ^ m
power_first m w = rw (pow-succ', mul_assoc)

pub small_shift : (more low high v : ℕ) → (more ≡ 0 → ⊥) → Small more low high v → (v + 1) * 64 ≤ 2097152
small_shift zero low high v h s = absurd (h refl)
small_shift (suc m) low high v h s =
    let g : (v + 1) * 64 * 1 ≤ (v + 1) * 64 * 64 ^ m = mul-le-mul_left ((v + 1) * 64) (one-le-pow m 64 (omega arith)) in
    le_trans (omega arith) (le_trans g (rw (power_first m (v + 1)) at s.bits))

pub small_next : (more low high v b : ℕ) → (more ≡ 0 → ⊥) → Small more low high v → low ≤ b → b ≤ high → Small (more - 1) 128 191 (v * 64 + (b - 128))
small_next zero low high v b h s i j = absurd (h refl)
small_next (suc m) low high v b h s i j =
    let g : v * 64 + (b - 128) + 1 ≤ (v + 1) * 64 = omega (arith, s.from, s.to) in
    record {
      bits = rw sub-one (le_trans (mul-le-mul_right (64 ^ m) g) (rw (power_first m (v + 1)) at s.bits));
      from = omega arith;
      to = omega arith;
    }

-- a number chosen by an `if`
pub chosen_then : {a b z : ℕ} (x y : ℕ) → a ≡ b → z ≡ x → z ≡ choose (eqb a b) x y
chosen_then {a} {b} x y h e = rw (eq-eqb a b h) e

pub chosen_else : {a b z : ℕ} (x y : ℕ) → (a ≡ b → ⊥) → z ≡ y → z ≡ choose (eqb a b) x y
chosen_else {a} {b} x y h e = rw (ne_eqb a b h) e

-- ---- a first byte of 128 or more, by its range

module _ (a : ℕ) (s : Bytes) {c : CodePoints} where
  pub led_low : {m : Malformed} → a < 194 → Decodes (led a s) c c (Some (Err m))
  unfolding led
  led_low h = decodes_malformed (rw (lt-ltb a 194 h, led))

  module _ {d : CodePoints} {r : Option (Result ℕ Malformed)} where
    pub led_two : 194 ≤ a → a < 224 → Decodes (follow 1 128 191 (a - 192) s) c d r → Decodes (led a s) c d r
    unfolding led
    led_two h k e = rw (le-ltb a 194 h, lt-ltb a 224 k, led) e

    pub led_three : (low high : ℕ) → 224 ≤ a → a < 240 → low ≡ choose (eqb a 224) 160 128 → high ≡ choose (eqb a 237) 159 191
        → Decodes (follow 2 low high (a - 224) s) c d r → Decodes (led a s) c d r
    unfolding led
    led_three low high h k i j e = rw (le-ltb a 194 (omega arith), le-ltb a 224 h, lt-ltb a 240 k, led) (rw (i, j) at e)

    pub led_four : (low high : ℕ) → 240 ≤ a → a < 245 → low ≡ choose (eqb a 240) 144 128 → high ≡ choose (eqb a 244) 143 191
        → Decodes (follow 3 low high (a - 240) s) c d r → Decodes (led a s) c d r
    unfolding led
    led_four low high h k i j e = rw (le-ltb a 194 (omega arith), le-ltb a 224 (omega arith), le-ltb a 240 h, lt-ltb a 245 k, led) (rw (i, j) at e)

  pub led_high : {m : Malformed} → 245 ≤ a → Decodes (led a s) c c (Some (Err m))
  unfolding led
  led_high h = decodes_malformed (rw (le-ltb a 194 (omega arith), le-ltb a 224 (omega arith), le-ltb a 240 (omega arith), le-ltb a 245 h, led))

-- ---- what stands at a place

pub first_end : (c : CodePoints) → length c.text.now ≤ c.at → Decodes (first_point (left c)) c c None
unfolding first_point next_said
first_end c h = record { is = rw (drop_of_length-le c.text.now h); onward = refl; text = refl }

pub first_ascii : (a : ℕ) {c d : CodePoints} → c.at < length c.text.now → a ≡ get_or c.text.now c.at 0 → a < 128 → d.at ≡ c.at + 1 → d.text ≡ c.text → Decodes (first_point (left c)) c d (Some (Ok a))
unfolding first_point
first_ascii a {c} h e k i t =
    let x : left c ≡ a ∷ drop (suc c.at) c.text.now = rw (drop-cons c.text.now c.at 0 h, e) in
    decodes_point 1 (rw (x, lt-ltb a 128 k, first_point)) i t

pub first_led : (a : ℕ) {c n d : CodePoints} (r : Result ℕ Malformed) → c.at < length c.text.now → a ≡ get_or c.text.now c.at 0 → 128 ≤ a → n.at ≡ c.at + 1 → n.text ≡ c.text
    → Decodes (led a (left n)) n d (Some r) → Decodes (first_point (left c)) c d (Some r)
unfolding first_point
first_led a {c} {n} r h e k i t F =
    let x : left c ≡ a ∷ left n = rw (t, i) (rw (drop-cons c.text.now c.at 0 h, add-one, e)) in
    rw (x, le-ltb a 128 k, first_point) (decodes_longer r i t F)
