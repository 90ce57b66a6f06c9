-- What a text starts with decides what `decode` makes of it: by the ranges of the first byte and of those that follow.
-- Assumes nothing.
use mathlib.Core.Path.{◌≡◌, refl, sym, ◌∙◌}
use mathlib.Core.Logic.{◌⊎◌, inl, inr}
use mathlib.Core.Bool.{Bool, true, false}
use mathlib.Core.List.{List, [], ◌∷◌}
use mathlib.Core.Option.{Option, none, some, map}
use Prim.Native.Nat.{ℕ, zero, suc, ◌+◌, ◌-◌, ◌*◌, ◌≤◌, ◌<◌}
use native.Mathlib.Omega.{arith}
use borrow.Author.Tests.{lt-ltb, le-ltb, le-leb, lt-leb, ne_eqb, ltb-true, ltb-false, eqb-true, eqb-false}
use lib.Dec.{eqb, ltb}
use lib.ListN.{drop}
use Rattle.script_spec.specs.Base.{Bytes, between}
use Rattle.script_spec.specs.Utf8.{decode}
use Rattle.read_utf8.specs.Decoding.{First, nothing, malformed, point, longer, follow, led, first_point, choose}

-- what `decode` makes of a text by what it starts with
unfoldable pub after : First → Bytes → Option (List ℕ)
after nothing s = some []
after malformed s = none
after (point v k) s = map (λ (cs : List ℕ). v ∷ cs) (decode zero 0 0 0 (drop k s))

after_longer : (f : First) (b : ℕ) (s : Bytes) → after (longer f) (b ∷ s) ≡ after f s
unfolding after longer
after_longer nothing b s = refl
after_longer malformed b s = refl
after_longer (point v k) b s = refl

-- ---- a byte that continues a code point

decode_byte : (m low high v b : ℕ) (s : Bytes) → ((n w : ℕ) → decode (suc n) 128 191 w s ≡ after (follow (suc n) 128 191 w s) s)
    → (t : Bool) → between low high b ≡ t → decode (suc m) low high v (b ∷ s) ≡ after (follow (suc m) low high v (b ∷ s)) (b ∷ s)
unfolding decode follow after longer
decode_byte m low high v b s ih false e = rw (e, decode, follow)
decode_byte zero low high v b s ih true e = rw (e, decode, follow)
decode_byte (suc m) low high v b s ih true e = rw (e, decode, follow) (ih m (v * 64 + (b - 128)) ∙ sym (after_longer (follow (suc m) 128 191 (v * 64 + (b - 128)) s) b s))

decode_follow : (m low high v : ℕ) (s : Bytes) → decode (suc m) low high v s ≡ after (follow (suc m) low high v s) s
unfolding decode follow after
decode_follow m low high v [] = refl
decode_follow m low high v (b ∷ s) = decode_byte m low high v b s (λ n w. decode_follow n 128 191 w s) (between low high b) refl

-- ---- a first byte

-- a number on one side of a range, and within it
pub between_below : (low high n : ℕ) → n < low → between low high n ≡ false
unfolding between
between_below low high n h = rw (lt-leb low n h)

pub between_above : (low high n : ℕ) → low ≤ n → high < n → between low high n ≡ false
unfolding between
between_above low high n h k = rw (le-leb low n h, lt-leb n high k)

pub between_in : (low high n : ℕ) → low ≤ n → n ≤ high → between low high n ≡ true
unfolding between
between_in low high n h k = rw (le-leb low n h, le-leb n high k)

pub between_either : (low high n : ℕ) → (n < low) ⊎ ((low ≤ n) × (high < n)) → between low high n ≡ false
between_either low high n (inl h) = between_below low high n h
between_either low high n (inr h) = between_above low high n h.0 h.1

-- what `decode` makes of a first byte, by its range
decode_ascii : (a : ℕ) (s : Bytes) → a < 128 → decode zero 0 0 0 (a ∷ s) ≡ after (point a 1) (a ∷ s)
unfolding decode after
decode_ascii a s h = rw (lt-ltb a 128 h, decode)

decode_two : (a : ℕ) (s : Bytes) → 194 ≤ a → a < 224 → decode zero 0 0 0 (a ∷ s) ≡ decode 1 128 191 (a - 192) s
unfolding decode
decode_two a s h k = rw (le-ltb a 128 (omega arith), between_in 194 223 a h (omega arith), decode)

-- the four first bytes after which the next byte has a range of its own
decode_edges : (s : Bytes)
    → (decode zero 0 0 0 (224 ∷ s) ≡ decode 2 160 191 0 s)
    × (decode zero 0 0 0 (237 ∷ s) ≡ decode 2 128 159 13 s)
    × (decode zero 0 0 0 (240 ∷ s) ≡ decode 3 144 191 0 s)
    × (decode zero 0 0 0 (244 ∷ s) ≡ decode 3 128 143 4 s)
unfolding decode between
decode_edges s = (refl, refl, refl, refl)

decode_three : (a : ℕ) (s : Bytes) → 224 ≤ a → a < 240 → (t u : Bool) → eqb a 224 ≡ t → eqb a 237 ≡ u
    → decode zero 0 0 0 (a ∷ s) ≡ decode 2 (choose (eqb a 224) 160 128) (choose (eqb a 237) 159 191) (a - 224) s
unfolding decode
decode_three a s h k true u e g = rw (eqb-true a 224 e) (decode_edges s).0
decode_three a s h k false true e g = rw (eqb-true a 237 g) (decode_edges s).1
decode_three a s h k false false e g =
    let n : a ≡ 224 → ⊥ = eqb-false a 224 e in
    rw (le-ltb a 128 (omega arith), between_above 194 223 a (omega arith) (omega arith), e, g, between_in 225 239 a (omega arith) (omega arith), decode)

decode_four : (a : ℕ) (s : Bytes) → 240 ≤ a → a < 245 → (t u : Bool) → eqb a 240 ≡ t → eqb a 244 ≡ u
    → decode zero 0 0 0 (a ∷ s) ≡ decode 3 (choose (eqb a 240) 144 128) (choose (eqb a 244) 143 191) (a - 240) s
unfolding decode
decode_four a s h k true u e g = rw (eqb-true a 240 e) (decode_edges s).2
decode_four a s h k false true e g = rw (eqb-true a 244 g) (decode_edges s).3
decode_four a s h k false false e g =
    let n : a ≡ 240 → ⊥ = eqb-false a 240 e in
    let m : a ≡ 244 → ⊥ = eqb-false a 244 g in
    rw (le-ltb a 128 (omega arith), between_above 194 223 a (omega arith) (omega arith), ne_eqb a 224 (λ q. omega arith), ne_eqb a 237 (λ q. omega arith), between_above 225 239 a (omega arith) (omega arith), e, between_in 241 243 a (omega arith) (omega arith), g, decode)

decode_low : (a : ℕ) (s : Bytes) → 128 ≤ a → a < 194 → decode zero 0 0 0 (a ∷ s) ≡ none
unfolding decode
decode_low a s h k =
    rw (le-ltb a 128 h, between_below 194 223 a k, ne_eqb a 224 (λ q. omega arith), ne_eqb a 237 (λ q. omega arith), between_below 225 239 a (omega arith), ne_eqb a 240 (λ q. omega arith), between_below 241 243 a (omega arith), ne_eqb a 244 (λ q. omega arith), decode)

decode_high : (a : ℕ) (s : Bytes) → 245 ≤ a → decode zero 0 0 0 (a ∷ s) ≡ none
unfolding decode
decode_high a s h =
    rw (le-ltb a 128 (omega arith), between_above 194 223 a (omega arith) (omega arith), ne_eqb a 224 (λ q. omega arith), ne_eqb a 237 (λ q. omega arith), between_above 225 239 a (omega arith) (omega arith), ne_eqb a 240 (λ q. omega arith), between_above 241 243 a (omega arith) (omega arith), ne_eqb a 244 (λ q. omega arith), decode)

-- what `led` makes of it, by the same ranges
module _ (a : ℕ) (s : Bytes) where
  decode_led : 128 ≤ a → (t u v w : Bool) → ltb a 194 ≡ t → ltb a 224 ≡ u → ltb a 240 ≡ v → ltb a 245 ≡ w → decode zero 0 0 0 (a ∷ s) ≡ after (led a s) s
  unfolding led after
  decode_led h true u v w e f g k = rw (e, led) (decode_low a s h (ltb-true a 194 e))
  decode_led h false true v w e f g k = rw (e, f, led) (decode_two a s (ltb-false a 194 e) (ltb-true a 224 f) ∙ decode_follow 0 128 191 (a - 192) s)
  decode_led h false false true w e f g k =
      rw (e, f, g, led) (decode_three a s (ltb-false a 224 f) (ltb-true a 240 g) (eqb a 224) (eqb a 237) refl refl ∙ decode_follow 1 _ _ (a - 224) s)
  decode_led h false false false true e f g k =
      rw (e, f, g, k, led) (decode_four a s (ltb-false a 240 g) (ltb-true a 245 k) (eqb a 240) (eqb a 244) refl refl ∙ decode_follow 2 _ _ (a - 240) s)
  decode_led h false false false false e f g k = rw (e, f, g, k, led) (decode_high a s (ltb-false a 245 k))

  decode_start : (t : Bool) → ltb a 128 ≡ t → decode zero 0 0 0 (a ∷ s) ≡ after (first_point (a ∷ s)) (a ∷ s)
  unfolding first_point
  decode_start true e = rw (e, first_point) (decode_ascii a s (ltb-true a 128 e))
  decode_start false e =
      rw (e, first_point) (decode_led (ltb-false a 128 e) (ltb a 194) (ltb a 224) (ltb a 240) (ltb a 245) refl refl refl refl ∙ sym (after_longer (led a s) a s))

pub decode_first : (s : Bytes) → decode zero 0 0 0 s ≡ after (first_point s) s
unfolding decode first_point after
decode_first [] = refl
decode_first (a ∷ s) = decode_start a s (ltb a 128) refl
