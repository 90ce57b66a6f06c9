-- Numbers read byte by byte from the first 16 bytes of a list: what a loop has read, its start, its next step and its end.
-- Assumes nothing.
use mathlib.Core.Path.{◌≡◌, refl, sym, ap, ◌∙◌}
use mathlib.Core.List.{List, [], ◌∷◌, ◌++◌, append-nil, append_assoc}
use Prim.Native.Nat.{ℕ, ◌+◌, ◌*◌, ◌^◌, ◌≤◌, ◌<◌, min}
use native.Mathlib.Numerals.{add-one}
use native.Mathlib.Nat.{lt_of_lt_of_le}
use native.Mathlib.Omega.{arith}
use lib.ListN.{length, get_or, take, drop, length-take, length-append, drop_of_length-le}
use lib.Pow.{pow_pos, pow_mono, pow-add}
use lib.Seq.{drop-cons, get_or-take, get_or-append_seam}
use Rattle.std.specs.Int.{w128, from_le_bytes}
use Rattle.script_spec.specs.Fields.{low, high}

-- ---- sizes

-- k bytes and one more
bytes_lt : (v b k : ℕ) → b < 256 → v < 2 ^ (8 * k) → v * 256 + b < 2 ^ (8 * (k + 1))
bytes_lt v b k h g =
    let e : 8 * (k + 1) ≡ 8 * k + 8 = omega arith in
    let p : 2 ^ (8 * (k + 1)) ≡ 2 ^ (8 * k) * 256 = ap (λ (n : ℕ). 2 ^ n) e ∙ pow-add 2 (8 * k) 8 in
    omega arith

-- fewer than 16 bytes leave room for one more
pub byte_fits : (v b k : ℕ) → b < 256 → k < 16 → v < 2 ^ (8 * k) → v * 256 + b < 2 ^ 128
byte_fits v b k h g e =
    let q : 8 * k ≤ 120 = omega arith in
    let w : v < 2 ^ 120 = lt_of_lt_of_le e (pow_mono q) in
    omega arith

-- ---- low byte first

-- the bytes `left` are to be read, and v is the number of those of s after them
pub record Low (s left : List ℕ) (v : ℕ) : Type 0 where
  pub past : List ℕ
  pub whole : left ++ past ≡ s
  pub value : v ≡ low past
  pub small : v < 2 ^ (8 * length past)

pub low_start : {s left : List ℕ} → left ≡ s → Low s left 0
unfolding low
low_start {s} {left} e = record { past = []; whole = append-nil left ∙ e; value = refl; small = pow_pos 0 }

-- 16 bytes are the number as it stands in memory
pub low_whole : (s : List ℕ) {v : ℕ} → 16 ≤ length s → v ≡ from_le_bytes w128 (take 16 s) → v ≡ low (take 16 s)
unfolding low
low_whole ([]) h e = absurd (omega (arith, h))
low_whole (x0 ∷ []) h e = absurd (omega (arith, h))
low_whole (x0 ∷ x1 ∷ []) h e = absurd (omega (arith, h))
low_whole (x0 ∷ x1 ∷ x2 ∷ []) h e = absurd (omega (arith, h))
low_whole (x0 ∷ x1 ∷ x2 ∷ x3 ∷ []) h e = absurd (omega (arith, h))
low_whole (x0 ∷ x1 ∷ x2 ∷ x3 ∷ x4 ∷ []) h e = absurd (omega (arith, h))
low_whole (x0 ∷ x1 ∷ x2 ∷ x3 ∷ x4 ∷ x5 ∷ []) h e = absurd (omega (arith, h))
low_whole (x0 ∷ x1 ∷ x2 ∷ x3 ∷ x4 ∷ x5 ∷ x6 ∷ []) h e = absurd (omega (arith, h))
low_whole (x0 ∷ x1 ∷ x2 ∷ x3 ∷ x4 ∷ x5 ∷ x6 ∷ x7 ∷ []) h e = absurd (omega (arith, h))
low_whole (x0 ∷ x1 ∷ x2 ∷ x3 ∷ x4 ∷ x5 ∷ x6 ∷ x7 ∷ x8 ∷ []) h e = absurd (omega (arith, h))
low_whole (x0 ∷ x1 ∷ x2 ∷ x3 ∷ x4 ∷ x5 ∷ x6 ∷ x7 ∷ x8 ∷ x9 ∷ []) h e = absurd (omega (arith, h))
low_whole (x0 ∷ x1 ∷ x2 ∷ x3 ∷ x4 ∷ x5 ∷ x6 ∷ x7 ∷ x8 ∷ x9 ∷ x10 ∷ []) h e = absurd (omega (arith, h))
low_whole (x0 ∷ x1 ∷ x2 ∷ x3 ∷ x4 ∷ x5 ∷ x6 ∷ x7 ∷ x8 ∷ x9 ∷ x10 ∷ x11 ∷ []) h e = absurd (omega (arith, h))
low_whole (x0 ∷ x1 ∷ x2 ∷ x3 ∷ x4 ∷ x5 ∷ x6 ∷ x7 ∷ x8 ∷ x9 ∷ x10 ∷ x11 ∷ x12 ∷ []) h e = absurd (omega (arith, h))
low_whole (x0 ∷ x1 ∷ x2 ∷ x3 ∷ x4 ∷ x5 ∷ x6 ∷ x7 ∷ x8 ∷ x9 ∷ x10 ∷ x11 ∷ x12 ∷ x13 ∷ []) h e = absurd (omega (arith, h))
low_whole (x0 ∷ x1 ∷ x2 ∷ x3 ∷ x4 ∷ x5 ∷ x6 ∷ x7 ∷ x8 ∷ x9 ∷ x10 ∷ x11 ∷ x12 ∷ x13 ∷ x14 ∷ []) h e = absurd (omega (arith, h))
low_whole (x0 ∷ x1 ∷ x2 ∷ x3 ∷ x4 ∷ x5 ∷ x6 ∷ x7 ∷ x8 ∷ x9 ∷ x10 ∷ x11 ∷ x12 ∷ x13 ∷ x14 ∷ x15 ∷ s) h e = omega (arith, e)

-- one of the bytes is read
module _ (s : List ℕ) {left : List ℕ} (next : List ℕ) {v : ℕ} (b : ℕ) (bytes : (i : ℕ) → get_or s i 0 < 256) (l : Low (take 16 s) left v) (e : left ≡ next ++ (b ∷ [])) where
  parts : next ++ (b ∷ l.past) ≡ take 16 s
  parts = sym (append_assoc next (b ∷ []) l.past) ∙ (rw (← e) l.whole)

  size : length next + (length l.past + 1) ≡ min 16 (length s)
  size = ap (λ (n : ℕ). length next + n) (add-one (length l.past)) ∙ sym (length-append next (b ∷ l.past)) ∙ ap length parts ∙ length-take 16 s

  is_byte : b < 256
  is_byte =
      let k : length next < 16 = omega (arith, size) in
      let is : b ≡ get_or s (length next) 0 = sym (get_or-append_seam next b l.past 0) ∙ ap (λ (t : List ℕ). get_or t (length next) 0) parts ∙ get_or-take 16 s (length next) 0 k in
      rw is (bytes (length next))

  pub low_fits : v * 256 + b < 2 ^ 128
  low_fits = byte_fits v b (length l.past) is_byte (omega (arith, size)) l.small

  pub low_next : Low (take 16 s) next (v * 256 + b)
  unfolding low
  low_next = record {
    past = b ∷ l.past;
    whole = parts;
    value = omega (arith, l.value);
    small = rw (← add-one (length l.past)) (bytes_lt v b (length l.past) is_byte l.small);
  }

-- ---- high byte first

-- v is the number of the bytes of s before i
pub record High (s : List ℕ) (v i : ℕ) : Type 0 where
  pub value : high v (drop i s) ≡ high 0 s
  pub small : v < 2 ^ (8 * i)

pub high_next : (s : List ℕ) (v b i : ℕ) → High s v i → i < length s → b ≡ get_or s i 0 → b < 256 → High s (v * 256 + b) (i + 1)
unfolding high
high_next s v b i r h e l =
    record {
      value = rw (e, add-one) (rw (drop-cons s i 0 h) at r.value);
      small = bytes_lt v b i l r.small;
    }

pub high_end : (s : List ℕ) (v i : ℕ) → High s v i → length s ≤ i → v ≡ high 0 s
unfolding high
high_end s v i r h = rw (drop_of_length-le s {i = i} h) at r.value
