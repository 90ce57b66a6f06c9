-- Extension values, piece by piece.
-- Assumes nothing.
use mathlib.Core.Path.{◌≡◌, refl}
use mathlib.Core.List.{◌++◌, append_assoc}
use Prim.Native.Nat.{ℕ}
use borrow.Author.Tests.{ne_eqb}
use Rattle.script_spec.specs.Base.{bytes, joined}
use Rattle.script_spec.specs.Tree.{V4, V6, DecimalV, DatetimeV, DurationV}
use Rattle.script_spec.specs.Command.{headed, spaced}
use Rattle.script_spec.specs.Spelling.{bit_vec, bit_vec_sort, as_sort, prefix_by, prefix_length, ext_value}

pub prefix_none : (n : ℕ) → bytes "(as none (Option " ++ (bit_vec_sort n ++ bytes "))") ≡ prefix_length n 255
unfolding prefix_length prefix_by as_sort headed spaced joined bytes
prefix_none n = simp append_assoc

pub prefix_some : (n p : ℕ) → (p ≡ 255 → ⊥) → bytes "(some " ++ (bit_vec n p ++ bytes ")") ≡ prefix_length n p
unfolding prefix_length prefix_by headed spaced joined bytes
prefix_some n p h = rw (ne_eqb p 255 h)

pub v4_pieces : (a p : ℕ) → bytes "(V4 " ++ (bit_vec 32 a ++ (bytes " " ++ (prefix_length 5 p ++ bytes ")"))) ≡ ext_value (V4 a p)
unfolding ext_value headed spaced joined bytes
v4_pieces a p = simp append_assoc

pub v6_pieces : (a p : ℕ) → bytes "(V6 " ++ (bit_vec 128 a ++ (bytes " " ++ (prefix_length 7 p ++ bytes ")"))) ≡ ext_value (V6 a p)
unfolding ext_value headed spaced joined bytes
v6_pieces a p = simp append_assoc

pub decimal_pieces : (n : ℕ) → bytes "(Decimal " ++ (bit_vec 64 n ++ bytes ")") ≡ ext_value (DecimalV n)
unfolding ext_value headed spaced joined bytes
decimal_pieces n = refl

pub datetime_pieces : (n : ℕ) → bytes "(Datetime " ++ (bit_vec 64 n ++ bytes ")") ≡ ext_value (DatetimeV n)
unfolding ext_value headed spaced joined bytes
datetime_pieces n = refl

pub duration_pieces : (n : ℕ) → bytes "(Duration " ++ (bit_vec 64 n ++ bytes ")") ≡ ext_value (DurationV n)
unfolding ext_value headed spaced joined bytes
duration_pieces n = refl
