-- What the constructors of bit vectors answer, with document 01's number for a refusal.
-- Assumes nothing.
use Rattle.std.specs.Prelude.{ℕ, ◌-◌, ◌^◌, Bool, true, false, ◌&&◌, ltb, ℤ, Result, Ok, Err}
use Rattle.script_spec.specs.Base.{Answer, accepted, refused, between}
use Rattle.refusal.specs.declared.Refusal.{Refusal}
use Rattle.refusal.specs.Numbers.{number}
use Rattle.write_bitvec.specs.Value.{twos_complement}
use Rattle.write_bitvec.specs.declared.BitVec.{BitVec}

-- what a constructor's answer says: a width and a value, or a refusal's number
unfoldable pub said : Result BitVec Refusal → Answer (ℕ × ℕ)
said (Ok b) = accepted (b.width, b.value)
said (Err r) = refused (number r) 0 0

-- n bits with value v if a test passes, else refusal 7
unfoldable pub vector_if : Bool → ℕ → ℕ → Answer (ℕ × ℕ)
vector_if true n v = accepted (n, v)
vector_if false n v = refused 7 0 0

-- the width of a bit vector
abbrev pub is_width : ℕ → Bool
is_width n = between 1 128 n

-- a value below 2 ^ n
unfoldable pub new_vector : ℕ → ℕ → Answer (ℕ × ℕ)
new_vector n v = vector_if (is_width n && ltb v (2 ^ n)) n v

-- a signed number, by two's complement
unfoldable pub of_int : ℕ → ℤ → Answer (ℕ × ℕ)
of_int n z = vector_if (is_width n) n (twos_complement n z)

-- the least signed number of n bits
unfoldable pub int_min : ℕ → Answer (ℕ × ℕ)
int_min n = vector_if (is_width n) n (2 ^ (n - 1))
