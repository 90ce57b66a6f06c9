-- Document 01's examples of bit vectors, computed by the definitions.
-- Assumes nothing.
use mathlib.Core.Path.{◌≡◌, refl}
use mathlib.Core.List.{List, [], ◌∷◌}
use Prim.Native.Nat.{ℕ}
use lib.IntN.{negsuc}
use Rattle.script_spec.specs.Base.{Answer, accepted, refused, bytes}
use Rattle.script_spec.specs.Fields.{high}
use Rattle.script_spec.specs.Spelling.{bit_vec}
use Rattle.script_spec.proofs.Computes
use Rattle.write_bitvec.specs.Value.{twos_complement}
use Rattle.write_bitvec.specs.Vector.{vector_if, new_vector, of_int, int_min}

-- Decimal −1, the number of `Bvnego` over 8 bits, and a width and a value outside their ranges
answers : ◌≡◌ {A = List (Answer (ℕ × ℕ))}
    (of_int 64 (negsuc 0) ∷ int_min 8 ∷ new_vector 129 0 ∷ new_vector 8 256 ∷ new_vector 8 255 ∷ [])
    (accepted (64, 18446744073709551615) ∷ accepted (8, 128) ∷ refused 7 0 0 ∷ refused 7 0 0 ∷ accepted (8, 255) ∷ [])
unfolding Computes.base twos_complement vector_if new_vector of_int int_min
answers = refl

-- 192.168.1.1
address : bit_vec 32 (high 0 (192 ∷ 168 ∷ 1 ∷ 1 ∷ [])) ≡ bytes "(_ bv3232235777 32)"
unfolding Computes.base Computes.fields Computes.text Computes.command Computes.spelling
address = refl
