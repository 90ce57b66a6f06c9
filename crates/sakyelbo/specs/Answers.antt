-- Answers as numbers: 0 for acceptance, or a refusal's number; and where the refusal is.
-- Assumes nothing.
use Rattle.std.specs.Prelude.{◌≡◌, ℕ}
use Rattle.script_spec.specs.Base.{Answer, accepted, refused}
use Rattle.encoder.specs.Printing.{written}
use Rattle.sakyelbo.specs.declared.Where.{Where}

-- the number of an answer
unfoldable pub number_of : {A : Type 0} → Answer A → ℕ
number_of (accepted a) = 0
number_of (refused n p q) = n

-- where a refusal is
unfoldable pub where_of : {A : Type 0} → Answer A → Where
where_of (accepted a) = record { place = 0; position = 0 }
where_of (refused n p q) = record { place = p; position = q }

-- a call says an answer by a number r, and where its refusal is
pub record Says {A : Type 0} (a : Answer A) (at : Where) (r : ℕ) : Type 0 where
  pub number : r ≡ number_of a
  pub at_is : at ≡ where_of a

-- a call that writes says an answer by a number r and a size n
pub record SaysSize (a : Answer ℕ) (n r : ℕ) : Type 0 where
  pub number : r ≡ number_of a
  pub size : n ≡ written a
