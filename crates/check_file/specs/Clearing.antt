-- What clearing the working memory promises on the way out.
-- Assumes nothing.
use Rattle.std.specs.Prelude.{◌≡◌, ℕ, List, length, replicate}
use Rattle.refusal.specs.declared.Refusal.{Refusal}
use Rattle.refusal.specs.declared.Refused.{Refused}

-- a refusal and its place, of no position, with the memory all zero
pub record Refusing (work work' : List ℕ) (refusal : Refusal) (place : ℕ) (r : Refused) : Type 0 where
  pub refusal_is : r.refusal ≡ refusal
  pub place_is : r.place ≡ place
  pub position_is : r.position ≡ 0
  pub cleared : work' ≡ replicate (length work) 0
