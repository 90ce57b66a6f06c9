-- A test of the items that stand from a place of a body on.
-- Assumes nothing.
use Rattle.std.specs.Prelude.{◌≡◌, ℕ, Bool, List, drop}
use Rattle.script_spec.specs.Base.{Bytes}
use Rattle.script_spec.specs.Fields.{Reader, got, times, list}
use Rattle.index.specs.Held.{Becomes}
use Rattle.index.specs.declared.RecordsMut.{RecordsMut}

-- b is what the test says of the next `count` items, where there are so many
pub record DecidesItems {A : Type 0} (item : Reader A) (test : List A → Bool) (body : Bytes) (at count : ℕ) (b : Bool) : Type 0 where
  pub go : (xs : List A) (rest : Bytes) → times count item (drop at body) ≡ got xs rest → b ≡ test xs

-- something is so, and the memory is as it was
pub record LeavesMemory (v w : RecordsMut) (P : Type 0) : Type 0 where
  pub unchanged : Becomes v w v.work.now
  pub told : P

-- b is what the test says of the items of a list, where there is one
pub record DecidesList {A : Type 0} (item : Reader A) (test : List A → Bool) (body : Bytes) (at : ℕ) (b : Bool) : Type 0 where
  pub go : (xs : List A) (rest : Bytes) → list item (drop at body) ≡ got xs rest → b ≡ test xs
