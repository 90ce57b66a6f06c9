-- The records of a file in working memory before and after a step: the memory is another, and all else stays.
-- Assumes nothing.
use Rattle.std.specs.Prelude.{ℕ, List, ◌≡◌, length}
use Rattle.index.specs.declared.RecordsMut.{RecordsMut}

-- w is v with this memory, in the same place
pub record Becomes (v w : RecordsMut) (work : List ℕ) : Type 0 where
  pub file_is : w.file ≡ v.file
  pub sizes_are : w.sizes ≡ v.sizes
  pub lent : w.work.ghost_name ≡ v.work.ghost_name
  pub memory : w.work.now ≡ work

-- w is v with some memory of the same length, in the same place
pub record Stays (v w : RecordsMut) : Type 0 where
  pub file_is : w.file ≡ v.file
  pub sizes_are : w.sizes ≡ v.sizes
  pub lent : w.work.ghost_name ≡ v.work.ghost_name
  pub size : length w.work.now ≡ length v.work.now
