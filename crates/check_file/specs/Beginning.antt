-- What making ready for the first record promises.
-- Assumes nothing.
use Rattle.std.specs.Prelude.{◌≡◌, ℕ}
use Rattle.index.specs.Cells.{cell, hash}
use Rattle.index.specs.Held.{Stays}
use Rattle.index.specs.declared.RecordsMut.{RecordsMut}

-- w is v with a memory of the same length, whose slots are empty
pub record Begins (v w : RecordsMut) : Type 0 where
  pub stays : Stays v w
  pub empty : (i : ℕ) → cell w.work.now v.sizes.rows hash i ≡ 0
