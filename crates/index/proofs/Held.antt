-- Laws of records before and after stores: all but the memory stays.
-- Assumes nothing.
use Prim.Native.Nat.{ℕ}
use mathlib.Core.Path.{◌≡◌, refl, ap, ◌∙◌}
use mathlib.Core.List.{List}
use lib.ListN.{length}
use Rattle.index.specs.Cells.{store}
use Rattle.index.specs.Held.{Becomes, Stays}
use Rattle.index.specs.declared.RecordsMut.{RecordsMut}
use Rattle.index.proofs.Cells.{length_store}

pub stays_same : (v : RecordsMut) → Stays v v
stays_same v = record { file_is = refl; sizes_are = refl; lent = refl; size = refl }

pub stays_then : {u v w : RecordsMut} → Stays u v → Stays v w → Stays u w
stays_then A B = record { file_is = B.file_is ∙ A.file_is; sizes_are = B.sizes_are ∙ A.sizes_are; lent = B.lent ∙ A.lent; size = B.size ∙ A.size }

-- with a memory of the same size
pub stays_becomes : {v w : RecordsMut} {work : List ℕ} → Becomes v w work → length work ≡ length v.work.now → Stays v w
stays_becomes B e = record { file_is = B.file_is; sizes_are = B.sizes_are; lent = B.lent; size = ap length B.memory ∙ e }

-- with one entry more that is stored
pub stays_store : {u v w : RecordsMut} (rows column i n : ℕ) → Stays u v → Becomes v w (store v.work.now rows column i n) → Stays u w
stays_store {v = v} rows column i n A B = stays_then A (stays_becomes B (length_store v.work.now rows column i n))
