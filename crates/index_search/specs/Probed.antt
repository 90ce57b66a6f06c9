-- What a search through the slots tells, by a test that says of the number of a record whether this is looked for.
-- Assumes nothing.
use Rattle.std.specs.Prelude.{◌≡◌, ℕ, ◌<◌, Bool, true, false, List, Result, Ok, Err, Option, Some, None}
use Rattle.index.specs.Cells.{cell, store, hash}
use Rattle.index.specs.Names.{slot, code_of}
use Rattle.index.specs.Held.{Stays}
use Rattle.index.specs.declared.Records.{Records}
use Rattle.index.specs.declared.RecordsMut.{RecordsMut}
use Rattle.index_search.specs.Storing.{FirstEmpty}

-- v is how the records m are read
pub record Viewed (m : RecordsMut) (v : Records) : Type 0 where
  pub file_is : v.file.now ≡ m.file.now
  pub work_is : v.work.now ≡ m.work.now
  pub sizes_are : v.sizes ≡ m.sizes

module _ (rows : ℕ) (column : ℕ → ℕ) (kind count : ℕ) (test : ℕ → Bool → Type 0) (b : ℕ) where
  -- the test is false of every record of the kind that is in the first d slots from b on
  pub record Other (d : ℕ) : Type 0 where
    pub other : (j n : ℕ) → j < d → n < count → column (slot rows b j) ≡ code_of n kind → test n false

  -- a record of which the test is true
  pub record Met (n : ℕ) : Type 0 where
    pub below : n < count
    pub is : test n true

  -- none is met, and the first empty slot is d steps on
  pub record Unmet (d : ℕ) : Type 0 where
    pub empty : FirstEmpty rows column b d
    pub passed : Other d

  -- what an answer tells
  abbrev pub ProbeTold : Result ℕ ℕ → Type 0
  ProbeTold (Ok n) = Met n
  ProbeTold (Err d) = Unmet d

-- what the search tells from the slot b on
pub record Probes (work : List ℕ) (rows kind count : ℕ) (test : ℕ → Bool → Type 0) (b : ℕ) (r : Result ℕ ℕ) : Type 0 where
  pub told : ProbeTold rows (cell work rows hash) kind count test b r

-- the slot d steps after slot b has the record of a kind with number `count`
pub record SlotTaken (v w : RecordsMut) (kind count b d : ℕ) : Type 0 where
  pub stays : Stays v w
  pub is : count < 1048576 → w.work.now ≡ store v.work.now v.sizes.rows hash (slot v.sizes.rows b d) (code_of count kind)

-- what it tells that takes a slot: the record that is met, and the memory is as it was; or none, and the first empty slot has the next number
abbrev pub TakesSlotTold : List ℕ → List ℕ → ℕ → ℕ → ℕ → (ℕ → Bool → Type 0) → ℕ → Option ℕ → Type 0
TakesSlotTold work work' rows kind count test b (Some n) = Met rows (cell work rows hash) kind count test b n × (work' ≡ work)
TakesSlotTold work work' rows kind count test b None = (d : ℕ) × Unmet rows (cell work rows hash) kind count test b d × (count < 1048576 → work' ≡ store work rows hash (slot rows b d) (code_of count kind))

-- the same of the records v before and w after the search
pub record TakesSlot (v w : RecordsMut) (kind count : ℕ) (test : ℕ → Bool → Type 0) (b : ℕ) (r : Option ℕ) : Type 0 where
  pub stays : Stays v w
  pub told : TakesSlotTold v.work.now w.work.now v.sizes.rows kind count test b r
