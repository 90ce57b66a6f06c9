-- References of a list that repeat, by the numbers of first equal terms, and the notes that are made to find them.
-- Assumes nothing.
use Rattle.std.specs.Prelude.{◌≡◌, ℕ, zero, suc, ◌+◌, ◌*◌, ◌≤◌, ◌<◌, Bool, true, false, List, Option, None, Some, length, get_or}
use Rattle.script_spec.specs.Base.{Bytes}
use Rattle.index.specs.Cells.{cell, store, term_first, note}
use Rattle.index.specs.Lists.{number_at}
use Rattle.index.specs.Held.{Becomes}
use Rattle.index.specs.declared.RecordsMut.{RecordsMut}

-- the reference with number i of those from a place of the body on, 0 where there is none
unfoldable pub ref_at : Bytes → ℕ → ℕ → ℕ
ref_at body from i = number_at body (from + 4 * i)

-- these are the references from a place of the body on
pub record References (body : Bytes) (from : ℕ) (xs : List ℕ) (count : ℕ) : Type 0 where
  pub size : length xs ≡ count
  pub are : (i : ℕ) → i < count → get_or xs i 0 ≡ ref_at body from i

-- the first equal number of the reference with number i
unfoldable pub first_at : Bytes → List ℕ → ℕ → ℕ → ℕ → ℕ
first_at body work rows from i = cell work rows term_first (ref_at body from i)

-- ---- notes

-- the memory with the first n of some numbers noted
unfoldable pub noted : List ℕ → ℕ → (ℕ → ℕ) → ℕ → List ℕ
noted work rows φ zero = work
noted work rows φ (suc i) = store (noted work rows φ i) rows note (φ i) (suc i)

-- the first n of some numbers are noted, each at an entry that was empty
pub record Noted (work work' : List ℕ) (rows : ℕ) (φ : ℕ → ℕ) (n : ℕ) : Type 0 where
  pub is : work' ≡ noted work rows φ n
  pub fits : 0 < n → 12 * rows ≤ length work
  pub below : (i : ℕ) → i < n → φ i < rows
  pub free : (i : ℕ) → i < n → cell (noted work rows φ i) rows note (φ i) ≡ 0

-- why a number is not noted: the memory has no columns, the number has no row, or it has a note
pub data Stops (work : List ℕ) (rows m : ℕ) : Type 0 where
  narrow : length work < 12 * rows → Stops work rows m
  past : rows ≤ m → Stops work rows m
  there : (cell work rows note m ≡ 0 → ⊥) → Stops work rows m

-- the first equal numbers of the first n of so many references are noted, and where these are not all, the next one cannot be
pub record Notes (body : Bytes) (v w : RecordsMut) (from count n : ℕ) : Type 0 where
  pub most : n ≤ count
  pub becomes : Becomes v w w.work.now
  pub notes : Noted v.work.now w.work.now v.sizes.rows (first_at body v.work.now v.sizes.rows from) n
  pub stops : n < count → Stops w.work.now v.sizes.rows (first_at body v.work.now v.sizes.rows from n)

-- the notes of the first n references are cleared
pub record Clears (body : Bytes) (v w : RecordsMut) (from n : ℕ) : Type 0 where
  pub becomes : Becomes v w w.work.now
  pub go : (work₀ : List ℕ) → Noted work₀ v.work.now v.sizes.rows (first_at body work₀ v.sizes.rows from) n → w.work.now ≡ work₀

-- the first equal numbers of so many references all have a note
pub record AllNoted (body : Bytes) (work : List ℕ) (rows from count : ℕ) : Type 0 where
  pub go : (i : ℕ) → i < count → cell work rows note (first_at body work rows from i) ≡ 0 → ⊥

-- ---- answers

-- of two numbers below a count the first is lower, and they are of equal references
pub record Repeated (φ : ℕ → ℕ) (count : ℕ) : Type 0 where
  pub first : ℕ
  pub second : ℕ
  pub ordered : first < second
  pub below : second < count
  pub equal : φ first ≡ φ second

-- no two references are equal
pub record Different (φ : ℕ → ℕ) (count : ℕ) : Type 0 where
  pub go : Repeated φ count → ⊥

-- where r is true, one of the first n references is equal to the reference n
pub record SameEarlier (body : Bytes) (work : List ℕ) (rows from n : ℕ) (r : Bool) : Type 0 where
  pub go : r ≡ true → Repeated (first_at body work rows from) (suc n)

-- what the answer says of some numbers
abbrev pub RepeatsTold : (ℕ → ℕ) → ℕ → Option Bool → Type 0
RepeatsTold φ count (Some false) = Different φ count
RepeatsTold φ count (Some true) = Repeated φ count
RepeatsTold φ count None = Unit {0}

-- the answer, and the memory is as it was
pub record Tells (body : Bytes) (v w : RecordsMut) (from count : ℕ) (r : Option Bool) : Type 0 where
  pub unchanged : Becomes v w v.work.now
  pub answer : RepeatsTold (first_at body v.work.now v.sizes.rows from) count r
