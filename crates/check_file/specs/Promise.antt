-- What check and fill promise: document 01's answer, and the working memory that they leave.
-- Assumes nothing.
use Rattle.std.specs.Prelude.{◌≡◌, ℕ, ◌/◌, List, length, replicate, Result}
use Rattle.script_spec.specs.Base.{Bytes, Answer, accepted, refused}
use Rattle.script_spec.specs.File.{TermFile, checked}
use Rattle.index.specs.Meaning.{Unnamed, CheckedIndex}
use Rattle.index.specs.declared.Sizes.{Sizes}
use Rattle.refusal.specs.Numbers.{answered}
use Rattle.refusal.specs.declared.Refused.{Refused}

-- ---- check

-- check's answer in the definitions' terms: acceptance alone, or the refusal's number, place and position
unfoldable pub checked_as : Result (Unit {0}) Refused → Answer (Unit {0})
checked_as r = answered (λ u. u) r

-- an answer without the records that it accepts
unfoldable pub without_records : Answer TermFile → Answer (Unit {0})
without_records (accepted f) = accepted tt
without_records (refused n p q) = refused n p q

-- check's promise on a file, the memory at entry and at exit, and its answer
pub record Checks (file : Bytes) (work work' : List ℕ) (r : Result (Unit {0}) Refused) : Type 0 where
  pub answer : checked_as r ≡ without_records (checked file (length work))
  pub cleared : work' ≡ replicate (length work) 0

-- ---- fill

-- the file is accepted, and the memory at exit is the index of its records, of which these are the sizes and none has a name
pub record Accepts (file : Bytes) (work work' : List ℕ) (sizes : Sizes) : Type 0 where
  pub records : TermFile
  pub accepts : checked file (length work) ≡ accepted records
  pub rows_are : sizes.rows ≡ length file / 6
  pub index : CheckedIndex file records work' sizes
  pub unnamed : Unnamed file records work' sizes.rows

-- the file is refused by this number at this place and position, and the memory at exit is all zero
pub record Refuses (file : Bytes) (work work' : List ℕ) (n p q : ℕ) : Type 0 where
  pub refuses : checked file (length work) ≡ refused n p q
  pub cleared : work' ≡ replicate (length work) 0

-- fill's answer in the definitions' terms: acceptance, with the sizes of the index, or the refusal's number, place and position
abbrev pub filled_as : Result Sizes Refused → Answer Sizes
filled_as r = answered (λ sizes. sizes) r

-- such an answer is document 01's, and the memory at exit is as it says
abbrev pub Answers : Bytes → List ℕ → List ℕ → Answer Sizes → Type 0
Answers file work work' (accepted sizes) = Accepts file work work' sizes
Answers file work work' (refused n p q) = Refuses file work work' n p q

-- fill's promise on a file, the memory at entry and at exit, and its answer
abbrev pub Fills : Bytes → List ℕ → List ℕ → Result Sizes Refused → Type 0
Fills file work work' r = Answers file work work' (filled_as r)
