-- What the exported functions promise: document 01's answers as numbers, and the memory that was lent.
-- Assumes nothing.
use Rattle.std.specs.Prelude.{◌≡◌, ℕ, ◌<◌, List, length, take, replicate}
use Rattle.script_spec.specs.Base.{Bytes, accepted}
use Rattle.script_spec.specs.File.{TermFile, checked}
use Rattle.script_spec.specs.Command.{Command, command_written, left}
use Rattle.script_spec.specs.Walk.{encoded}
use Rattle.script_spec.specs.Faithful.{Faithful}
use Rattle.write_bytes.specs.Writing.{length_of}
use Rattle.sakyelbo.specs.Answers.{where_of, Says, SaysSize}
use Rattle.sakyelbo.specs.declared.Where.{Where}

-- check's promise on a file, the memory at entry and at exit, where the refusal is, and the answer r
pub record ChecksFile (file : Bytes) (work work' : List ℕ) (at : Where) (r : ℕ) : Type 0 where
  -- the refusal's number, place and position
  pub says : Says (checked file (length work)) at r
  -- 0 is acceptance
  pub accepts : r ≡ 0 → (f : TermFile) × (checked file (length work) ≡ accepted f)
  pub cleared : work' ≡ replicate (length work) 0

-- encode's promise on a file, the memory and the script's buffer at entry and at exit, with a size n, where the refusal is, and the answer r
pub record EncodesFile (file : Bytes) (work : List ℕ) (script : Bytes) (work' : List ℕ) (script' : Bytes) (n : ℕ) (at : Where) (r : ℕ) : Type 0 where
  -- the script's length and 0, or 0 and the refusal's number
  pub says : SaysSize (length_of (encoded file (length work) (length script))) n r
  -- the refusal's place and position
  pub at_is : at ≡ where_of (encoded file (length work) (length script))
  -- 0 is acceptance: the script is the first n bytes
  pub accepts : r ≡ 0 → encoded file (length work) (length script) ≡ accepted (take n script')
  -- the script and zeros past it, or zeros alone
  pub script_is : script' ≡ left (encoded file (length work) (length script)) (length script)
  -- the working memory is all zero
  pub cleared : work' ≡ replicate (length work) 0
  -- demand 3: where there is a script, its bytes are faithful to the file
  pub faithful : (f : TermFile) → checked file (length work) ≡ accepted f → 0 < n → Faithful f (take n script')

-- a command is written into a buffer x, which becomes y, with a size n and the answer r
pub record WritesCommand (c : Command) (x y : Bytes) (n r : ℕ) : Type 0 where
  pub says : SaysSize (length_of (command_written c (length x))) n r
  -- its refusals have no place and no position
  pub nowhere : where_of (command_written c (length x)) ≡ record { place = 0; position = 0 }
  -- 0 is acceptance: the line is the first n bytes
  pub accepts : r ≡ 0 → command_written c (length x) ≡ accepted (take n y)
  pub holds : y ≡ left (command_written c (length x)) (length x)
