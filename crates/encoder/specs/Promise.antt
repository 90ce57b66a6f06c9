-- What encode promises: document 01's answer, the script and the working memory that it leaves, and demand 3.
-- Assumes nothing.
use Rattle.std.specs.Prelude.{◌≡◌, ℕ, List, length, take, replicate, Result, Ok}
use Rattle.script_spec.specs.Base.{Bytes, Answer, accepted}
use Rattle.script_spec.specs.File.{TermFile, checked}
use Rattle.script_spec.specs.Command.{left}
use Rattle.script_spec.specs.Walk.{encoded}
use Rattle.script_spec.specs.Faithful.{Faithful}
use Rattle.refusal.specs.Numbers.{answered}
use Rattle.refusal.specs.declared.Refused.{Refused}
use Rattle.write_bytes.specs.Writing.{length_of}

-- document 01's answer for each case
abbrev pub encoded_as : Result ℕ Refused → Answer ℕ
encoded_as r = answered (λ n. n) r

-- encode's promise on a file, the working memory and the script's buffer at entry and at exit, and its answer
pub record Encodes (file : Bytes) (work : List ℕ) (script : Bytes) (work' : List ℕ) (script' : Bytes) (r : Result ℕ Refused) : Type 0 where
  -- the script's length, or the refusal
  pub answer : encoded_as r ≡ length_of (encoded file (length work) (length script))
  -- the script and zeros past it, or zeros alone
  pub script_is : script' ≡ left (encoded file (length work) (length script)) (length script)
  -- the working memory is all zero
  pub cleared : work' ≡ replicate (length work) 0
  -- demand 3: where the answer is a script, its bytes are faithful to the file
  pub faithful : (f : TermFile) (n : ℕ) → checked file (length work) ≡ accepted f → r ≡ Ok n → Faithful f (take n script')
