-- What writing a text promises that depends on the records of a file and on the names that they have.
-- Assumes nothing.
use Rattle.std.specs.Prelude.{ℕ, ◌<◌, length}
use Rattle.script_spec.specs.Base.{Bytes}
use Rattle.script_spec.specs.File.{TermFile, types, funs, enums, terms}
use Rattle.script_spec.specs.Walk.{State}
use Rattle.write_bytes.specs.declared.writer.Writer.{Writer}
use Rattle.write_bytes.specs.Writers.{Writes}
use Rattle.index.specs.declared.Records.{Records}
use Rattle.walk_names.specs.Naming.{IndexOf, NumbersOf}
use Rattle.walk_names.specs.Script.{Continues}

-- A text over the records is written, whatever file was accepted of which so much is known, and whatever names were given. The writer
-- goes on with its buffer in any case.
pub record Spells (records : Records) (known : TermFile → Type 0) (text : TermFile → State → Bytes) (v w : Writer) : Type 0 where
  pub same : Continues v w
  pub go : (f : TermFile) (S : State) → IndexOf f records → NumbersOf f records S → known f → Writes v w (text f S)

-- the file has a type, a function, a term or an enum with this number
abbrev pub HasType : ℕ → TermFile → Type 0
HasType t f = t < length (types f)

abbrev pub HasFun : ℕ → TermFile → Type 0
HasFun g f = g < length (funs f)

abbrev pub HasTerm : ℕ → TermFile → Type 0
HasTerm n f = n < length (terms f)

abbrev pub HasEnum : ℕ → TermFile → Type 0
HasEnum e f = e < length (enums f)
