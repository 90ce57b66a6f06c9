-- What the walk over the inputs and the writing of their assertions promise.
-- Assumes nothing.
use Rattle.script_spec.specs.File.{TermFile, members, inputs}
use Rattle.script_spec.specs.Command.{script}
use Rattle.script_spec.specs.Walk.{State, Walk, names, encode_inputs, assertions}
use Rattle.write_bytes.specs.Writers.{Writes}
use Rattle.write_bytes.specs.declared.writer.Writer.{Writer}
use Rattle.index.specs.declared.Records.{Records}
use Rattle.walk_names.specs.Naming.{IndexOf, NumbersOf}
use Rattle.walk_names.specs.Script.{Continues}

-- a step that is ready for whatever came before
unfoldable pub any_ready : TermFile → State → Type 0
any_ready f S = Unit {0}

-- all inputs are encoded
unfoldable pub inputs_walk : TermFile → Walk
inputs_walk f = encode_inputs (members f) (inputs f)

-- the assertions of all inputs are written, whatever file was accepted and whatever names were given
pub record SpellsAssertions (r : Records) (v w : Writer) : Type 0 where
  pub same : Continues v w
  pub go : (f : TermFile) (S : State) → IndexOf f r → NumbersOf f r S → Writes v w (script (assertions (members f) (names S) (inputs f)))
