-- What a call that writes a command alone into a buffer answers and leaves.
-- Assumes nothing.
use Rattle.std.specs.Prelude.{ℕ, length, Result}
use Rattle.refusal.specs.declared.Refusal.{Refusal}
use Rattle.script_spec.specs.Base.{Bytes}
use Rattle.script_spec.specs.Command.{Command, command_written}
use Rattle.write_bytes.specs.Writing.{answer, Leaves}

-- a buffer x becomes y and the call answers r, as document 01 has them for writing a command
pub record WritesAlone (c : Command) (x y : Bytes) (r : Result ℕ Refusal) : Type 0 where
  pub leaves : Leaves x y (answer r) (command_written c (length x))
