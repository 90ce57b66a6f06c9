-- A script that is written on: the same buffer, whatever the text.
-- Assumes nothing.
use Rattle.std.specs.Prelude.{◌≡◌, length}
use Rattle.write_bytes.specs.declared.writer.Writer.{Writer}

-- a writer goes on with the same buffer, of the same size, and the same limit
pub record Continues (v w : Writer) : Type 0 where
  pub same : w.out.ghost_name ≡ v.out.ghost_name
  pub limit_is : w.limit ≡ v.limit
  pub size : length w.out.now ≡ length v.out.now
