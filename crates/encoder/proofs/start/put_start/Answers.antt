-- `encoder::start::put_start` meets its contract: the literal is the line.
-- Assumes nothing.
use mathlib.Core.Path.{refl}
use Rattle.script_spec.specs.Base.{bytes, joined, collect}
use Rattle.script_spec.specs.Command.{line, script, spelled, headed, spaced, datatype_body, constructor_list}
use Rattle.script_spec.specs.Spelling.{option_declaration}
use Rattle.script_spec.specs.Walk.{start}
use Rattle.write_bytes.proofs.Laws.{says}
use Rattle.encoder.proofs.start.put_start.Goals as goal

pub returns : goal.returns
unfolding bytes joined collect line script spelled headed spaced datatype_body constructor_list option_declaration start
returns c = says refl c.put.ensures
