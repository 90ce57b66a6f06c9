-- `write_types::lines::declare_plain_type` meets its contract: a line, and a line after it.
-- Assumes nothing.
use Rattle.write_types.proofs.LineLaws.{plain_lines}
use Rattle.write_bytes.proofs.Rest.{lent}
use Rattle.write_types.proofs.lines.declare_plain_type.Goals as goal

pub returns : goal.returns
returns c = plain_lines _ _ c.comment.ensures (lent (λ x y p. p) c.lend.ensures)
