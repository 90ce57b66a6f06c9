-- `write_text::put_literal` meets its contract: a literal is quoted code points.
-- Assumes nothing.
use Rattle.write_bytes.proofs.Laws.{says}
use Rattle.write_text.proofs.Runs.{quoted_literal}
use Rattle.write_text.proofs.put_literal.Goals as goal

pub returns : goal.returns
returns c = says (quoted_literal _) c.put_quoted.ensures
