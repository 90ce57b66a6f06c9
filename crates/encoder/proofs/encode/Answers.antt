-- `encoder::encode` meets its contract: zeros past the script, or zeros alone.
-- Assumes nothing.
use mathlib.Core.Path.{◌∙◌}
use Rattle.encoder.proofs.EndLaws.{encodes, encodes_refused}
use Rattle.encoder.proofs.encode.Goals as goal

pub returns-in-Err : goal.returns-in-Err
returns-in-Err c = encodes_refused _ _ _ c.in-Err.ensures c.clear.ensures

pub returns-in-Ok : goal.returns-in-Ok
returns-in-Ok c = encodes _ _ _ _ c.written-answer.auto.script c.clear_words.ensures (c.written-answer.auto.work ∙ c.fill.auto.work) _ (c.written-answer.ensures.go _ c.in-Ok.ensures) (rw (← c.unwrap_or.ensures) c.clear-in-Ok.ensures)
