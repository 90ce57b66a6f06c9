-- `encoder::print::put_position` meets its contract: a word and a number, or nothing.
-- Assumes nothing.
use mathlib.Core.Path.{sym, ◌∙◌}
use Rattle.script_spec.specs.Base.{bytes}
use Rattle.script_spec.specs.Walk.{position_words}
use Rattle.write_bytes.proofs.Laws.{◌then◌, nothing}
use Rattle.encoder.proofs.print.put_position.Goals as goal

pub returns-then-has_position : goal.returns-then-has_position
unfolding bytes position_words
returns-then-has_position c = rw (sym c.has_position.ensures ∙ c.if-has_position.true, position_words) (c.put.ensures then c.put_decimal.ensures)

pub returns-else-has_position : goal.returns-else-has_position
unfolding position_words
returns-else-has_position c = rw (sym c.has_position.ensures ∙ c.if-has_position.false, position_words) nothing
