-- The text of an item, alone or with a reference.
-- Assumes nothing.
use Rattle.read_field.proofs.Laws.{handed_on}
use Rattle.check_rules.proofs.Ordered.{item_alone, item_named, item_cut, item_bad}
use Rattle.read_field.specs.Takes.{bytes_of}
use Rattle.check_rules.proofs.ascending.item_text.Goals as goal

pub returns-then-not-this : goal.returns-then-not-this
returns-then-not-this g c = rw c.if-not-this.true (item_alone _ (bytes_of c.text.result) c.text.ensures)

pub returns-in_err-text : goal.returns-in_err-text
returns-in_err-text g c = rw (handed_on _ c.from_residual.ensures.1) (item_bad _ c.in_err-text.ensures)

pub returns-in_err-after : goal.returns-in_err-after
returns-in_err-after g c = rw (handed_on _ c.from_residual-in_err-after.ensures.1) (item_cut _ c.if-not-this.false c.in_ok-text.ensures c.in_err-after.ensures)

pub returns : goal.returns
returns g c = item_named _ c.if-not-this.false c.in_ok-text.ensures c.in_ok-after.ensures
