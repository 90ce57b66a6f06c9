-- `walk_new::texts::check_literal` meets its contract: a literal that has a note has passed, and one that passes gets it.
-- Assumes nothing.
use Rattle.read_field.proofs.Laws.{handed_on}
use Rattle.walk_new.proofs.Testing.{told_low, told_high, literal_again, literal_passed, literal_stopped}
use Rattle.walk_new.proofs.texts.check_literal.Goals as goal

pub returns-then-get-ne0-clause-advances : goal.returns-then-get-ne0-clause-advances
returns-then-get-ne0-clause-advances c = literal_again c.get.ensures c.if-get-ne0.true

pub returns-in_err-refuse_high-clause-advances : goal.returns-in_err-refuse_high-clause-advances
returns-in_err-refuse_high-clause-advances c =
    let q = told_high _ _ _ c.refuse_high.ensures c.in_err-refuse_high.was in
    rw (handed_on _ c.from_residual.ensures.1, q.2) (literal_stopped _ c.first_high.ensures q.1)

pub returns-clause-advances : goal.returns-clause-advances
returns-clause-advances c = literal_passed _ c.first_high.ensures 1 (told_low _ _ _ c.refuse_high.ensures c.in_ok-refuse_high.was) c.set.ensures
