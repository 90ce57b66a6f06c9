-- `index_entry::lists::TextsIterator::next` meets its contract: the first of the texts.
-- Assumes nothing.
use Prim.Native.Nat.{◌-◌}
use native.Mathlib.Omega.{arith}
use Rattle.std.specs.Prelude.{Some}
use Rattle.index_compare.proofs.Steps.{fewer_left}
use Rattle.index_entry.specs.Places.{texts_in}
use Rattle.index_entry.proofs.Places.{no_texts, first_of_texts}
use Rattle.index_entry.proofs.lists.TextsIterator.next.Goals as goal

pub returns-then-self-eq0-clause-steps : goal.returns-then-self-eq0-clause-steps
returns-then-self-eq0-clause-steps c = let e = no_texts c.args.self.now c.if-self-eq0.true in (e, e)

pub returns-clause-steps : goal.returns-clause-steps
returns-clause-steps c = first_of_texts c.args.self.now c.after_text-self.result (c.args.self.now.left - 1) c.text_at-text.ensures c.after_text-self.ensures (omega (arith, c.if-self-eq0.false))

pub returns-clause-goes : goal.returns-clause-goes
returns-clause-goes c = fewer_left texts_in (λ x. x.now) (Some c.text_at-text.result) (returns-clause-steps c)
