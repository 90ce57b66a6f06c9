-- `write_text::run` meets its contract: no stop stands before the first one.
-- Assumes nothing.
use mathlib.Core.Path.{◌≡◌}
use mathlib.Core.Bool.{true, false}
use borrow.Author.Rules.{rules}
use borrow.Author.Tests.{tests}
use Rattle.std.proofs.lemmas.Iterator.{IsFirst-from_position, YieldsList-from_slice}
use Rattle.write_text.specs.Written.{stops}
use Rattle.write_text.proofs.Runs.{passed_first}
use Rattle.write_text.proofs.run.Goals as goal

pub returns : goal.returns
returns c =
    passed_first c.position.result c.unwrap_or.ensures
    (IsFirst-from_position _ _ _ (λ b. stops c.args.place b ≡ true) (λ b. stops c.args.place b ≡ false) c.position.ensures.ran
    (YieldsList-from_slice c.args.s.now c.iter.ensures.rest) (λ x q k. search (rules, tests)) (λ x q k. search (rules, tests)))
