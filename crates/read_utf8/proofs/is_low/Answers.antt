-- `read_utf8::is_low` meets its contract: the first test decides, or else the second.
-- Assumes nothing.
use borrow.Author.Tests.{le-leb, lt-leb}
use Rattle.script_spec.specs.Tree.{wildcard}
use Rattle.script_spec.specs.Walk.{is_low}
use Rattle.read_utf8.proofs.is_low.Goals as goal

pub returns-then-c-le-HIGHEST : goal.returns-then-c-le-HIGHEST
unfolding is_low wildcard
returns-then-c-le-HIGHEST c = rw (le-leb _ _ c.if-c-le-HIGHEST.true)

pub returns-else-c-le-HIGHEST : goal.returns-else-c-le-HIGHEST
unfolding is_low wildcard
returns-else-c-le-HIGHEST c = rw (lt-leb _ _ c.if-c-le-HIGHEST.false)
