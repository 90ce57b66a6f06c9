-- `index_entry::terms::Children::place` meets its contract.
-- Assumes nothing.
use Rattle.index_entry.proofs.ChildLaws.{ahead_named, ahead_bare}
use Rattle.index_entry.proofs.terms.Children.place.Goals as goal

pub returns-then-self : goal.returns-then-self
returns-then-self c = ahead_named c.if-self.true c.past_text.ensures

pub returns : goal.returns
returns c = ahead_bare c.if-self.false
