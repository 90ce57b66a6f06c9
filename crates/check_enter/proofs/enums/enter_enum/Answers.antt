-- The rules in their order, with the search for the name, and then the row.
-- Assumes nothing.
use mathlib.Core.Path.{sym, ◌∙◌}
use Rattle.check_enter.proofs.Rewritten.{rewritten_from, rewritten_then}
use Rattle.check_enter.proofs.EnumRules.{enum_unordered, enum_empty, enum_taken, enum_entered}
use Rattle.check_enter.proofs.enums.enter_enum.Goals as goal

pub returns-then-not-members_ascend : goal.returns-then-not-members_ascend
returns-then-not-members_ascend c = enum_unordered _ _ c.members_ascend.ensures c.if-not-members_ascend.true

pub returns-then-not-members_given : goal.returns-then-not-members_given
returns-then-not-members_given c = enum_empty _ _ c.members_ascend.ensures c.members_given.ensures c.if-not-members_ascend.false c.if-not-members_given.true

pub returns-then-is_some : goal.returns-then-is_some
returns-then-is_some c =
    enum_taken _ _ c.members_ascend.ensures c.members_given.ensures c.name_at-name.ensures c.enrol.result c.enrol.ensures c.if-not-members_ascend.false c.if-not-members_given.false (sym c.is_some.ensures ∙ c.if-is_some.true)

pub returns : goal.returns
returns c =
    enum_entered _ _ c.members_ascend.ensures c.members_given.ensures c.name_at-name.ensures c.enrol.result c.enrol.ensures c.if-not-members_ascend.false c.if-not-members_given.false (sym c.is_some.ensures ∙ c.if-is_some.false)
    (rewritten_then _ _ _ (rewritten_then _ _ _ (rewritten_from c.enrol.ensures.stays) c.set.ensures) c.set-2.ensures)
    c.saturating_add-records.ensures
