-- By the kind of the term.
-- Assumes nothing.
use mathlib.Core.Path.{sym, ◌∙◌}
use mathlib.Core.Logic.{inl, inr}
use Rattle.check_rules.proofs.Decided.{leaves, leaves_so}
use Rattle.check_rules.proofs.TermLaws.{no_rule, set_kept, set_broken, record_kept, record_broken, app_kept, app_broken}
use Rattle.check_rules.proofs.terms.broken_rule.Goals.{else-depth-eq0-via-then-depth-eq0+else-byte_at-ne-RECORD_GET, else-depth-eq0-via-else-depth-eq0}
use Rattle.check_rules.proofs.terms.broken_rule.Goals as goal

pub returns-then-not-list_differs : goal.returns-then-not-list_differs
returns-then-not-list_differs c = leaves_so c.list_differs.ensures (λ D M. set_broken _ _ _ M c.body_at-body.result c.body_at-body.ensures c.in-XC.is D c.if-not-list_differs.true)

pub returns-else-not-list_differs : goal.returns-else-not-list_differs
returns-else-not-list_differs c = leaves_so c.list_differs.ensures (λ D M. set_kept _ _ _ M c.body_at-body.result c.body_at-body.ensures c.in-XC.is D c.if-not-list_differs.false)

pub returns-then-not-list_ascends : goal.returns-then-not-list_ascends
returns-then-not-list_ascends c = leaves (λ M. record_broken _ _ _ M c.body_at-body.result c.body_at-body.ensures c.new.ensures c.in-XR.is c.list_ascends.ensures c.if-not-list_ascends.true)

pub returns-else-not-list_ascends : goal.returns-else-not-list_ascends
returns-else-not-list_ascends c = leaves (λ M. record_kept _ _ _ M c.body_at-body.result c.body_at-body.ensures c.new.ensures c.in-XR.is c.list_ascends.ensures c.if-not-list_ascends.false)

pub returns-then-byte_at-ne-RECORD_GET : goal.returns-then-byte_at-ne-RECORD_GET
returns-then-byte_at-ne-RECORD_GET c = leaves (λ M. app_broken _ _ _ M c.body_at-body.result c.body_at-body.ensures c.in-XA.is c.if-depth-eq0.true c.byte_at.ensures c.if-byte_at-ne-RECORD_GET.true)

pub returns-else-depth-eq0 : goal.returns-else-depth-eq0
returns-else-depth-eq0 c =
    leaves (λ M. app_kept _ _ _ M c.body_at-body.result c.body_at-body.ensures c.in-XA.is (elim c.else-depth-eq0.branch [
      | else-depth-eq0-via-then-depth-eq0+else-byte_at-ne-RECORD_GET w ↦ inr (sym w.byte_at.ensures ∙ w.if-byte_at-ne-RECORD_GET.false)
      | else-depth-eq0-via-else-depth-eq0 w ↦ inl w.if-depth-eq0.false
    ]))

pub returns-in_default : goal.returns-in_default
returns-in_default c = leaves (λ M. no_rule _ _ _ M search)
