-- `walk_new::attributes::check_attribute` meets its contract.
-- Assumes nothing.
use Rattle.walk_new.proofs.AttributeLaws.{is_named, attribute_unnamed, attribute_refused, attribute_found}
use Rattle.walk_new.proofs.attributes.check_attribute.Goals as goal

pub returns-then-not-named : goal.returns-then-not-named
returns-then-not-named c = let v = c.view-records.ensures in attribute_unnamed _ (is_named _ _ v.1 v.2 c.get.ensures c.is_some-named.ensures) c.if-not-named.true

pub returns-in-Ok : goal.returns-in-Ok
returns-in-Ok c =
    let v = c.view-records.ensures in
    let n = is_named _ _ v.1 v.2 c.get.ensures c.is_some-named.ensures in
    attribute_found _ n c.if-not-named.false (rw (v.0, v.1, v.2) at c.index_of_attr.ensures) c.in-Ok.is

pub returns-in-Err : goal.returns-in-Err
returns-in-Err c =
    let v = c.view-records.ensures in
    let n = is_named _ _ v.1 v.2 c.get.ensures c.is_some-named.ensures in
    attribute_refused _ n c.if-not-named.false (rw (v.0, v.1, v.2) at c.index_of_attr.ensures) c.in-Err.is
