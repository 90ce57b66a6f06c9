-- `walk_types::encode_uuf` meets its contract: for a function that has a name, and for one that is new.
-- Assumes nothing.
use mathlib.Core.Path.{sym, ◌∙◌}
use Rattle.walk_types.proofs.Encoding.{leaves_fun, encodes_fun}
use Rattle.walk_types.proofs.encode_uuf.Goals as goal

pub returns-then-is_some : goal.returns-then-is_some
returns-then-is_some c = let v = c.view.ensures in leaves_fun _ _ (rw (v.1, v.2) at c.get.ensures) (sym c.is_some.ensures ∙ c.if-is_some.true)

pub returns : goal.returns
returns c =
    let v = c.view.ensures in
    let u = c.view-2.ensures in
    encodes_fun _ _ (rw (v.1, v.2) at c.get.ensures) (sym c.is_some.ensures ∙ c.if-is_some.false) (rw (u.0, u.1, u.2) at c.fun_at-fun.ensures) c.put_id.ensures.passes c.encode_type.ensures c.encode_type-2.ensures c.declare_fun.ensures
