-- `walk_terms::encode_own_type` meets its contract: a settled type is left, any other is encoded.
-- Assumes nothing.
use Rattle.walk_terms.proofs.Walking.{leaves_settled, encodes_own_type}
use Rattle.walk_terms.proofs.encode_own_type.Goals as goal

pub returns-then-not-is_settled : goal.returns-then-not-is_settled
returns-then-not-is_settled c = encodes_own_type _ c.get-t.ensures c.encode_type.ensures

pub returns-else-not-is_settled : goal.returns-else-not-is_settled
returns-else-not-is_settled c = let v = c.view.ensures in encodes_own_type _ c.get-t.ensures (leaves_settled _ v.0 v.1 v.2 c.is_settled.ensures c.if-not-is_settled.false)
