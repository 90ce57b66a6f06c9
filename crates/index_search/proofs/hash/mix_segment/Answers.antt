-- The kind and the number, and the bytes.
-- Assumes nothing.
use Rattle.index_search.proofs.Mixed.{mixed_plain, mixed_reference}
use Rattle.index_search.proofs.hash.mix_segment.Goals as goal

pub returns-in-Plain : goal.returns-in-Plain
returns-in-Plain c = mixed_plain _ _ c.in-Plain.is c.mix_reference.ensures c.mix_bytes.ensures

pub returns-in-Reference : goal.returns-in-Reference
returns-in-Reference c = mixed_reference _ _ c.in-Reference.to c.in-Reference.is c.mix_reference-in-Reference.ensures
