-- The hash so far with the bytes that are left comes to the hash with all bytes.
-- Assumes nothing.
use mathlib.Core.Path.{◌∙◌}
use Rattle.index_search.proofs.Mixed.{word_next, byte_next, bytes_over}
use Rattle.index_search.proofs.hash.mix_bytes.Goals as goal

pub loop-word-preserved : goal.loop-word-preserved
loop-word-preserved c =
    let cut = c.as_chunks.ensures in
    word_next _ _ c.args.s.now _ cut.front cut.front_len c.loop-word-test.true (c.from.ensures ∙ c.from_le_bytes.ensures) c.mix-x.ensures ∙ c.loop-word.invariant

pub loop-byte-preserved : goal.loop-byte-preserved
loop-byte-preserved c =
    let few = c.loop-byte.invariant.1 in
    (byte_next _ _ _ _ c.loop-byte-test.true few c.from-in-loop-byte.ensures c.mix-x-in-loop-byte.ensures ∙ c.loop-byte.invariant.0, few)

pub returns : goal.returns
returns c = bytes_over _ _ _ _ c.loop-byte-test.false c.loop-byte.invariant.0
