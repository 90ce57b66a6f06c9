-- `write_bytes::writer::Writer::lend` meets its contract: nothing past the limit; else the line has the part from the place on, and the place goes on
-- by what it counts.
-- Assumes nothing.
use mathlib.Core.Path.{refl, sym, ◌∙◌}
use borrow.Author.Tests.{ltb-true, ltb-false}
use Rattle.write_bytes.specs.Writers.{past}
use Rattle.write_bytes.proofs.Rest.{lends}
use Rattle.write_bytes.proofs.writer.Writer.lend.Goals as goal

pub returns-then-is_past : goal.returns-then-is_past
returns-then-is_past g c = past (ltb-true _ _ (sym c.is_past.ensures ∙ c.if-is_past.true)) refl

pub returns : goal.returns
returns g c =
    lends _ (ltb-false _ _ (sym c.is_past.ensures ∙ c.if-is_past.false)) c.write_line-length.ensures c.min-from.ensures c.room-room.ensures refl refl refl c.after-self.ensures
