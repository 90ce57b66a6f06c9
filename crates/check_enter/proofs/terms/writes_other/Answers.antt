-- By the first byte of the mark, and by the number that is written.
-- Assumes nothing.
use mathlib.Core.Path.{sym, ap, ◌∙◌}
use Prim.Native.Nat.{ℕ, ◌+◌}
use Rattle.script_spec.specs.Fields.{is_typed}
use Rattle.index.specs.Lists.{number_at}
use Rattle.check_enter.proofs.WrittenTypes.{nothing_written, number_written}
use Rattle.check_enter.proofs.terms.writes_other.Goals as goal

pub returns-then-not-is_typed : goal.returns-then-not-is_typed
returns-then-not-is_typed c = nothing_written (ap is_typed (sym c.byte_at.ensures) ∙ sym c.is_typed.ensures ∙ c.if-not-is_typed.true)

pub returns : goal.returns
returns c =
    number_written (ap is_typed (sym c.byte_at.ensures) ∙ sym c.is_typed.ensures ∙ c.if-not-is_typed.false) (c.number_at-n.ensures ∙ ap (λ (size : ℕ). number_at c.args.records.file.now (c.args.offset + 2 + size)) c.number_at-size.ensures) c.get.ensures
