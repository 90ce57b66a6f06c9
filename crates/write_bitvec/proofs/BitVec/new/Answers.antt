-- `write_bitvec::BitVec::new` meets its contract: each test decides as the definition's does.
-- Assumes nothing.
use mathlib.Core.Path.{refl, sym, ◌∙◌}
use Rattle.refusal.specs.Numbers.{number}
use Rattle.write_bitvec.specs.Vector.{said, new_vector}
use Rattle.write_bitvec.proofs.Vectors.{vector_if_no, vector_if_yes}
use Rattle.write_bitvec.proofs.BitVec.new.Goals as goal
use Rattle.write_bitvec.proofs.BitVec.new.Goals.{then-not-is_width-via-then-not-is_width, then-not-is_width-via-else-not-is_width+then-not-fits}

pub returns-then-not-is_width : goal.returns-then-not-is_width
unfolding said number new_vector
returns-then-not-is_width c =
    elim c.then-not-is_width.branch [
      | then-not-is_width-via-then-not-is_width w ↦ vector_if_no _ _ _ (simp (sym c.is_width.ensures ∙ w.if-not-is_width.true))
      | then-not-is_width-via-else-not-is_width+then-not-fits w ↦ vector_if_no _ _ _ (simp ((sym c.is_width.ensures ∙ w.if-not-is_width.false), sym w.fits.ensures ∙ w.if-not-fits.true))
    ]

pub returns : goal.returns
unfolding said new_vector
returns c = vector_if_yes _ _ _ _ (simp ((sym c.is_width.ensures ∙ c.if-not-is_width.false), sym c.fits.ensures ∙ c.if-not-fits.false)) refl
