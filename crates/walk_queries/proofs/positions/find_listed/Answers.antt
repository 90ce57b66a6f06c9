-- `walk_queries::positions::find_listed` meets its contract: among the texts of a row and the next one.
-- Assumes nothing.
use mathlib.Core.Path.{refl}
use Rattle.walk_queries.proofs.RowLaws.{place_few, listed_at, listed_nowhere}
use Prim.Native.Nat.{◌<◌, ◌+◌, ◌*◌}
use native.Mathlib.Omega.{arith}
use borrow.Author.Rules.{rules}
use Rattle.walk_queries.proofs.positions.find_listed.Goals as goal

pub returns-then-among-lt2 : goal.returns-then-among-lt2
returns-then-among-lt2 c = record { go = λ L. c.find_text.ensures }

pub overflow_add-result : goal.overflow_add-result
overflow_add-result c =
    let few : c.in_ok-i.i < c.min.result = place_few _ c.find_text-2.ensures c.in_ok-i.was in
    let below : c.find_row-row.result * 2 + c.in_ok-i.i < c.args.among.left = omega (arith, c.min.ensures) in
    search rules

pub returns-in_err-i : goal.returns-in_err-i
returns-in_err-i c = rw c.from_residual.ensures (listed_nowhere c.args.among c.rows_of.ensures c.find_row-row.ensures c.get_row-at.ensures refl c.min.ensures c.find_text-2.ensures c.in_err-i.was)

pub returns : goal.returns
returns c = listed_at c.args.among c.rows_of.ensures c.find_row-row.ensures c.get_row-at.ensures refl c.min.ensures c.find_text-2.ensures c.in_ok-i.was
