-- A function is entered: its row, and the count.
-- Assumes nothing.
use mathlib.Core.Path.{◌≡◌, refl, ap}
use Prim.Native.Nat.{ℕ, ◌+◌, min}
use native.Mathlib.Omega.{arith}
use Rattle.std.specs.Prelude.{Ok}
use Rattle.script_spec.specs.File.{func, rules, broken}
use Rattle.index.specs.Cells.{store, fun_offset, fun_first, fun_name}
use Rattle.index.specs.declared.Sizes.{Sizes}
use Rattle.index.specs.declared.RecordsMut.{RecordsMut}
use Rattle.index.proofs.Growth.{counts_fewer}
use Rattle.index_search.specs.Found.{EnrolsIn}
use Rattle.index_search.proofs.Entered.{indexed_func}
use Rattle.check_enter.specs.Entering.{Enters}
use Rattle.check_enter.proofs.Rewritten.{Rewritten, keeps_counted, indexed_as, sizes_as, one_more}
use Rattle.check_enter.proofs.Sizes.{sizes_func}

pub fun_entered : (v : RecordsMut) (o : ℕ) {first m : ℕ} {w₀ w : RecordsMut} → EnrolsIn v w₀ fun_offset fun_first 1 v.sizes.funs o first
    → Rewritten v w (store (store (store w₀.work.now v.sizes.rows fun_offset v.sizes.funs o) v.sizes.rows fun_first v.sizes.funs first) v.sizes.rows fun_name v.sizes.funs 0)
    → m ≡ min (v.sizes.funs + 1) 4294967295
    → Enters func v (record { file = w.file; work = w.work; sizes = record { rows = w.sizes.rows; types = w.sizes.types; funs = m; terms = w.sizes.terms; enums = w.sizes.enums; inputs = w.sizes.inputs } }) o (Ok tt)
unfolding rules broken
fun_entered v o E R more =
    record {
      kept = keeps_counted R _ refl;
      go = λ f C room g s below.
          let c = C.sizes_are in
          record {
            rule = refl;
            memory = record {
              indexed = indexed_as R (rw c.funs_are (indexed_func C.indexed room (rw c.funs_are at E.enrols) s));
              sizes_are = sizes_func (sizes_as R c) g (one_more more (ap (λ (s : Sizes). s.funs) R.becomes.sizes_are) (omega (arith, c.funs_are, (counts_fewer f).funs_fewer, room, C.indexed.searchable.small)));
            };
          };
    }
