-- Records stay reached where the slots that are taken stay as they are, and a record that is stored in the first empty slot is reached.
-- Assumes nothing.
use mathlib.Core.Path.{◌≡◌, refl, sym, ap, ◌∙◌}
use Prim.Native.Nat.{ℕ, suc, ◌*◌, ◌≤◌}
use native.Mathlib.Omega.{arith}
use mathlib.Core.List.{List}
use lib.ListN.{length}
use Rattle.index.specs.Cells.{cell, hash}
use Rattle.index.proofs.Names.{Stays, path_stays}
use Rattle.index.proofs.Cells.{cell_store_same, cell_store_other}
use Rattle.index.specs.Names.{slot, code_of, Reached}
use Rattle.index.specs.Empties.{empties}
use Rattle.index_search.specs.Storing.{Stored}
use Rattle.index_search.proofs.Ring.{slot_inside, empties_taken}

-- a record with an equal key is reached too
pub reached_equal : {A : Type 0} {home : A → ℕ} {k : ℕ} {column : ℕ → ℕ} {kind count : ℕ} {ε : ℕ → A} {m n : ℕ} → ε m ≡ ε n → Reached home k column kind count ε m → Reached home k column kind count ε n
reached_equal {A} {home} {k} {column} {kind} {count} {ε} q R =
    record {
      number = R.number;
      below = R.below;
      equal = R.equal ∙ q;
      distance = R.distance;
      near = R.near;
      holds = rw (← q) R.holds;
      path = rw (← q) R.path;
    }

-- ---- a store in the first empty slot

module _ {work work' : List ℕ} {k b v : ℕ} (fits : 12 * k ≤ length work) (S : Stored work work' k b v) where
  where_stored : cell work' k hash (slot k b S.distance) ≡ v
  where_stored =
      rw S.is (cell_store_same work k hash (slot k b S.distance) v (record { fits = fits; column_is = omega arith; index_is = slot_inside k b S.distance S.inside S.near }))

  elsewhere : (i : ℕ) → (i ≡ slot k b S.distance → ⊥) → cell work' k hash i ≡ cell work k hash i
  elsewhere i h = rw S.is (cell_store_other work k hash (slot k b S.distance) v hash i (omega arith) (omega arith) (λ e q. h (sym q)))

  was_empty : cell work k hash (slot k b S.distance) ≡ 0
  was_empty = S.first.empty S.near

  pub stored_stays : Stays (cell work k hash) (cell work' k hash)
  stored_stays = record { same = λ i h. elsewhere i (λ e. h (ap (cell work k hash) e ∙ was_empty)) }

  pub stored_fewer : empties (cell work k hash) k ≤ suc (empties (cell work' k hash) k)
  stored_fewer = empties_taken (cell work k hash) (cell work' k hash) (slot k b S.distance) k (slot_inside k b S.distance S.inside S.near) was_empty elsewhere

  -- the record that was stored
  pub reached_new : {A : Type 0} {home : A → ℕ} {kind count : ℕ} {ε : ℕ → A} → v ≡ code_of count kind → b ≡ home (ε count) → Reached home k (cell work' k hash) kind (suc count) ε count
  reached_new {kind = kind} {count = count} e q =
      record {
        number = count;
        below = omega arith;
        equal = refl;
        distance = S.distance;
        near = S.near;
        holds = rw (← q) (where_stored ∙ e);
        path = rw (← q) (path_stays stored_stays k b S.first.taken);
      }
