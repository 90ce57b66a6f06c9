-- The rows of a list as they are filled: each row has the place after two texts more.
-- Assumes nothing.
use Prim.Native.Nat.{ℕ, zero, suc, ◌+◌, ◌*◌, ◌-◌, ◌<◌, ◌≤◌}
use native.Mathlib.Omega.{arith}
use native.Mathlib.Decide.{ℕ_discrete}
use mathlib.Core.Path.{◌≡◌, refl, ap, ◌∙◌}
use mathlib.Core.Bool.{Bool, true}
use mathlib.Core.List.{List}
use lib.ListN.{length, drop}
use Rattle.script_spec.specs.Base.{Bytes, ascending}
use Rattle.index.specs.Cells.{placed, cell, store, shared, list_row}
use Rattle.index.specs.Lists.{texts, Listed}
use Rattle.index.proofs.Cells.{length_store, cell_store_same, cell_store_apart}
use Rattle.index.specs.Held.{Becomes, Stays}
use Rattle.index.specs.declared.RecordsMut.{RecordsMut}
use Rattle.index.specs.declared.Sizes.{Sizes}
use Rattle.index_entry.specs.Places.{rest_after_text}
use Rattle.index_entry.specs.declared.lists.Texts.{Texts}
use Rattle.index_entry.proofs.Places.{length_texts}
use Rattle.walk_queries.specs.Made.{RowsOf, Fits, rest_after_texts, RowsStored, RowsFilled, RowsMade, ListAt, left_out, made}
use Rattle.index.proofs.Held.{stays_same, stays_store}

-- ---- texts

after_last : (skip n : ℕ) (s : Bytes) → rest_after_text skip (rest_after_texts skip n s) ≡ rest_after_texts skip (suc n) s
unfolding rest_after_texts
after_last skip zero s = refl
after_last skip (suc n) s = after_last skip n (rest_after_text skip s)

texts_after : (skip n m t : ℕ) (s : Bytes) → t ≡ n + m → texts skip m (rest_after_texts skip n s) ≡ drop n (texts skip t s)
unfolding rest_after_texts rest_after_text texts
texts_after skip zero m t s e = let same : m ≡ t = omega arith in ap (λ (n : ℕ). texts skip n s) same
texts_after skip (suc n) m zero s e = absurd (omega arith)
texts_after skip (suc n) m (suc t) s e = texts_after skip n m t (rest_after_text skip s) (omega arith)

-- ---- rows

pub rows_none : (k base : ℕ) (work : List ℕ) → RowsStored k base 0 work work
rows_none k base work = record { same_size = refl; same = λ column i apart. refl }

-- j rows are filled, and the next text stands at a place
pub record Filling (body : Bytes) (k base rows from skip : ℕ) (work₀ work : List ℕ) (at j : ℕ) : Type 0 where
  pub most : j ≤ rows
  pub stored : RowsStored k base j work₀ work
  pub filled : 12 * k ≤ length work₀ → RowsFilled body k base j from skip work
  pub here : drop at body ≡ rest_after_texts skip (2 * j) (drop from body)

module _ {body : Bytes} {k base rows from skip : ℕ} where
  pub filling_start : (work : List ℕ) → Filling body k base rows from skip work work from 0
  unfolding rest_after_texts
  filling_start work = record { most = omega arith; stored = rows_none k base work; filled = λ h. record { place = λ j l. absurd (omega arith) }; here = refl }

  module _ {work₀ work : List ℕ} {at j : ℕ} (F : Filling body k base rows from skip work₀ work at j) where
    pub filling_more : (mid next : ℕ) {work' : List ℕ} → j < rows → base + rows ≤ k → work' ≡ store work k list_row (base + j) at → drop mid body ≡ rest_after_text skip (drop at body) → drop next body ≡ rest_after_text skip (drop mid body)
        → Filling body k base rows from skip work₀ work' next (j + 1)
    unfolding shared placed
    filling_more mid next {work'} l room e a b =
        record {
          most = omega arith;
          stored =
              record {
                same_size = rw e (length_store work k list_row (base + j) at ∙ F.stored.same_size);
                same = λ column i apart. rw e (cell_store_apart work k list_row (base + j) at column i (apart j (omega arith)) ∙ F.stored.same column i (λ m g. apart m (omega arith)));
              };
          filled = λ fits. record { place = λ m g. rw e (row fits m g (ℕ_discrete m j)) };
          here = b ∙ ap (rest_after_text skip) (a ∙ ap (rest_after_text skip) F.here ∙ after_last skip (2 * j) (drop from body)) ∙ after_last skip (suc (2 * j)) (drop from body)
              ∙ (let two : suc (suc (2 * j)) ≡ 2 * (j + 1) = omega arith in ap (λ (n : ℕ). rest_after_texts skip n (drop from body)) two);
        }
      where
        row : 12 * k ≤ length work₀ → (m : ℕ) → m < j + 1 → Dec (m ≡ j) → drop (cell (store work k list_row (base + j) at) k list_row (base + m)) body ≡ rest_after_texts skip (2 * m) (drop from body)
        row fits m g (yes q) =
            rw (q, cell_store_same work k list_row (base + j) at (record { fits = omega (arith, F.stored.same_size); column_is = omega arith; index_is = omega arith })) F.here
        row fits m g (no q) =
            rw (cell_store_apart work k list_row (base + j) at list_row (base + m) (record { other = λ _ h. q (omega arith); facing = λ h _. omega arith })) ((F.filled fits).place m (omega arith))

-- j rows are filled in the records that were u and are v
pub record FillingRecords (among : Texts) (base rows : ℕ) (u v : RecordsMut) (at j : ℕ) : Type 0 where
  pub stays : Stays u v
  pub rows_are : Filling among.body.now u.sizes.rows base rows among.from among.skip u.work.now v.work.now at j

module _ {among : Texts} {base rows : ℕ} where
  pub fills_none : (u : RecordsMut) → FillingRecords among base rows u u among.from 0
  fills_none u = record { stays = stays_same u; rows_are = filling_start u.work.now }

  pub fills_more : {u v w : RecordsMut} {at j : ℕ} → FillingRecords among base rows u v at j → j < rows → base + rows ≤ u.sizes.rows → Becomes v w (store v.work.now v.sizes.rows list_row (base + j) at)
      → (mid next : ℕ) → drop mid among.body.now ≡ rest_after_text among.skip (drop at among.body.now) → drop next among.body.now ≡ rest_after_text among.skip (drop mid among.body.now)
      → FillingRecords among base rows u w next (j + 1)
  fills_more {v = v} {at = at} {j} F l room B mid next a b = record {
    stays = stays_store v.sizes.rows list_row (base + j) at F.stays B;
    rows_are = filling_more F.rows_are mid next l room (B.memory ∙ ap (λ (s : Sizes). store v.work.now s.rows list_row (base + j) at) F.stays.sizes_are) a b;
  }

-- ---- a list

-- rows that are filled are the list of texts that ascend
pub rows_list : {body : Bytes} {k base rows from count skip : ℕ} {work work' : List ℕ} {names : List Bytes} → RowsOf count rows → RowsFilled body k base rows from skip work → names ≡ texts skip count (drop from body)
    → ascending names ≡ true → ((j : ℕ) → j < rows → cell work' k list_row (base + j) ≡ cell work k list_row (base + j)) → Listed body skip names work' k base
rows_list {body} {rows = rows} {from} {count} {skip} {names = names} R P e up same =
    let size : length names ≡ count = ap length e ∙ length_texts skip count (drop from body) in
    record {
      ordered = up;
      held = λ j l.
          let inside : j < rows = omega (arith, R.enough) in
          let left : length names - 2 * j ≡ count - 2 * j = omega arith in
          rw (same j inside, P.place j inside, e, length_texts skip count (drop from body)) (texts_after skip (2 * j) (count - 2 * j) count (drop from body) (omega arith));
    }

-- ---- what `list_at` does

-- some rows are filled of the next ones, where they fit, in the records that were u and are v
pub record Tried (next : ℕ) (u v : RecordsMut) : Type 0 where
  pub stays : Stays u v
  pub taken : ℕ
  pub room : 0 < taken → next + taken + u.sizes.terms ≤ u.sizes.rows
  pub stored : RowsStored u.sizes.rows next taken u.work.now v.work.now

pub tried_none : (next : ℕ) (u : RecordsMut) → Tried next u u
tried_none next u = record { stays = stays_same u; taken = 0; room = λ l. absurd (omega arith); stored = rows_none u.sizes.rows next u.work.now }

pub tried_rows : (among : Texts) {next rows : ℕ} {u v : RecordsMut} {r : Bool} → Fits u.sizes.rows u.sizes.terms next rows → Stays u v
    → RowsMade among.body.now u.sizes.rows next rows among.from among.skip u.work.now v.work.now r → Tried next u v
tried_rows among {rows = rows} F s M = record { stays = s; taken = rows; room = λ l. F.room; stored = M.stored }

module _ {u v w : RecordsMut} (column n : ℕ) where
  -- the first row of the list is noted, or that there is none
  noted : (x : ℕ) → Stays u v → Becomes v w (store v.work.now v.sizes.rows column n x) → w.work.now ≡ store v.work.now u.sizes.rows column n x
  noted x S B = B.memory ∙ ap (λ (s : Sizes). store v.work.now s.rows column n x) S.sizes_are

  module _ (among : Texts) {next : ℕ} where
    pub list_left : Tried next u v → Becomes v w (store v.work.now v.sizes.rows column n 0)
        → ListAt among.body.now u.sizes.rows u.sizes.terms column n among.from among.left among.skip next u.work.now next w.work.now
    list_left T B = left_out T.taken v.work.now T.room T.stored (noted 0 T.stays B) refl

    pub list_made : {rows end : ℕ} {r : Bool} → RowsOf among.left rows → end ≡ next + rows → Fits u.sizes.rows u.sizes.terms next rows → Stays u v
        → RowsMade among.body.now u.sizes.rows next rows among.from among.skip u.work.now v.work.now r → r ≡ true → Becomes v w (store v.work.now v.sizes.rows column n (next + 1))
        → ListAt among.body.now u.sizes.rows u.sizes.terms column n among.from among.left among.skip next u.work.now end w.work.now
    list_made {rows} R e F S M t B =
        let one : next + 1 ≡ suc next = omega arith in
        made rows v.work.now (λ l. F.room) M.stored (noted (next + 1) S B ∙ ap (λ (x : ℕ). store v.work.now u.sizes.rows column n x) one) e R (M.filled t)
