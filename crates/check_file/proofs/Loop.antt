-- The loop over the records: what is reached at a place of the file, from the start to the answer.
-- Assumes nothing.
use mathlib.Core.Path.{◌≡◌, ap, ◌∙◌}
use Prim.Native.Nat.{ℕ, ◌*◌, ◌/◌, ◌≤◌, ◌<◌}
use native.Mathlib.Omega.{arith}
use mathlib.Core.List.{List, [], ◌∷◌, ◌++◌}
use lib.ListN.{length, length-append, length-take, length-drop, length-replicate}
use native.Mathlib.Decide.{dec_le}
use borrow.Author.Tests.{le-leb, lt-leb}
use Rattle.std.specs.Prelude.{Ok, Err}
use Rattle.script_spec.specs.Base.{collect}
use Rattle.script_spec.specs.File.{TermFile, types, funs, terms, enums, inputs}
use Rattle.index.specs.Cells.{cell, store, emptied, zeroed, key, hash}
use Rattle.index.specs.Held.{Becomes, Stays}
use Rattle.index.specs.declared.Sizes.{Sizes}
use Rattle.index.specs.declared.RecordsMut.{RecordsMut}
use Rattle.index.proofs.Cells.{capacity_fits, cell_store_other}
use Rattle.index.proofs.Columns.{cell_emptied}
use Rattle.index.proofs.Held.{stays_becomes, stays_store}
use Rattle.index_search.proofs.Entered.{indexed_none}
use Rattle.refusal.specs.declared.Refusal.{Refusal}
use Rattle.check_enter.specs.Entering.{Keeps}
use Rattle.check_enter.proofs.Rewritten.{keeps_same, keeps_then}
use Rattle.check_file.specs.Beginning.{Begins}
use Rattle.check_file.specs.Stepping.{Before, Stepped, TurnedBack, Steps, EntersAll}
use Rattle.check_file.proofs.Records.{Rest, rest_start, rest_end, rest_bad, rest_got}

-- ---- the start

-- no record is counted
pub record Uncounted (sizes : Sizes) : Type 0 where
  pub types_none : sizes.types ≡ 0
  pub funs_none : sizes.funs ≡ 0
  pub terms_none : sizes.terms ≡ 0
  pub enums_none : sizes.enums ≡ 0
  pub inputs_none : sizes.inputs ≡ 0

-- the slots are part of the memory
length_emptied : (work : List ℕ) (k : ℕ) → length (emptied work k hash) ≡ length work
unfolding emptied zeroed
length_emptied work k = go (dec_le (12 * k) (length work))
  where
    go : Dec (12 * k ≤ length work) → length (emptied work k hash) ≡ length work
    go (yes l) = rw (le-leb (12 * k) (length work) l, emptied) (simp (length-append, length-take, length-replicate, length-drop) (omega arith))
    go (no l) = rw (lt-leb (12 * k) (length work) (omega arith), emptied)

-- the slots are emptied, and the two halves of the key are stored
pub ready : {v w x y : RecordsMut} (low high : ℕ) → Becomes v w (emptied v.work.now v.sizes.rows hash) → Becomes w x (store w.work.now w.sizes.rows key 0 low) → Becomes x y (store x.work.now x.sizes.rows key 1 high) → Begins v y
ready {v} {w} {x} low high A B C =
    let k = v.sizes.rows in
    let rows : w.sizes.rows ≡ k = ap (λ (s : Sizes). s.rows) A.sizes_are in
    let rows' : x.sizes.rows ≡ k = ap (λ (s : Sizes). s.rows) B.sizes_are ∙ rows in
    let a : Stays v w = stays_becomes A (length_emptied v.work.now k) in
    record {
      stays = stays_store x.sizes.rows key 1 high (stays_store w.sizes.rows key 0 low a B) C;
      empty = λ i.
          ap (λ (m : List ℕ). cell m k hash i) (C.memory ∙ ap (λ (n : ℕ). store x.work.now n key 1 high) rows')
          ∙ cell_store_other x.work.now k key 1 high hash i (omega arith) (omega arith) (λ e q. omega arith)
          ∙ ap (λ (m : List ℕ). cell m k hash i) (B.memory ∙ ap (λ (n : ℕ). store w.work.now n key 0 low) rows)
          ∙ cell_store_other w.work.now k key 0 low hash i (omega arith) (omega arith) (λ e q. omega arith)
          ∙ ap (λ (m : List ℕ). cell m k hash i) A.memory ∙ cell_emptied v.work.now k hash (omega arith) i;
    }

pub begins : {v w : RecordsMut} → Begins v w → length v.file.now ≤ 1048576 → 2 * length v.file.now ≤ length v.work.now → v.sizes.rows ≡ length v.file.now / 6 → Uncounted v.sizes → Before [] w 0
unfolding types funs terms enums inputs collect
begins {v} {w} B short room rows U =
    let S = B.stays in
    record {
      short = rw S.file_is short;
      rows_are = rw (S.file_is, S.sizes_are) rows;
      counted = record {
        indexed = rw (S.file_is, S.sizes_are) (indexed_none v.file.now w.work.now v.sizes.rows (omega (arith, rows, capacity_fits (length v.file.now), S.size)) (omega (arith, rows, capacity_fits (length v.file.now))) B.empty);
        sizes_are = rw S.sizes_are record { types_are = U.types_none; funs_are = U.funs_none; terms_are = U.terms_none; enums_are = U.enums_none; inputs_are = U.inputs_none };
      };
      places = omega arith;
    }

-- ---- a place of the file

-- some records have been entered, and the answer is what the rest of the file comes to
pub record Going (v w : RecordsMut) (at : ℕ) : Type 0 where
  pub kept : Keeps v w
  pub records : TermFile
  pub before : Before records w at
  pub rest : Rest v.file.now records at
  pub within : at ≤ length v.file.now

pub going_start : {v : RecordsMut} → Before [] v 0 → Going v v 0
going_start {v} B = record { kept = keeps_same v; records = []; before = B; rest = rest_start v.file.now; within = omega arith }

module _ {v w : RecordsMut} {at : ℕ} (G : Going v w at) where
  file_same : w.file.now ≡ v.file.now
  file_same = ap (λ x. x.now) G.kept.file_is

  pub going_end : length w.file.now ≤ at → EntersAll v w (Ok tt)
  going_end h = record { kept = G.kept; told = record { records = G.records; is = rest_end G.rest (omega (arith, h, ap length file_same)); counted = G.before.counted } }

  module _ {x : RecordsMut} where
    pub going_on : {to : ℕ} → Steps w x at (Ok to) → Going v x to
    going_on {to} S =
        let D : Stepped G.records w x at to = S.go G.records G.before in
        record {
          kept = keeps_then G.kept S.kept;
          records = G.records ++ (D.record_got ∷ []);
          before = record {
            short = rw S.kept.file_is G.before.short;
            rows_are = S.kept.rows_are ∙ rw S.kept.file_is G.before.rows_are;
            counted = D.counted;
            places = rw length-append (omega (arith, D.further, G.before.places));
          };
          rest = rest_got G.rest (omega (arith, D.further)) (omega (arith, D.further, D.within, ap length file_same)) (rw file_same at D.next);
          within = omega (arith, D.within, ap length file_same);
        }

    pub going_further : {to : ℕ} → Steps w x at (Ok to) → (at < to) × (to ≤ length v.file.now)
    going_further {to} S = let D : Stepped G.records w x at to = S.go G.records G.before in (omega (arith, D.further), omega (arith, D.within, ap length file_same))

    pub going_bad : {e : Refusal} → at < length w.file.now → Steps w x at (Err e) → EntersAll v x (Err e)
    going_bad {e} h S =
        let T : TurnedBack G.records w x at e = S.go G.records G.before in
        record {
          kept = keeps_then G.kept S.kept;
          told = record {
            records = G.records;
            is = rest_bad G.rest (omega (arith, h, ap length file_same)) (rw file_same at T.next);
            sizes_are = rw T.unchanged.sizes_are G.before.counted.sizes_are;
            few = omega (arith, h, G.before.places, G.before.short);
          };
        }
