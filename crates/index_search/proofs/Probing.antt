-- A search goes through the slots from one on: the test is true of no record in those that were passed, and so no record that is reached has
-- the key that is looked for where an empty slot is met, or all slots were passed.
-- Assumes nothing.
use mathlib.Core.Path.{◌≡◌, refl, sym, ap, ◌∙◌, subst}
use Prim.Native.Nat.{ℕ, ◌+◌, ◌-◌, ◌/◌, ◌≤◌, ◌<◌}
use native.Mathlib.Decide.{dec_lt, ℕ_discrete}
use native.Mathlib.Omega.{arith}
use mathlib.Core.Bool.{Bool, true, false, true≢false}
use mathlib.Core.List.{List}
use borrow.Author.Count.{below_more}
use borrow.Author.Tests.{eq-eqb}
use lib.Dec.{eqb}
use Rattle.std.specs.Prelude.{Result, Ok, Err, Some, None}
use Rattle.index.specs.Cells.{cell, store, hash}
use Rattle.index.specs.Held.{Becomes}
use Rattle.index.proofs.Held.{stays_same, stays_store}
use Rattle.index.specs.declared.Sizes.{Sizes}
use Rattle.index.specs.declared.Records.{Records}
use Rattle.index.specs.declared.RecordsMut.{RecordsMut}
use Rattle.index.specs.Names.{slot, code_of, Reached}
use Rattle.index.specs.Empties.{empties}
use Rattle.index.proofs.Names.{code_some}
use Rattle.index_compare.specs.View.{Decides}
use Rattle.index_search.specs.Storing.{Home, FirstEmpty, Stored}
use Rattle.index_search.specs.declared.slots.Table.{Table}
use Rattle.index_search.specs.declared.slots.Table.TheVariants.{Types, Funs, Terms, Enums}
use Rattle.index_search.specs.Tables.{slot_kind}
use Rattle.index_search.specs.Probed.{Viewed, Other, Met, Unmet, ProbeTold, Probes, SlotTaken, TakesSlot}
use Rattle.index_search.proofs.Ring.{code_number, empties_some, empty_near, Taken, taken_none, taken_more, empty_here, empty_nowhere}

-- the tables have numbers below 4
pub kind_small : (t : Table) → slot_kind t < 4
kind_small Types = omega arith
kind_small Funs = omega arith
kind_small Terms = omega arith
kind_small Enums = omega arith

-- ---- the slots that were passed

-- none of the first d slots from b on is empty, and of no record in them is the test true
pub record Passed (k : ℕ) (column : ℕ → ℕ) (kind count : ℕ) (test : ℕ → Bool → Type 0) (b d : ℕ) : Type 0 where
  pub slots : Taken k column b d
  pub other : Other k column kind count test b d

-- of no record that a slot with v can hold is the test true
pub record Fails (kind count : ℕ) (test : ℕ → Bool → Type 0) (v : ℕ) : Type 0 where
  pub no : (n : ℕ) → n < count → v ≡ code_of n kind → test n false

module _ {kind : ℕ} (small : kind < 4) {v n : ℕ} (is : n ≡ (v - 1) / 4) where
  -- the number is that of the record
  same_number : (m : ℕ) → v ≡ code_of m kind → n ≡ m
  same_number m e = is ∙ code_number m kind v small e

  module _ {count : ℕ} {test : ℕ → Bool → Type 0} where
    pub fails_past : count ≤ n → Fails kind count test v
    fails_past h = record { no = λ m l e. let q : n ≡ m = same_number m e in absurd (omega arith) }

    pub fails_other : {h : Bool} → h ≡ eqb v (code_of n kind) → h ≡ false → Fails kind count test v
    fails_other has not = record { no = λ m l e. absurd (true≢false (sym (has ∙ eq-eqb v (code_of n kind) (rw (same_number m e) e)) ∙ not)) }

    pub fails_test : {r : Bool} → test n r → r ≡ false → Fails kind count test v
    fails_test t e = record { no = λ m l q. subst (λ (i : ℕ). test i false) (same_number m q) (subst (λ (b : Bool). test n b) e t) }

module _ {k : ℕ} {column : ℕ → ℕ} {kind count : ℕ} {test : ℕ → Bool → Type 0} {b : ℕ} where
  pub passed_none : Passed k column kind count test b 0
  passed_none = record { slots = taken_none; other = record { other = λ j n l m e. absurd (omega arith) } }

  pub passed_more : {d v : ℕ} → Passed k column kind count test b d → v ≡ column (slot k b d) → d < k → (v ≡ 0 → ⊥) → Fails kind count test v → Passed k column kind count test b (d + 1)
  passed_more {d} {v} P is near z F =
      record {
        slots = taken_more P.slots is near z;
        other = record { other = λ j n l. below_more (λ j. n < count → column (slot k b j) ≡ code_of n kind → test n false) d (λ i g. P.other.other i n g) (λ m e. F.no n m (is ∙ e)) j l };
      }

module _ {work : List ℕ} {k kind count : ℕ} {test : ℕ → Bool → Type 0} {b : ℕ} where
  -- an empty slot ends the search
  pub ends_empty : {d v : ℕ} → Passed k (cell work k hash) kind count test b d → v ≡ cell work k hash (slot k b d) → v ≡ 0 → Probes work k kind count test b (Err d)
  ends_empty P is e = record { told = record { empty = empty_here P.slots is e; passed = P.other } }

  -- all slots were passed
  pub ends_nowhere : {d : ℕ} → Passed k (cell work k hash) kind count test b d → k ≤ d → Probes work k kind count test b (Err k)
  ends_nowhere P h =
      record {
        told = record {
          empty = empty_nowhere P.slots h;
          passed = record { other = λ j n l. P.other.other j n (omega arith) };
        };
      }

  -- a record was met
  pub ends_met : {n : ℕ} {r : Bool} → n < count → test n r → r ≡ true → Probes work k kind count test b (Ok n)
  ends_met {n} l t e = record { told = record { below = l; is = subst (λ (b : Bool). test n b) e t } }

-- ---- a slot that is taken

-- the records as they are read
pub viewed : {m : RecordsMut} {v : Records} → (v.file.now ≡ m.file.now) × (v.work.now ≡ m.work.now) × (v.sizes ≡ m.sizes) → Viewed m v
viewed e = record { file_is = e.0; work_is = e.1; sizes_are = e.2 }

-- the code of a record of a table
pub code_is : {code count kind : ℕ} (t : Table) → kind ≡ slot_kind t → (count < 1048576 → kind < 4 → code ≡ code_of count kind) → count < 1048576 → code ≡ code_of count (slot_kind t)
code_is {count = count} t e q h = q h (omega (arith, kind_small t)) ∙ ap (code_of count) e

pub slot_taken : {m w : RecordsMut} {kind count b d code : ℕ} → (count < 1048576 → code ≡ code_of count kind) → Becomes m w (store m.work.now m.sizes.rows hash (slot m.sizes.rows b d) code) → SlotTaken m w kind count b d
slot_taken {m} {b = b} {d} q B = record { stays = stays_store _ _ _ _ (stays_same m) B; is = λ h. B.memory ∙ ap (store m.work.now m.sizes.rows hash (slot m.sizes.rows b d)) (q h) }

module _ {m : RecordsMut} {v : Records} {kind count : ℕ} {test : ℕ → Bool → Type 0} {b : ℕ} (V : Viewed m v) where
  -- what the search tells of the records as they are read is so of the records
  pub told_of : {r : Result ℕ ℕ} → Probes v.work.now v.sizes.rows kind count test b r → ProbeTold m.sizes.rows (cell m.work.now m.sizes.rows hash) kind count test b r
  told_of {r} P =
      subst (λ (s : Sizes). ProbeTold s.rows (cell m.work.now s.rows hash) kind count test b r) V.sizes_are
      (subst (λ (l : List ℕ). ProbeTold v.sizes.rows (cell l v.sizes.rows hash) kind count test b r) V.work_is P.told)

  pub takes_met : {n : ℕ} → Probes v.work.now v.sizes.rows kind count test b (Ok n) → TakesSlot m m kind count test b (Some n)
  takes_met P = record { stays = stays_same m; told = (told_of P, refl) }

  pub takes_none : {w : RecordsMut} {d : ℕ} → Probes v.work.now v.sizes.rows kind count test b (Err d) → SlotTaken m w kind count b d → TakesSlot m w kind count test b None
  takes_none {d = d} P T = record { stays = T.stays; told = (d, told_of P, T.is) }

-- ---- what the search found

module _ {A : Type 0} {k : ℕ} {column : ℕ → ℕ} {kind count : ℕ} {test : ℕ → Bool → Type 0} {b : ℕ} (key : ℕ → A) (x : A) (decides : (n : ℕ) (r : Bool) → n < count → test n r → Decides r (key n ≡ x)) where
  -- a record that was met has the key that is looked for
  pub met_equal : {n : ℕ} → Met k column kind count test b n → key n ≡ x
  met_equal {n} M = (decides n true M.below M.is).of_true refl

  module _ {d : ℕ} (U : Unmet k column kind count test b d) {home : A → ℕ} (from : 0 < k → b ≡ home x) (n : ℕ) (equal : key n ≡ x) (R : Reached home k column kind count key n) where
    -- the slot from which the record n is reached
    start_is : b ≡ home (key n)
    start_is = from (omega (arith, R.near)) ∙ ap home (sym equal)

    -- it is not among the slots that were passed
    not_passed : R.distance < d → ⊥
    not_passed l =
        let D = decides R.number false R.below (U.passed.other R.distance R.number l R.below (rw start_is R.holds)) in
        true≢false (sym (D.true_of (R.equal ∙ equal)))

    -- where none was met, no record that is reached has the key
    pub unmet_none : ⊥
    unmet_none = go (dec_lt R.distance d) (ℕ_discrete R.distance d)
      where
        go : Dec (R.distance < d) → Dec (R.distance ≡ d) → ⊥
        go (yes l) g = not_passed l
        go (no l) (yes g) = code_some R.number kind (sym R.holds ∙ rw (← start_is, g) (U.empty.empty (omega (arith, R.near))))
        go (no l) (no g) = R.path d (omega arith) (rw (← start_is) (U.empty.empty (omega (arith, R.near))))

-- the home of a record, by the records as they are read
pub home_viewed : (m : RecordsMut) (v : Records) {o b : ℕ} → Viewed m v → Home v.file.now v.work.now v.sizes.rows o b → Home m.file.now m.work.now m.sizes.rows o b
home_viewed m v V H = rw (V.file_is, V.work_is, V.sizes_are) at H

-- ---- a slot, by its number

module _ (work : List ℕ) (k : ℕ) {column s t : ℕ} (c : column ≡ hash) (e : s ≡ t) where
  -- what was read in it
  pub slot_read : {v : ℕ} → v ≡ cell work k column s → v ≡ cell work k hash t
  slot_read q = q ∙ (λ i. cell work k (c i) (e i))

  -- what is stored in it
  pub slot_stored : (v : ℕ) {work' : List ℕ} → work' ≡ store work k column s v → work' ≡ store work k hash t v
  slot_stored v q = q ∙ (λ i. store work k (c i) (e i) v)

-- what was taken is stored in the first empty slot
pub taken_stored : {work work' : List ℕ} {k b d v : ℕ} → FirstEmpty k (cell work k hash) b d → (0 < k → b < k) → 0 < empties (cell work k hash) k → work' ≡ store work k hash (slot k b d) v → Stored work work' k b v
taken_stored {k = k} F inside p e =
    let l = inside (empties_some _ k p) in
    record { inside = l; distance = _; near = empty_near l p F; first = F; is = e }
