-- Notes are made at empty entries, so that no two are of equal numbers, and clearing them in the other order brings the memory back.
-- Assumes nothing.
use mathlib.Core.Path.{◌≡◌, refl, sym, ap, ◌∙◌}
use Prim.Native.Nat.{ℕ, zero, suc, ◌+◌, ◌*◌, ◌-◌, ◌/◌, ◌≤◌, ◌<◌}
use native.Mathlib.Nat.{div-add-mod', mod-lt}
use native.Mathlib.Decide.{ℕ_discrete, dec_lt}
use native.Mathlib.Numerals.{add-one}
use native.Mathlib.Omega.{arith}
use mathlib.Core.Bool.{Bool, true, false}
use mathlib.Core.List.{List, [], ◌∷◌}
use borrow.Author.Count.{below_more}
use lib.ListN.{length, get_or, set, length-set}
use Rattle.script_spec.specs.Base.{Bytes}
use Rattle.script_spec.proofs.Laws.{never}
use Rattle.index.specs.Cells.{placed, offset, cell, store, term_first, note, Apart}
use Rattle.index.proofs.Cells.{shared, length_store, cell_store_same, cell_store_apart}
use Rattle.check_rules.specs.Repeats.{ref_at, first_at, noted, Noted, Stops, narrow, past, there, Notes, Clears, Repeated, Different, SameEarlier, Tells}
use Rattle.std.specs.Prelude.{Some, None}
use Rattle.index.specs.Held.{Becomes}
use Rattle.index.specs.declared.Records.{Records}
use Rattle.index.specs.declared.Sizes.{Sizes}
use Rattle.index.specs.declared.RecordsMut.{RecordsMut}
use Rattle.check_rules.proofs.Held.{becomes_same, becomes_then}

-- ---- a store that is undone

set_undone : (l : List ℕ) (n v : ℕ) → get_or l n 0 ≡ 0 → set (set l n v) n 0 ≡ l
set_undone [] n v h = refl
set_undone (x ∷ l) zero v h = ap (λ (y : ℕ). y ∷ l) (sym h)
set_undone (x ∷ l) (suc n) v h = ap (λ (m : List ℕ). x ∷ m) (set_undone l n v h)

store_undone : (work : List ℕ) (k column i v : ℕ) → cell work k column i ≡ 0 → store (store work k column i v) k column i 0 ≡ work
unfolding store cell
store_undone work k column i v h = rw length-set (set_undone work (offset (length work) k column i) v h)

-- ---- notes

lower : (i n : ℕ) → i < suc n → (i ≡ n → ⊥) → i < n
lower i n l h = go (ℕ_discrete i n)
  where
    go : Dec (i ≡ n) → i < n
    go (yes e) = absurd (h e)
    go (no e) = omega arith

-- m is one of the first n of some numbers
pub record Among (φ : ℕ → ℕ) (n m : ℕ) : Type 0 where
  pub index : ℕ
  pub below : index < n
  pub is : φ index ≡ m

module _ (work : List ℕ) (k : ℕ) (φ : ℕ → ℕ) where
  pub noted_length : (n : ℕ) → length (noted work k φ n) ≡ length work
  unfolding noted
  noted_length zero = refl
  noted_length (suc n) = length_store (noted work k φ n) k note (φ n) (suc n) ∙ noted_length n

  -- entries apart from the notes are as they were
  pub noted_apart : (n column j : ℕ) → ((i : ℕ) → i < n → Apart k note (φ i) column j) → cell (noted work k φ n) k column j ≡ cell work k column j
  unfolding noted
  noted_apart zero column j h = refl
  noted_apart (suc n) column j h = cell_store_apart (noted work k φ n) k note (φ n) (suc n) column j (h n (omega arith)) ∙ noted_apart n column j (λ i l. h i (omega arith))

  -- so are other columns
  pub noted_other : (n column j : ℕ) → (note ≡ column → ⊥) → (shared note ≡ column → ⊥) → cell (noted work k φ n) k column j ≡ cell work k column j
  noted_other n column j h g = noted_apart n column j (λ i l. record { other = λ e q. h e; facing = λ e q. g e })

  -- and the note of a number that is none of them
  pub noted_not : (n m : ℕ) → ((i : ℕ) → i < n → φ i ≡ m → ⊥) → cell (noted work k φ n) k note m ≡ cell work k note m
  unfolding shared placed
  noted_not n m h = noted_apart n note m (λ i l. record { other = λ a b. h i l b; facing = λ a b. omega arith })

  -- a number that has a note and had none is one of them
  pub noted_from : (n m : ℕ) → cell work k note m ≡ 0 → (cell (noted work k φ n) k note m ≡ 0 → ⊥) → Among φ n m
  unfolding noted shared placed
  noted_from zero m z h = absurd (h z)
  noted_from (suc n) m z h = go (ℕ_discrete (φ n) m) (noted_from n m z)
    where
      go : Dec (φ n ≡ m) → ((cell (noted work k φ n) k note m ≡ 0 → ⊥) → Among φ n m) → Among φ (suc n) m
      go (yes e) earlier = record { index = n; below = omega arith; is = e }
      go (no e) earlier =
          let A = earlier (λ q. h (cell_store_apart (noted work k φ n) k note (φ n) (suc n) note m (record { other = λ a b. e b; facing = λ a b. omega arith }) ∙ q)) in
          record { index = A.index; below = omega (arith, A.below); is = A.is }

  -- a number that was noted has a note
  module _ (fits : 12 * k ≤ length work) where
    pub has_note : (i n : ℕ) → i < n → ((j : ℕ) → j < n → φ j < k) → cell (noted work k φ n) k note (φ i) ≡ 0 → ⊥
    unfolding noted shared placed
    has_note i zero l below e = absurd (omega arith)
    has_note i (suc n) l below e = go (ℕ_discrete (φ n) (φ i)) (λ m. has_note i n m (λ j p. below j (omega arith)))
      where
        here : cell (store (noted work k φ n) k note (φ n) (suc n)) k note (φ n) ≡ suc n
        here = cell_store_same (noted work k φ n) k note (φ n) (suc n) (record { fits = rw (noted_length n) fits; column_is = omega arith; index_is = below n (omega arith) })

        go : Dec (φ n ≡ φ i) → (i < n → cell (noted work k φ n) k note (φ i) ≡ 0 → ⊥) → ⊥
        go (yes q) less = let z : suc n ≡ 0 = sym here ∙ rw (← q) at e in omega arith
        go (no q) less =
            less (lower i n l (λ p. q (ap φ (sym p))))
            (sym (cell_store_apart (noted work k φ n) k note (φ n) (suc n) note (φ i) (record { other = λ a b. q b; facing = λ a b. omega arith })) ∙ e)

-- no two numbers that were noted are equal
pub noted_different : {work work' : List ℕ} {k : ℕ} {φ : ℕ → ℕ} {n : ℕ} → Noted work work' k φ n → Different φ n
noted_different {work} {k = k} {φ} {n} N =
    record {
      go = λ R.
          has_note work k φ (N.fits (omega (arith, R.below))) R.first R.second R.ordered (λ j l. N.below j (omega (arith, R.below)))
          (ap (cell (noted work k φ R.second) k note) R.equal ∙ N.free R.second R.below);
    }

-- what is read of the references is as it was
pub first_noted : (body : Bytes) (work : List ℕ) (k from : ℕ) (φ : ℕ → ℕ) (n i : ℕ) → first_at body (noted work k φ n) k from i ≡ first_at body work k from i
unfolding first_at shared placed
first_noted body work k from φ n i = noted_other work k φ n term_first (ref_at body from i) (λ e. omega arith) (λ e. omega arith)

-- ---- noting

-- what a view shows of records
abbrev pub Views : Records → RecordsMut → Type 0
Views x v = (x.file.now ≡ v.file.now) × (x.work.now ≡ v.work.now) × (x.sizes ≡ v.sizes)

-- a first equal number that is read by a view
viewed : (body : Bytes) (x : Records) (v : RecordsMut) → Views x v → (from i : ℕ) → first_at body x.work.now x.sizes.rows from i ≡ first_at body v.work.now v.sizes.rows from i
viewed body x v h from i = ap (λ (w : List ℕ). first_at body w x.sizes.rows from i) h.1 ∙ ap (λ (z : Sizes). first_at body v.work.now z.rows from i) h.2

module _ (body : Bytes) (v : RecordsMut) (from count : ℕ) where
  -- some references are noted, and the memory has the column
  pub record Noting (w : RecordsMut) (i : ℕ) : Type 0 where
    pub becomes : Becomes v w w.work.now
    pub has : 12 * v.sizes.rows ≤ length v.work.now
    pub most : i ≤ count
    pub notes : Noted v.work.now w.work.now v.sizes.rows (first_at body v.work.now v.sizes.rows from) i

module _ {body : Bytes} {v : RecordsMut} {from count : ℕ} where
  pub none_noted : length v.work.now / 12 < v.sizes.rows → Notes body v v from count 0
  unfolding noted
  none_noted h =
      record {
        most = omega arith;
        becomes = becomes_same;
        notes = record { is = refl; fits = λ h. absurd (omega arith); below = λ i l. absurd (omega arith); free = λ i l. absurd (omega arith) };
        stops = λ l. narrow (let p : 0 < 12 = omega arith in omega (arith, h, div-add-mod' (length v.work.now) 12, mod-lt (length v.work.now) p));
      }

  pub noting_start : v.sizes.rows ≤ length v.work.now / 12 → Noting body v from count v 0
  unfolding noted
  noting_start h =
      record {
        becomes = becomes_same;
        has = let p : 0 < 12 = omega arith in omega (arith, div-add-mod' (length v.work.now) 12, mod-lt (length v.work.now) p);
        most = omega arith;
        notes = record { is = refl; fits = λ h. absurd (omega arith); below = λ i l. absurd (omega arith); free = λ i l. absurd (omega arith) };
      }

  module _ {w : RecordsMut} {i : ℕ} (N : Noting body v from count w i) where
    rows : w.sizes.rows ≡ v.sizes.rows
    rows = ap (λ (z : Sizes). z.rows) N.becomes.sizes_are

    -- the first equal number that is read in front of the reference i
    noting_reads : (x : Records) {f : ℕ} → Views x w → f ≡ first_at body x.work.now x.sizes.rows from i → f ≡ first_at body v.work.now v.sizes.rows from i
    noting_reads x V e =
        let φ = first_at body v.work.now v.sizes.rows from in
        e ∙ viewed body x w V from i ∙ ap (λ (m : ℕ). first_at body w.work.now m from i) rows ∙ ap (λ (w : List ℕ). first_at body w v.sizes.rows from i) N.notes.is ∙ first_noted body v.work.now v.sizes.rows from φ i i

    noting_stop : (i < count → Stops w.work.now v.sizes.rows (first_at body v.work.now v.sizes.rows from i)) → Notes body v w from count i
    noting_stop h = record { most = N.most; becomes = N.becomes; notes = N.notes; stops = h }

    pub noting_all : {n : ℕ} → i ≡ n → n ≡ count → Notes body v w from count n
    noting_all e q = rw (← e) (noting_stop (λ l. absurd (omega arith)))

    module _ (x : Records) {f : ℕ} (V : Views x w) (e : f ≡ first_at body x.work.now x.sizes.rows from i) where
      pub noting_past : v.sizes.rows ≤ f → Notes body v w from count i
      noting_past g = noting_stop (λ l. past (rw (noting_reads x V e) at g))

      pub noting_there : {n : ℕ} → n ≡ cell w.work.now w.sizes.rows note f → (n ≡ 0 → ⊥) → Notes body v w from count i
      noting_there q z = noting_stop (λ l. there (λ t. z (q ∙ ap (λ (m : ℕ). cell w.work.now m note f) rows ∙ ap (cell w.work.now v.sizes.rows note) (noting_reads x V e) ∙ t)))

    pub noting_more : (x : Records) {f n : ℕ} {u : RecordsMut} → i < count → Views x w → f ≡ first_at body x.work.now x.sizes.rows from i → f < v.sizes.rows → n ≡ cell w.work.now w.sizes.rows note f → n ≡ 0 → Becomes w u (store w.work.now w.sizes.rows note f (i + 1))
        → Noting body v from count u (i + 1)
    unfolding noted
    noting_more x {f} {n} {u} l V e g q z s =
        let work = v.work.now in
        let k = v.sizes.rows in
        let φ = first_at body work k from in
        let same : f ≡ φ i = noting_reads x V e in
        let empty : n ≡ cell w.work.now k note f = q ∙ ap (λ (m : ℕ). cell w.work.now m note f) rows in
        let is : u.work.now ≡ store w.work.now k note f (i + 1) = s.memory ∙ ap (λ (m : ℕ). store w.work.now m note f (i + 1)) rows in
        record {
          becomes = becomes_then N.becomes (record { file_is = s.file_is; sizes_are = s.sizes_are; lent = s.lent; memory = refl });
          has = N.has;
          most = omega arith;
          notes =
              rw (add-one i)
              (record {
                is = is ∙ ap (λ (w : List ℕ). store w k note f (i + 1)) N.notes.is ∙ rw (same, add-one i);
                fits = λ h. N.has;
                below = λ j m. below_more (λ j. φ j < k) i N.notes.below (rw (← same) g) j (omega arith);
                free = λ j m. below_more (λ j. cell (noted work k φ j) k note (φ j) ≡ 0) i N.notes.free (rw (← N.notes.is, ← same) (sym empty ∙ z)) j (omega arith);
              });
        }

  -- where the memory has the column, each number has a row and no note, and no two are equal, all are noted
  pub all_noted : {w : RecordsMut} {n : ℕ} → Notes body v w from count n → 12 * v.sizes.rows ≤ length v.work.now → ((i : ℕ) → i < count → first_at body v.work.now v.sizes.rows from i < v.sizes.rows) → Different (first_at body v.work.now v.sizes.rows from) count
      → ((i : ℕ) → i < count → cell v.work.now v.sizes.rows note (first_at body v.work.now v.sizes.rows from i) ≡ 0) → n ≡ count
  all_noted {w} {n} N fits below D free = go (dec_lt n count)
    where
      φ : ℕ → ℕ
      φ = first_at body v.work.now v.sizes.rows from

      never_stops : n < count → Stops w.work.now v.sizes.rows (φ n) → n ≡ count
      never_stops l (narrow h) = absurd (omega (arith, ap length N.notes.is, noted_length v.work.now v.sizes.rows φ n))
      never_stops l (past h) = absurd (omega (arith, below n l))
      never_stops l (there h) =
          absurd (h (ap (λ (w : List ℕ). cell w v.sizes.rows note (φ n)) N.notes.is
          ∙ noted_not v.work.now v.sizes.rows φ n (φ n) (λ i m e. D.go (record { first = i; second = n; ordered = m; below = l; equal = e }))
          ∙ free n l))

      go : Dec (n < count) → n ≡ count
      go (yes l) = never_stops l (N.stops l)
      go (no l) = omega (arith, N.most)

-- ---- clearing

-- the notes from the reference i on are cleared
pub record Clearing (body : Bytes) (v w : RecordsMut) (from n i : ℕ) : Type 0 where
  pub becomes : Becomes v w w.work.now
  pub most : i ≤ n
  pub go : (work₀ : List ℕ) → Noted work₀ v.work.now v.sizes.rows (first_at body work₀ v.sizes.rows from) n → w.work.now ≡ noted work₀ v.sizes.rows (first_at body work₀ v.sizes.rows from) i

module _ {body : Bytes} {v : RecordsMut} {from n : ℕ} where
  pub clearing_start : {i : ℕ} → i ≡ n → Clearing body v v from n i
  clearing_start e = rw e (record { becomes = becomes_same; most = omega arith; go = λ work₀ N. N.is })

  module _ {w : RecordsMut} {i : ℕ} (C : Clearing body v w from n i) where
    pub clearing_end : i ≡ 0 → Clears body v w from n
    unfolding noted
    clearing_end z = record { becomes = C.becomes; go = λ work₀ N. C.go work₀ N ∙ rw z }

    pub clearing_more : (x : Records) {f j : ℕ} {u : RecordsMut} → i ≡ suc j → Views x w → f ≡ first_at body x.work.now x.sizes.rows from j → Becomes w u (store w.work.now w.sizes.rows note f 0) → Clearing body v u from n j
    unfolding noted
    clearing_more x {f} {j} {u} z V e s =
        let k = v.sizes.rows in
        let rows : w.sizes.rows ≡ k = ap (λ (z : Sizes). z.rows) C.becomes.sizes_are in
        let read : f ≡ first_at body w.work.now k from j = e ∙ viewed body x w V from j ∙ ap (λ (m : ℕ). first_at body w.work.now m from j) rows in
        let stored : u.work.now ≡ store w.work.now k note f 0 = s.memory ∙ ap (λ (m : ℕ). store w.work.now m note f 0) rows in
        record {
          becomes = becomes_then C.becomes (record { file_is = s.file_is; sizes_are = s.sizes_are; lent = s.lent; memory = refl });
          most = omega (arith, C.most);
          go = λ work₀ N.
              let φ = first_at body work₀ k from in
              let is : w.work.now ≡ noted work₀ k φ (suc j) = C.go work₀ N ∙ ap (noted work₀ k φ) z in
              let same : f ≡ φ j = read ∙ ap (λ (w : List ℕ). first_at body w k from j) is ∙ first_noted body work₀ k from φ (suc j) j in
              stored ∙ ap (λ (w : List ℕ). store w k note f 0) is ∙ rw same (store_undone (noted work₀ k φ j) k note (φ j) (suc j) (N.free j (omega (arith, C.most))));
        }

-- ---- answers

module _ {body : Bytes} {work : List ℕ} {k from : ℕ} where
  pub none_earlier : {n : ℕ} → SameEarlier body work k from n false
  none_earlier = record { go = λ t. never cc }

  pub maybe_earlier : {v n a b : ℕ} {r : Bool} → (v ≡ 0 → ⊥) → v ≤ n → a ≡ first_at body work k from (v - 1) → b ≡ first_at body work k from n → (r ≡ true → a ≡ b) → SameEarlier body work k from n r
  maybe_earlier {v} {n} z l e q h = record { go = λ t. record { first = v - 1; second = n; ordered = omega (arith, z); below = omega arith; equal = sym e ∙ h t ∙ q } }

module _ {body : Bytes} {v w u : RecordsMut} {from count n : ℕ} (N : Notes body v w from count n) (C : Clears body w u from n) where
  -- the memory is as it was before the notes
  pub memory_back : Becomes v u v.work.now
  memory_back =
      let b = becomes_then N.becomes C.becomes in
      let noted : Noted v.work.now w.work.now w.sizes.rows (first_at body v.work.now w.sizes.rows from) n = rw (N.becomes.sizes_are) N.notes in
      record { file_is = b.file_is; sizes_are = b.sizes_are; lent = b.lent; memory = C.go v.work.now noted }

  pub repeats_never : n ≡ count → Tells body v u from count (Some false)
  repeats_never e = record { unchanged = memory_back; answer = rw (← e) (noted_different N.notes) }

  pub repeats_unknown : Tells body v u from count None
  repeats_unknown = record { unchanged = memory_back; answer = tt }

  pub repeats_once : (x : Records) {r : Bool} → Views x u → (n ≡ count → ⊥) → SameEarlier body x.work.now x.sizes.rows from n r → r ≡ true → Tells body v u from count (Some true)
  repeats_once x V h E t =
      let R₀ = E.go t in
      let R : Repeated (first_at body v.work.now v.sizes.rows from) (suc n) = rw (V.1, V.2, memory_back.memory, memory_back.sizes_are) at R₀ in
      record { unchanged = memory_back; answer = record { first = R.first; second = R.second; ordered = R.ordered; below = omega (arith, R.below, N.most, h); equal = R.equal } }
