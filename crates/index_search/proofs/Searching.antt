-- The search for an equal record, from the home of what is looked for, which is no set.
-- Assumes nothing.
use mathlib.Core.Path.{◌≡◌, refl, ◌∙◌}
use mathlib.Core.Logic.{inl, inr}
use Prim.Native.Nat.{ℕ, ◌<◌}
use mathlib.Core.Bool.{Bool}
use mathlib.Core.List.{List}
use Rattle.script_spec.specs.Base.{Bytes}
use Rattle.script_spec.specs.Fields.{Entry}
use Rattle.script_spec.specs.File.{TermFile}
use Rattle.std.specs.Prelude.{Option, Some, None}
use Rattle.index.specs.Cells.{cell}
use Rattle.index.specs.Names.{key_of}
use Rattle.index.specs.First.{canonical}
use Rattle.index.specs.declared.Records.{Records}
use Rattle.index.specs.declared.RecordsMut.{RecordsMut}
use Rattle.index_compare.specs.View.{Decides}
use Rattle.index_search.specs.Slots.{home_of}
use Rattle.index_search.specs.Storing.{Home}
use Rattle.index_search.specs.Sets.{SetAt}
use Rattle.index_search.specs.Probed.{Viewed, TakesSlot}
use Rattle.index_search.specs.Found.{SameAt, LooksFor, EnrolsIn}
use Rattle.index_search.proofs.Ring.{empties_some}
use Rattle.index_search.proofs.Probing.{met_equal, unmet_none, taken_stored}

-- the test of a record by its number: whether it is equal to the one at an offset
abbrev EqualTo : Bytes → List ℕ → ℕ → ℕ → ℕ → ℕ → Bool → Type 0
EqualTo file work rows offsets o n r = SameAt file work rows (cell work rows offsets n) o r

-- what was taken, by the records as they are read
pub equal_viewed : {m w : RecordsMut} {v : Records} (offsets o : ℕ) {kind count b : ℕ} {r : Option ℕ} → Viewed m v → TakesSlot m w kind count (EqualTo v.file.now v.work.now v.sizes.rows offsets o) b r → TakesSlot m w kind count (EqualTo m.file.now m.work.now m.sizes.rows offsets o) b r
equal_viewed offsets o V T = rw (V.file_is, V.work_is, V.sizes_are) at T

module _ (v : RecordsMut) (offsets o : ℕ) (no_set : SetAt v.file.now o None) {b : ℕ} (H : Home v.file.now v.work.now v.sizes.rows o b) where
  abbrev test : ℕ → Bool → Type 0
  test = EqualTo v.file.now v.work.now v.sizes.rows offsets o

  module _ {kind count : ℕ} {f : TermFile} {x : Entry} {ε : ℕ → Entry} (L : LooksFor v.file.now v.work.now v.sizes.rows offsets kind count o f x ε) where
    home_is : 0 < v.sizes.rows → b ≡ home_of (key_of v.work.now v.sizes.rows) v.sizes.rows (canonical f x)
    home_is = H.is f x L.index L.sought.reads (no_set.go x L.sought.reads) L.sought.in_range

    decides : (n : ℕ) (r : Bool) → n < count → test n r → Decides r (canonical f (ε n) ≡ canonical f x)
    decides n r l t = t.go f L.index (ε n) x (L.stand n l) L.sought (no_set.go x L.sought.reads)

  -- an equal record was met
  pub enrolled_old : {w : RecordsMut} {kind count n m firsts : ℕ} → TakesSlot v w kind count test b (Some n) → m ≡ cell w.work.now w.sizes.rows firsts n → EnrolsIn v w offsets firsts kind count o m
  enrolled_old {n = n} T e =
      record {
        stays = T.stays;
        enrols = record {
          go = λ f x ε L few room.
              record { told = inl (record { hit = record { number = n; below = T.told.0.below; equal = met_equal (λ i. canonical f (ε i)) (canonical f x) (decides L) T.told.0; is = e ∙ rw (T.stays.sizes_are, T.told.1) }; unchanged = T.told.1 }) };
        };
      }

  -- none was met
  pub enrolled_new : {w : RecordsMut} {kind count firsts : ℕ} → TakesSlot v w kind count test b None → EnrolsIn v w offsets firsts kind count o count
  enrolled_new T =
      record {
        stays = T.stays;
        enrols = record {
          go = λ f x ε L few room.
              let U = T.told.1 in
              record {
                told = inr
                    (record {
                      miss = record { none = λ n l q. unmet_none (λ i. canonical f (ε i)) (canonical f x) (decides L) U (home_is L) n q (L.reached n l); is = refl };
                      stored = rw (home_is L (empties_some _ v.sizes.rows room)) at (taken_stored U.empty H.inside room (T.told.2 few));
                    });
              };
        };
      }
