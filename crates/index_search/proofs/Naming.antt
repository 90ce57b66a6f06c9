-- The search for a name, from its home.
-- Assumes nothing.
use mathlib.Core.Path.{◌≡◌, sym, ◌∙◌}
use Prim.Native.Nat.{ℕ, ◌<◌}
use native.Mathlib.Omega.{arith}
use mathlib.Core.Bool.{Bool}
use mathlib.Core.List.{List, []}
use lib.Dec.{eqb}
use lib.ListN.{get_or}
use lib.Pointwise.{pointwise, bytes_decides}
use Rattle.std.specs.Result.{result_ok}
use Rattle.std.specs.Prelude.{Result, Ok, Err, Option, Some, None}
use Rattle.script_spec.specs.Base.{Bytes}
use Rattle.script_spec.specs.File.{TermFile, enums}
use Rattle.index.specs.Cells.{cell, enum_offset, hash}
use Rattle.index.specs.Names.{key_of, name_home, enum_name}
use Rattle.index.specs.Meaning.{SizesOf}
use Rattle.index.specs.declared.Sizes.{Sizes}
use Rattle.index.specs.declared.Records.{Records}
use Rattle.index.specs.declared.RecordsMut.{RecordsMut}
use Rattle.index.proofs.Growth.{counts_fewer}
use Rattle.index_compare.specs.View.{Decides}
use Rattle.check_rules.specs.Enums.{NameAt}
use Rattle.index_search.specs.Storing.{NameHome}
use Rattle.index_search.specs.Probed.{Viewed, Met, Unmet, Probes, TakesSlot}
use Rattle.index_search.specs.Named.{EnumRows, IsNamed, HitNamed, MissNamed, EnrolsNamed}
use Rattle.index_search.specs.Enums.{FindsEnum}
use Rattle.index_search.proofs.Probing.{met_equal, unmet_none, taken_stored}
use Rattle.index_search.proofs.EnumLaws.{enum_rows, hit_place, miss_place}

-- ---- one enum

-- the name that was read, compared
pub named_at : {file : Bytes} {work : List ℕ} {k n p : ℕ} {s name : Bytes} {r : Bool} → p ≡ cell work k enum_offset n → NameAt file p s → r ≡ pointwise eqb s name → IsNamed file work k n name r
unfolding enum_name
named_at {n = n} {s = s} {name = name} row N e =
    let test = bytes_decides s name in
    record {
      go = λ f I l.
          let q : s ≡ enum_name f n = N.go (get_or (enums f) n ([], [])).0 (get_or (enums f) n ([], [])).1 (rw row (I.row n l).stands) in
          record { true_of = λ h. e ∙ test.1 (q ∙ h); of_true = λ t. sym q ∙ test.0 (sym e ∙ t) };
    }

-- the test of an enum by its number
abbrev HasName : Bytes → List ℕ → ℕ → Bytes → ℕ → Bool → Type 0
HasName file work rows name n r = IsNamed file work rows n name r

-- what was taken, by the records as they are read
pub named_viewed : {m w : RecordsMut} {v : Records} {name : Bytes} {kind count b : ℕ} {r : Option ℕ} → Viewed m v → TakesSlot m w kind count (HasName v.file.now v.work.now v.sizes.rows name) b r → TakesSlot m w kind count (HasName m.file.now m.work.now m.sizes.rows name) b r
named_viewed V T = rw (V.file_is, V.work_is, V.sizes_are) at T

-- ---- the search

module _ (file : Bytes) (work : List ℕ) (sizes : Sizes) {name : Bytes} {b : ℕ} (H : NameHome (key_of work sizes.rows) sizes.rows name b) (f : TermFile) (I : EnumRows file f work sizes.rows) (c : SizesOf f sizes) where
  abbrev test : ℕ → Bool → Type 0
  test = HasName file work sizes.rows name

  decides : (n : ℕ) (r : Bool) → n < sizes.enums → test n r → Decides r (enum_name f n ≡ name)
  decides n r l t = t.go f I (omega (arith, c.enums_are))

  named_hit : {n : ℕ} → Met sizes.rows (cell work sizes.rows hash) 3 sizes.enums test b n → HitNamed f sizes.enums name n
  named_hit M = record { below = M.below; equal = met_equal (enum_name f) name decides M }

  named_miss : {d : ℕ} → Unmet sizes.rows (cell work sizes.rows hash) 3 sizes.enums test b d → MissNamed f sizes.enums name
  named_miss U = record { none = λ n l q. unmet_none (enum_name f) name decides U {home = name_home (key_of work sizes.rows) sizes.rows} H.is n q (rw c.enums_are (I.names.reached n (omega (arith, c.enums_are)))) }

pub name_found : (file : Bytes) {work : List ℕ} (sizes : Sizes) {name : Bytes} {b : ℕ} {o : Option ℕ} → NameHome (key_of work sizes.rows) sizes.rows name b → (r : Result ℕ ℕ) → Probes work sizes.rows 3 sizes.enums (HasName file work sizes.rows name) b r → o ≡ result_ok r
    → FindsEnum file work sizes name o
name_found file {work} sizes H (Ok n) P e = record { go = λ f I c. rw e (hit_place I c (named_hit file work sizes H f I c P.told)) }
name_found file {work} sizes H (Err d) P e = record { go = λ f I c. rw e (miss_place I c (named_miss file work sizes H f I c P.told)) }

pub name_enrolled : (v : RecordsMut) {w : RecordsMut} {name : Bytes} {b : ℕ} → NameHome (key_of v.work.now v.sizes.rows) v.sizes.rows name b → (r : Option ℕ) → TakesSlot v w 3 v.sizes.enums (HasName v.file.now v.work.now v.sizes.rows name) b r → EnrolsNamed v w name r
name_enrolled v H (Some n) E = record { stays = E.stays; go = λ f I c room. record { hit = named_hit v.file.now v.work.now v.sizes H f (enum_rows I.index) c E.told.0; unchanged = E.told.1 } }
name_enrolled v H None E =
    record {
      stays = E.stays;
      go = λ f I c room.
          let U = E.told.1 in
          record {
            miss = named_miss v.file.now v.work.now v.sizes H f (enum_rows I.index) c U;
            stored = rw (H.is (omega arith)) at (taken_stored U.empty H.inside (omega (arith, I.searchable.taken)) (E.told.2 (omega (arith, I.searchable.small, (counts_fewer f).enums_fewer, c.enums_are))));
          };
    }
