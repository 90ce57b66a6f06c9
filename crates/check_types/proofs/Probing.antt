-- The search for the type of a term, from its home.
-- Assumes nothing.
use mathlib.Core.Path.{◌≡◌, refl, sym, ap, ◌∙◌}
use mathlib.Core.Option.{some}
use Rattle.std.specs.Prelude.{Result, Ok, Err, Some, None}
use Prim.Native.Nat.{ℕ, ◌<◌}
use native.Mathlib.Omega.{arith}
use mathlib.Core.Bool.{Bool}
use mathlib.Core.List.{List}
use lib.ListN.{length}
use Rattle.std.specs.Result.{result_ok}
use Rattle.script_spec.specs.Base.{Bytes, place}
use Rattle.script_spec.specs.Tree.{TypeMark, eq_ty}
use Rattle.script_spec.specs.Fields.{type}
use Rattle.script_spec.specs.File as record-file
use Rattle.script_spec.specs.File.{TermFile, types, named, earlier}
use Rattle.index.proofs.Later.{below_more}
use Rattle.index.specs.Cells.{cell, type_offset, type_first}
use Rattle.index.specs.First.{canonical, first_type, Below, InRange}
use Rattle.index.specs.Rules.{listed, type_named}
use Rattle.index.specs.Meaning.{counted, Rows}
use Rattle.index.proofs.Rules.{OnlyTypes}
use Rattle.index.proofs.Canonical.{canonical_equal, canonical_injective}
use Rattle.index.proofs.Search.{Searched, types_searched}
use Rattle.index_entry.proofs.Rows.{type_stands}
use Rattle.index_compare.specs.View.{Decides}
use Rattle.index_compare.proofs.Compared.{Same}
use Rattle.index_search.specs.Slots.{entries}
use Rattle.index_search.specs.Probed.{Probes}
use Rattle.index_search.proofs.Probing.{met_equal, unmet_none}
use Rattle.index_search.proofs.Numbers.{entries_read, type_at_lem}
use Rattle.check_types.specs.declared.Sought.{Sought}
use Rattle.check_types.specs.Sought.{Wanted, SameType}
use Rattle.check_types.specs.Probed.{TypeHome, LooksForType, ListedSought}
use Rattle.check_types.proofs.Same.{type_value, seeks_below, decides_same}

-- ---- one type

-- types are equal exactly where their canonical entries are
same_canonical : (f : TermFile) (t u : TypeMark) (rs ss : List ℕ) → Below (length (types f)) rs → Below (length (types f)) ss
    → Same (canonical f (type t rs) ≡ canonical f (type u ss)) (type_named f (listed t rs) ≡ type_named f (listed u ss))
unfolding type_named named InRange earlier OnlyTypes
same_canonical f t u rs ss b b' =
    record {
      to = λ e. type_value (canonical_injective f (type t rs) (type u ss) b b' tt tt e);
      from = λ e. canonical_equal f (type t rs) (type u ss) (ap record-file.type e);
    }

-- the test of a type by its number: whether it is the one of each term by which this is sought
abbrev IsSought : Bytes → List ℕ → ℕ → Sought → ℕ → Bool → Type 0
IsSought file work rows s n r = (o : ℕ) → Wanted file work rows o s → SameType file work rows (cell work rows type_offset n) o r

module _ {file : Bytes} {work : List ℕ} {k count o : ℕ} {s : Sought} (W : Wanted file work k o s) {f : TermFile} {t : TypeMark} {ps : List ℕ} (L : LooksForType file work k count o f t ps) where
  -- the type n is the one that is sought
  decides : (n : ℕ) (r : Bool) → n < count → IsSought file work k s n r → Decides r (canonical f (entries file work k type_offset n) ≡ canonical f (type t ps))
  unfolding counted
  decides n r below x =
      let S = L.seeks in
      let h : n < length (types f) = omega (arith, L.count_is) in
      type_stands (S.index.type_row n h).stands
      (λ m rs reads b names.
      let b' = below_more _ _ (omega arith) rs b in
      rw (entries_read file work k type_offset n reads) (decides_same (same_canonical f m t rs ps b' (seeks_below S)) ((x o W).go f t ps S m rs reads b')))

-- ---- the number that was found

rows_searched : {file : Bytes} {f : TermFile} {work : List ℕ} {k : ℕ} → Rows file f work k
    → Searched f record-file.type (length (types f)) (first_type f) (λ t. place (eq_ty t) (types f)) (entries file work k type_offset)
rows_searched {file} {f} {work} {k} I =
    types_searched f (entries file work k type_offset)
    (record {
      in_range = λ n h. (type_at_lem I n h).in_range;
      names = λ n h. ap (named f) (entries_read file work k type_offset n (I.type_row n h).stands.reads) ∙ (I.type_row n h).stands.names;
    })

-- ---- the search

module _ {file : Bytes} {work : List ℕ} {k count o b : ℕ} {s : Sought} (W : Wanted file work k o s) (H : TypeHome file work k o b) where
  -- a type was met
  pub type_found : (r : Result ℕ ℕ) {n w : ℕ} → Probes work k 0 count (IsSought file work k s) b r → result_ok r ≡ Some n → w ≡ cell work k type_first n → ListedSought file work k count o (Some w)
  unfolding type_named named InRange earlier
  type_found (Err d) P e q = let z : ⊥ = cc in absurd z
  type_found (Ok m) {n} P e q =
      let same : m ≡ n = cc in
      record {
        go = λ f t ps L.
            let I = L.seeks.index in
            let l : m < length (types f) = omega (arith, P.told.below, L.count_is) in
            ap some (q ∙ ap (cell work k type_first) (sym same) ∙ (I.type_row m l).first)
            ∙ sym ((rows_searched I).found (type t ps) (type_named f (listed t ps)) (seeks_below L.seeks) refl m l (met_equal (λ m. canonical f (entries file work k type_offset m)) (canonical f (type t ps)) (decides W L) P.told));
      }

  -- none was met
  pub type_missed : (r : Result ℕ ℕ) → Probes work k 0 count (IsSought file work k s) b r → result_ok r ≡ None → ListedSought file work k count o None
  unfolding type_named named InRange earlier
  type_missed (Ok m) P e = let z : ⊥ = cc in absurd z
  type_missed (Err d) P e =
      record {
        go = λ f t ps L.
            sym
            ((rows_searched L.seeks.index).absent (type t ps) (type_named f (listed t ps)) refl
            (λ n l q.
            let g : n < count = omega (arith, L.count_is) in
            unmet_none (λ m. canonical f (entries file work k type_offset m)) (canonical f (type t ps)) (decides W L) P.told (H.go f t ps L.seeks) n q (L.reached n g)));
      }
