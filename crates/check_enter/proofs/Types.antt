-- A type is entered: the rules by its numbers, and its row.
-- Assumes nothing.
use mathlib.Core.Path.{◌≡◌, refl, sym, ap, ◌∙◌}
use Prim.Native.Nat.{ℕ, suc, ◌+◌, ◌≤◌, ◌<◌, min}
use native.Mathlib.Omega.{arith}
use native.Mathlib.Numerals.{add-one}
use Rattle.std.specs.Prelude.{Ok, Err}
use mathlib.Core.Bool.{Bool, true, false, ◌&&◌}
use lib.Dec.{leb, ltb}
use mathlib.Core.List.{List, [], ◌∷◌, map}
use mathlib.Core.Option.{Option}
use borrow.Author.Tests.{lt-ltb, le-ltb, le-leb, lt-leb}
use lib.ListN.{length}
use Rattle.script_spec.specs.Base.{Bytes, if_some, ascending}
use Rattle.script_spec.specs.Tree.{Ty, node, nil, attributes}
use Rattle.script_spec.specs.File.{TermFile, type, types, rules, broken}
use Rattle.index.specs.Cells.{store, type_offset, type_first, type_depth, type_list}
use Rattle.index.specs.declared.Sizes.{Sizes}
use Rattle.index.specs.declared.RecordsMut.{RecordsMut}
use Rattle.index.proofs.Growth.{counts_fewer}
use Rattle.refusal.specs.Numbers.{number}
use Rattle.refusal.specs.declared.Refusal.TheVariants.{NotAscending, TooMany}
use Rattle.index.specs.Rules.{greatest, limits, rules_by}
use Rattle.index_compare.proofs.Prints.{Octets}
use Rattle.index_compare.specs.View.{viewed, reference_numbers, segments_at}
use Rattle.index_compare.specs.declared.compare.View.TheVariants.{Depth}
use Rattle.index_compare.proofs.Listed.{greatest_type}
use Rattle.check_rules.specs.Records.{TypeAscends}
use Rattle.index_search.specs.Searchable.{Indexed}
use Rattle.index_search.specs.Found.{EnrolsIn}
use Rattle.index_search.proofs.Entered.{indexed_type}
use Rattle.check_enter.specs.Entering.{Enters, StoresType}
use Rattle.check_enter.proofs.Parts.{TypeParts, type_parts, deepest, rules_by_lem, type_depth_is}
use Rattle.check_enter.proofs.FirstBroken.{broken_here, broken_later, none_broken}
use Rattle.check_enter.proofs.Rewritten.{Rewritten, keeps_counted, keeps_same, unchanged, indexed_as, sizes_as, one_more}
use Rattle.check_enter.proofs.Sizes.{sizes_type}

pub type_row_stored : (v : RecordsMut) (o deep : ℕ) {first m : ℕ} {w₀ w : RecordsMut} → EnrolsIn v w₀ type_offset type_first 0 v.sizes.types o first
    → Rewritten v w
    (store (store (store (store w₀.work.now v.sizes.rows type_offset v.sizes.types o) v.sizes.rows type_first v.sizes.types first) v.sizes.rows type_depth v.sizes.types deep) v.sizes.rows type_list v.sizes.types 0)
    → m ≡ min (v.sizes.types + 1) 4294967295
    → StoresType v (record { file = w.file; work = w.work; sizes = record { rows = w.sizes.rows; types = m; funs = w.sizes.funs; terms = w.sizes.terms; enums = w.sizes.enums; inputs = w.sizes.inputs } }) o deep
type_row_stored v o deep E R more =
    record {
      kept = keeps_counted R _ refl;
      go = λ f C room t s d few.
          let c = C.sizes_are in
          record {
            indexed = indexed_as R (rw c.types_are (indexed_type C.indexed room (rw c.types_are at E.enrols) s d few));
            sizes_are = sizes_type (sizes_as R c) t (one_more more (ap (λ (s : Sizes). s.types) R.becomes.sizes_are) (omega (arith, c.types_are, (counts_fewer f).types_fewer, room, C.indexed.searchable.small)));
          };
    }

-- ---- the rules

module _ {file : Bytes} {f : TermFile} {work : List ℕ} {k o : ℕ} {t : Ty} (I : Indexed file f work k) (P : TypeParts file f o t) where
  type_rules : (ty : Option Ty) → rules f ty (type t) ≡ (9, if_some ascending (attributes (node P.m nil))) ∷ (13, ltb (length (types f)) 60000 && leb (suc (deepest work k type_depth P)) 256) ∷ []
  unfolding rules_by limits deepest
  type_rules ty = rules_by_lem I P ty

  -- the depth that the walk over the body gives
  deepest_is : Octets file → greatest (reference_numbers 2 (map (viewed work k Depth) (segments_at file o))) ≡ deepest work k type_depth P
  unfolding deepest
  deepest_is octets = greatest_type file work k o octets P.reads

-- rule 9 of a type
ascends_is : {file : Bytes} {o : ℕ} {b : Bool} → TypeAscends file o b → {f : TermFile} {t : Ty} (P : TypeParts file f o t) → if_some ascending (attributes (node P.m nil)) ≡ b
ascends_is A P = sym (A.go P.m P.rs P.reads)

module _ (v : RecordsMut) (o : ℕ) {b : Bool} (A : TypeAscends v.file.now o b) where
  pub type_unordered : b ≡ false → Enters type v v o (Err NotAscending)
  unfolding number
  type_unordered h = record { kept = keeps_same v; go = λ f C room t s below. let P = type_parts s in record { rule = ap broken (type_rules C.indexed P _) ∙ broken_here 9 _ (ascends_is A P ∙ h); memory = unchanged v } }

  pub type_many : b ≡ true → 60000 ≤ v.sizes.types → Enters type v v o (Err TooMany)
  unfolding number
  type_many h g =
      record {
        kept = keeps_same v;
        go = λ f C room t s below.
            let P = type_parts s in
            record { rule = ap broken (type_rules C.indexed P _) ∙ broken_later 9 _ (ascends_is A P ∙ h) ∙ broken_here 13 _ (rw (← C.sizes_are.types_are, le-ltb v.sizes.types 60000 g)); memory = unchanged v };
      }

  module _ {n : ℕ} (octets : Octets v.file.now) (is : n ≡ greatest (reference_numbers 2 (map (viewed v.work.now v.sizes.rows Depth) (segments_at v.file.now o)))) where
    pub type_deep : b ≡ true → v.sizes.types < 60000 → 255 < n → Enters type v v o (Err TooMany)
    unfolding number
    type_deep h g d =
        record {
          kept = keeps_same v;
          go = λ f C room t s below.
              let P = type_parts s in
              let q : n ≡ deepest v.work.now v.sizes.rows type_depth P = is ∙ deepest_is C.indexed P octets in
              record {
                rule = ap broken (type_rules C.indexed P _) ∙ broken_later 9 _ (ascends_is A P ∙ h) ∙ broken_here 13 _ (rw (← C.sizes_are.types_are, lt-ltb v.sizes.types 60000 g, ← q, lt-leb (suc n) 256 (omega arith)));
                memory = unchanged v;
              };
        }

    pub type_entered : {w : RecordsMut} → b ≡ true → v.sizes.types < 60000 → n ≤ 255 → StoresType v w o (n + 1) → Enters type v w o (Ok tt)
    type_entered h g d S =
        record {
          kept = S.kept;
          go = λ f C room t s below.
              let P = type_parts s in
              let q : n ≡ deepest v.work.now v.sizes.rows type_depth P = is ∙ deepest_is C.indexed P octets in
              record {
                rule = ap broken (type_rules C.indexed P _) ∙ broken_later 9 _ (ascends_is A P ∙ h) ∙ broken_later 13 _ (rw (← C.sizes_are.types_are, lt-ltb v.sizes.types 60000 g, ← q, le-leb (suc n) 256 (omega arith))) ∙ none_broken;
                memory = S.go f C room t s (add-one n ∙ ap suc q ∙ type_depth_is C.indexed P) (omega arith);
              };
        }
