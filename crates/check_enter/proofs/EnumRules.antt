-- An enum is entered: the rules by its members and its name, and its row.
-- Assumes nothing.
use mathlib.Core.Path.{◌≡◌, refl, sym, ap, ◌∙◌}
use Prim.Native.Nat.{ℕ, ◌+◌, min}
use native.Mathlib.Omega.{arith}
use mathlib.Core.Bool.{Bool, true, false, not}
use mathlib.Core.List.{List, [], ◌∷◌}
use mathlib.Core.Option.{Option, some}
use Rattle.std.specs.Prelude as rust
use Rattle.std.specs.Prelude.{Some, None, Ok, Err}
use Rattle.script_spec.specs.Base.{Bytes, is_some, lookup, ascending, empty}
use Rattle.script_spec.specs.Tree.{Ty}
use Rattle.script_spec.specs.Fields.{enum}
use Rattle.script_spec.specs.File.{TermFile, enums, members, earlier, rules, broken}
use Rattle.index.specs.Cells.{store, enum_offset, enum_list}
use Rattle.index.specs.Standing.{entry_at}
use Rattle.index.specs.Meaning.{Stands}
use Rattle.index.specs.declared.Sizes.{Sizes}
use Rattle.index.specs.declared.RecordsMut.{RecordsMut}
use Rattle.index.proofs.Growth.{counts_fewer}
use Rattle.refusal.specs.Numbers.{number}
use Rattle.refusal.specs.declared.Refusal.TheVariants.{NotAscending, NothingGiven, SecondEnum}
use Rattle.index.proofs.Entered.{enum_entry}
use Rattle.check_rules.specs.Enums.{EnumAscends, EnumGiven, NameAt}
use Rattle.index_search.specs.Named.{EnrolsNamed}
use Rattle.index_search.proofs.Lookup.{lookup_named, lookup_unnamed}
use Rattle.index_search.proofs.Entered.{indexed_enum}
use Rattle.check_enter.specs.Entering.{Enters}
use Rattle.check_enter.specs.Enums.{enum_named}
use Rattle.check_enter.proofs.FirstBroken.{broken_here, broken_later, none_broken}
use Rattle.check_enter.proofs.Rewritten.{Rewritten, keeps_counted, keeps_same, keeps_stays, unchanged, indexed_as, sizes_as, one_more}
use Rattle.check_enter.proofs.Sizes.{sizes_enum}

module _ {file : Bytes} {f : TermFile} {o : ℕ} (p : Bytes × List Bytes) (s : Stands file f (earlier f) o (enum_named p)) where
  enum_reads : entry_at file o ≡ some (enum p.0 p.1)
  unfolding enum_named
  enum_reads = s.reads ∙ ap some (enum_entry f s.entry p.0 p.1 s.names)

  -- the rules, by what the tests say
  enum_rules : (ty : Option Ty) {a b c : Bool} → a ≡ ascending p.1 → b ≡ not (empty p.1) → c ≡ is_some (lookup p.0 (enums f)) → broken (rules f ty (enum_named p)) ≡ broken ((9, a) ∷ (10, b) ∷ (11, not c) ∷ [])
  unfolding enum_named rules members
  enum_rules ty e e' e'' = rw (e, e', e'')

module _ (v : RecordsMut) (o : ℕ) {a : Bool} (A : EnumAscends v.file.now o a) where
  pub enum_unordered : a ≡ false → Enters enum_named v v o (Err NotAscending)
  unfolding number
  enum_unordered h = record { kept = keeps_same v; go = λ f C room p s below. record { rule = enum_rules p s _ (A.go p.0 p.1 (enum_reads p s)) refl refl ∙ broken_here 9 _ h; memory = unchanged v } }

  module _ {b : Bool} (B : EnumGiven v.file.now o b) where
    pub enum_empty : a ≡ true → b ≡ false → Enters enum_named v v o (Err NothingGiven)
    unfolding number
    enum_empty h g =
        record { kept = keeps_same v; go = λ f C room p s below. record { rule = enum_rules p s _ (A.go p.0 p.1 (enum_reads p s)) (B.go p.0 p.1 (enum_reads p s)) refl ∙ broken_later 9 _ h ∙ broken_here 10 _ g; memory = unchanged v } }

    module _ {name : Bytes} (N : NameAt v.file.now o name) where
      -- the name that is read is the enum's
      name_is : {f : TermFile} (p : Bytes × List Bytes) → Stands v.file.now f (earlier f) o (enum_named p) → name ≡ p.0
      name_is p s = N.go p.0 p.1 (enum_reads p s)

      -- the rules by the three tests
      all_rules : {f : TermFile} (ty : Option Ty) {t : Bool} (p : Bytes × List Bytes) (s : Stands v.file.now f (earlier f) o (enum_named p)) → a ≡ true → b ≡ true → t ≡ is_some (lookup name (enums f))
          → broken (rules f ty (enum_named p)) ≡ broken ((11, not t) ∷ [])
      all_rules {f} ty p s h g q =
          enum_rules p s _ (A.go p.0 p.1 (enum_reads p s)) (B.go p.0 p.1 (enum_reads p s)) (q ∙ ap (λ (x : Bytes). is_some (lookup x (enums f))) (name_is p s))
          ∙ broken_later 9 _ h ∙ broken_later 10 _ g

      -- an enum has the name
      pub enum_taken : {w : RecordsMut} (r : rust.Option ℕ) → EnrolsNamed v w name r → a ≡ true → b ≡ true → rust.is_some r ≡ true → Enters enum_named v w o (Err SecondEnum)
      unfolding is_some number
      enum_taken None E h g l = let z : ⊥ = cc in absurd z
      enum_taken (Some n) E h g l =
          record {
            kept = keeps_stays E.stays;
            go = λ f C room p s below.
                let K = E.go f C.indexed C.sizes_are room in
                record {
                  rule = all_rules _ p s h g (sym (ap is_some (lookup_named name n C.indexed.index (omega (arith, K.hit.below, C.sizes_are.enums_are)) K.hit.equal))) ∙ broken_here 11 _ refl;
                  memory = record { memory = K.unchanged; sizes_are = E.stays.sizes_are };
                };
          }

      -- no enum has the name
      pub enum_entered : {w x : RecordsMut} {m : ℕ} (r : rust.Option ℕ) → EnrolsNamed v w name r → a ≡ true → b ≡ true → rust.is_some r ≡ false
          → Rewritten v x (store (store w.work.now v.sizes.rows enum_offset v.sizes.enums o) v.sizes.rows enum_list v.sizes.enums 0) → m ≡ min (v.sizes.enums + 1) 4294967295
          → Enters enum_named v (record { file = x.file; work = x.work; sizes = record { rows = x.sizes.rows; types = x.sizes.types; funs = x.sizes.funs; terms = x.sizes.terms; enums = m; inputs = x.sizes.inputs } }) o (Ok tt)
      unfolding enum_named is_some
      enum_entered (Some n) E h g l R more = let z : ⊥ = cc in absurd z
      enum_entered None E h g l R more =
          record {
            kept = keeps_counted R _ refl;
            go = λ f C room p s below.
                let M = E.go f C.indexed C.sizes_are room in
                let c = C.sizes_are in
                record {
                  rule = all_rules _ p s h g (sym (ap is_some (lookup_unnamed f name (λ n m q. M.miss.none n (omega (arith, c.enums_are)) q)))) ∙ broken_later 11 _ refl ∙ none_broken;
                  memory = record {
                    indexed = indexed_as R (rw c.enums_are (indexed_enum C.indexed room (rw (c.enums_are, name_is p s) at M) s));
                    sizes_are = sizes_enum (sizes_as R c) p.0 p.1 (one_more more (ap (λ (s : Sizes). s.enums) R.becomes.sizes_are) (omega (arith, c.enums_are, (counts_fewer f).enums_fewer, room, C.indexed.searchable.small)));
                  };
                };
          }
