-- What rules 9, 12, 21 and 13 ask of the terms and types that a record names, said of its numbers: by recursion on the references.
-- Assumes nothing.
use Prim.Native.Nat.{ℕ, suc, ◌<◌}
use mathlib.Core.Path.{◌≡◌, refl, ap}
use mathlib.Core.Bool.{Bool, true, false}
use mathlib.Core.List.{List, [], ◌∷◌, map}
use mathlib.Core.Option.{Option, none, some}
use lib.Dec.{eqb, eqb→eq}
use borrow.Author.Tests.{eq-eqb}
use lib.ListN.{length}
use Rattle.script_spec.specs.Base.{any, empty, place, is_some}
use Rattle.script_spec.specs.Tree.{Tree, Ty, Tm, is_set, node, nil, forest, trees, depth, depths, Bool·, Option·, Declared, record_of, eq_ty, eq_tm, type_of, types_of, type_from, datatype, attributes}
use Rattle.script_spec.specs.Tree.{TermMark, Var, BoolLit, BitVecLit, StringLit, Entity, ExtLit, None, Some, Set, Record, App}
use Rattle.script_spec.specs.Fields.{Entry}
use Rattle.script_spec.specs.Fields as fields
use Rattle.script_spec.specs.File.{TermFile, Named, type, enum, func, input, types, terms, type_at, term_at, named_mark, term, named, earlier, distinct, list_rules, broken, rules}
use Rattle.script_spec.proofs.Lists.{trees_forest}
use Rattle.script_spec.proofs.Laws.{same_truth, eq_ty_refl, never}
use Rattle.index.specs.First.{first_type, first_term, All, Below, MarkInRange, InRange}
use Rattle.index.specs.Rules.{different, elements_differ, differs, greatest, reference, type_by, type_named, parts, list_rules_by, limits, rules_by}
use Rattle.index.proofs.Firsts.{first_injective, first_terms, equal_types, equal_terms, place_first, any_place}
use Rattle.index.proofs.Renamed.{Agree, map_agree, set_named}

-- ---- rule 9

-- what refers to types only
unfoldable pub OnlyTypes : Named → Type 0
OnlyTypes (type t) = Unit {0}
OnlyTypes (enum n ms) = Unit {0}
OnlyTypes (func g) = Unit {0}
OnlyTypes (term t) = ⊥
OnlyTypes (input t) = ⊥

module _ (f : TermFile) where
  -- terms are equal exactly where their first equal numbers are
  pub equal_terms_numbers : (m n : ℕ) → m < length (terms f) → n < length (terms f) → eq_tm (term_at f m) (term_at f n) ≡ eqb (first_term f m) (first_term f n)
  equal_terms_numbers m n h k =
      same_truth _ _
      (λ t. rw (eq-eqb _ _ ((first_terms f).equal m n t)) tt)
      (λ t. first_injective (first_terms f) equal_terms m n h k (eqb→eq _ _ t))

  any_numbers : (m : ℕ) → m < length (terms f) → (rs : List ℕ) → Below (length (terms f)) rs → any (eq_tm (term_at f m)) (map (term_at f) rs) ≡ any (eqb (first_term f m)) (map (first_term f) rs)
  unfolding any All Below
  any_numbers m h [] k = refl
  any_numbers m h (n ∷ rs) k = rw (equal_terms_numbers m n h k.0, any_numbers m h rs k.1)

  pub distinct_numbers : (rs : List ℕ) → Below (length (terms f)) rs → distinct (map (term_at f) rs) ≡ different (map (first_term f) rs)
  unfolding distinct different All Below
  distinct_numbers [] h = refl
  distinct_numbers (n ∷ rs) h = rw (any_numbers n h.0 rs h.1, distinct_numbers rs h.1)

  -- the elements of a set differ where their numbers do
  pub differs_named : (e : Entry) (t : Tm) → InRange (earlier f) e → named f e ≡ term t → differs f e ≡ elements_differ t
  unfolding named differs elements_differ InRange earlier
  differs_named (fields.type m rs) t h p = never cc
  differs_named (fields.enum n ms) t h p = never cc
  differs_named (fields.func id a r) t h p = never cc
  differs_named (fields.term m rs) t h p =
      let q : node (named_mark f m) (forest (map (term_at f) rs)) ≡ t = cc in
      rw (← q, set_named f m, trees_forest (map (term_at f) rs), distinct_numbers rs h.1)
  differs_named (fields.input n) t h p = never cc

  -- what refers to types only is no set
  pub types_differ : (e : Entry) → OnlyTypes (named f e) → differs f e ≡ true
  unfolding OnlyTypes named differs
  types_differ (fields.type m rs) o = refl
  types_differ (fields.enum n ms) o = refl
  types_differ (fields.func id a r) o = refl
  types_differ (fields.term m rs) o = absurd o
  types_differ (fields.input n) o = absurd o

-- a rule in front of others that is kept
front_kept : (b : Bool) (later : Option ℕ) (n : ℕ) → ◌≡◌ {A = Option ℕ} (elim b as (λ x. Option ℕ) [ true ↦ later | false ↦ some n ]) none → b ≡ true
front_kept true later n h = refl
front_kept false later n h = never cc

-- the elements of a set that keeps its rules differ
pub kept_differ : (f : TermFile) (written : Option Ty) (t : Tm) → broken (rules f written (term t)) ≡ none → elements_differ t ≡ true
unfolding broken rules list_rules elements_differ is_set
kept_differ f written (node (Var id ty) ts) h = refl
kept_differ f written (node (BoolLit b) ts) h = refl
kept_differ f written (node (BitVecLit n v) ts) h = refl
kept_differ f written (node (StringLit s) ts) h = refl
kept_differ f written (node (Entity ty id) ts) h = refl
kept_differ f written (node (ExtLit v) ts) h = refl
kept_differ f written (node (None ty) ts) h = refl
kept_differ f written (node Some ts) h = refl
kept_differ f written (node (Set ty) ts) h = front_kept (distinct (trees ts)) _ 9 h
kept_differ f written (node (Record names) ts) h = refl
kept_differ f written (node (App ty op) ts) h = refl

-- ---- rule 13

-- the depth over parts or children whose depths δ has
module _ {A : Type 0} (name : ℕ → Tree A) (count : ℕ) (δ : ℕ → ℕ) (right : (n : ℕ) → n < count → δ n ≡ depth (name n)) where
  depths_numbers : (rs : List ℕ) → Below count rs → depths (forest (map name rs)) ≡ greatest (map δ rs)
  unfolding depth forest greatest All Below
  depths_numbers [] h = refl
  depths_numbers (n ∷ rs) h = rw (right n h.0, depths_numbers rs h.1)

  pub depth_numbers : (a : A) (rs : List ℕ) → Below count rs → depth (node a (forest (map name rs))) ≡ suc (greatest (map δ rs))
  unfolding depth
  depth_numbers a rs h = ap suc (depths_numbers rs h)

-- ---- rule 12

module _ (f : TermFile) (τ : ℕ → ℕ) (right : (n : ℕ) → n < length (terms f) → type_at f (τ n) ≡ type_of (term_at f n)) where
  types_numbers : (rs : List ℕ) → Below (length (terms f)) rs → types_of (forest (map (term_at f) rs)) ≡ forest (map (type_at f) (map τ rs))
  unfolding type_of forest All Below
  types_numbers [] h = refl
  types_numbers (n ∷ rs) h = rw (right n h.0, types_numbers rs h.1)

  -- the type of a term is the one that its record's numbers give
  pub type_numbers : (m : TermMark ℕ ℕ) (rs : List ℕ) → Below (length (terms f)) rs → type_of (node (named_mark f m) (forest (map (term_at f) rs))) ≡ type_named f (type_by τ m rs)
  unfolding type_of type_from named_mark type_by type_named forest
  type_numbers (Var id n) rs h = refl
  type_numbers (BoolLit b) rs h = refl
  type_numbers (BitVecLit n v) rs h = refl
  type_numbers (StringLit s) rs h = refl
  type_numbers (Entity n id) rs h = refl
  type_numbers (ExtLit v) rs h = refl
  type_numbers (None n) rs h = refl
  type_numbers Some rs h = ap (node Option·) (types_numbers rs h)
  type_numbers (Set n) rs h = refl
  type_numbers (Record names) rs h = ap (node (Declared (record_of names))) (types_numbers rs h)
  type_numbers (App n op) rs h = refl

  -- rule 12: whether the type is listed is whether it has a place
  pub listed_numbers : (m : TermMark ℕ ℕ) (rs : List ℕ) → Below (length (terms f)) rs
      → any (eq_ty (type_of (node (named_mark f m) (forest (map (term_at f) rs))))) (types f) ≡ is_some (place (eq_ty (type_named f (type_by τ m rs))) (types f))
  listed_numbers m rs h = rw (type_numbers m rs h) (any_place (eq_ty (type_named f (type_by τ m rs))) (types f))

module _ (f : TermFile) (τ : ℕ → ℕ) (bounded : (n : ℕ) → n < length (terms f) → τ n < length (types f)) where
  map_below : (rs : List ℕ) → Below (length (terms f)) rs → Below (length (types f)) (map τ rs)
  unfolding All Below
  map_below [] h = tt
  map_below (n ∷ rs) h = (bounded n h.0, map_below rs h.1)

  -- the references of the type are in range
  pub parts_below : (m : TermMark ℕ ℕ) (rs : List ℕ) → MarkInRange (earlier f) m → Below (length (terms f)) rs → Below (length (types f)) (parts (type_by τ m rs))
  unfolding parts type_by MarkInRange earlier All Below
  parts_below (Var id n) rs h k = (h, tt)
  parts_below (BoolLit b) rs h k = tt
  parts_below (BitVecLit n v) rs h k = tt
  parts_below (StringLit s) rs h k = tt
  parts_below (Entity n id) rs h k = (h, tt)
  parts_below (ExtLit v) rs h k = tt
  parts_below (None n) rs h k = (h, tt)
  parts_below Some rs h k = map_below rs k
  parts_below (Set n) rs h k = (h, tt)
  parts_below (Record names) rs h k = map_below rs k
  parts_below (App n op) rs h k = (h.0, tt)

module _ (f : TermFile) where
  -- a type that is referred to is listed
  pub reference_listed : (n : ℕ) → n < length (types f) → place (eq_ty (type_named f (reference n))) (types f) ≡ some (first_type f n)
  unfolding type_named first_type type_at
  reference_listed n h = place_first equal_types (node Bool· nil) (types f) n h (type_at f n) (eq_ty_refl (type_at f n))

-- ---- the rules of a record

empty_map : {A B : Type 0} (g : A → B) (xs : List A) → empty (map g xs) ≡ empty xs
unfolding empty
empty_map g [] = refl
empty_map g (x ∷ xs) = refl

module _ (f : TermFile) {term_first : ℕ → ℕ} (right : Agree (length (terms f)) term_first (first_term f)) where
  list_rules_lem : (m : TermMark ℕ ℕ) (rs : List ℕ) → Below (length (terms f)) rs → list_rules (node (named_mark f m) (forest (map (term_at f) rs))) ≡ list_rules_by f term_first m rs
  unfolding list_rules list_rules_by named_mark
  list_rules_lem (Var id n) rs h = refl
  list_rules_lem (BoolLit b) rs h = refl
  list_rules_lem (BitVecLit n v) rs h = refl
  list_rules_lem (StringLit s) rs h = refl
  list_rules_lem (Entity n id) rs h = refl
  list_rules_lem (ExtLit v) rs h = refl
  list_rules_lem (None n) rs h = refl
  list_rules_lem Some rs h = refl
  list_rules_lem (Set n) rs h = rw (trees_forest (map (term_at f) rs), distinct_numbers f rs h, map_agree right rs h)
  list_rules_lem (Record names) rs h = refl
  list_rules_lem (App n op) rs h = rw (trees_forest (map (term_at f) rs), empty_map (term_at f) rs)

module _ (f : TermFile) (type_depth term_first term_type term_depth : ℕ → ℕ) where
  -- what a record names keeps the rules where its numbers do
  pub rules_numbers : Agree (length (types f)) type_depth (λ n. depth (type_at f n)) → Agree (length (terms f)) term_first (first_term f)
      → ((n : ℕ) → n < length (terms f) → type_at f (term_type n) ≡ type_of (term_at f n)) → Agree (length (terms f)) term_depth (λ n. depth (term_at f n))
      → (ty : Option Ty) (x : Entry) → InRange (earlier f) x → rules f ty (named f x) ≡ rules_by f type_depth term_first term_type term_depth ty x
  unfolding rules rules_by limits named InRange earlier attributes datatype
  rules_numbers d φ τ δ ty (fields.type m rs) h = rw (depth_numbers (type_at f) (length (types f)) type_depth d m rs h)
  rules_numbers d φ τ δ ty (fields.enum n ms) h = refl
  rules_numbers d φ τ δ ty (fields.func id a r) h = refl
  rules_numbers d φ τ δ ty (fields.term m rs) h =
      rw (list_rules_lem f φ m rs h.1, listed_numbers f term_type τ m rs h.1, type_numbers f term_type τ m rs h.1, depth_numbers (term_at f) (length (terms f)) term_depth δ (named_mark f m) rs h.1)
  rules_numbers d φ τ δ ty (fields.input n) h = refl
