-- What the walk over a type enters in the tables: types that are no deeper, and nothing else. By recursion on the type.
-- Assumes nothing.
use Prim.Native.Nat.{ℕ, suc, ◌≤◌, ◌<◌, max}
use mathlib.Core.Path.{◌≡◌, refl, ap, ◌∙◌}
use mathlib.Core.Logic.{◌⊎◌, inl, inr}
use mathlib.Core.Bool.{Bool, ◌||◌, true, false}
use mathlib.Core.List.{List, [], ◌∷◌, ◌++◌}
use mathlib.Core.Option.{Option, none, some}
use native.Mathlib.Omega.{arith}
use lib.Dec.{T}
use Rattle.script_spec.specs.Base.{any}
use Rattle.script_spec.specs.Tree.{Ty, Fun, Tm, TypeMark, Forest, node, nil, cons, depth, depths, eq_ty, eq_fun, eq_tm, Enums, Datatype, datatype}
use Rattle.script_spec.specs.Spelling.{type_comment, type_declaration}
use Rattle.script_spec.specs.Walk.{State, went, ◌>>◌, names, enter_type, write, declare_type, encode_type, encode_types}
use Rattle.script_spec.proofs.Laws.{any_cases, any_right, or_left, eq_ty_eq, eq_ty_refl, eq_fun_eq, eq_fun_refl}
use Rattle.script_spec.proofs.Equal.{eq_tm_refl}
use Rattle.script_spec.proofs.Steps.{Goes, goes, ends_then, ends_unless, ends_map}

-- ---- a table with one entry more

one : (b : Bool) → T (b || false) → T b
one true h = tt
one false h = h

module _ {A : Type 0} (eq : A → A → Bool) where
  entry_equal : (xs : List A) (x u : A) → T (any (eq u) (xs ++ (x ∷ []))) → T (any (eq u) xs) ⊎ T (eq u x)
  unfolding any
  entry_equal xs x u h = go (any_cases (eq u) xs (x ∷ []) h)
    where
      go : T (any (eq u) xs) ⊎ T (any (eq u) (x ∷ [])) → T (any (eq u) xs) ⊎ T (eq u x)
      go (inl k) = inl k
      go (inr k) = inr (one (eq u x) k)

  entry_cases : ((x y : A) → T (eq x y) → x ≡ y) → (xs : List A) (x u : A) → T (any (eq u) (xs ++ (x ∷ []))) → T (any (eq u) xs) ⊎ (u ≡ x)
  entry_cases eq-eq xs x u h = elim (entry_equal xs x u h) [ inl k ↦ inl k | inr k ↦ inr (eq-eq u x k) ]

  entry_new : ((x : A) → T (eq x x)) → (xs : List A) (x : A) → T (any (eq x) (xs ++ (x ∷ [])))
  unfolding any
  entry_new eq_refl xs x = any_right (eq x) xs (x ∷ []) (or_left (eq x x) false (eq_refl x))

pub type_cases : (xs : List Ty) (x u : Ty) → T (any (eq_ty u) (xs ++ (x ∷ []))) → T (any (eq_ty u) xs) ⊎ (u ≡ x)
type_cases = entry_cases eq_ty eq_ty_eq

pub fun_cases : (xs : List Fun) (x u : Fun) → T (any (eq_fun u) (xs ++ (x ∷ []))) → T (any (eq_fun u) xs) ⊎ (u ≡ x)
fun_cases = entry_cases eq_fun eq_fun_eq

pub term_cases : (xs : List Tm) (x u : Tm) → T (any (eq_tm u) (xs ++ (x ∷ []))) → T (any (eq_tm u) xs) ⊎ T (eq_tm u x)
term_cases = entry_equal eq_tm

pub type_new : (xs : List Ty) (x : Ty) → T (any (eq_ty x) (xs ++ (x ∷ [])))
type_new = entry_new eq_ty eq_ty_refl

pub fun_new : (xs : List Fun) (x : Fun) → T (any (eq_fun x) (xs ++ (x ∷ [])))
fun_new = entry_new eq_fun eq_fun_refl

pub term_new : (xs : List Tm) (x : Tm) → T (any (eq_tm x) (xs ++ (x ∷ [])))
term_new = entry_new eq_tm eq_tm_refl

-- ---- the walk over a type

-- the types that are entered have at most the depth d
pub record TypesOnly (d : ℕ) (s s' : State) : Type 0 where
  pub types : (u : Ty) → d < depth u → T (any (eq_ty u) s'.types) → T (any (eq_ty u) s.types)
  pub funs : s'.funs ≡ s.funs
  pub terms : s'.terms ≡ s.terms

only_same : (d : ℕ) (s : State) → TypesOnly d s s
only_same d s = record { types = λ u l h. h; funs = refl; terms = refl }

only_both : (a b c : ℕ) (s s₁ s₂ : State) → a ≤ c → b ≤ c → TypesOnly a s s₁ → TypesOnly b s₁ s₂ → TypesOnly c s s₂
only_both a b c s s₁ s₂ p q x y = record { types = λ u l h. x.types u (omega arith) (y.types u (omega arith) h); funs = y.funs ∙ x.funs; terms = y.terms ∙ x.terms }

declare_type_only : (e : Enums) (t : Ty) (s : State) → Goes (TypesOnly (depth t) s) (declare_type e t s)
unfolding declare_type enter_type write
declare_type_only e t s = go (datatype t)
  where
    old : (u : Ty) → depth t < depth u → T (any (eq_ty u) s.types) ⊎ (u ≡ t) → T (any (eq_ty u) s.types)
    old u l (inl h) = h
    old u l (inr p) = absurd (let q : depth u ≡ depth t = ap depth p in omega arith)

    go : (o : Option Datatype) → Goes (TypesOnly (depth t) s) (elim o [
      | none ↦ went s
      | some d ↦ let s' = enter_type t s in went (write (type_comment e d ++ (type_declaration e (names s') d t ∷ [])) s')
    ])
    go none = goes (only_same (depth t) s)
    go (some d) = goes (record { types = λ u l h. old u l (type_cases s.types t u h); funs = refl; terms = refl })

mutual
  unfolding encode_type depth

  pub encode_type_only : (e : Enums) (t : Ty) (s : State) → Goes (TypesOnly (depth t) s) (encode_type e t s)
  encode_type_only e (node m ts) s =
      ends_unless (λ s'. any (eq_ty (node m ts)) s'.types) (◌>>◌ (encode_types e ts) (declare_type e (node m ts))) s (λ k. only_same (suc (depths ts)) s)
      (λ k. ends_then (encode_types e ts) (declare_type e (node m ts)) s
      (ends_map (λ s₁ o. ends_map (λ s₂ p. only_both (depths ts) (suc (depths ts)) (suc (depths ts)) s s₁ s₂ (omega arith) (omega arith) o p) (declare_type_only e (node m ts) s₁)) (encode_types_only e ts s)))

  pub encode_types_only : (e : Enums) (ts : Forest TypeMark) (s : State) → Goes (TypesOnly (depths ts) s) (encode_types e ts s)
  encode_types_only e nil s = goes (only_same 0 s)
  encode_types_only e (cons t ts) s =
      ends_then (encode_type e t) (encode_types e ts) s
      (ends_map (λ s₁ o. ends_map (λ s₂ p. only_both (depth t) (depths ts) (max (depth t) (depths ts)) s s₁ s₂ (omega arith) (omega arith) o p) (encode_types_only e ts s₁)) (encode_type_only e t s))
