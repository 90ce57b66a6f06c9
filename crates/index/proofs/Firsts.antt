-- Numbers of first equal records are equal exactly where the records are: by recursion on the list of records, once for any elements
-- with a test that is an equivalence.
-- Assumes nothing.
use Prim.Native.Nat.{ℕ, zero, suc, ◌≤◌, ◌<◌, zero-le, suc-le-suc}
use native.Mathlib.Nat.{le_of_suc-le-suc, not-suc-le-zero}
use native.Mathlib.Omega.{arith}
use mathlib.Core.Path.{◌≡◌, refl, ap, subst}
use mathlib.Core.Bool.{Bool, true, false}
use mathlib.Core.List.{List, [], ◌∷◌}
use mathlib.Core.Option.{none, some}
use lib.Dec.{T}
use lib.ListN.{length, get_or}
use Rattle.script_spec.specs.Base.{place, place_from}
use Rattle.script_spec.specs.Tree.{eq_ty, eq_fun, eq_tm}
use Rattle.script_spec.specs.File.{TermFile, types, funs, terms, type_at, fun_at, term_at}
use Rattle.script_spec.proofs.Laws.{eq_ty_eq, eq_ty_refl, eq_fun_eq, eq_fun_refl, is_true, never_true, same_truth}
use Rattle.script_spec.proofs.Equal.{eq_tm_refl, eq_tm_sym, eq_tm_trans}
pub use Rattle.script_spec.proofs.Laws.{any_place}
use Rattle.index.specs.First.{or_else, first, first_type, first_fun, first_term}

-- ---- places

-- the first place in xs that passes is no later than k
record Found {A : Type 0} (p : A → Bool) (d : A) (xs : List A) (k : ℕ) : Type 0 where
  n : ℕ
  is : place p xs ≡ some n
  le : n ≤ k
  passes : T (p (get_or xs n d))

module _ {A : Type 0} (p : A → Bool) (d : A) where
  found_here : (x : A) (xs : List A) (k : ℕ) → T (p x) → Found p d (x ∷ xs) k
  unfolding place place_from
  found_here x xs k h = record { n = zero; is = rw (is_true (p x) h); le = zero-le; passes = h }

  found_later : (x : A) (xs : List A) (k : ℕ) → p x ≡ false → Found p d xs k → Found p d (x ∷ xs) (suc k)
  unfolding place place_from
  found_later x xs k h t = record { n = suc t.n; is = rw (h, t.is); le = suc-le-suc t.le; passes = t.passes }

  found_from : (x : A) (xs : List A) (k : ℕ) → Found p d xs k → (b : Bool) → p x ≡ b → Found p d (x ∷ xs) (suc k)
  found_from x xs k t true e = found_here x xs (suc k) (rw e tt)
  found_from x xs k t false e = found_later x xs k e t

  -- where an element passes, the first that does stands no later
  found : (xs : List A) (k : ℕ) → k < length xs → T (p (get_or xs k d)) → Found p d xs k
  found [] k h t = absurd (not-suc-le-zero h)
  found (x ∷ xs) zero h t = found_here x xs zero t
  found (x ∷ xs) (suc k) h t = found_from x xs k (found xs k (le_of_suc-le-suc h) t) (p x) refl

  -- no place where no element passes
  pub place_none : (xs : List A) → ((k : ℕ) → k < length xs → T (p (get_or xs k d)) → ⊥) → place p xs ≡ none
  unfolding place place_from
  place_none [] h = refl
  place_none (x ∷ xs) h = rw (never_true (p x) (h zero (suc-le-suc zero-le)), place_none xs (λ k l. h (suc k) (suc-le-suc l)))

-- ---- numbers of first equal records

-- numbers below a count, what each names, and the number of the first that names an equal one
pub record FirstEqual {A : Type 0} (eq : A → A → Bool) (count : ℕ) (name : ℕ → A) (first : ℕ → ℕ) : Type 0 where
  pub least : (n : ℕ) → n < count → first n ≤ n
  pub names : (n : ℕ) → n < count → T (eq (name (first n)) (name n))
  pub equal : (m n : ℕ) → T (eq (name m) (name n)) → first m ≡ first n

-- a test that is an equivalence
pub record Equality {A : Type 0} (eq : A → A → Bool) : Type 0 where
  pub reflexive : (a : A) → T (eq a a)
  pub symmetric : (a b : A) → T (eq a b) → T (eq b a)
  pub transitive : (a b c : A) → T (eq a b) → T (eq b c) → T (eq a c)

module _ {A : Type 0} {eq : A → A → Bool} {count : ℕ} {name : ℕ → A} {first : ℕ → ℕ} (F : FirstEqual eq count name first) where
  pub first_below : (n : ℕ) → n < count → first n < count
  first_below n h = omega (arith, F.least n h)

  pub first_first : (n : ℕ) → n < count → first (first n) ≡ first n
  first_first n h = F.equal (first n) n (F.names n h)

  pub first_injective : Equality eq → (m n : ℕ) → m < count → n < count → first m ≡ first n → T (eq (name m) (name n))
  first_injective E m n h k e =
      E.transitive (name m) (name (first m)) (name n) (E.symmetric (name (first m)) (name m) (F.names m h)) (rw e (F.names n k))

module _ {A : Type 0} {eq : A → A → Bool} (E : Equality eq) where
  -- equal elements have the same place
  pub place_equal : (a b : A) → T (eq a b) → (xs : List A) → place (eq a) xs ≡ place (eq b) xs
  unfolding place
  place_equal a b h [] = refl
  place_equal a b h (x ∷ xs) =
      let same : eq a x ≡ eq b x = same_truth (eq a x) (eq b x) (λ k. E.transitive b a x (E.symmetric a b h) k) (λ k. E.transitive a b x h k) in
      rw (same, place_equal a b h xs)

  pub first_equal : (a b : A) → T (eq a b) → (xs : List A) → first eq xs a ≡ first eq xs b
  unfolding first
  first_equal a b h xs = ap (or_else zero) (place_equal a b h xs)

module _ {A : Type 0} {eq : A → A → Bool} (E : Equality eq) (d : A) (xs : List A) where
  -- an element has a first equal one
  pub place_first : (n : ℕ) → n < length xs → (x : A) → T (eq x (get_or xs n d)) → place (eq x) xs ≡ some (first eq xs x)
  unfolding first or_else
  place_first n h x e = let t = found (eq x) d xs n h e in rw t.is

  pub firsts_equal : FirstEqual eq (length xs) (λ n. get_or xs n d) (λ n. first eq xs (get_or xs n d))
  unfolding first or_else
  firsts_equal =
      record {
        least = λ n h. let t = found (eq (get_or xs n d)) d xs n h (E.reflexive _) in rw t.is t.le;
        names = λ n h. let t = found (eq (get_or xs n d)) d xs n h (E.reflexive _) in rw t.is (E.symmetric _ _ t.passes);
        equal = λ m n e. first_equal E _ _ e xs;
      }

-- a test that is sound and reflexive is an equivalence
exact : {A : Type 0} (eq : A → A → Bool) → ((a b : A) → T (eq a b) → a ≡ b) → ((a : A) → T (eq a a)) → Equality eq
exact eq sound reflexive =
    record {
      reflexive = reflexive;
      symmetric = λ a b h. subst (λ x. T (eq x a)) (sound a b h) (reflexive a);
      transitive = λ a b c h k. subst (λ x. T (eq a x)) (sound b c k) h;
    }

pub equal_types : Equality eq_ty
equal_types = exact eq_ty eq_ty_eq eq_ty_refl

pub equal_funs : Equality eq_fun
equal_funs = exact eq_fun eq_fun_eq eq_fun_refl

pub equal_terms : Equality eq_tm
equal_terms = record { reflexive = eq_tm_refl; symmetric = eq_tm_sym; transitive = eq_tm_trans }

module _ (f : TermFile) where
  pub first_types : FirstEqual eq_ty (length (types f)) (type_at f) (first_type f)
  unfolding type_at first_type
  first_types = firsts_equal equal_types _ (types f)

  pub first_funs : FirstEqual eq_fun (length (funs f)) (fun_at f) (first_fun f)
  unfolding fun_at first_fun
  first_funs = firsts_equal equal_funs _ (funs f)

  pub first_terms : FirstEqual eq_tm (length (terms f)) (term_at f) (first_term f)
  unfolding term_at first_term
  first_terms = firsts_equal equal_terms _ (terms f)

  -- the first equal type, and function, is the same
  pub same_types : (n : ℕ) → n < length (types f) → type_at f (first_type f n) ≡ type_at f n
  same_types n h = eq_ty_eq _ _ (first_types.names n h)

  pub same_funs : (n : ℕ) → n < length (funs f) → fun_at f (first_fun f n) ≡ fun_at f n
  same_funs n h = eq_fun_eq _ _ (first_funs.names n h)
