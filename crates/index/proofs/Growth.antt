-- A file with one record more: the old numbers keep what they name and their first equal numbers, and the new record has the old count
-- as its number. By `collect_append`, and once for any elements.
-- Assumes nothing.
use Prim.Native.Nat.{ℕ, suc, ◌+◌, ◌≤◌, ◌<◌}
use native.Mathlib.Nat.{eq-or-lt_of_le}
use native.Mathlib.Omega.{arith}
use native.Mathlib.Numerals.{add-one}
use mathlib.Core.Path.{◌≡◌, refl, ap, ◌∙◌}
use mathlib.Core.Logic.{◌⊎◌, inl, inr, ⊎_elim}
use mathlib.Core.Bool.{Bool, true, false}
use mathlib.Core.List.{List, [], ◌∷◌, ◌++◌, append-nil}
use mathlib.Core.Option.{Option, none, some}
use lib.Dec.{T}
use lib.ListN.{length, get_or, length-append, get_or-append}
use lib.Seq.{get_or-append_seam}
use Rattle.script_spec.specs.Base.{Bytes, place, place_from, collect}
use Rattle.script_spec.specs.Tree.{Ty, Fun, Tm, eq_ty, eq_fun, eq_tm}
use Rattle.script_spec.specs.File.{TermFile, Named, type, enum, func, term, input, types, funs, terms, inputs, enums, type_at, fun_at, term_at}
use Rattle.script_spec.proofs.Laws.{collect_append, place_append, is_true}
use Rattle.index.specs.Meaning.{SizesOf, together}
use Rattle.index.specs.declared.Sizes.{Sizes}
use Rattle.index.specs.First.{or_else, first, first_type, first_fun, first_term}
use Rattle.index.proofs.Firsts.{Equality, equal_types, equal_funs, equal_terms, place_first}

-- ---- the lists of a file

-- what the types, functions, terms, inputs and enums of a file are
pub record Lists (g : TermFile) (ts : List Ty) (fs : List Fun) (xs is : List Tm) (es : List (Bytes × List Bytes)) : Type 0 where
  pub types_are : types g ≡ ts
  pub funs_are : funs g ≡ fs
  pub terms_are : terms g ≡ xs
  pub inputs_are : inputs g ≡ is
  pub enums_are : enums g ≡ es

module _ (f : TermFile) (r : Named) where
  -- what each list has more
  pub lists_append : Lists (f ++ (r ∷ [])) (types f ++ types (r ∷ [])) (funs f ++ funs (r ∷ [])) (terms f ++ terms (r ∷ [])) (inputs f ++ inputs (r ∷ [])) (enums f ++ enums (r ∷ []))
  unfolding types funs terms inputs enums
  lists_append =
      record {
        types_are = collect_append _ f (r ∷ []);
        funs_are = collect_append _ f (r ∷ []);
        terms_are = collect_append _ f (r ∷ []);
        inputs_are = collect_append _ f (r ∷ []);
        enums_are = collect_append _ f (r ∷ []);
      }

module _ (f : TermFile) where
  pub lists_type : (t : Ty) → Lists (f ++ (type t ∷ [])) (types f ++ (t ∷ [])) (funs f) (terms f) (inputs f) (enums f)
  unfolding types funs terms inputs enums collect
  lists_type t = simp append-nil at (lists_append f (type t))

  pub lists_enum : (n : Bytes) (ms : List Bytes) → Lists (f ++ (enum n ms ∷ [])) (types f) (funs f) (terms f) (inputs f) (enums f ++ ((n, ms) ∷ []))
  unfolding types funs terms inputs enums collect
  lists_enum n ms = simp append-nil at (lists_append f (enum n ms))

  pub lists_func : (g : Fun) → Lists (f ++ (func g ∷ [])) (types f) (funs f ++ (g ∷ [])) (terms f) (inputs f) (enums f)
  unfolding types funs terms inputs enums collect
  lists_func g = simp append-nil at (lists_append f (func g))

  pub lists_term : (t : Tm) → Lists (f ++ (term t ∷ [])) (types f) (funs f) (terms f ++ (t ∷ [])) (inputs f) (enums f)
  unfolding types funs terms inputs enums collect
  lists_term t = simp append-nil at (lists_append f (term t))

  pub lists_input : (t : Tm) → Lists (f ++ (input t ∷ [])) (types f) (funs f) (terms f) (inputs f ++ (t ∷ [])) (enums f)
  unfolding types funs terms inputs enums collect
  lists_input t = simp append-nil at (lists_append f (input t))

-- ---- old numbers

-- numbers below a count name the same and have the same first equal number
pub record Kept {A : Type 0} (count : ℕ) (name name' : ℕ → A) (first first' : ℕ → ℕ) : Type 0 where
  pub name_kept : (n : ℕ) → n < count → name' n ≡ name n
  pub first_kept : (n : ℕ) → n < count → first' n ≡ first n

module _ {A : Type 0} {eq : A → A → Bool} (E : Equality eq) (d : A) (xs : List A) where
  kept_append : (ys zs : List A) → zs ≡ xs ++ ys → Kept (length xs) (λ n. get_or xs n d) (λ n. get_or zs n d) (λ n. first eq xs (get_or xs n d)) (λ n. first eq zs (get_or zs n d))
  unfolding first or_else
  kept_append ys zs e =
      rw e
      record {
        name_kept = λ n h. get_or-append xs ys d n h;
        first_kept = λ n h. rw (get_or-append xs ys d n h, place_append (eq (get_or xs n d)) xs ys _ (place_first E d xs n h (get_or xs n d) (E.reflexive (get_or xs n d))));
      }

module _ (f : TermFile) (r : Named) where
  pub types_kept : Kept (length (types f)) (type_at f) (type_at (f ++ (r ∷ []))) (first_type f) (first_type (f ++ (r ∷ [])))
  unfolding type_at first_type
  types_kept = kept_append equal_types _ (types f) _ _ (lists_append f r).types_are

  pub funs_kept : Kept (length (funs f)) (fun_at f) (fun_at (f ++ (r ∷ []))) (first_fun f) (first_fun (f ++ (r ∷ [])))
  unfolding fun_at first_fun
  funs_kept = kept_append equal_funs _ (funs f) _ _ (lists_append f r).funs_are

  pub terms_kept : Kept (length (terms f)) (term_at f) (term_at (f ++ (r ∷ []))) (first_term f) (first_term (f ++ (r ∷ [])))
  unfolding term_at first_term
  terms_kept = kept_append equal_terms _ (terms f) _ _ (lists_append f r).terms_are

-- ---- the new number

-- x is named by the number that was the count, and its first equal number is the one found among the old ones, else its own
pub record Added {A : Type 0} (eq : A → A → Bool) (xs : List A) (x : A) (count : ℕ) (name : ℕ → A) (first : ℕ → ℕ) : Type 0 where
  pub count_added : count ≡ suc (length xs)
  pub name_added : name (length xs) ≡ x
  pub first_added : first (length xs) ≡ or_else (length xs) (place (eq x) xs)

place_from_or_else : (b : Bool) (n : ℕ) (o : Option ℕ) → place_from b (some (or_else n o)) ≡ some (or_else (suc n) (place_from b o))
unfolding or_else place_from
place_from_or_else true n o = refl
place_from_or_else false n none = refl
place_from_or_else false n (some m) = refl

-- the place in a list whose last element passes
place_last : {A : Type 0} (p : A → Bool) (xs : List A) (x : A) → T (p x) → place p (xs ++ (x ∷ [])) ≡ some (or_else (length xs) (place p xs))
unfolding or_else place place_from
place_last p [] x h = rw (is_true (p x) h)
place_last p (y ∷ xs) x h = rw (place_last p xs x h) (place_from_or_else (p y) (length xs) (place p xs))

module _ {A : Type 0} {eq : A → A → Bool} (E : Equality eq) (d : A) where
  added_append : (xs zs : List A) (x : A) → zs ≡ xs ++ (x ∷ []) → Added eq xs x (length zs) (λ n. get_or zs n d) (λ n. first eq zs (get_or zs n d))
  unfolding first or_else
  added_append xs zs x e =
      rw e
      record {
        count_added = length-append xs (x ∷ []) ∙ add-one (length xs);
        name_added = get_or-append_seam xs x [] d;
        first_added = rw (get_or-append_seam xs x [] d, place_last (eq x) xs x (E.reflexive x));
      }

module _ (f : TermFile) where
  pub type_added : (t : Ty) → Added eq_ty (types f) t (length (types (f ++ (type t ∷ [])))) (type_at (f ++ (type t ∷ []))) (first_type (f ++ (type t ∷ [])))
  unfolding type_at first_type
  type_added t = added_append equal_types _ (types f) _ t (lists_type f t).types_are

  pub fun_added : (g : Fun) → Added eq_fun (funs f) g (length (funs (f ++ (func g ∷ [])))) (fun_at (f ++ (func g ∷ []))) (first_fun (f ++ (func g ∷ [])))
  unfolding fun_at first_fun
  fun_added g = added_append equal_funs _ (funs f) _ g (lists_func f g).funs_are

  pub term_added : (t : Tm) → Added eq_tm (terms f) t (length (terms (f ++ (term t ∷ [])))) (term_at (f ++ (term t ∷ []))) (first_term (f ++ (term t ∷ [])))
  unfolding term_at first_term
  term_added t = added_append equal_terms _ (terms f) _ t (lists_term f t).terms_are

-- ---- all numbers

-- a record is at most one of each kind
pub one_each : (r : Named)
    → (length (types (r ∷ [])) ≤ 1) × (length (funs (r ∷ [])) ≤ 1) × (length (terms (r ∷ [])) ≤ 1) × (length (enums (r ∷ [])) ≤ 1) × (length (inputs (r ∷ [])) ≤ 1)
unfolding types funs terms enums inputs collect
one_each (type t) = (omega arith, omega arith, omega arith, omega arith, omega arith)
one_each (enum n ms) = (omega arith, omega arith, omega arith, omega arith, omega arith)
one_each (func g) = (omega arith, omega arith, omega arith, omega arith, omega arith)
one_each (term t) = (omega arith, omega arith, omega arith, omega arith, omega arith)
one_each (input t) = (omega arith, omega arith, omega arith, omega arith, omega arith)

-- a place of the longer list is one of the shorter, or the next
abbrev pub Grown : {A : Type 0} → List A → List A → Type 0
Grown xs zs = (n : ℕ) → n < length zs → (n < length xs) ⊎ (n ≡ length xs)

grown_append : {A : Type 0} (xs ys : List A) {zs : List A} → zs ≡ xs ++ ys → length ys ≤ 1 → Grown xs zs
grown_append xs ys {zs} e one n l =
    let z : length zs ≡ length xs + length ys = ap length e ∙ length-append xs ys in
    ⊎_elim (λ q. inr q) (λ q. inl q) (eq-or-lt_of_le {n = n} {m = length xs} (omega arith))

module _ (f : TermFile) (r : Named) where
  pub types_grown : Grown (types f) (types (f ++ (r ∷ [])))
  types_grown = grown_append (types f) (types (r ∷ [])) (lists_append f r).types_are (one_each r).0

  pub funs_grown : Grown (funs f) (funs (f ++ (r ∷ [])))
  funs_grown = grown_append (funs f) (funs (r ∷ [])) (lists_append f r).funs_are (one_each r).1

  pub terms_grown : Grown (terms f) (terms (f ++ (r ∷ [])))
  terms_grown = grown_append (terms f) (terms (r ∷ [])) (lists_append f r).terms_are (one_each r).2

  pub enums_grown : Grown (enums f) (enums (f ++ (r ∷ [])))
  enums_grown = grown_append (enums f) (enums (r ∷ [])) (lists_append f r).enums_are (one_each r).3

  pub inputs_grown : Grown (inputs f) (inputs (f ++ (r ∷ [])))
  inputs_grown = grown_append (inputs f) (inputs (r ∷ [])) (lists_append f r).inputs_are (one_each r).4

-- ---- counts

-- a file has as many types, functions, terms, enums and inputs together as records
pub counts_together : (f : TermFile) → length (types f) + length (funs f) + length (terms f) + length (enums f) + length (inputs f) ≡ length f
unfolding types funs terms inputs enums collect
counts_together [] = refl
counts_together (type t ∷ f) = omega (arith, counts_together f)
counts_together (enum n ms ∷ f) = omega (arith, counts_together f)
counts_together (func g ∷ f) = omega (arith, counts_together f)
counts_together (term t ∷ f) = omega (arith, counts_together f)
counts_together (input t ∷ f) = omega (arith, counts_together f)

-- so the sizes tell how many
pub together_are : {f : TermFile} {sizes : Sizes} → SizesOf f sizes → together sizes ≡ length f
together_are {f} S = (rw (S.types_are, S.funs_are, S.terms_are, S.enums_are, S.inputs_are)) ∙ counts_together f

-- and no more of each kind
pub record Counted (f : TermFile) : Type 0 where
  pub types_fewer : length (types f) ≤ length f
  pub funs_fewer : length (funs f) ≤ length f
  pub terms_fewer : length (terms f) ≤ length f
  pub enums_fewer : length (enums f) ≤ length f

pub counts_fewer : (f : TermFile) → Counted f
counts_fewer f = let few = counts_together f in record { types_fewer = omega arith; funs_fewer = omega arith; terms_fewer = omega arith; enums_fewer = omega arith }
