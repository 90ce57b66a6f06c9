-- Laws of the tests and list functions of `Base`, and of the equality tests of `Tree`: by cases and by recursion on a list.
-- Assumes nothing.
use Prim.Native.Nat.{ℕ}
use mathlib.Core.Path.{◌≡◌, refl, sym}
use mathlib.Core.Logic.{◌⊎◌, inl, inr}
use mathlib.Core.Bool.{Bool, true, false, not, ◌&&◌, ◌||◌}
use mathlib.Core.List.{List, [], ◌∷◌, ◌++◌, append_assoc}
use mathlib.Core.Option.{Option, none, some, none-ne-some}
use native.Mathlib.Omega.{arith}
use lib.Dec.{T, eqb, eqb→eq}
use borrow.Author.Tests.{eq-eqb}
use Rattle.script_spec.specs.Base.{Bytes, is_yes, same, any, all, place, place_from, collect, is_some}
use Rattle.script_spec.specs.Tree.{Ty, Fun, Mark, eq_ty, eq_fun, ty_dec, fun_dec, mark_dec}

-- from a case that does not occur
pub never : {A : Type 0} → ◌≡◌ {A = ℕ} 0 1 → A
never h = absurd (omega arith)

-- ---- Booleans

pub and_parts : (x y : Bool) → T (x && y) → T x × T y
and_parts true y h = (tt, h)
and_parts false y h = absurd h

pub and_both : (x y : Bool) → T x → T y → T (x && y)
and_both true y h k = k
and_both false y h k = h

pub or_left : (x y : Bool) → T x → T (x || y)
or_left true y h = tt
or_left false y h = absurd h

pub or_right : (x y : Bool) → T y → T (x || y)
or_right true y h = tt
or_right false y h = h

pub or_cases : (x y : Bool) → T (x || y) → T x ⊎ T y
or_cases true y h = inl tt
or_cases false y h = inr h

pub or_map : (x y z : Bool) → (T y → T z) → T (x || y) → T (x || z)
or_map true y z f h = tt
or_map false y z f h = f h

or_split : (x y u v : Bool) → (T y → T u ⊎ T v) → T (x || y) → T (x || u) ⊎ T v
or_split true y u v f h = inl tt
or_split false y u v f h = f h

pub is_false : (x : Bool) → T (not x) → x ≡ false
is_false true h = absurd h
is_false false h = refl

pub is_true : (x : Bool) → T x → x ≡ true
is_true true h = refl
is_true false h = absurd h

pub never_true : (x : Bool) → (T x → ⊥) → x ≡ false
never_true true h = absurd (h tt)
never_true false h = refl

-- what is neither is false on both sides
pub or_false : (x y : Bool) → (x || y) ≡ false → (x ≡ false) × (y ≡ false)
or_false true y h = never cc
or_false false y h = (refl, h)

pub and_false : (x : Bool) → (x && false) ≡ false
and_false true = refl
and_false false = refl

pub and_true : (x : Bool) → (x && true) ≡ x
and_true true = refl
and_true false = refl

-- what holds of both choices holds of the one that is made
pub either_way : {A : Type 0} (P : A → Type 0) (x y : A) (b : Bool) → P x → P y → P (elim b [ false ↦ x | true ↦ y ])
either_way P x y true h k = k
either_way P x y false h k = h

-- ---- lists

module _ {A : Type 0} (p : A → Bool) where
  pub any_left : (xs ys : List A) → T (any p xs) → T (any p (xs ++ ys))
  unfolding any
  any_left [] ys h = absurd h
  any_left (x ∷ xs) ys h = or_map (p x) (any p xs) (any p (xs ++ ys)) (λ k. any_left xs ys k) h

  pub any_right : (xs ys : List A) → T (any p ys) → T (any p (xs ++ ys))
  unfolding any
  any_right [] ys h = h
  any_right (x ∷ xs) ys h = or_right (p x) (any p (xs ++ ys)) (any_right xs ys h)

  pub any_cases : (xs ys : List A) → T (any p (xs ++ ys)) → T (any p xs) ⊎ T (any p ys)
  unfolding any
  any_cases [] ys h = inr h
  any_cases (x ∷ xs) ys h = or_split (p x) (any p (xs ++ ys)) (any p xs) (any p ys) (λ k. any_cases xs ys k) h

  pub all_append : (xs ys : List A) → T (all p xs) → T (all p ys) → T (all p (xs ++ ys))
  unfolding all
  all_append [] ys h k = k
  all_append (x ∷ xs) ys h k = let q = and_parts (p x) (all p xs) h in and_both (p x) (all p (xs ++ ys)) q.0 (all_append xs ys q.1 k)

  pub all_parts : (xs ys : List A) → T (all p (xs ++ ys)) → T (all p xs) × T (all p ys)
  unfolding all
  all_parts [] ys h = (tt, h)
  all_parts (x ∷ xs) ys h =
      let q = and_parts (p x) (all p (xs ++ ys)) h in
      let r = all_parts xs ys q.1 in
      (and_both (p x) (all p xs) q.0 r.0, r.1)

-- a weaker test
pub all_map : {A : Type 0} (p q : A → Bool) → ((x : A) → T (p x) → T (q x)) → (xs : List A) → T (all p xs) → T (all q xs)
unfolding all
all_map p q f [] h = tt
all_map p q f (x ∷ xs) h = let r = and_parts (p x) (all p xs) h in and_both (q x) (all q xs) (f x r.0) (all_map p q f xs r.1)

pub collect_append : {A B : Type 0} (f : A → List B) (xs ys : List A) → collect f (xs ++ ys) ≡ collect f xs ++ collect f ys
unfolding collect
collect_append f [] ys = refl
collect_append f (x ∷ xs) ys = rw (collect_append f xs ys) (sym (append_assoc (f x) (collect f xs) (collect f ys)))

-- a place in a table stays where the table grows
place_from_some : (b : Bool) (o o' : Option ℕ) → ((m : ℕ) → o ≡ some m → o' ≡ some m) → (n : ℕ) → place_from b o ≡ some n → place_from b o' ≡ some n
unfolding place_from
place_from_some true o o' k n h = h
place_from_some false none o' k n h = absurd (none-ne-some n h)
place_from_some false (some m) o' k n h = rw (k m refl) h

pub place_append : {A : Type 0} (p : A → Bool) (xs ys : List A) (n : ℕ) → place p xs ≡ some n → place p (xs ++ ys) ≡ some n
unfolding place
place_append p [] ys n h = absurd (none-ne-some n h)
place_append p (x ∷ xs) ys n h = place_from_some (p x) (place p xs) (place p (xs ++ ys)) (λ m e. place_append p xs ys m e) n h

-- no place where the head does not pass and the tail has none
pub place_from_none : (b : Bool) (o : Option ℕ) → place_from b o ≡ none → (b ≡ false) × (o ≡ none)
unfolding place_from
place_from_none true o h = absurd (none-ne-some _ (sym h))
place_from_none false none h = (refl, refl)
place_from_none false (some m) h = absurd (none-ne-some _ (sym h))

-- some element passes exactly where there is a place
pub any_place : {A : Type 0} (p : A → Bool) (xs : List A) → any p xs ≡ is_some (place p xs)
unfolding any place place_from is_some
any_place p [] = refl
any_place p (x ∷ xs) = go (p x) (place p xs) (any_place p xs)
  where
    go : (b : Bool) (o : Option ℕ) → any p xs ≡ is_some o → (b || any p xs) ≡ is_some (place_from b o)
    go true o e = refl
    go false none e = e
    go false (some n) e = e

-- ---- equality tests

pub same_eq : (v w : Bytes) → T (same v w) → v ≡ w
unfolding same
same_eq [] [] h = refl
same_eq [] (y ∷ w) h = absurd h
same_eq (x ∷ v) [] h = absurd h
same_eq (x ∷ v) (y ∷ w) h = let q = and_parts (eqb x y) (same v w) h in λ i. eqb→eq x y q.0 i ∷ same_eq v w q.1 i

pub same_refl : (v : Bytes) → T (same v v)
unfolding same
same_refl [] = tt
same_refl (x ∷ v) = and_both (eqb x x) (same v v) (rw (eq-eqb x x refl) tt) (same_refl v)

module _ {A : Type 0} (d : Discrete A) where
  yes_eq : (a b : A) → T (is_yes (d a b)) → a ≡ b
  yes_eq a b = go (d a b)
    where
      go : (x : Dec (a ≡ b)) → T (is_yes x) → a ≡ b
      go (yes p) h = p
      go (no n) h = absurd h

  yes_refl : (a : A) → T (is_yes (d a a))
  yes_refl a = go (d a a)
    where
      go : (x : Dec (a ≡ a)) → T (is_yes x)
      go (yes p) = tt
      go (no n) = absurd (n refl)

pub eq_ty_eq : (t u : Ty) → T (eq_ty t u) → t ≡ u
unfolding eq_ty
eq_ty_eq t u h = yes_eq ty_dec t u h

pub eq_ty_refl : (t : Ty) → T (eq_ty t t)
unfolding eq_ty
eq_ty_refl t = yes_refl ty_dec t

pub eq_fun_eq : (f g : Fun) → T (eq_fun f g) → f ≡ g
unfolding eq_fun
eq_fun_eq f g h = yes_eq fun_dec f g h

pub eq_fun_refl : (f : Fun) → T (eq_fun f f)
unfolding eq_fun
eq_fun_refl f = yes_refl fun_dec f

pub mark_dec_eq : (m n : Mark) → T (is_yes (mark_dec m n)) → m ≡ n
mark_dec_eq m n h = yes_eq mark_dec m n h

pub mark_dec_refl : (m : Mark) → T (is_yes (mark_dec m m))
mark_dec_refl m = yes_refl mark_dec m

-- tests that pass together
pub same_truth : (x y : Bool) → (T x → T y) → (T y → T x) → x ≡ y
same_truth true true h k = refl
same_truth true false h k = absurd (h tt)
same_truth false true h k = absurd (k tt)
same_truth false false h k = refl
