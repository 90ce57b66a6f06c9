-- Equality of terms is an equivalence, and equal terms have the same mark, equal children and the same depth. By recursion on a term.
-- Assumes nothing.
use Prim.Native.Nat.{ℕ, zero, suc, ◌≤◌, max, zero-le}
use native.Mathlib.Omega.{arith}
use mathlib.Core.Path.{◌≡◌, refl, sym, ap, ◌∙◌, subst}
use mathlib.Core.Logic.{◌⊎◌, inl, inr}
use mathlib.Core.Bool.{Bool, true, false, ◌||◌}
use mathlib.Core.List.{List, [], ◌∷◌, map, Memᴰ}
use lib.Dec.{T}
use Rattle.script_spec.specs.Base.{is_yes, any, all}
use Rattle.script_spec.specs.Tree.{Tm, Mark, Forest, node, nil, cons, trees, mark, children, depth, depths, mark_dec, is_set, itemwise, any_order, eq_tm, equals}
use Rattle.script_spec.specs.Faithful.{Every, every, also}
use Rattle.script_spec.proofs.Laws.{and_parts, and_both, or_cases, mark_dec_eq, mark_dec_refl, same_truth}
use Rattle.script_spec.proofs.Lists.{any_mem, all_mem, all_members, mem_map, map_mem, every_mem}

-- ---- lists

-- an element that passes
pub record Found {A : Type 0} (p : A → Bool) (xs : List A) : Type 0 where
  pub one : A
  pub among : Memᴰ one xs
  pub passes : T (p one)

pub any_found : {A : Type 0} (p : A → Bool) (xs : List A) → T (any p xs) → Found p xs
unfolding any
any_found p [] h = absurd h
any_found p (x ∷ xs) h = go (or_cases (p x) (any p xs) h) (λ k. any_found p xs k)
  where
    go : T (p x) ⊎ T (any p xs) → (T (any p xs) → Found p xs) → Found p (x ∷ xs)
    go (inl k) ih = record { one = x; among = Memᴰ.head refl; passes = k }
    go (inr k) ih = let f = ih k in record { one = f.one; among = Memᴰ.tail f.among; passes = f.passes }

-- ---- equal children

-- lists that have equal terms, in any order
pub record Alike (xs ys : List Tm) : Type 0 where
  pub there : (x : Tm) → Memᴰ x xs → Found (eq_tm x) ys
  pub back : (y : Tm) → Memᴰ y ys → Found (λ x. eq_tm x y) xs

-- lists whose terms are equal one by one
unfoldable pub Each : List Tm → List Tm → Type 0
Each [] [] = Unit {0}
Each [] (y ∷ ys) = ⊥
Each (x ∷ xs) [] = ⊥
Each (x ∷ xs) (y ∷ ys) = T (eq_tm x y) × Each xs ys

-- the children of equal terms, by whether these are sets
unfoldable pub Equal : Bool → List Tm → List Tm → Type 0
Equal true xs ys = Alike xs ys
Equal false xs ys = Each xs ys

equals_map : (ts : Forest Mark) → equals ts ≡ map eq_tm (trees ts)
unfolding eq_tm trees
equals_map nil = refl
equals_map (cons t ts) = ap (λ (l : List (Tm → Bool)). eq_tm t ∷ l) (equals_map ts)

all_any : (xs ys : List Tm) → T (all (λ p. any p ys) (map eq_tm xs)) → (x : Tm) → Memᴰ x xs → T (any (eq_tm x) ys)
all_any xs ys h x m = all_mem (λ p. any p ys) (map eq_tm xs) h (mem_map eq_tm xs m)

any_all : (xs ys : List Tm) → ((x : Tm) → Memᴰ x xs → T (any (eq_tm x) ys)) → T (all (λ p. any p ys) (map eq_tm xs))
any_all xs ys h = all_members (λ p. any p ys) (map eq_tm xs) (λ q m. let r = map_mem eq_tm xs m in subst (λ (p : Tm → Bool). T (any p ys)) (sym r.2) (h r.0 r.1))

any_tests : (xs : List Tm) (y : Tm) → any (λ (p : Tm → Bool). p y) (map eq_tm xs) ≡ any (λ x. eq_tm x y) xs
unfolding any
any_tests [] y = refl
any_tests (x ∷ xs) y = ap (λ (b : Bool). eq_tm x y || b) (any_tests xs y)

each_itemwise : (xs ys : List Tm) → T (itemwise (map eq_tm xs) ys) → Each xs ys
unfolding itemwise Each
each_itemwise [] [] h = tt
each_itemwise [] (y ∷ ys) h = h
each_itemwise (x ∷ xs) [] h = h
each_itemwise (x ∷ xs) (y ∷ ys) h = let q = and_parts (eq_tm x y) (itemwise (map eq_tm xs) ys) h in (q.0, each_itemwise xs ys q.1)

itemwise_each : (xs ys : List Tm) → Each xs ys → T (itemwise (map eq_tm xs) ys)
unfolding itemwise Each
itemwise_each [] [] h = tt
itemwise_each [] (y ∷ ys) h = h
itemwise_each (x ∷ xs) [] h = h
itemwise_each (x ∷ xs) (y ∷ ys) h = and_both (eq_tm x y) (itemwise (map eq_tm xs) ys) h.0 (itemwise_each xs ys h.1)

equal_tests : (b : Bool) (xs ys : List Tm) → T (elim b as (λ x. Bool) [ true ↦ any_order (map eq_tm xs) ys | false ↦ itemwise (map eq_tm xs) ys ]) → Equal b xs ys
unfolding any_order Equal
equal_tests true xs ys h =
    let q = and_parts (all (λ p. any p ys) (map eq_tm xs)) (all (λ y. any (λ p. p y) (map eq_tm xs)) ys) h in
    record {
      there = λ x m. any_found (eq_tm x) ys (all_any xs ys q.0 x m);
      back = λ y m. any_found (λ x. eq_tm x y) xs (subst T (any_tests xs y) (all_mem (λ z. any (λ p. p z) (map eq_tm xs)) ys q.1 m));
    }
equal_tests false xs ys h = each_itemwise xs ys h

tests_equal : (b : Bool) (xs ys : List Tm) → Equal b xs ys → T (elim b as (λ x. Bool) [ true ↦ any_order (map eq_tm xs) ys | false ↦ itemwise (map eq_tm xs) ys ])
unfolding any_order Equal
tests_equal true xs ys h =
    and_both (all (λ p. any p ys) (map eq_tm xs)) (all (λ y. any (λ p. p y) (map eq_tm xs)) ys)
    (any_all xs ys (λ x m. let f = h.there x m in any_mem (eq_tm x) ys f.among f.passes))
    (all_members (λ z. any (λ p. p z) (map eq_tm xs)) ys (λ y m. let f = h.back y m in subst T (sym (any_tests xs y)) (any_mem (λ x. eq_tm x y) xs f.among f.passes)))
tests_equal false xs ys h = itemwise_each xs ys h

-- equal terms have one mark, and equal children
pub eq_tm_parts : (m n : Mark) (ts us : Forest Mark) → T (eq_tm (node m ts) (node n us)) → (m ≡ n) × Equal (is_set m) (trees ts) (trees us)
unfolding eq_tm mark children
eq_tm_parts m n ts us h =
    let q = and_parts (is_yes (mark_dec m n)) _ h in
    (mark_dec_eq m n q.0, equal_tests (is_set m) (trees ts) (trees us) (subst (λ (ps : List (Tm → Bool)). T (elim (is_set m) as (λ x. Bool) [ true ↦ any_order ps (trees us) | false ↦ itemwise ps (trees us) ])) (equals_map ts) q.1))

pub eq_tm_from : (m : Mark) (ts us : Forest Mark) → Equal (is_set m) (trees ts) (trees us) → T (eq_tm (node m ts) (node m us))
unfolding eq_tm mark children
eq_tm_from m ts us h =
    and_both (is_yes (mark_dec m m)) _ (mark_dec_refl m)
    (subst (λ (ps : List (Tm → Bool)). T (elim (is_set m) as (λ x. Bool) [ true ↦ any_order ps (trees us) | false ↦ itemwise ps (trees us) ])) (sym (equals_map ts)) (tests_equal (is_set m) (trees ts) (trees us) h))

-- ---- an equivalence

equal_refl : (b : Bool) (xs : List Tm) → Every (λ x. T (eq_tm x x)) xs → Equal b xs xs
unfolding Equal Each
equal_refl true xs h = record {
  there = λ x m. record { one = x; among = m; passes = every_mem h m };
  back = λ x m. record { one = x; among = m; passes = every_mem h m };
}
equal_refl false [] h = tt
equal_refl false (x ∷ xs) (also p h) = (p, equal_refl false xs h)

mutual
  unfolding trees

  pub eq_tm_refl : (t : Tm) → T (eq_tm t t)
  eq_tm_refl (node m ts) = eq_tm_from m ts ts (equal_refl (is_set m) (trees ts) (eq_tm_refls ts))

  eq_tm_refls : (ts : Forest Mark) → Every (λ t. T (eq_tm t t)) (trees ts)
  eq_tm_refls nil = every
  eq_tm_refls (cons t ts) = also (eq_tm_refl t) (eq_tm_refls ts)

equal_sym : (b : Bool) (xs ys : List Tm) → Every (λ x. (y : Tm) → T (eq_tm x y) → T (eq_tm y x)) xs → Equal b xs ys → Equal b ys xs
unfolding Equal Each
equal_sym true xs ys s h = record {
  there = λ y m. let f = h.back y m in record { one = f.one; among = f.among; passes = every_mem s f.among y f.passes };
  back = λ x m. let f = h.there x m in record { one = f.one; among = f.among; passes = every_mem s m f.one f.passes };
}
equal_sym false [] [] s h = tt
equal_sym false [] (y ∷ ys) s h = absurd h
equal_sym false (x ∷ xs) [] s h = absurd h
equal_sym false (x ∷ xs) (y ∷ ys) (also p s) h = (p y h.0, equal_sym false xs ys s h.1)

mutual
  unfolding trees

  pub eq_tm_sym : (t u : Tm) → T (eq_tm t u) → T (eq_tm u t)
  eq_tm_sym (node m ts) (node n us) h =
      let p = eq_tm_parts m n ts us h in
      subst (λ (k : Mark). T (eq_tm (node k us) (node m ts))) p.0 (eq_tm_from m us ts (equal_sym (is_set m) (trees ts) (trees us) (eq_tm_syms ts) p.1))

  eq_tm_syms : (ts : Forest Mark) → Every (λ t. (u : Tm) → T (eq_tm t u) → T (eq_tm u t)) (trees ts)
  eq_tm_syms nil = every
  eq_tm_syms (cons t ts) = also (λ u h. eq_tm_sym t u h) (eq_tm_syms ts)

-- what is equal to y, which x is equal to, is equal to x
abbrev Passes : Tm → Type 0
Passes x = (y z : Tm) → T (eq_tm x y) → T (eq_tm y z) → T (eq_tm x z)

equal_trans : (b : Bool) (xs ys zs : List Tm) → Every Passes xs → Equal b xs ys → Equal b ys zs → Equal b xs zs
unfolding Equal Each
equal_trans true xs ys zs s h k = record {
  there = λ x m. let f = h.there x m in let g = k.there f.one f.among in record { one = g.one; among = g.among; passes = every_mem s m f.one g.one f.passes g.passes };
  back = λ z m. let g = k.back z m in let f = h.back g.one g.among in record { one = f.one; among = f.among; passes = every_mem s f.among g.one z f.passes g.passes };
}
equal_trans false [] [] [] s h k = tt
equal_trans false [] [] (z ∷ zs) s h k = absurd k
equal_trans false [] (y ∷ ys) zs s h k = absurd h
equal_trans false (x ∷ xs) [] zs s h k = absurd h
equal_trans false (x ∷ xs) (y ∷ ys) [] s h k = absurd k
equal_trans false (x ∷ xs) (y ∷ ys) (z ∷ zs) (also p s) h k = (p y z h.0 k.0, equal_trans false xs ys zs s h.1 k.1)

mutual
  unfolding trees

  pub eq_tm_trans : (t u v : Tm) → T (eq_tm t u) → T (eq_tm u v) → T (eq_tm t v)
  eq_tm_trans (node m ts) (node n us) (node o vs) h k =
      let p = eq_tm_parts m n ts us h in
      let q = eq_tm_parts n o us vs k in
      let k' : Equal (is_set m) (trees us) (trees vs) = subst (λ (x : Mark). Equal (is_set x) (trees us) (trees vs)) (sym p.0) q.1 in
      subst (λ (x : Mark). T (eq_tm (node m ts) (node x vs))) (p.0 ∙ q.0) (eq_tm_from m ts vs (equal_trans (is_set m) (trees ts) (trees us) (trees vs) (eq_tm_transes ts) p.1 k'))

  eq_tm_transes : (ts : Forest Mark) → Every Passes (trees ts)
  eq_tm_transes nil = every
  eq_tm_transes (cons t ts) = also (λ u v h k. eq_tm_trans t u v h k) (eq_tm_transes ts)

-- a test of equality may take an equal term
pub eq_tm_left : (t u x : Tm) → T (eq_tm t u) → eq_tm t x ≡ eq_tm u x
eq_tm_left t u x h = same_truth _ _ (λ k. eq_tm_trans u t x (eq_tm_sym t u h) k) (λ k. eq_tm_trans t u x h k)

pub eq_tm_right : (t u x : Tm) → T (eq_tm t u) → eq_tm x t ≡ eq_tm x u
eq_tm_right t u x h = same_truth _ _ (λ k. eq_tm_trans x t u k h) (λ k. eq_tm_trans x u t k (eq_tm_sym t u h))

-- ---- depth

-- the greatest depth of terms
greatest : List Tm → ℕ
greatest [] = zero
greatest (x ∷ xs) = max (depth x) (greatest xs)

depths_greatest : (ts : Forest Mark) → depths ts ≡ greatest (trees ts)
unfolding depth trees greatest
depths_greatest nil = refl
depths_greatest (cons t ts) = ap (max (depth t)) (depths_greatest ts)

greatest_mem : (x : Tm) (xs : List Tm) → Memᴰ x xs → depth x ≤ greatest xs
unfolding greatest
greatest_mem x [] x'' = elim x'' [ ]
greatest_mem x (y ∷ xs) (Memᴰ.head e) = let p : depth x ≡ depth y = ap depth e in omega arith
greatest_mem x (y ∷ xs) (Memᴰ.tail m) = let h = greatest_mem x xs m in omega arith

greatest_below : (xs : List Tm) (n : ℕ) → ((x : Tm) → Memᴰ x xs → depth x ≤ n) → greatest xs ≤ n
unfolding greatest
greatest_below [] n h = zero-le
greatest_below (x ∷ xs) n h = let p = h x (Memᴰ.head refl) in let q = greatest_below xs n (λ y m. h y (Memᴰ.tail m)) in omega arith

abbrev SameDepth : Tm → Type 0
SameDepth x = (y : Tm) → T (eq_tm x y) → depth x ≡ depth y

equal_greatest : (b : Bool) (xs ys : List Tm) → Every SameDepth xs → Equal b xs ys → greatest xs ≡ greatest ys
unfolding Equal Each greatest
equal_greatest true xs ys s h =
    let p : greatest xs ≤ greatest ys = greatest_below xs (greatest ys) (λ x m. let f = h.there x m in let e = every_mem s m f.one f.passes in let k = greatest_mem f.one ys f.among in omega arith) in
    let q : greatest ys ≤ greatest xs = greatest_below ys (greatest xs) (λ y m. let f = h.back y m in let e = every_mem s f.among y f.passes in let k = greatest_mem f.one xs f.among in omega arith) in
    omega arith
equal_greatest false [] [] s h = refl
equal_greatest false [] (y ∷ ys) s h = absurd h
equal_greatest false (x ∷ xs) [] s h = absurd h
equal_greatest false (x ∷ xs) (y ∷ ys) (also p s) h = let e = p y h.0 in let k = equal_greatest false xs ys s h.1 in omega arith

mutual
  unfolding trees depth

  pub eq_tm_depth : (t u : Tm) → T (eq_tm t u) → depth t ≡ depth u
  eq_tm_depth (node m ts) (node n us) h =
      let p = eq_tm_parts m n ts us h in
      ap suc (depths_greatest ts ∙ equal_greatest (is_set m) (trees ts) (trees us) (eq_tm_depths ts) p.1 ∙ sym (depths_greatest us))

  eq_tm_depths : (ts : Forest Mark) → Every SameDepth (trees ts)
  eq_tm_depths nil = every
  eq_tm_depths (cons t ts) = also (λ u h. eq_tm_depth t u h) (eq_tm_depths ts)
