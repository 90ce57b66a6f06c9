-- A term as the script lists it is equal to the term; equal terms are listed alike; and a set that is the first of its equals keeps its
-- own listing. By recursion on a term.
-- Assumes nothing.
use mathlib.Core.Path.{◌≡◌, refl, sym, ap, ◌∙◌, subst}
use mathlib.Core.Logic.{◌⊎◌, inl, inr}
use mathlib.Core.Bool.{Bool, true, false, ◌||◌}
use mathlib.Core.List.Memᴰ
use mathlib.Core.List.{List, [], ◌∷◌, ◌++◌, map, Memᴰ}
use mathlib.Core.Option.{Option, none, some, none-ne-some}
use lib.Dec.{T}
use Rattle.script_spec.specs.Base.{any, collect, seconds, first_of}
use Rattle.script_spec.specs.Tree.{Tm, Mark, Forest, node, nil, cons, trees, forest, mark, children, is_set, eq_tm}
use Rattle.script_spec.specs.Listing.{only, sets_in, sets_in_each, stand_in, in_order_of, first_listing, listed, listed_each}
use Rattle.script_spec.specs.Faithful.{Every, every, also}
use Rattle.script_spec.proofs.Laws.{is_true}
use Rattle.script_spec.proofs.Lists.{trees_forest, any_mem, mem_map, map_mem, every_mem}
use Rattle.script_spec.proofs.Equal.{Found, Alike, Each, Equal, eq_tm_parts, eq_tm_from, eq_tm_refl, eq_tm_sym, eq_tm_trans, eq_tm_left, eq_tm_right}

-- ---- the first element that passes

module _ {A : Type 0} where
  first_of_alike : (p q : A → Bool) → ((x : A) → p x ≡ q x) → (xs : List A) → first_of p xs ≡ first_of q xs
  unfolding first_of
  first_of_alike p q h [] = refl
  first_of_alike p q h (x ∷ xs) = λ i. elim (h x i) as (λ b. Option A) [ true ↦ some x | false ↦ first_of_alike p q h xs i ]

  -- where one passes there is a first
  pub first_of_found : (p : A → Bool) (xs : List A) → T (any p xs) → (x : A) × (first_of p xs ≡ some x) × T (p x)
  unfolding first_of any
  first_of_found p [] h = absurd h
  first_of_found p (x ∷ xs) h = go (p x) refl h (λ k. first_of_found p xs k)
    where
      go : (b : Bool) → p x ≡ b → T (b || any p xs) → (T (any p xs) → (y : A) × (first_of p xs ≡ some y) × T (p y))
          → (y : A) × (◌≡◌ {A = Option A} (elim b as (λ z. Option A) [ true ↦ some x | false ↦ first_of p xs ]) (some y)) × T (p y)
      go true e k ih = (x, refl, subst T (sym e) tt)
      go false e k ih = ih k

  first_of_passes : (p : A → Bool) (xs : List A) (x : A) → first_of p xs ≡ some x → T (p x)
  unfolding first_of
  first_of_passes p [] x h = absurd (no h)
    where
      no : ◌≡◌ {A = Option A} none (some x) → ⊥
      no e = none-ne-some x e
  first_of_passes p (y ∷ xs) x h = go (p y) refl h (λ k. first_of_passes p xs x k)
    where
      go : (b : Bool) → p y ≡ b → ◌≡◌ {A = Option A} (elim b as (λ z. Option A) [ true ↦ some y | false ↦ first_of p xs ]) (some x) → (first_of p xs ≡ some x → T (p x)) → T (p x)
      go true e k ih = let q : y ≡ x = cc in subst (λ (z : A). T (p z)) q (subst T (sym e) tt)
      go false e k ih = ih k

  -- the first after some that don't pass
  pub first_of_after : (p : A → Bool) (xs : List A) (x : A) (ys : List A) → ((y : A) → Memᴰ y xs → T (p y) → ⊥) → T (p x) → first_of p (xs ++ (x ∷ ys)) ≡ some x
  unfolding first_of
  first_of_after p [] x ys h k = rw (is_true (p x) k) refl
  first_of_after p (y ∷ xs) x ys h k = go (p y) (h y (Memᴰ.head refl)) (first_of_after p xs x ys (λ z m. h z (Memᴰ.tail m)) k)
    where
      go : (b : Bool) → (T b → ⊥) → first_of p (xs ++ (x ∷ ys)) ≡ some x → ◌≡◌ {A = Option A} (elim b as (λ z. Option A) [ true ↦ some y | false ↦ first_of p (xs ++ (x ∷ ys)) ]) (some x)
      go true n ih = absurd (n tt)
      go false n ih = ih

-- ---- what stands for a term

-- terms with what stands for each
abbrev pub pairs : (Tm → Tm) → List Tm → List (Tm × Tm)
pairs f xs = map (λ x. (x, f x)) xs

pub seconds_pairs : (f : Tm → Tm) (xs : List Tm) → seconds (pairs f xs) ≡ map f xs
unfolding seconds
seconds_pairs f [] = refl
seconds_pairs f (x ∷ xs) = ap (λ (l : List Tm). f x ∷ l) (seconds_pairs f xs)

-- where a term has an equal one, what stands for it is what stands for one that is equal
record Stands (f : Tm → Tm) (xs : List Tm) (c : Tm) : Type 0 where
  one : Tm
  among : Memᴰ one xs
  equal : T (eq_tm c one)
  is : stand_in (pairs f xs) c ≡ f one ∷ []

stands : (f : Tm → Tm) (xs : List Tm) (c : Tm) → T (any (eq_tm c) xs) → Stands f xs c
unfolding stand_in any
stands f [] c h = absurd h
stands f (x ∷ xs) c h = go (eq_tm c x) refl h (λ k. stands f xs c k)
  where
    go : (b : Bool) → eq_tm c x ≡ b → T (b || any (eq_tm c) xs) → (T (any (eq_tm c) xs) → Stands f xs c) → Stands f (x ∷ xs) c
    go true e k ih = record { one = x; among = Memᴰ.head refl; equal = subst T (sym e) tt; is = rw (e, stand_in) refl }
    go false e k ih = let s = ih k in record { one = s.one; among = Memᴰ.tail s.among; equal = s.equal; is = rw (e, stand_in) s.is }

-- ---- sets in a term, whatever stands above them

sets_in_all : (m : Mark) (ts : Forest Mark) → sets_in true (node m ts) ≡ sets_in_each true ts ++ only (is_set m) (node m ts ∷ [])
unfolding sets_in only
sets_in_all m ts = refl

module _ (sets : List Tm) where
  -- each set in a term has an equal one in `sets`
  abbrev pub Held : Tm → Type 0
  Held t = (x : Tm) → Memᴰ x (sets_in true t) → T (any (eq_tm x) sets)

  pub held_below : (m : Mark) (ts : Forest Mark) → Held (node m ts) → (t : Tm) → Memᴰ t (trees ts) → Held t
  unfolding sets_in trees
  held_below m ts h t k x n = h x (subst (Memᴰ x) (sym (sets_in_all m ts)) (Memᴰ.append_left (only (is_set m) (node m ts ∷ [])) (inside ts k)))
    where
      inside : (us : Forest Mark) → Memᴰ t (trees us) → Memᴰ x (sets_in_each true us)
      inside nil x'' = elim x'' [ ]
      inside (cons u us) (Memᴰ.head e) = Memᴰ.append_left (sets_in_each true us) (subst (λ (v : Tm). Memᴰ x (sets_in true v)) e n)
      inside (cons u us) (Memᴰ.tail j) = Memᴰ.append_right (sets_in true u) (inside us j)

  held_self : (m : Mark) (ts : Forest Mark) → Held (node m ts) → is_set m ≡ true → T (any (eq_tm (node m ts)) sets)
  unfolding only
  held_self m ts h s =
      h (node m ts) (subst (Memᴰ (node m ts)) (sym (sets_in_all m ts)) (Memᴰ.append_right (sets_in_each true ts) (subst (λ (b : Bool). Memᴰ (node m ts) (only b (node m ts ∷ []))) (sym s) (Memᴰ.head refl))))

  -- ---- the children of a listed term

  listed_each_pairs : (ts : Forest Mark) → listed_each sets ts ≡ pairs (listed sets) (trees ts)
  unfolding listed trees
  listed_each_pairs nil = refl
  listed_each_pairs (cons t ts) = ap (λ (l : List (Tm × Tm)). (t, listed sets t) ∷ l) (listed_each_pairs ts)

  -- a term by its first listing
  pub listed_by : (m : Mark) (ts : Forest Mark) → listed sets (node m ts) ≡ node m (forest (in_order_of (first_listing sets (node m ts)) (pairs (listed sets) (trees ts))))
  unfolding listed
  listed_by m ts = ap (λ (l : List (Tm × Tm)). node m (forest (in_order_of (first_listing sets (node m ts)) l))) (listed_each_pairs ts)

  first_listing_none : (t : Tm) → is_set (mark t) ≡ false → first_listing sets t ≡ none
  unfolding first_listing
  first_listing_none t s = ap (λ (b : Bool). elim b as (λ x. Option Tm) [ true ↦ first_of (eq_tm t) sets | false ↦ none ]) s

  pub first_listing_set : (t : Tm) → is_set (mark t) ≡ true → first_listing sets t ≡ first_of (eq_tm t) sets
  unfolding first_listing
  first_listing_set t s = ap (λ (b : Bool). elim b as (λ x. Option Tm) [ true ↦ first_of (eq_tm t) sets | false ↦ none ]) s

  -- a term that is no set
  pub listed_plain : (m : Mark) (ts : Forest Mark) → is_set m ≡ false → listed sets (node m ts) ≡ node m (forest (map (listed sets) (trees ts)))
  unfolding in_order_of mark
  listed_plain m ts s =
      listed_by m ts
      ∙ ap (λ (o : Option Tm). node m (forest (in_order_of o (pairs (listed sets) (trees ts))))) (first_listing_none (node m ts) s)
      ∙ ap (λ (l : List Tm). node m (forest l)) (seconds_pairs (listed sets) (trees ts))

  -- a set by the first that is equal to it
  listed_set : (m : Mark) (ts : Forest Mark) (s : Tm) → is_set m ≡ true → first_of (eq_tm (node m ts)) sets ≡ some s
      → listed sets (node m ts) ≡ node m (forest (collect (stand_in (pairs (listed sets) (trees ts))) (children s)))
  unfolding in_order_of mark
  listed_set m ts s b e =
      listed_by m ts ∙ ap (λ (o : Option Tm). node m (forest (in_order_of o (pairs (listed sets) (trees ts))))) (first_listing_set (node m ts) b ∙ e)

  -- ---- a listed term is equal to its term

  abbrev Same : Tm → Type 0
  Same t = T (eq_tm t (listed sets t))

  each_same : (xs : List Tm) → Every Same xs → Each xs (map (listed sets) xs)
  unfolding Each
  each_same [] h = tt
  each_same (x ∷ xs) (also p h) = (p, each_same xs h)

  alike_same : (xs : List Tm) → Every Same xs → Alike xs (map (listed sets) xs)
  alike_same xs h = record {
    there = λ x m. record { one = listed sets x; among = mem_map (listed sets) xs m; passes = every_mem h m };
    back = λ y m. let r = map_mem (listed sets) xs m in record { one = r.0; among = r.1; passes = subst (λ (v : Tm). T (eq_tm r.0 v)) (sym r.2) (every_mem h r.1) };
  }

  -- the elements in the order of cs, which has their equals
  alike_ordered : (xs cs : List Tm) → Every Same xs → Alike xs cs → Alike xs (collect (stand_in (pairs (listed sets) xs)) cs)
  unfolding collect
  alike_ordered xs cs h a = record { there = λ x m. let f = a.there x m in reach cs (λ c k. k) x m f.one f.among f.passes; back = λ y m. from cs (λ c k. k) y m }
    where
      matched : (c : Tm) → Memᴰ c cs → Stands (listed sets) xs c
      matched c m = let f = a.back c m in stands (listed sets) xs c (any_mem (eq_tm c) xs f.among (eq_tm_sym f.one c f.passes))

      reach : (ds : List Tm) → ((c : Tm) → Memᴰ c ds → Memᴰ c cs) → (x : Tm) → Memᴰ x xs → (c : Tm) → Memᴰ c ds → T (eq_tm x c) → Found (eq_tm x) (collect (stand_in (pairs (listed sets) xs)) ds)
      reach [] i x m c x6 k = elim x6 [ ]
      reach (d ∷ ds) i x m c (Memᴰ.head e) k =
          let s = matched d (i d (Memᴰ.head refl)) in
          let k' : T (eq_tm x d) = subst (λ (v : Tm). T (eq_tm x v)) e k in
          record {
            one = listed sets s.one;
            among = Memᴰ.append_left (collect (stand_in (pairs (listed sets) xs)) ds) (subst (Memᴰ (listed sets s.one)) (sym s.is) (Memᴰ.head refl));
            passes = eq_tm_trans x s.one (listed sets s.one) (eq_tm_trans x d s.one k' s.equal) (every_mem h s.among);
          }
      reach (d ∷ ds) i x m c (Memᴰ.tail j) k =
          let f = reach ds (λ b l. i b (Memᴰ.tail l)) x m c j k in
          record { one = f.one; among = Memᴰ.append_right (stand_in (pairs (listed sets) xs) d) f.among; passes = f.passes }

      from : (ds : List Tm) → ((c : Tm) → Memᴰ c ds → Memᴰ c cs) → (y : Tm) → Memᴰ y (collect (stand_in (pairs (listed sets) xs)) ds) → Found (λ x. eq_tm x y) xs
      from [] i y m = absurd (Memᴰ.not-nil m)
      from (d ∷ ds) i y m =
          let s = matched d (i d (Memᴰ.head refl)) in
          at_head s (Memᴰ.append_cases (stand_in (pairs (listed sets) xs) d) m) (λ k. from ds (λ b l. i b (Memᴰ.tail l)) y k)
        where
          at_head : Stands (listed sets) xs d → Memᴰ y (stand_in (pairs (listed sets) xs) d) ⊎ Memᴰ y (collect (stand_in (pairs (listed sets) xs)) ds)
              → (Memᴰ y (collect (stand_in (pairs (listed sets) xs)) ds) → Found (λ x. eq_tm x y) xs) → Found (λ x. eq_tm x y) xs
          at_head s (inl k) ih =
              let e : y ≡ listed sets s.one = Memᴰ.eq_of_singleton (subst (Memᴰ y) s.is k) in
              record { one = s.one; among = s.among; passes = subst (λ (v : Tm). T (eq_tm s.one v)) (sym e) (every_mem h s.among) }
          at_head s (inr k) ih = ih k

  same_by : (m : Mark) (ts : Forest Mark) → Every Same (trees ts) → (b : Bool) → is_set m ≡ b → (o : Option Tm) → first_of (eq_tm (node m ts)) sets ≡ o → Same (node m ts)
  unfolding Equal in_order_of mark children
  same_by m ts h false s o f =
      subst (λ (v : Tm). T (eq_tm (node m ts) v)) (sym (listed_plain m ts s))
      (eq_tm_from m ts (forest (map (listed sets) (trees ts))) (rw (trees_forest (map (listed sets) (trees ts)), s) (each_same (trees ts) h)))
  same_by m ts h true s none f =
      subst (λ (v : Tm). T (eq_tm (node m ts) v))
      (sym (listed_by m ts ∙ ap (λ (o : Option Tm). node m (forest (in_order_of o (pairs (listed sets) (trees ts))))) (first_listing_set (node m ts) s ∙ f) ∙ ap (λ (l : List Tm). node m (forest l)) (seconds_pairs (listed sets) (trees ts))))
      (eq_tm_from m ts (forest (map (listed sets) (trees ts))) (rw (trees_forest (map (listed sets) (trees ts)), s) (alike_same (trees ts) h)))
  same_by m ts h true s (some (node n cs)) f =
      let p = eq_tm_parts m n ts cs (first_of_passes (eq_tm (node m ts)) sets (node n cs) f) in
      let a : Alike (trees ts) (trees cs) = subst (λ (b : Bool). Equal b (trees ts) (trees cs)) s p.1 in
      let l = collect (stand_in (pairs (listed sets) (trees ts))) (trees cs) in
      subst (λ (v : Tm). T (eq_tm (node m ts) v)) (sym (listed_set m ts (node n cs) s f))
      (eq_tm_from m ts (forest l) (rw (trees_forest l, s) (alike_ordered (trees ts) (trees cs) h a)))

  mutual
    unfolding trees

    pub listed_same : (t : Tm) → T (eq_tm t (listed sets t))
    listed_same (node m ts) = same_by m ts (listed_sames ts) (is_set m) refl (first_of (eq_tm (node m ts)) sets) refl

    listed_sames : (ts : Forest Mark) → Every Same (trees ts)
    listed_sames nil = every
    listed_sames (cons t ts) = also (listed_same t) (listed_sames ts)

  -- so tests of equality may take listed terms
  pub listed_eq_tm : (t u : Tm) → eq_tm (listed sets t) (listed sets u) ≡ eq_tm t u
  listed_eq_tm t u = sym (eq_tm_left t (listed sets t) (listed sets u) (listed_same t)) ∙ sym (eq_tm_right u (listed sets u) t (listed_same u))

  -- ---- equal terms are listed alike

  abbrev AlikeListed : Tm → Type 0
  AlikeListed t = Held t → (u : Tm) → T (eq_tm t u) → listed sets t ≡ listed sets u

  each_listed : (xs ys : List Tm) → ((x : Tm) → Memᴰ x xs → Held x) → Every AlikeListed xs → Each xs ys → map (listed sets) xs ≡ map (listed sets) ys
  unfolding Each
  each_listed [] [] k h p = refl
  each_listed [] (y ∷ ys) k h p = absurd p
  each_listed (x ∷ xs) [] k h p = absurd p
  each_listed (x ∷ xs) (y ∷ ys) k (also q h) p = λ i. q (k x (Memᴰ.head refl)) y p.0 i ∷ each_listed xs ys (λ z m. k z (Memᴰ.tail m)) h p.1 i

  ordered_listed : (xs ys cs : List Tm) → ((x : Tm) → Memᴰ x xs → Held x) → Every AlikeListed xs → ((c : Tm) → Memᴰ c cs → T (any (eq_tm c) xs)) → ((c : Tm) → Memᴰ c cs → T (any (eq_tm c) ys))
      → collect (stand_in (pairs (listed sets) xs)) cs ≡ collect (stand_in (pairs (listed sets) ys)) cs
  unfolding collect
  ordered_listed xs ys [] k h a b = refl
  ordered_listed xs ys (c ∷ cs) k h a b =
      let s = stands (listed sets) xs c (a c (Memᴰ.head refl)) in
      let r = stands (listed sets) ys c (b c (Memᴰ.head refl)) in
      let e : listed sets s.one ≡ listed sets r.one = every_mem h s.among (k s.one s.among) r.one (eq_tm_trans s.one c r.one (eq_tm_sym c s.one s.equal) r.equal) in
      let d : stand_in (pairs (listed sets) xs) c ≡ stand_in (pairs (listed sets) ys) c = s.is ∙ ap (λ (v : Tm). v ∷ []) e ∙ sym r.is in
      λ i. d i ++ ordered_listed xs ys cs k h (λ z m. a z (Memᴰ.tail m)) (λ z m. b z (Memᴰ.tail m)) i

  -- each element of the first listing has an equal one in an equal set
  listing_any : (m n : Mark) (ts cs : Forest Mark) → T (eq_tm (node m ts) (node n cs)) → is_set m ≡ true → (c : Tm) → Memᴰ c (trees cs) → T (any (eq_tm c) (trees ts))
  unfolding Equal
  listing_any m n ts cs h s c k =
      let a : Alike (trees ts) (trees cs) = subst (λ (b : Bool). Equal b (trees ts) (trees cs)) s (eq_tm_parts m n ts cs h).1 in
      let f = a.back c k in
      any_mem (eq_tm c) (trees ts) f.among (eq_tm_sym f.one c f.passes)

  alike_by : (m : Mark) (ts us : Forest Mark) → Held (node m ts) → Every AlikeListed (trees ts) → T (eq_tm (node m ts) (node m us)) → (b : Bool) → is_set m ≡ b → listed sets (node m ts) ≡ listed sets (node m us)
  unfolding Equal children
  alike_by m ts us k h q false s =
      let p : Each (trees ts) (trees us) = subst (λ (b : Bool). Equal b (trees ts) (trees us)) s (eq_tm_parts m m ts us q).1 in
      listed_plain m ts s ∙ ap (λ (l : List Tm). node m (forest l)) (each_listed (trees ts) (trees us) (held_below m ts k) h p) ∙ sym (listed_plain m us s)
  alike_by m ts us k h q true s = go (first_of_found (eq_tm (node m ts)) sets (held_self m ts k s))
    where
      go : (x : Tm) × (first_of (eq_tm (node m ts)) sets ≡ some x) × T (eq_tm (node m ts) x) → listed sets (node m ts) ≡ listed sets (node m us)
      go (node n cs, e, r) =
          let e' : first_of (eq_tm (node m us)) sets ≡ some (node n cs) = sym (first_of_alike (eq_tm (node m ts)) (eq_tm (node m us)) (λ x. eq_tm_left (node m ts) (node m us) x q) sets) ∙ e in
          let r' : T (eq_tm (node m us) (node n cs)) = eq_tm_trans (node m us) (node m ts) (node n cs) (eq_tm_sym (node m ts) (node m us) q) r in
          listed_set m ts (node n cs) s e
          ∙ ap (λ (l : List Tm). node m (forest l)) (ordered_listed (trees ts) (trees us) (trees cs) (held_below m ts k) h (listing_any m n ts cs r s) (listing_any m n us cs r' s))
          ∙ sym (listed_set m us (node n cs) s e')

  mutual
    unfolding trees

    pub listed_alike : (t : Tm) → Held t → (u : Tm) → T (eq_tm t u) → listed sets t ≡ listed sets u
    listed_alike (node m ts) k (node n us) h =
        let p : m ≡ n = (eq_tm_parts m n ts us h).0 in
        let q : node m us ≡ node n us = ap (λ (x : Mark). node x us) p in
        alike_by m ts us k (listed_alikes ts) (subst (λ (v : Tm). T (eq_tm (node m ts) v)) (sym q) h) (is_set m) refl ∙ ap (listed sets) q

    listed_alikes : (ts : Forest Mark) → Every AlikeListed (trees ts)
    listed_alikes nil = every
    listed_alikes (cons t ts) = also (λ k u h. listed_alike t k u h) (listed_alikes ts)

  -- ---- a set that is the first of its equals keeps its listing

  own_order : (xs cs : List Tm) → ((x : Tm) → Memᴰ x xs → Held x) → ((c : Tm) → Memᴰ c cs → Memᴰ c xs) → collect (stand_in (pairs (listed sets) xs)) cs ≡ map (listed sets) cs
  unfolding collect
  own_order xs [] k i = refl
  own_order xs (c ∷ cs) k i =
      let s = stands (listed sets) xs c (any_mem (eq_tm c) xs (i c (Memᴰ.head refl)) (eq_tm_refl c)) in
      let e : listed sets c ≡ listed sets s.one = listed_alike c (k c (i c (Memᴰ.head refl))) s.one s.equal in
      let d : stand_in (pairs (listed sets) xs) c ≡ listed sets c ∷ [] = s.is ∙ ap (λ (v : Tm). v ∷ []) (sym e) in
      λ j. d j ++ own_order xs cs k (λ z m. i z (Memᴰ.tail m)) j

  pub listed_own : (m : Mark) (ts : Forest Mark) → Held (node m ts) → is_set m ≡ true → first_of (eq_tm (node m ts)) sets ≡ some (node m ts) → listed sets (node m ts) ≡ node m (forest (map (listed sets) (trees ts)))
  unfolding children
  listed_own m ts k s e = listed_set m ts (node m ts) s e ∙ ap (λ (l : List Tm). node m (forest l)) (own_order (trees ts) (trees ts) (held_below m ts k) (λ c j. j))
