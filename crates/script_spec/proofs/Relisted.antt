-- The inputs as their script lists them: no two needed terms of theirs are equal and listed differently, their types are as bare, and the
-- walk over them writes what the walk over the inputs writes.
-- Assumes nothing.
use Prim.Native.Nat.{ℕ}
use mathlib.Core.Path.{◌≡◌, refl, sym, ap, ◌∙◌, subst}
use mathlib.Core.Logic.{◌⊎◌, inl, inr}
use mathlib.Core.Bool.{Bool, true, false}
use mathlib.Core.List.Memᴰ
use mathlib.Core.List.{List, [], ◌∷◌, ◌++◌, map, Memᴰ}
use mathlib.Core.Option.{Option, none, some}
use lib.Dec.{T}
use Rattle.script_spec.specs.Base.{any, collect, seconds}
use Rattle.script_spec.specs.Tree.{Tm, Mark, Forest, node, nil, cons, trees, forest, children, eq_tm, Enums}
use Rattle.script_spec.specs.Command.{Command, assert_that}
use Rattle.script_spec.specs.Spelling.{atom}
use Rattle.script_spec.specs.Walk.{State, went, stopped, start, names, encode_inputs, assertions}
use Rattle.script_spec.specs.Listing.{sets_in, sets_of, stand_in, in_order_of, first_listing, listed, as_listed}
use Rattle.script_spec.specs.Faithful.{NeededTerm, is_input, is_child, Every, every, also}
use Rattle.script_spec.proofs.Lists.{trees_forest, any_mem, map_mem, every_mem}
use Rattle.script_spec.proofs.Equal.{eq_tm_refl}
use Rattle.script_spec.proofs.Listings.{pairs, seconds_pairs, Held, held_below, listed_by, listed_eq_tm, listed_alike}
use Rattle.script_spec.proofs.Invariant.{OneListing}
use Rattle.script_spec.proofs.Bare.{BareTerm, BareTerms}
use Rattle.script_spec.proofs.Tracks.{relisted, Tracks, tracks_went, tracks_stopped, atom_listed}
use Rattle.script_spec.proofs.TracksTerms.{Met, encode_inputs_tracks}

-- ---- the children of a listed term

-- a term that is one of xs as listed
abbrev Image : (Tm → Tm) → List Tm → Tm → Type 0
Image f xs t = (x : Tm) × Memᴰ x xs × (t ≡ f x)

seconds_image : (f : Tm → Tm) (xs : List Tm) (t : Tm) → Memᴰ t (seconds (pairs f xs)) → Image f xs t
seconds_image f xs t m = map_mem f xs (subst (Memᴰ t) (seconds_pairs f xs) m)

stand_in_image : (f : Tm → Tm) (xs : List Tm) (c t : Tm) → Memᴰ t (stand_in (pairs f xs) c) → Image f xs t
unfolding stand_in
stand_in_image f [] c t m = absurd (Memᴰ.not-nil m)
stand_in_image f (x ∷ xs) c t m = go (eq_tm c x) m (λ k. stand_in_image f xs c t k)
  where
    go : (b : Bool) → Memᴰ t (elim b as (λ z. List Tm) [ true ↦ f x ∷ [] | false ↦ stand_in (pairs f xs) c ]) → (Memᴰ t (stand_in (pairs f xs) c) → Image f xs t) → Image f (x ∷ xs) t
    go true k ih = (x, Memᴰ.head refl, Memᴰ.eq_of_singleton k)
    go false k ih = let r = ih k in (r.0, Memᴰ.tail r.1, r.2)

collect_image : (f : Tm → Tm) (xs cs : List Tm) (t : Tm) → Memᴰ t (collect (stand_in (pairs f xs)) cs) → Image f xs t
unfolding collect
collect_image f xs [] t m = absurd (Memᴰ.not-nil m)
collect_image f xs (c ∷ cs) t m = go (Memᴰ.append_cases (stand_in (pairs f xs) c) m) (λ k. collect_image f xs cs t k)
  where
    go : Memᴰ t (stand_in (pairs f xs) c) ⊎ Memᴰ t (collect (stand_in (pairs f xs)) cs) → (Memᴰ t (collect (stand_in (pairs f xs)) cs) → Image f xs t) → Image f xs t
    go (inl k) ih = stand_in_image f xs c t k
    go (inr k) ih = ih k

order_image : (f : Tm → Tm) (o : Option Tm) (xs : List Tm) (t : Tm) → Memᴰ t (in_order_of o (pairs f xs)) → Image f xs t
unfolding in_order_of
order_image f none xs t m = seconds_image f xs t m
order_image f (some s) xs t m = collect_image f xs (children s) t m

listed_child : (sets : List Tm) (m : Mark) (ts : Forest Mark) (t : Tm) → Memᴰ t (children (listed sets (node m ts))) → Image (listed sets) (trees ts) t
unfolding children
listed_child sets m ts t k =
    let l = in_order_of (first_listing sets (node m ts)) (pairs (listed sets) (trees ts)) in
    order_image (listed sets) (first_listing sets (node m ts)) (trees ts) t (subst (Memᴰ t) (ap children (listed_by sets m ts) ∙ trees_forest l) k)

-- ---- one listing

module _ (ins : List Tm) where
  abbrev sets : List Tm
  sets = sets_of ins

  input_held : (t : Tm) → Memᴰ t ins → Held sets t
  unfolding sets_of collect
  input_held t m x k = any_mem (eq_tm x) sets (Memᴰ.append_right (collect (sets_in false) ins) (inside ins m)) (eq_tm_refl x)
    where
      inside : (us : List Tm) → Memᴰ t us → Memᴰ x (collect (sets_in true) us)
      inside [] x'' = elim x'' [ ]
      inside (u ∷ us) (Memᴰ.head e) = Memᴰ.append_left (collect (sets_in true) us) (subst (λ (v : Tm). Memᴰ x (sets_in true v)) e k)
      inside (u ∷ us) (Memᴰ.tail j) = Memᴰ.append_right (sets_in true u) (inside us j)

  -- a needed term is a term as listed
  needed_listed : {t : Tm} → NeededTerm (as_listed ins) t → (a : Tm) × (t ≡ listed sets a) × Held sets a
  unfolding as_listed
  needed_listed {t} (is_input m) = let r = map_mem (listed sets) ins m in (r.0, r.2, input_held r.0 r.1)
  needed_listed {t} (is_child {u = u} n f m) = below (needed_listed n)
    where
      below : (a : Tm) × (u ≡ listed sets a) × Held sets a → (b : Tm) × (t ≡ listed sets b) × Held sets b
      below (node o ts, e, h) = let r = listed_child sets o ts t (subst (λ (v : Tm). Memᴰ t (children v)) e m) in (r.0, r.2, held_below sets o ts h r.0 r.1)

  pub one_listing : OneListing (as_listed ins)
  one_listing = record {
    same = λ t u n k h.
        let a = needed_listed n in
        let b = needed_listed k in
        let g : T (eq_tm (listed sets a.0) (listed sets b.0)) = subst (λ (v : Tm). T (eq_tm (listed sets a.0) v)) b.1 (subst (λ (v : Tm). T (eq_tm v u)) a.1 h) in
        a.1 ∙ listed_alike sets a.0 a.2 b.0 (subst T (listed_eq_tm sets a.0 b.0) g) ∙ sym b.1;
  }

  -- ---- bare types

  bare_forest : (l : List Tm) → ((t : Tm) → Memᴰ t l → BareTerm t) → BareTerms (forest l)
  unfolding BareTerm forest
  bare_forest [] h = tt
  bare_forest (x ∷ l) h = (h x (Memᴰ.head refl), bare_forest l (λ t m. h t (Memᴰ.tail m)))

  abbrev StaysBare : Tm → Type 0
  StaysBare t = BareTerm t → BareTerm (listed sets t)

  terms_bare : (ts : Forest Mark) → BareTerms ts → (t : Tm) → Memᴰ t (trees ts) → BareTerm t
  unfolding BareTerm trees
  terms_bare nil b t x'' = elim x'' [ ]
  terms_bare (cons u ts) b t (Memᴰ.head e) = subst BareTerm (sym e) b.0
  terms_bare (cons u ts) b t (Memᴰ.tail m) = terms_bare ts b.1 t m

  made : (m : Mark) (ts : Forest Mark) → BareTerm (node m ts) → Every StaysBare (trees ts) → BareTerm (listed sets (node m ts))
  unfolding BareTerm
  made m ts b h =
      let l = in_order_of (first_listing sets (node m ts)) (pairs (listed sets) (trees ts)) in
      subst BareTerm (sym (listed_by sets m ts))
      (b.0, bare_forest l (λ t k. let r = order_image (listed sets) (first_listing sets (node m ts)) (trees ts) t k in subst BareTerm (sym r.2) (every_mem h r.1 (terms_bare ts b.1 r.0 r.1))))

  mutual
    unfolding trees

    listed_bare : (t : Tm) → BareTerm t → BareTerm (listed sets t)
    listed_bare (node m ts) b = made m ts b (listed_bares ts)

    listed_bares : (ts : Forest Mark) → Every StaysBare (trees ts)
    listed_bares nil = every
    listed_bares (cons t ts) = also (λ b. listed_bare t b) (listed_bares ts)

  pub as_listed_bare : Every BareTerm ins → Every BareTerm (as_listed ins)
  unfolding as_listed
  as_listed_bare h = go ins h
    where
      go : (us : List Tm) → Every BareTerm us → Every BareTerm (map (listed sets) us)
      go [] every = every
      go (u ∷ us) (also b bs) = also (listed_bare u b) (go us bs)

  -- ---- the walk

  walk_tracks : (e : Enums) → Tracks sets (λ s. Met s.terms (collect (sets_in false) ins)) (encode_inputs e ins start) (encode_inputs e (as_listed ins) start)
  unfolding as_listed sets_of start relisted any
  walk_tracks e = encode_inputs_tracks sets e ins [] (collect (sets_in true) ins) start refl (λ t m. input_held t m) (record { known = λ x m. absurd (Memᴰ.not-nil m); closed = λ t h. absurd h })

  -- the walk over the inputs as listed goes where the walk over the inputs does
  pub walk_listed : (e : Enums) (s : State) → encode_inputs e ins start ≡ went s → encode_inputs e (as_listed ins) start ≡ went (relisted sets s)
  walk_listed e s p = tracks_went (walk_tracks e) p

  pub walk_listed_stopped : (e : Enums) (n : ℕ) (t : Tm) (q : ℕ) → encode_inputs e ins start ≡ stopped n t q → encode_inputs e (as_listed ins) start ≡ stopped n (listed sets t) q
  walk_listed_stopped e n t q p = tracks_stopped (walk_tracks e) p

  pub assertions_listed : (e : Enums) (s : State) → (relisted sets s).commands ++ assertions e (names (relisted sets s)) (as_listed ins) ≡ s.commands ++ assertions e (names s) ins
  unfolding relisted assertions as_listed
  assertions_listed e s = ap (λ (l : List Command). s.commands ++ l) (go ins)
    where
      go : (us : List Tm) → map (λ t. assert_that (atom e (names (relisted sets s)) t)) (map (listed sets) us) ≡ map (λ t. assert_that (atom e (names s) t)) us
      go [] = refl
      go (u ∷ us) = λ i. assert_that (atom_listed sets s e u i) ∷ go us i
