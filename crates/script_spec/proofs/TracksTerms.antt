-- The walk over terms and the walk over them as listed keep step: a set that is new is the first of its equals that is met, so that it
-- keeps its own listing. By recursion on the term; the sets that were met before stand in the table.
-- Assumes nothing.
use Prim.Native.Nat.{suc, ◌≤◌}
use native.Mathlib.Omega.{arith}
use mathlib.Core.Path.{◌≡◌, refl, sym, ap, ◌∙◌, subst}
use mathlib.Core.Logic.{◌⊎◌, inl, inr}
use mathlib.Core.Bool.{Bool, true, false, not}
use mathlib.Core.List.Memᴰ
use mathlib.Core.List.{List, [], ◌∷◌, ◌++◌, map, append_assoc, append-nil, Memᴰ}
use lib.Dec.{T}
use Rattle.script_spec.specs.Base.{any, collect, first_of}
use Rattle.script_spec.specs.Tree.{Ty, Tm, Mark, Forest, node, nil, cons, trees, forest, children, depth, depths, type_of, is_set, is_falsehood, eq_tm, Enums}
use Rattle.script_spec.specs.Walk.{State, Step, went, Walk, ◌>>◌, unless, encode_type, encode_new, encode_term, encode_terms, encode_inputs}
use Rattle.script_spec.specs.Listing.{only, sets_in, sets_in_each, listed}
use Rattle.script_spec.proofs.Laws.{any_left, is_true}
use Rattle.script_spec.proofs.Lists.{trees_forest, any_mem}
use Rattle.script_spec.proofs.Equal.{any_found, eq_tm_refl, eq_tm_trans, eq_tm_depth}
use Rattle.script_spec.proofs.Classes.{eq_tm_type_of, eq_tm_falsehood, sets_in_passed, sets_in_into}
use Rattle.script_spec.proofs.Listings.{Held, held_below, first_of_after, listed_same, listed_plain, listed_own}
use Rattle.script_spec.proofs.Entered.{term_cases}
use Rattle.script_spec.proofs.Tracks.{relisted, Tracks, on, tracks_then, tracks_unless, tracks_map, any_listed, Aside, encode_type_tracks, encode_new_tracks}

-- ---- sets that were met

-- a term has an equal one in a table
abbrev In : Tm → List Tm → Type 0
In t us = T (any (eq_tm t) us)

in_equal : (t u : Tm) (us : List Tm) → T (eq_tm t u) → In u us → In t us
in_equal t u us h k = let f = any_found (eq_tm u) us k in any_mem (eq_tm t) us f.among (eq_tm_trans t u f.one h f.passes)

-- the sets that were met, and all sets in the terms of the table, are in the table
pub record Met (us met : List Tm) : Type 0 where
  pub known : (x : Tm) → Memᴰ x met → In x us
  pub closed : (t : Tm) → In t us → (x : Tm) → Memᴰ x (sets_in false t) → In x us

met_more : {us met : List Tm} (more : List Tm) → Met us met → ((x : Tm) → Memᴰ x more → In x us) → Met us (met ++ more)
met_more {us} {met} more h k = record { known = λ x m. elim (Memᴰ.append_cases met m) [ inl j ↦ h.known x j | inr j ↦ k x j ]; closed = h.closed }

-- a term is entered after the sets in it
met_entered : {us met : List Tm} (t : Tm) → Met us met → ((x : Tm) → Memᴰ x (sets_in false t) → In x (us ++ (t ∷ []))) → Met (us ++ (t ∷ [])) (met ++ sets_in false t)
met_entered {us} {met} t h inside = record {
  known = λ x m. elim (Memᴰ.append_cases met m) [ inl j ↦ any_left (eq_tm x) us (t ∷ []) (h.known x j) | inr j ↦ inside x j ];
  closed = λ u k x m. from u x m (term_cases us t u k);
}
  where
    from : (u x : Tm) → Memᴰ x (sets_in false u) → In u us ⊎ T (eq_tm u t) → In x (us ++ (t ∷ []))
    from u x m (inl k) = any_left (eq_tm x) us (t ∷ []) (h.closed u k x m)
    from u x m (inr e) = let f = sets_in_into u t e x m in in_equal x f.one (us ++ (t ∷ [])) f.passes (inside f.one f.among)

-- ---- the sets in a term are no deeper

only_mem : {A : Type 0} (b : Bool) (xs : List A) (x : A) → Memᴰ x (only b xs) → Memᴰ x xs
unfolding only
only_mem true xs x m = m
only_mem false xs x m = absurd (Memᴰ.not-nil m)

mutual
  unfolding sets_in depth only

  sets_in_depth : (t x : Tm) → Memᴰ x (sets_in false t) → depth x ≤ depth t
  sets_in_depth (node m ts) x k = own (Memᴰ.append_cases _ (subst (Memᴰ x) (sets_in_passed m ts) k)) (λ j. sets_in_each_depth ts x j)
    where
      own : Memᴰ x (only (not (is_falsehood (node m ts))) (sets_in_each false ts)) ⊎ Memᴰ x (only (is_set m) (node m ts ∷ [])) → (Memᴰ x (sets_in_each false ts) → depth x ≤ depths ts) → depth x ≤ suc (depths ts)
      own (inl j) ih = let d = ih (only_mem (not (is_falsehood (node m ts))) (sets_in_each false ts) x j) in omega arith
      own (inr j) ih = let e : depth x ≡ suc (depths ts) = ap depth (Memᴰ.eq_of_singleton (only_mem (is_set m) (node m ts ∷ []) x j)) in omega arith

  sets_in_each_depth : (ts : Forest Mark) (x : Tm) → Memᴰ x (sets_in_each false ts) → depth x ≤ depths ts
  sets_in_each_depth nil x k = absurd (Memᴰ.not-nil k)
  sets_in_each_depth (cons t ts) x k = each (Memᴰ.append_cases (sets_in false t) k) (λ j. sets_in_depth t x j) (λ j. sets_in_each_depth ts x j)
    where
      each : Memᴰ x (sets_in false t) ⊎ Memᴰ x (sets_in_each false ts) → (Memᴰ x (sets_in false t) → depth x ≤ depth t) → (Memᴰ x (sets_in_each false ts) → depth x ≤ depths ts) → depth x ≤ depths (cons t ts)
      each (inl j) a b = let d = a j in omega arith
      each (inr j) a b = let d = b j in omega arith

-- ---- a new set is the first of its equals

-- the sets under a term that are met
abbrev under : Mark → Forest Mark → List Tm
under m ts = only (not (is_falsehood (node m ts))) (sets_in_each false ts)

-- a term whose script has its children in its own order
abbrev Own : List Tm → Mark → Forest Mark → Type 0
Own sets m ts = listed sets (node m ts) ≡ node m (forest (map (listed sets) (trees ts)))

own_listing : (sets met rest us : List Tm) (m : Mark) (ts : Forest Mark) → sets ≡ met ++ (sets_in false (node m ts) ++ rest) → Held sets (node m ts) → Met us met → (In (node m ts) us → ⊥)
    → (b : Bool) → is_set m ≡ b → Own sets m ts
unfolding only depth
own_listing sets met rest us m ts p k h new false s = listed_plain sets m ts s
own_listing sets met rest us m ts p k h new true s = listed_own sets m ts k s (ap (first_of (eq_tm (node m ts))) (p ∙ place) ∙ first_of_after (eq_tm (node m ts)) (met ++ under m ts) (node m ts) rest older (eq_tm_refl (node m ts)))
  where
    place : met ++ (sets_in false (node m ts) ++ rest) ≡ (met ++ under m ts) ++ (node m ts ∷ rest)
    place =
        ap (λ (l : List Tm). met ++ (l ++ rest)) (sets_in_passed m ts ∙ ap (λ (b : Bool). under m ts ++ only b (node m ts ∷ [])) s)
        ∙ ap (λ (l : List Tm). met ++ l) (append_assoc (under m ts) (node m ts ∷ []) rest) ∙ sym (append_assoc met (under m ts) (node m ts ∷ rest))

    older : (x : Tm) → Memᴰ x (met ++ under m ts) → T (eq_tm (node m ts) x) → ⊥
    older x j e = elim (Memᴰ.append_cases met j) [
      | inl i ↦ new (in_equal (node m ts) x us e (h.known x i))
      | inr i ↦
          let d = sets_in_each_depth ts x (only_mem (not (is_falsehood (node m ts))) (sets_in_each false ts) x i) in
          let q : suc (depths ts) ≡ depth x = eq_tm_depth (node m ts) x e in
          absurd (omega arith)
    ]

-- ---- the walk

left : (e : Enums) (t : Tm) (s : State) → any (eq_tm t) s.terms ≡ true → encode_term e t s ≡ went s
unfolding encode_term unless
left e (node m ts) s h = rw (h, unless) refl

module _ (sets : List Tm) (e : Enums) where
  -- where the sets in a term or in terms stand: after those that were met
  abbrev Keeps : List Tm → List Tm → State → Type 0
  Keeps met more s₁ = Met s₁.terms (met ++ more)

  met_state : {us vs met : List Tm} → vs ≡ us → Met us met → Met vs met
  met_state {met = met} p h = subst (λ (us : List Tm). Met us met) (sym p) h

  -- after a new term
  met_new : (m : Mark) (ts : Forest Mark) (met us vs : List Tm) → (vs ≡ us ++ (node m ts ∷ [])) ⊎ ((vs ≡ us) × (is_set m ≡ false)) → Met us (met ++ under m ts) → Met vs (met ++ sets_in false (node m ts))
  unfolding only
  met_new m ts met us vs (inr q) h =
      met_state q.0 (subst (Met us) (sym (ap (λ (l : List Tm). met ++ l) (sets_in_passed m ts ∙ ap (λ (b : Bool). under m ts ++ only b (node m ts ∷ [])) q.1 ∙ append-nil (under m ts)))) h)
  met_new m ts met us vs (inl q) h =
      met_state q
      (record {
        known = λ x k. either x (Memᴰ.append_cases met k);
        closed = (met_entered (node m ts) h inside).closed;
      })
    where
      older : (x : Tm) → Memᴰ x met → Memᴰ x (met ++ under m ts)
      older x j = Memᴰ.append_left (under m ts) j

      inside : (x : Tm) → Memᴰ x (sets_in false (node m ts)) → In x (us ++ (node m ts ∷ []))
      inside x k = elim (Memᴰ.append_cases (under m ts) (subst (Memᴰ x) (sets_in_passed m ts) k)) [
        | inl j ↦ any_left (eq_tm x) us (node m ts ∷ []) (h.known x (Memᴰ.append_right met j))
        | inr j ↦ any_mem (eq_tm x) (us ++ (node m ts ∷ [])) (Memᴰ.append_right us (Memᴰ.head refl)) (subst (λ (v : Tm). T (eq_tm x v)) (Memᴰ.eq_of_singleton (only_mem (is_set m) (node m ts ∷ []) x j)) (eq_tm_refl x))
      ]

      either : (x : Tm) → Memᴰ x met ⊎ Memᴰ x (sets_in false (node m ts)) → In x (us ++ (node m ts ∷ []))
      either x (inl j) = any_left (eq_tm x) us (node m ts ∷ []) (h.known x (older x j))
      either x (inr j) = inside x j

  -- the walks over the children keep step
  abbrev Below : Forest Mark → Type 0
  Below ts = (s₁ : State) (met rest : List Tm) → sets ≡ met ++ (sets_in_each false ts ++ rest) → Met s₁.terms met
      → Tracks sets (Keeps met (sets_in_each false ts)) (encode_terms e ts s₁) (encode_terms e (forest (map (listed sets) (trees ts))) (relisted sets s₁))

  children_tracks : (m : Mark) (ts : Forest Mark) (met rest : List Tm) (s : State) → sets ≡ met ++ (sets_in false (node m ts) ++ rest) → Met s.terms met → Below ts → (f : Bool) → f ≡ is_falsehood (node m ts)
      → Tracks sets (Keeps met (under m ts)) (unless (λ s₁. is_falsehood (node m ts)) (encode_terms e ts) s) (unless (λ s₁. f) (encode_terms e (forest (map (listed sets) (trees ts)))) (relisted sets s))
  unfolding only
  children_tracks m ts met rest s p h ih f q = tracks_unless (λ s₁. is_falsehood (node m ts)) (λ s₁. f) (encode_terms e ts) (encode_terms e (forest (map (listed sets) (trees ts)))) s q none' walked
    where
      none' : T (is_falsehood (node m ts)) → Met s.terms (met ++ under m ts)
      none' k = subst (λ (b : Bool). Met s.terms (met ++ only (not b) (sets_in_each false ts))) (sym (is_true (is_falsehood (node m ts)) k)) (subst (Met s.terms) (sym (append-nil met)) h)

      place : is_falsehood (node m ts) ≡ false → sets ≡ met ++ (sets_in_each false ts ++ (only (is_set m) (node m ts ∷ []) ++ rest))
      place k =
          p ∙ ap (λ (l : List Tm). met ++ (l ++ rest)) (sets_in_passed m ts ∙ ap (λ (b : Bool). only (not b) (sets_in_each false ts) ++ only (is_set m) (node m ts ∷ [])) k)
          ∙ ap (λ (l : List Tm). met ++ l) (append_assoc (sets_in_each false ts) (only (is_set m) (node m ts ∷ [])) rest)

      walked : is_falsehood (node m ts) ≡ false → Tracks sets (Keeps met (under m ts)) (encode_terms e ts s) (encode_terms e (forest (map (listed sets) (trees ts))) (relisted sets s))
      walked k = tracks_map (λ s₁ a. subst (λ (b : Bool). Met s₁.terms (met ++ only (not b) (sets_in_each false ts))) (sym k) a) (ih s met (only (is_set m) (node m ts ∷ []) ++ rest) (place k) h)

  -- a term that is not in the table
  new_tracks : (m : Mark) (ts : Forest Mark) (met rest : List Tm) (s : State) → sets ≡ met ++ (sets_in false (node m ts) ++ rest) → Met s.terms met → any (eq_tm (node m ts)) s.terms ≡ false → Own sets m ts → Below ts
      → Tracks sets (Keeps met (sets_in false (node m ts))) (encode_term e (node m ts) s) (encode_term e (listed sets (node m ts)) (relisted sets s))
  unfolding encode_term relisted children
  new_tracks m ts met rest s p h a o ih =
      subst (λ (u : Tm). Tracks sets (Keeps met (sets_in false t)) (encode_term e t s) (encode_term e u (relisted sets s))) (sym o)
      (tracks_unless _ _ _ _ s (ap (λ (u : Tm). any (eq_tm u) (map (listed sets) s.terms)) (sym o) ∙ any_listed sets t s.terms) (λ k. absurd (subst T a k))
      (λ k. tracks_then (encode_type e (type_of t)) (◌>>◌ kids (encode_new e t)) (encode_type e (type_of t')) (◌>>◌ kids' (encode_new e t')) s
      (tracks_map (λ s₁ q. tracks_then kids (encode_new e t) kids' (encode_new e t') s₁
      (tracks_map (λ s₂ b. tracks_map (λ s₃ n. met_new m ts met s₂.terms s₃.terms n b) (encode_new_tracks sets e m ts (forest (map (listed sets) (trees ts))) s₂ (record { is = sym o; below = trees_forest (map (listed sets) (trees ts)) })))
      (children_tracks m ts met rest s₁ p (met_state q h) ih (is_falsehood t') falsehoods)))
      own_type)))
    where
      t : Tm
      t = node m ts

      t' : Tm
      t' = node m (forest (map (listed sets) (trees ts)))

      typed : type_of t ≡ type_of t'
      typed = eq_tm_type_of t (listed sets t) (listed_same sets t) ∙ ap type_of o

      kids : Walk
      kids = unless (λ s₁. is_falsehood t) (encode_terms e ts)

      kids' : Walk
      kids' = unless (λ s₁. is_falsehood t') (encode_terms e (forest (map (listed sets) (trees ts))))

      own_type : Aside sets s (encode_type e (type_of t) s) (encode_type e (type_of t') (relisted sets s))
      own_type = subst (λ (ty : Ty). Aside sets s (encode_type e (type_of t) s) (encode_type e ty (relisted sets s))) typed (encode_type_tracks sets e (type_of t) s)

      falsehoods : is_falsehood t' ≡ is_falsehood t
      falsehoods = sym (eq_tm_falsehood t (listed sets t) (listed_same sets t) ∙ ap is_falsehood o)

  -- a term by whether it is in the table
  term_by : (m : Mark) (ts : Forest Mark) (met rest : List Tm) (s : State) → sets ≡ met ++ (sets_in false (node m ts) ++ rest) → Held sets (node m ts) → Met s.terms met → (b : Bool) → any (eq_tm (node m ts)) s.terms ≡ b → Below ts
      → Tracks sets (Keeps met (sets_in false (node m ts))) (encode_term e (node m ts) s) (encode_term e (listed sets (node m ts)) (relisted sets s))
  unfolding relisted
  term_by m ts met rest s p k h true a ih =
      let t = node m ts in
      subst (λ (x : Step). Tracks sets (Keeps met (sets_in false t)) x (encode_term e (listed sets t) (relisted sets s))) (sym (left e t s a))
      (subst (λ (y : Step). Tracks sets (Keeps met (sets_in false t)) (went s) y) (sym (left e (listed sets t) (relisted sets s) (any_listed sets t s.terms ∙ a)))
      (on (met_more (sets_in false t) h (h.closed t (subst T (sym a) tt)))))
  term_by m ts met rest s p k h false a ih =
      new_tracks m ts met rest s p h a (own_listing sets met rest s.terms m ts p k h (λ i. subst T a i) (is_set m) refl) ih

  mutual
    unfolding trees forest sets_in encode_term

    pub encode_term_tracks : (t : Tm) (met rest : List Tm) (s : State) → sets ≡ met ++ (sets_in false t ++ rest) → Held sets t → Met s.terms met
        → Tracks sets (Keeps met (sets_in false t)) (encode_term e t s) (encode_term e (listed sets t) (relisted sets s))
    encode_term_tracks (node m ts) met rest s p k h =
        term_by m ts met rest s p k h (any (eq_tm (node m ts)) s.terms) refl (λ s₁ met' rest' q i. encode_terms_tracks ts met' rest' s₁ q (held_below sets m ts k) i)

    encode_terms_tracks : (ts : Forest Mark) (met rest : List Tm) (s : State) → sets ≡ met ++ (sets_in_each false ts ++ rest) → ((t : Tm) → Memᴰ t (trees ts) → Held sets t) → Met s.terms met
        → Tracks sets (Keeps met (sets_in_each false ts)) (encode_terms e ts s) (encode_terms e (forest (map (listed sets) (trees ts))) (relisted sets s))
    encode_terms_tracks nil met rest s p k h = on (subst (Met s.terms) (sym (append-nil met)) h)
    encode_terms_tracks (cons t ts) met rest s p k h =
        tracks_then (encode_term e t) (encode_terms e ts) (encode_term e (listed sets t)) (encode_terms e (forest (map (listed sets) (trees ts)))) s
        (tracks_map (λ s₁ a. tracks_map (λ s₂ b. subst (Met s₂.terms) (append_assoc met (sets_in false t) (sets_in_each false ts)) b)
        (encode_terms_tracks ts (met ++ sets_in false t) rest s₁ (p ∙ ap (λ (l : List Tm). met ++ l) (append_assoc (sets_in false t) (sets_in_each false ts) rest) ∙ sym (append_assoc met (sets_in false t) (sets_in_each false ts ++ rest))) (λ u m. k u (Memᴰ.tail m)) a))
        (encode_term_tracks t met (sets_in_each false ts ++ rest) s (p ∙ ap (λ (l : List Tm). met ++ l) (append_assoc (sets_in false t) (sets_in_each false ts) rest)) (k t (Memᴰ.head refl)) h))

  pub encode_inputs_tracks : (ts met rest : List Tm) (s : State) → sets ≡ met ++ (collect (sets_in false) ts ++ rest) → ((t : Tm) → Memᴰ t ts → Held sets t) → Met s.terms met
      → Tracks sets (Keeps met (collect (sets_in false) ts)) (encode_inputs e ts s) (encode_inputs e (map (listed sets) ts) (relisted sets s))
  unfolding encode_inputs collect
  encode_inputs_tracks [] met rest s p k h = on (subst (Met s.terms) (sym (append-nil met)) h)
  encode_inputs_tracks (t ∷ ts) met rest s p k h =
      let more = collect (sets_in false) ts in
      tracks_then (encode_term e t) (encode_inputs e ts) (encode_term e (listed sets t)) (encode_inputs e (map (listed sets) ts)) s
      (tracks_map (λ s₁ a. tracks_map (λ s₂ b. subst (Met s₂.terms) (append_assoc met (sets_in false t) more) b)
      (encode_inputs_tracks ts (met ++ sets_in false t) rest s₁ (p ∙ ap (λ (l : List Tm). met ++ l) (append_assoc (sets_in false t) more rest) ∙ sym (append_assoc met (sets_in false t) (more ++ rest))) (λ u m. k u (Memᴰ.tail m)) a))
      (encode_term_tracks t met (more ++ rest) s (p ∙ ap (λ (l : List Tm). met ++ l) (append_assoc (sets_in false t) more rest)) (k t (Memᴰ.head refl)) h))
