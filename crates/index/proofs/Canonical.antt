-- Canonical entries are equal exactly where what the entries name is: an entry's canonical entry is computed from what the entry names;
-- that of a type or a function names the same; and terms of one canonical entry have one mark and equal children, by the first equal
-- numbers of these.
-- Assumes nothing.
use Prim.Native.Nat.{ℕ, ◌<◌}
use mathlib.Core.Path.{◌≡◌, refl, sym, ap, ◌∙◌, subst}
use mathlib.Core.Bool.{Bool, true, false}
use mathlib.Core.List.Memᴰ
use mathlib.Core.List.{List, [], ◌∷◌, map, map-map, Memᴰ, nil≢cons, head-eq_of_cons-eq, tail-eq_of_cons-eq}
use lib.Dec.{T}
use lib.ListN.{length}
use Rattle.script_spec.specs.Tree.{Tree, Tm, Mark, Forest, node, nil, cons, forest, trees, uuf, eq_ty, eq_fun, eq_tm, is_set, TermMark}
use Rattle.script_spec.specs.Fields.{Entry}
use Rattle.script_spec.specs.Fields as fields
use Rattle.script_spec.specs.File.{TermFile, Named, type, enum, func, term, input, types, funs, terms, type_at, fun_at, term_at, named_mark, named, earlier}
use Rattle.script_spec.proofs.Laws.{never}
use Rattle.script_spec.proofs.Equal.{Each, Equal, eq_tm_sym, eq_tm_parts, eq_tm_from}
use Rattle.index.specs.First.{first, first_type, first_fun, first_term, renamed, renumbered, in_order, settled, canonical, ascended, All, Below, MarkInRange, InRange}
use Rattle.index.proofs.Ascended.{mem_ascended, ascended_mem, ascended_same}
use Rattle.index.proofs.Firsts.{equal_terms, first_terms, first_equal, first_injective, same_types, same_funs}
use Rattle.index.proofs.Renamed.{map_agree, renamed_agree, renamed_renamed, set_renamed, named_mark_renamed, set_named}
use Rattle.script_spec.proofs.Lists.{trees_forest}
use Rattle.index.proofs.Rules.{OnlyTypes}

module _ {A B : Type 0} where
  -- a forest's trees, each replaced
  replaced : (Tree A → B) → Forest A → List B
  replaced g nil = []
  replaced g (cons t ts) = g t ∷ replaced g ts

  replaced_forest : (g : Tree A → B) (name : ℕ → Tree A) (rs : List ℕ) → replaced g (forest (map name rs)) ≡ map (λ n. g (name n)) rs
  unfolding forest replaced
  replaced_forest g name [] = refl
  replaced_forest g name (n ∷ rs) = rw (replaced_forest g name rs)

-- where each of xs has one of ys with the same image, their images are among those of ys
images : {A : Type 0} (g : A → ℕ) (xs ys : List A) → ((x : A) → Memᴰ x xs → (y : A) × Memᴰ y ys × (g x ≡ g y)) → (k : ℕ) → Memᴰ k (map g xs) → Memᴰ k (map g ys)
images g xs ys h k m =
    let r = Memᴰ.of_map g xs m in
    let s = h r.0 r.1 in
    Memᴰ.cast (sym r.2 ∙ s.2) (Memᴰ.map g s.1)

below_mem : {count : ℕ} (ns : List ℕ) → Below count ns → (n : ℕ) → Memᴰ n ns → n < count
unfolding Below All
below_mem [] h n m = absurd (Memᴰ.not-nil m)
below_mem {count} (k ∷ ns) h n (Memᴰ.head e) = subst (λ (i : ℕ). i < count) (sym e) h.0
below_mem (k ∷ ns) h n (Memᴰ.tail m) = below_mem ns h.1 n m

module _ (f : TermFile) where
  -- ---- a canonical entry is computed from what is named

  -- the entry of what a record names, its references the first equal numbers
  numbered : Named → Entry
  numbered (type (node m ts)) = fields.type m (replaced (first eq_ty (types f)) ts)
  numbered (enum n ms) = fields.enum n ms
  numbered (func (uuf id a r)) = fields.func id (first eq_ty (types f) a) (first eq_ty (types f) r)
  numbered (term (node m ts)) = fields.term (renamed (first eq_ty (types f)) (first eq_fun (funs f)) m) (replaced (first eq_tm (terms f)) ts)
  numbered (input t) = fields.input (first eq_tm (terms f) t)

  numbered_mark : (m : TermMark ℕ ℕ) → renamed (first eq_ty (types f)) (first eq_fun (funs f)) (named_mark f m) ≡ renamed (first_type f) (first_fun f) m
  unfolding first_type first_fun
  numbered_mark m = rw (named_mark_renamed f m) (renamed_renamed (first eq_ty (types f)) (first eq_fun (funs f)) (type_at f) (fun_at f) m)

  numbered_named : (e : Entry) → numbered (named f e) ≡ renumbered (first_type f) (first_fun f) (first_term f) e
  unfolding numbered named renumbered first_type first_term
  numbered_named (fields.type m rs) = ap (fields.type m) (replaced_forest (first eq_ty (types f)) (type_at f) rs)
  numbered_named (fields.enum n ms) = refl
  numbered_named (fields.func id a r) = refl
  numbered_named (fields.term m rs) = rw (numbered_mark m, replaced_forest (first eq_tm (terms f)) (term_at f) rs)
  numbered_named (fields.input n) = refl

  canonical_named : (e : Entry) → settled (numbered (named f e)) ≡ canonical f e
  unfolding canonical
  canonical_named e = ap settled (numbered_named e)

  pub canonical_equal : (e e' : Entry) → named f e ≡ named f e' → canonical f e ≡ canonical f e'
  canonical_equal e e' h = sym (canonical_named e) ∙ ap (λ (x : Named). settled (numbered x)) h ∙ canonical_named e'

  -- ---- types and functions

  mark_named : (m : TermMark ℕ ℕ) → MarkInRange (earlier f) m → named_mark f (renamed (first_type f) (first_fun f) m) ≡ named_mark f m
  unfolding earlier
  mark_named m h =
      named_mark_renamed f (renamed (first_type f) (first_fun f) m) ∙ renamed_renamed (type_at f) (fun_at f) (first_type f) (first_fun f) m
      ∙ renamed_agree (earlier f) (same_types f) (same_funs f) m h ∙ sym (named_mark_renamed f m)

  named_canonical : (e : Entry) → InRange (earlier f) e → OnlyTypes (named f e) → named f (canonical f e) ≡ named f e
  unfolding InRange earlier named canonical settled renumbered OnlyTypes
  named_canonical (fields.type m rs) h o = rw (map-map (type_at f) (first_type f) rs, map_agree (same_types f) rs h)
  named_canonical (fields.enum n ms) h o = refl
  named_canonical (fields.func id a r) h o = rw (same_types f a h.0, same_types f r h.1)
  named_canonical (fields.term m rs) h o = absurd o
  named_canonical (fields.input n) h o = absurd o

  -- what refers to types only, by its canonical entry
  pub canonical_injective : (e e' : Entry) → InRange (earlier f) e → InRange (earlier f) e' → OnlyTypes (named f e) → OnlyTypes (named f e') → canonical f e ≡ canonical f e' → named f e ≡ named f e'
  canonical_injective e e' h h' o o' q = sym (named_canonical e h o) ∙ ap (named f) q ∙ named_canonical e' h' o'

  -- ---- terms

  -- the first equal number of a term
  first_of : Tm → ℕ
  first_of = first eq_tm (terms f)

  replaced_map : (ts : Forest Mark) → replaced first_of ts ≡ map first_of (trees ts)
  unfolding replaced trees
  replaced_map nil = refl
  replaced_map (cons t ts) = rw (replaced_map ts)

  same_first : (t u : Tm) → T (eq_tm t u) → first_of t ≡ first_of u
  unfolding first_of
  same_first t u h = first_equal equal_terms t u h (terms f)

  -- equal children have the same numbers in order
  children_ordered : (b : Bool) (xs ys : List Tm) → Equal b xs ys → in_order b (map first_of xs) ≡ in_order b (map first_of ys)
  unfolding Equal Each in_order
  children_ordered true xs ys h =
      ascended_same (map first_of xs) (map first_of ys)
      (images first_of xs ys (λ x m. let g = h.there x m in (g.one, g.among, same_first x g.one g.passes)))
      (images first_of ys xs (λ y m. let g = h.back y m in (g.one, g.among, sym (same_first g.one y g.passes))))
  children_ordered false [] [] h = refl
  children_ordered false [] (y ∷ ys) h = absurd h
  children_ordered false (x ∷ xs) [] h = absurd h
  children_ordered false (x ∷ xs) (y ∷ ys) h = rw (same_first x y h.0, children_ordered false xs ys h.1)

  settled_equal : (t u : Tm) → T (eq_tm t u) → settled (numbered (term t)) ≡ settled (numbered (term u))
  unfolding settled numbered first_of
  settled_equal (node m ts) (node n us) h =
      let p = eq_tm_parts m n ts us h in
      rw (← p.0, set_renamed (first eq_ty (types f)) (first eq_fun (funs f)) m, replaced_map ts, replaced_map us, children_ordered (is_set m) (trees ts) (trees us) p.1)

  -- equal terms have one canonical entry
  pub canonical_terms : (e e' : Entry) (t u : Tm) → named f e ≡ term t → named f e' ≡ term u → T (eq_tm t u) → canonical f e ≡ canonical f e'
  canonical_terms e e' t u p q h =
      sym (canonical_named e) ∙ ap (λ (x : Named). settled (numbered x)) p ∙ settled_equal t u h ∙ ap (λ (x : Named). settled (numbered x)) (sym q) ∙ canonical_named e'

  same_number : (m n : ℕ) → m < length (terms f) → n < length (terms f) → first_term f m ≡ first_term f n → T (eq_tm (term_at f m) (term_at f n))
  same_number = first_injective (first_terms f) equal_terms

  -- a term of a set, among those of a set with the same numbers in order
  number_there : (rs rs' : List ℕ) → Below (length (terms f)) rs → Below (length (terms f)) rs' → ascended (map (first_term f) rs) ≡ ascended (map (first_term f) rs')
      → (t : Tm) → Memᴰ t (map (term_at f) rs) → (n : ℕ) × Memᴰ n rs' × T (eq_tm t (term_at f n))
  number_there rs rs' h h' e t m =
      let r = Memᴰ.of_map (term_at f) rs m in
      let k : Memᴰ (first_term f r.0) (ascended (map (first_term f) rs')) = rw (← e) (ascended_mem (map (first_term f) rs) (first_term f r.0) (Memᴰ.map (first_term f) r.1)) in
      let q = Memᴰ.of_map (first_term f) rs' (mem_ascended (map (first_term f) rs') (first_term f r.0) k) in
      (q.0, q.1, subst (λ (u : Tm). T (eq_tm u (term_at f q.0))) r.2 (same_number r.0 q.0 (below_mem rs h r.0 r.1) (below_mem rs' h' q.0 q.1) (sym q.2)))

  children_equal : (b : Bool) (rs rs' : List ℕ) → Below (length (terms f)) rs → Below (length (terms f)) rs' → in_order b (map (first_term f) rs) ≡ in_order b (map (first_term f) rs')
      → Equal b (map (term_at f) rs) (map (term_at f) rs')
  unfolding Equal Each in_order Below All
  children_equal true rs rs' h h' e =
      record {
        there = λ t m. let q = number_there rs rs' h h' e t m in record { one = term_at f q.0; among = Memᴰ.map (term_at f) q.1; passes = q.2 };
        back = λ u m. let q = number_there rs' rs h' h (sym e) u m in record { one = term_at f q.0; among = Memᴰ.map (term_at f) q.1; passes = eq_tm_sym u (term_at f q.0) q.2 };
      }
  children_equal false [] [] h h' e = tt
  children_equal false [] (y ∷ ys) h h' e = absurd (nil≢cons e)
  children_equal false (x ∷ xs) [] h h' e = absurd (nil≢cons (sym e))
  children_equal false (x ∷ xs) (y ∷ ys) h h' e = (same_number x y h.0 h'.0 (head-eq_of_cons-eq e), children_equal false xs ys h.1 h'.1 (tail-eq_of_cons-eq e))

  terms_injective : (m m' : TermMark ℕ ℕ) (rs rs' : List ℕ) → InRange (earlier f) (fields.term m rs) → InRange (earlier f) (fields.term m' rs') → canonical f (fields.term m rs) ≡ canonical f (fields.term m' rs')
      → T (eq_tm (node (named_mark f m) (forest (map (term_at f) rs))) (node (named_mark f m') (forest (map (term_at f) rs'))))
  unfolding canonical settled renumbered InRange earlier
  terms_injective m m' rs rs' h h' e =
      let g : TermMark ℕ ℕ → TermMark ℕ ℕ = renamed (first_type f) (first_fun f) in
      let p : g m ≡ g m' = cc in
      let q : in_order (is_set (g m)) (map (first_term f) rs) ≡ in_order (is_set (g m')) (map (first_term f) rs') = cc in
      let marks : named_mark f m ≡ named_mark f m' = sym (mark_named m h.0) ∙ ap (named_mark f) p ∙ mark_named m' h'.0 in
      let kind : is_set (g m) ≡ is_set (named_mark f m) = set_renamed (first_type f) (first_fun f) m ∙ sym (set_named f m) in
      let same : in_order (is_set (named_mark f m)) (map (first_term f) rs) ≡ in_order (is_set (named_mark f m)) (map (first_term f) rs') = rw (← kind) (q ∙ rw (← p) refl) in
      rw (← marks)
      (eq_tm_from (named_mark f m) (forest (map (term_at f) rs)) (forest (map (term_at f) rs'))
      (rw (trees_forest (map (term_at f) rs), trees_forest (map (term_at f) rs')) (children_equal (is_set (named_mark f m)) rs rs' h.1 h'.1 same)))

  -- the entry of a term
  term_entry : (e : Entry) (t : Tm) → named f e ≡ term t → (m : TermMark ℕ ℕ) × (rs : List ℕ) × (e ≡ fields.term m rs)
  unfolding named
  term_entry (fields.type m rs) t p = never cc
  term_entry (fields.enum n ms) t p = never cc
  term_entry (fields.func id a r) t p = never cc
  term_entry (fields.term m rs) t p = (m, rs, refl)
  term_entry (fields.input n) t p = never cc

  entry_term : (m : TermMark ℕ ℕ) (rs : List ℕ) (t : Tm) → named f (fields.term m rs) ≡ term t → node (named_mark f m) (forest (map (term_at f) rs)) ≡ t
  unfolding named
  entry_term m rs t p = cc

  -- terms of one canonical entry are equal
  pub term_injective : (e e' : Entry) (t u : Tm) → InRange (earlier f) e → InRange (earlier f) e' → named f e ≡ term t → named f e' ≡ term u → canonical f e ≡ canonical f e' → T (eq_tm t u)
  term_injective e e' t u h h' p q c = go (term_entry e t p) (term_entry e' u q)
    where
      go : (m : TermMark ℕ ℕ) × (rs : List ℕ) × (e ≡ fields.term m rs) → (m : TermMark ℕ ℕ) × (rs : List ℕ) × (e' ≡ fields.term m rs) → T (eq_tm t u)
      go a b =
          rw (← entry_term a.0 a.1 t (rw (← a.2) p), ← entry_term b.0 b.1 u (rw (← b.2) q))
          (terms_injective a.0 b.0 a.1 b.1 (rw (← a.2) h) (rw (← b.2) h') (rw (← a.2, ← b.2) c))
