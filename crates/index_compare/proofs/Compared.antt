-- Segments that are gone through side by side: two walks give equal segments exactly where each two are equal and both end together.
-- Assumes nothing.
use Prim.Native.Nat.{ℕ, ◌<◌}
use native.Mathlib.Omega.{arith}
use mathlib.Core.Path.{◌≡◌, refl, sym, ap, ◌∙◌}
use mathlib.Core.Bool.{Bool, true, false, true≢false, ◌&&◌}
use mathlib.Core.List.{List, [], ◌∷◌, ◌++◌, map, cons≢nil, head-eq_of_cons-eq, tail-eq_of_cons-eq}
use denote.Enum.Bare.{sameb, same_true}
use lib.Dec.{eqb}
use lib.Pointwise.{pointwise, bytes_decides}
use Rattle.std.specs.Prelude.{Option, Some, None}
use Rattle.std.specs.Option.{IfSome, MatchOption}
use Rattle.std.specs.List.{AllZip}
use Rattle.std.specs.Iterator.{YieldsFirstBy, Yields, ComparesItemsByEq}
use Rattle.std.proofs.lemmas.Bool.{eq-eqb, eqb-true}
use Rattle.std.proofs.lemmas.List.{append_cancel_left}
use Rattle.script_spec.specs.Base.{Bytes}
use Rattle.index_compare.specs.Segment.{Segment, plain}
use Rattle.index_compare.specs.Step.{kind_number, refer, told}
use Rattle.index_compare.specs.View.{kind_of, reference_number, bytes_of, viewed, Decides}
use Rattle.index_compare.specs.declared.compare.View.TheVariants.{First}
use Rattle.index_compare.specs.contracts.segments.Referent.{the_type}
use Rattle.index_compare.specs.declared.segments.Referent.{Referent}
use Rattle.index_compare.specs.declared.segments.Referent.TheVariants as referent
use Rattle.index_compare.proofs.Depths.{same_kind}
use Rattle.index_compare.specs.contracts.segments.SegmentPartialEq.TheImpl as segment
use Rattle.index_compare.specs.declared.segments.Segment as met
use Rattle.index_compare.specs.declared.segments.Segment.TheVariants.{Plain, Reference}

-- P holds exactly where Q does
pub record Same (P Q : Type 0) : Type 0 where
  pub to : P → Q
  pub from : Q → P

-- ---- tests

pub decides_not : {P : Type 0} → (P → ⊥) → Decides false P
decides_not n = record { true_of = λ p. absurd (n p); of_true = λ h. absurd (true≢false (sym h)) }

decides_true : {P : Type 0} → P → Decides true P
decides_true p = record { true_of = λ q. refl; of_true = λ h. p }

-- a test of what holds exactly where another thing does
decides_same : {r : Bool} {P Q : Type 0} → Decides r P → (P → Q) → (Q → P) → Decides r Q
decides_same d f g = record { true_of = λ q. d.true_of (g q); of_true = λ h. f (d.of_true h) }

both_true : (a b : Bool) → (a && b) ≡ true → (a ≡ true) × (b ≡ true)
both_true true b h = (refl, h)
both_true false b h = absurd (true≢false (sym h))

-- two bytes and two others: by the second where the first agree, else by the first
module _ {a b c d : ℕ} where
  pub same_second : a ≡ c → Decides (eqb b d) (a ∷ b ∷ [] ≡ c ∷ d ∷ [])
  same_second e = record { true_of = λ q. eq-eqb b d (head-eq_of_cons-eq (tail-eq_of_cons-eq q)); of_true = λ h. let f = eqb-true b d h in λ i. e i ∷ f i ∷ [] }

  pub other_first : (a ≡ c → ⊥) → Decides (eqb a c) (a ∷ b ∷ [] ≡ c ∷ d ∷ [])
  other_first n = record { true_of = λ q. eq-eqb a c (head-eq_of_cons-eq q); of_true = λ h. absurd (n (eqb-true a c h)) }

-- ---- two segments

module _ {p q : Bytes} where
  plain_bytes : plain p ≡ plain q → p ≡ q
  unfolding bytes_of
  plain_bytes e = ap (λ (x : Segment). bytes_of (x ∷ [])) e

  same_plain : Decides (pointwise eqb p q) (plain p ≡ plain q)
  same_plain = let d = bytes_decides p q in record { true_of = λ e. d.1 (plain_bytes e); of_true = λ h. ap plain (d.0 h) }

-- bytes alone, in a view
pub same_bare : (work : List ℕ) (k : ℕ) {p q : Bytes} {x y : List Segment} {r : Bool} → r ≡ pointwise eqb p q → x ≡ plain p ∷ [] → y ≡ plain q ∷ []
    → Decides r (map (viewed work k First) x ≡ map (viewed work k First) y)
unfolding viewed
same_bare work k e f g = rw (e, f, g) (decides_same same_plain (λ h. ap (λ (s : Segment). s ∷ []) h) head-eq_of_cons-eq)

-- references by their kinds and their numbers
refer_kind : (r : Referent) (n : ℕ) → kind_of (refer r n ∷ []) ≡ kind_number r
unfolding kind_of
refer_kind referent.Type n = refl
refer_kind referent.Fun n = refl
refer_kind referent.Term n = refl

above_plain : (r : Referent) → 1 < kind_number r
above_plain referent.Type = omega arith
above_plain referent.Fun = omega arith
above_plain referent.Term = omega arith

refer_number : (r : Referent) (n : ℕ) → reference_number (refer r n ∷ []) ≡ n
unfolding reference_number
refer_number referent.Type n = refl
refer_number referent.Fun n = refl
refer_number referent.Term n = refl

-- bytes are no reference
plain_refer : (p : Bytes) (r : Referent) (n : ℕ) → plain p ≡ refer r n → ⊥
unfolding kind_of
plain_refer p r n e =
    let k : 1 ≡ kind_number r = ap (λ (x : Segment). kind_of (x ∷ [])) e ∙ refer_kind r n in
    omega (arith, k, above_plain r)

module _ (a b : Referent) (n m : ℕ) where
  same_kinds : refer a n ≡ refer b m → sameb the_type a b ≡ true
  same_kinds e = same_kind a b ∙ eq-eqb _ _ (sym (refer_kind a n) ∙ ap (λ (x : Segment). kind_of (x ∷ [])) e ∙ refer_kind b m)

  same_numbers : refer a n ≡ refer b m → n ≡ m
  same_numbers e = sym (refer_number a n) ∙ ap (λ (x : Segment). reference_number (x ∷ [])) e ∙ refer_number b m

  same_refer : Decides (sameb the_type a b && eqb n m) (refer a n ≡ refer b m)
  same_refer = record {
    true_of = λ e. rw (same_kinds e, eq-eqb n m (same_numbers e)) refl;
    of_true = λ h. let both = both_true _ _ h in ap (λ (r : Referent). refer r n) (same_true the_type tt a b both.0) ∙ ap (refer b) (eqb-true n m both.1);
  }

pub same_told : (x y : met.Segment) → Decides (segment.ghosts.eq x y) (told x ≡ told y)
same_told (Plain p) (Plain q) = same_plain
same_told (Plain p) (Reference to n) = decides_not (plain_refer p.now to n)
same_told (Reference to n) (Plain q) = decides_not (λ e. plain_refer q.now to n (sym e))
same_told (Reference to n) (Reference at m) = same_refer to at n m

-- ---- two walks

-- a first segment, and those after it, in a view
pub led_map : (g : Segment → Segment) {x y : Segment} {l m : List Segment} → l ≡ x ∷ m → y ≡ g x → map g l ≡ y ∷ map g m
led_map g e h = rw (e, h)

module _ {S A B : Type 0} (view : A → B) (rest : S → List B) where
  -- the items that came, and what was left then
  came : (s t : S) (xs : List A) → Yields (YieldsFirstBy view rest) s xs t → rest s ≡ map view xs ++ rest t
  came s t [] e = ap rest e
  came s t (x ∷ xs) (j, step, on) = step ∙ ap (λ (l : List B). view x ∷ l) (came j t xs on)

  module _ (eq : A → A → Bool) (decides : (x y : A) → Decides (eq x y) (view x ≡ view y)) where
    same_items : (xs ys : List A) → AllZip (λ x y. eq x y ≡ true) xs ys → map view xs ≡ map view ys
    same_items [] [] z = refl
    same_items [] (y ∷ ys) z = absurd z
    same_items (x ∷ xs) [] z = absurd z
    same_items (x ∷ xs) (y ∷ ys) z = let same = (decides x y).of_true z.0 in let others = same_items xs ys z.1 in λ i. same i ∷ others i

    -- the last two answers
    ends : (s t u v : S) (o p : Option A) {r : Bool} → YieldsFirstBy view rest s o u → YieldsFirstBy view rest t p v
        → MatchOption o (MatchOption p (r ≡ true) (λ _. r ≡ false)) (λ x. (r ≡ false) × IfSome p (λ y. eq x y ≡ false))
        → Decides r (rest s ≡ rest t)
    ends s t u v None None e h q = rw q (decides_true (e.0 ∙ sym h.0))
    ends s t u v None (Some y) e h q = rw q (decides_not (λ k. cons≢nil (sym h ∙ sym k ∙ e.0)))
    ends s t u v (Some x) None e h q = rw q.0 (decides_not (λ k. cons≢nil (sym e ∙ k ∙ h.0)))
    ends s t u v (Some x) (Some y) e h q = rw q.0 (decides_not (λ k. true≢false (sym ((decides x y).true_of (head-eq_of_cons-eq (sym e ∙ k ∙ h))) ∙ q.1)))

    pub walks_same : (s t : S) {r : Bool} {l m : List B} → rest s ≡ l → rest t ≡ m
        → ComparesItemsByEq (YieldsFirstBy view rest) (λ (x y : S). y ≡ x) (YieldsFirstBy view rest) s t eq r → Decides r (l ≡ m)
    walks_same s t h g (it, xs, ys, o, p, u, v, is, (j, first, last), (k, second, end), zip, answer) =
        let front = came s j xs first in
        let back = came it k ys second ∙ ap (λ (l : List B). l ++ rest k) (sym (same_items xs ys zip)) in
        decides_same (ends j k u v o p last end answer)
        (λ e. sym h ∙ front ∙ ap (λ (l : List B). map view xs ++ l) e ∙ sym back ∙ ap rest is ∙ g)
        (λ e. append_cancel_left (map view xs) (rest j) (rest k) (sym front ∙ h ∙ e ∙ sym g ∙ ap rest (sym is) ∙ back))
