-- What is told of a record's segments with no walk: their shape, and references to terms taken one by one.
-- Assumes nothing.
use Prim.Native.Nat.{ℕ, zero, suc, ◌+◌, ◌-◌, ◌<◌}
use native.Mathlib.Omega.{arith}
use mathlib.Core.Path.{◌≡◌, refl, sym, ap, ◌∙◌}
use mathlib.Core.Logic.{◌⊎◌, inl, inr}
use mathlib.Core.Bool.{false, true≢false}
use mathlib.Core.List.{List, [], ◌∷◌}
use lib.Dec.{leb}
use lib.ListN.{length, take, drop, get_or, length-drop}
use lib.Seq.{drop-drop, get_or-drop}
use Rattle.std.specs.Prelude.{Option, Some, None}
use Rattle.std.specs.Option.{is_some}
use Rattle.script_spec.specs.Base.{Bytes}
use Rattle.script_spec.specs.Fields.{low, untyped}
use Rattle.index.specs.Standing.{mark_at, body_at}
use Rattle.index_compare.specs.Segment.{Segment, plain, type_ref, term_ref}
use Rattle.index_compare.specs.Machine.{operand_of, coded_then, operator_then, field_then, item_then, items, count_then, reference, text_then, counted_size, last, walk_start, start_type, start_term, start_list, remaining, segments}
use Rattle.index_compare.specs.Step.{WordRead}
use Rattle.index_compare.specs.declared.segments.Item.TheVariants.{Term}
use Rattle.index_compare.specs.Shape.{terms_ahead}
use Rattle.index_compare.specs.declared.segments.Operand.{Operand}
use Rattle.index_compare.specs.declared.shape.Terms.{Terms}
use Rattle.index_compare.proofs.Steps.{cut_at, word_fits, reference_short, reference_at, operator_with}
use Rattle.index_compare.specs.View.{segments_at}

-- ---- references to terms, one by one

pub terms_over : (t : Terms) → t.left ≡ 0 → terms_ahead t ≡ []
unfolding terms_ahead items
terms_over t h = rw h

pub terms_short : (n : ℕ) (s : Bytes) → leb 4 (length s) ≡ false → items Term n s ≡ []
unfolding items item_then
terms_short zero s h = refl
terms_short (suc n) s h = reference_short s term_ref (items Term n) h

pub terms_next : (n : ℕ) (s : Bytes) {r : ℕ} → 0 < n → WordRead s (Some r) → items Term n s ≡ term_ref r ∷ items Term (n - 1) (drop 4 s)
unfolding items item_then
terms_next zero s p h = absurd (omega arith)
terms_next (suc n) s p h =
    let less : suc n - 1 ≡ n = omega arith in
    rw less (reference_at s term_ref (items Term n) h)

-- ---- the record at an offset

-- its segments, by the bytes of its mark and its body
pub segments_by : (file : Bytes) (o : ℕ) {a b : ℕ} {body : Bytes} → a ≡ untyped (get_or file o 0) → b ≡ get_or file (o + 1) 0 → body ≡ body_at file o
    → remaining (walk_start a b) body ≡ segments_at file o
unfolding segments_at segments mark_at
segments_by file o p q e = rw (p, q, e)

-- ---- shapes

-- an operand that there isn't
pub is_none_of : (o : Option Operand) → false ≡ is_some o → o ≡ None
is_none_of (Some x) h = absurd (true≢false (sym h))
is_none_of None h = refl

-- a count and references to terms
counted : (s : Bytes) {n : ℕ} → WordRead s (Some n) → count_then Term s ≡ plain (take 4 s) ∷ items Term n (drop 4 s)
unfolding count_then
counted s h =
    let fits = word_fits s h.0 in
    cut_at 4 s plain (items Term (low (take 4 s))) fits ∙ (rw (← h.1))

module _ (body : Bytes) where
  pub sole_shown : {n : ℕ} → WordRead body (Some n) → remaining (walk_start 88 49) body ≡ term_ref n ∷ []
  unfolding remaining walk_start start_term field_then last items
  sole_shown h = reference_at body term_ref (λ s. []) h

  -- bytes alone, of a type
  pub bare_type : {b : ℕ} → (b ≡ 66) ⊎ ((b ≡ 69) ⊎ ((b ≡ 83) ⊎ ((b ≡ 86) ⊎ (b ≡ 88)))) → remaining (walk_start 84 b) body ≡ plain body ∷ []
  unfolding remaining walk_start start_type field_then last items
  bare_type (inl h) = rw h refl
  bare_type (inr (inl h)) = rw h refl
  bare_type (inr (inr (inl h))) = rw h refl
  bare_type (inr (inr (inr (inl h)))) = rw h refl
  bare_type (inr (inr (inr (inr h)))) = rw h refl

  -- and of a term
  pub bare_term : {b : ℕ} → (b ≡ 66) ⊎ ((b ≡ 78) ⊎ ((b ≡ 83) ⊎ (b ≡ 88))) → remaining (walk_start 88 b) body ≡ plain body ∷ []
  unfolding remaining walk_start start_term start_list field_then last items
  bare_term (inl h) = rw h refl
  bare_term (inr (inl h)) = rw h refl
  bare_term (inr (inr (inl h))) = rw h refl
  bare_term (inr (inr (inr h))) = rw h refl

  pub applied_shown : {t n : ℕ} → operand_of (get_or body 4 0) ≡ None → WordRead body (Some t) → WordRead (drop 5 body) (Some n)
      → remaining (walk_start 88 65) body ≡ type_ref t ∷ plain (take 1 (drop 4 body)) ∷ plain (take 4 (drop 5 body)) ∷ items Term n (drop 9 body)
  unfolding remaining walk_start start_term start_list field_then last coded_then
  applied_shown {t} {n} bare h h' =
      let fits = word_fits (drop 5 body) h'.0 in
      reference_at body type_ref (operator_then (count_then Term)) h
      ∙ ap (λ (l : List Segment). type_ref t ∷ l) (operator_with (drop 4 body) (count_then Term) {c = None} (rw (get_or-drop 4 body 0 0) bare)
      ∙ cut_at 1 (drop 4 body) plain (count_then Term) (omega (arith, length-drop 4 body, length-drop 5 body))
      ∙ ap (λ (l : List Segment). plain (take 1 (drop 4 body)) ∷ l) (rw (drop-drop 1 4 body, counted (drop 5 body) h', drop-drop 4 5 body)))

  pub listing_shown : {t n : ℕ} → WordRead body (Some t) → WordRead (drop 4 body) (Some n)
      → remaining (walk_start 88 67) body ≡ type_ref t ∷ plain (take 4 (drop 4 body)) ∷ items Term n (drop 8 body)
  unfolding remaining walk_start start_term start_list field_then last
  listing_shown {t} h h' = reference_at body type_ref (count_then Term) h ∙ ap (λ (l : List Segment). type_ref t ∷ l) (rw (counted (drop 4 body) h', drop-drop 4 4 body))

  pub named_shown : {n t : ℕ} → WordRead body (Some n) → WordRead (drop (4 + n) body) (Some t)
      → remaining (walk_start 88 86) body ≡ plain (take (4 + n) body) ∷ type_ref t ∷ []
  unfolding remaining walk_start start_term field_then last items text_then counted_size
  named_shown {n} h h' =
      let fits = word_fits (drop (4 + n) body) h'.0 in
      rw (← h.1) (cut_at (4 + n) body plain (reference type_ref (λ s. [])) (omega (arith, length-drop (4 + n) body))
      ∙ ap (λ (l : List Segment). plain (take (4 + n) body) ∷ l) (reference_at (drop (4 + n) body) type_ref (λ s. []) h'))
