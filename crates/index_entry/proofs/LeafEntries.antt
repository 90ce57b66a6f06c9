-- Each term that refers to no terms is what its record has under its mark; extension values apart.
-- Assumes nothing.
use mathlib.Core.Path.{◌≡◌, refl, sym, ap, ◌∙◌}
use mathlib.Core.Bool.{Bool, true, false}
use mathlib.Core.List.{List, [], ◌∷◌, map}
use mathlib.Core.Option.{some}
use Prim.Native.Nat.{ℕ, ◌≤◌}
use native.Mathlib.Nat.{le_refl}
use lib.ListN.{take, drop, get_or}
use lib.Seq.{take-take}
use denote.Ref.{Bor}
use Rattle.script_spec.specs.Base.{Bytes, bytes, at, same, lookup, and_then}
use Rattle.script_spec.specs.Tree as tree
use Rattle.script_spec.specs.Fields.{Entry, term, got, Reader, ◌>>=◌, pure, ensure, number, low, part, text, ref, width, entity_ref, coded, leaf, marks}
use Rattle.script_spec.proofs.Readers.{got_value}
use Rattle.index_compare.proofs.Standing.{entry_whole}
use Rattle.index.specs.Standing.{entry_of, loose}
use Rattle.read_field.proofs.Coded.{at_past}
use Rattle.index.specs.Lists.{number_at, first_text}
use Rattle.index_entry.specs.Places.{PastText}
use Rattle.index_entry.proofs.Inverse.{bind_inverse, ensure_inverse, tested_inverse, text_inverse, part_inverse, coded_at, coded_none}
use Rattle.index_entry.specs.Terms.{term_said, IsTerm}
use Rattle.index_entry.specs.declared.terms.TermEntry.{TermEntry}
use Rattle.index_entry.specs.declared.terms.TermEntry.TheVariants as entry

-- the truth values by their codes
unfoldable pub truths : List (Reader Bool)
truths = map pure (false ∷ true ∷ [])

abbrev xb : Reader Entry
xb = ◌>>=◌ (coded (map pure (false ∷ true ∷ []))) (λ b. pure (leaf (tree.BoolLit b)))

module _ {body : Bytes} where
  -- the term that the reader of a mark makes of the body
  pub is_term_lem : (m : Bytes) (reader : Reader Entry) (r : TermEntry) → lookup m (marks loose) ≡ some reader
      → ((e : Entry) → reader body ≡ got e [] → term_said r ≡ some e) → IsTerm (some m) body r
  unfolding entry_of and_then
  is_term_lem m reader r found h = record {
    go = λ m' t rs e g.
        let same : m ≡ m' = cc in
        h (term t rs) (entry_whole (reader body) (term t rs) (rw (← same, found) at g));
  }

  pub term_var : {id : Bor Bytes} {end n : ℕ} → id.now ≡ first_text body → PastText body 0 end → n ≡ number_at body end → IsTerm (some (bytes "XV")) body (entry.Var id n)
  unfolding marks lookup same bytes term_said number_at ref pure leaf
  term_var {id} {end} {n} text-is i number =
      is_term_lem (bytes "XV") _ _ refl (λ e h.
      bind_inverse text _ body h (λ a mid p q. text_inverse body p (λ v d.
      bind_inverse (ref loose.types) _ mid q (λ x left y z. tested_inverse 8 _ mid y (λ first rest.
      let name : id.now ≡ a = text-is ∙ v in
      let here : drop end body ≡ mid = i.rest ∙ d in
      let typed : n ≡ x = number ∙ ap (λ (s : Bytes). number_at s 0) here ∙ first in
      (λ i. some (leaf (tree.Var (name i) (typed i)))) ∙ ap some (got_value (leaf (tree.Var a x)) e left [] z))))))

  pub term_bits : {n v : ℕ} {s : Bytes} → n ≡ number_at body 0 → s ≡ take 16 (drop 4 body) → v ≡ low (take 16 s) → IsTerm (some (bytes "XN")) body (entry.BitVecLit n v)
  unfolding marks lookup same bytes term_said width number pure leaf
  term_bits {n} {v = v'} {s} sized bs is =
      is_term_lem (bytes "XN") _ _ refl (λ e h.
      bind_inverse width _ body h (λ w mid p q. tested_inverse 7 _ body p (λ v d.
      bind_inverse (number 16) _ mid q (λ x left y z.
      bind_inverse (part 16) _ mid y (λ bs' after a b. part_inverse 16 mid a (λ l t k.
      bind_inverse (ensure 7 _ x) _ left z (λ x' end u r. ensure_inverse 7 _ x left u (λ same-value same_rest.
      let bits : v' ≡ x' =
      is ∙ ap (λ (s : Bytes). low (take 16 s)) bs ∙ ap low (take-take 16 16 (drop 4 body) (le_refl 16))
      ∙ ap (λ (s : Bytes). low (take 16 s)) d ∙ ap low t ∙ got_value (low bs') x after left b ∙ same-value in
      let wide : n ≡ w = sized ∙ v in
      (λ i. some (leaf (tree.BitVecLit (wide i) (bits i)))) ∙ ap some (got_value (leaf (tree.BitVecLit w x')) e end [] r)))))))))

  pub term_string : {t : Bor Bytes} → t.now ≡ first_text body → IsTerm (some (bytes "XS")) body (entry.StringLit t)
  unfolding marks lookup same bytes term_said pure leaf
  term_string text-is =
      is_term_lem (bytes "XS") _ _ refl (λ e h.
      bind_inverse text _ body h (λ a mid p q. text_inverse body p (λ v d.
      ap (λ (s : Bytes). some (leaf (tree.StringLit s))) (text-is ∙ v) ∙ ap some (got_value (leaf (tree.StringLit a)) e mid [] q))))

  pub term_entity : {n : ℕ} {id : Bor Bytes} → n ≡ number_at body 0 → id.now ≡ first_text (drop 4 body) → IsTerm (some (bytes "XE")) body (entry.Entity n id)
  unfolding marks lookup same bytes term_said entity_ref ref pure leaf
  term_entity {n} {id} number text-is =
      is_term_lem (bytes "XE") _ _ refl (λ e h.
      bind_inverse (entity_ref loose) _ body h (λ x mid p q.
      bind_inverse (ref loose.types) _ body p (λ y at-type u w. tested_inverse 8 _ body u (λ v d.
      ensure_inverse 8 _ y at-type w (λ same-type same_rest.
      bind_inverse text _ mid q (λ a left k l. text_inverse mid k (λ c f.
      let name : id.now ≡ a = text-is ∙ ap first_text (d ∙ same_rest) ∙ c in
      let typed : n ≡ x = number ∙ v ∙ same-type in
      (λ i. some (leaf (tree.Entity (typed i) (name i)))) ∙ ap some (got_value (leaf (tree.Entity x a)) e left [] l))))))))

  pub term_none : {n : ℕ} → n ≡ number_at body 0 → IsTerm (some (bytes "X0")) body (entry.None n)
  unfolding marks lookup same bytes term_said ref pure leaf
  term_none {n} number =
      is_term_lem (bytes "X0") _ _ refl (λ e h.
      bind_inverse (ref loose.types) _ body h (λ x mid p q. tested_inverse 8 _ body p (λ v d.
      ap (λ (t : ℕ). some (leaf (tree.None t))) (number ∙ v) ∙ ap some (got_value (leaf (tree.None x)) e mid [] q))))

  -- ---- truth values

  pub truth_known : {code : ℕ} (i : ℕ) (b : Bool) → code ≡ get_or body 0 0 → code ≡ i → at i truths ≡ some (pure b) → IsTerm (some (bytes "XB")) body (entry.BoolLit b)
  unfolding marks lookup same bytes term_said pure truths leaf
  truth_known i b r e h =
      is_term_lem (bytes "XB") xb _ refl (λ x g.
      bind_inverse (coded truths) _ body g (λ z mid p q.
      let known : b ≡ z = got_value b z (drop 1 body) mid (coded_at truths body p (sym e ∙ r) (pure b) h) in
      ap (λ (b : Bool). some (leaf (tree.BoolLit b))) known ∙ ap some (got_value (leaf (tree.BoolLit z)) x mid [] q)))

  pub truth_unknown : {code : ℕ} → code ≡ get_or body 0 0 → 2 ≤ code → IsTerm (some (bytes "XB")) body entry.Unreadable
  unfolding marks lookup same bytes truths
  truth_unknown {code} r h =
      is_term_lem (bytes "XB") xb _ refl (λ x g.
      bind_inverse (coded truths) _ body g (λ z mid p q. absurd (coded_none truths body p r (at_past truths code h))))
