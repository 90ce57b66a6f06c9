-- A comment's text piece by piece: each piece goes on with it, and pieces from the start are the text on one line.
-- Assumes nothing.
use mathlib.Core.Path.{◌≡◌, refl, sym, ap, ◌∙◌, subst}
use mathlib.Core.Bool.{Bool, true, false, ◌||◌}
use mathlib.Core.List.{[], ◌∷◌, ◌++◌, append_assoc, append-nil}
use Prim.Native.Nat.{ℕ, ◌+◌, ◌≤◌, ◌<◌}
use native.Mathlib.Omega.{arith}
use borrow.Author.Tests.{ltb-true, ltb-false}
use lib.Dec.{ltb}
use lib.ListN.{take}
use Rattle.script_spec.specs.Base.{Bytes}
use Rattle.script_spec.specs.Text.{is_control, space_if, blanked, begun, cut_after, one_line}
use Rattle.script_spec.proofs.Laws.{or_false}
use Rattle.write_bytes.specs.declared.writer.Writer.{Writer}
use Rattle.write_bytes.specs.Writing.{ceiling}
use Rattle.write_bytes.specs.Writers.{Writes}
use Rattle.write_bytes.proofs.Laws.{◌then◌, says, nothing, nothing_past}
use Rattle.write_text.specs.Comments.{Cuts, over, Commented, Comments}
use Rattle.write_text.specs.declared.comment.Comment.{Comment}
use Rattle.write_text.specs.declared.comment.Cut.{Cut}
use Rattle.script_spec.proofs.Cutting.{cut_on, cut_off}
use Rattle.write_text.proofs.CutLaws.{cut_over}

blanked_append : (a b : Bytes) → blanked (a ++ b) ≡ blanked a ++ blanked b
unfolding blanked
blanked_append [] b = refl
blanked_append (c ∷ a) b = ap (λ (s : Bytes). space_if (is_control c) c ∷ s) (blanked_append a b)

-- a longer text is cut to what it was cut to before, and more
record More (t s : Bytes) (n : ℕ) : Type 0 where
  more : Bytes
  is : cut_after n (t ++ s) ≡ cut_after n t ++ more

cut_more : (t s : Bytes) (n : ℕ) → More t s n
unfolding cut_after
cut_more [] s n = record { more = cut_after n s; is = refl }
cut_more (b ∷ t) s n = by (ltb 200 (n + begun b)) refl (cut_more t s (n + begun b))
  where
    by : (o : Bool) → ltb 200 (n + begun b) ≡ o → More t s (n + begun b) → More (b ∷ t) s n
    by true e m = let h = ltb-true 200 (n + begun b) e in record { more = []; is = cut_off n b (t ++ s) h ∙ sym (ap (λ (l : Bytes). l ++ []) (cut_off n b t h)) }
    by false e m =
        let h = ltb-false 200 (n + begun b) e in
        record { more = m.more; is = cut_on n b (t ++ s) h ∙ ap (λ (l : Bytes). b ∷ l) m.is ∙ sym (ap (λ (l : Bytes). l ++ m.more) (cut_on n b t h)) }

-- ---- one piece

-- a text that is cut, with nothing after it
cuts_whole : {s : Bytes} {n : ℕ} {c : Cut} → Cuts s n c → cut_after n s ≡ take c.end s
unfolding cut_after
cuts_whole {s} {n} {c} k = ap (cut_after n) (sym (append-nil s)) ∙ k.kept [] ∙ append-nil (take c.end s)

module _ {v w : Writer} {c : Comment} {s : Bytes} {k : Cut} where
  -- a piece that is cut and written
  pub goes_on : v.at ≤ ceiling v.limit → Cuts s c.points k → Writes v w (blanked (take k.end s)) → Comments v c w (record { points = k.points }) s
  unfolding one_line
  goes_on h cuts A = record {
    same = A.same;
    limit_is = A.limit_is;
    size = A.size;
    go = λ u t m.
        let whole : cut_after 0 (t ++ s) ≡ cut_after 0 t ++ take k.end s = m.counted h s ∙ ap (λ (l : Bytes). cut_after 0 t ++ l) (cuts_whole cuts) in
        record {
          wrote = says (sym (ap blanked whole ∙ blanked_append (cut_after 0 t) (take k.end s))) (m.wrote then A);
          counted = λ l r.
              ap (cut_after 0) (append_assoc t s r) ∙ m.counted h (s ++ r) ∙ ap (λ (x : Bytes). cut_after 0 t ++ x) (cuts.kept r)
              ∙ sym (append_assoc (cut_after 0 t) (take k.end s) (cut_after k.points r)) ∙ ap (λ (x : Bytes). x ++ cut_after k.points r) (sym whole);
        };
  }

or_left : (x : Bool) → (x || false) ≡ true → x ≡ true
or_left true h = refl
or_left false h = h

module _ {v : Writer} {c : Comment} {s : Bytes} where
  -- past the limit nothing is written
  comment_past : ceiling v.limit < v.at → Comments v c v c s
  unfolding one_line
  comment_past h = record {
    same = refl;
    limit_is = refl;
    size = refl;
    go = λ u t m. record {
      wrote =
          let more = cut_more t s 0 in
          says (sym (ap blanked more.is ∙ blanked_append (cut_after 0 t) more.more)) (m.wrote then nothing_past h);
      counted = λ l r. absurd (omega arith);
    };
  }

  -- nor where the text is cut
  comment_cut : 200 < c.points → v.at ≤ ceiling v.limit → Comments v c v c s
  unfolding blanked
  comment_cut h l = goes_on {k = record { end = 0; points = c.points }} l (record { inside = omega arith; kept = λ r. cut_over c.points (s ++ r) h ∙ sym (cut_over c.points r h) }) nothing

  by_limit : (b : Bool) → ltb (ceiling v.limit) v.at ≡ b → (ltb 200 c.points || b) ≡ true → Comments v c v c s
  by_limit true e h = comment_past (ltb-true (ceiling v.limit) v.at e)
  by_limit false e h = comment_cut (ltb-true 200 c.points (or_left (ltb 200 c.points) h)) (ltb-false (ceiling v.limit) v.at e)

  pub comment_over : {b : Bool} → b ≡ over v c → b ≡ true → Comments v c v c s
  unfolding over
  comment_over e h = by_limit (ltb (ceiling v.limit) v.at) refl (sym e ∙ h)

-- where it is not over, something is left of both
pub not_over : (v : Writer) (c : Comment) {b : Bool} → b ≡ over v c → b ≡ false → (c.points ≤ 200) × (v.at ≤ ceiling v.limit)
unfolding over
not_over v c e h =
    let parts = or_false (ltb 200 c.points) (ltb (ceiling v.limit) v.at) (sym e ∙ h) in
    (ltb-false 200 c.points parts.0, ltb-false (ceiling v.limit) v.at parts.1)

-- ---- pieces

-- no piece
pub no_text : {v : Writer} {c : Comment} → Comments v c v c []
no_text {v} {c} = record { same = refl; limit_is = refl; size = refl; go = λ u t m. subst (λ (x : Bytes). Commented u v c x) (sym (append-nil t)) m }

-- one piece after another
infixr 5 ◌also◌
pub ◌also◌ : {v w x : Writer} {c d e : Comment} {s t : Bytes} → Comments v c w d s → Comments w d x e t → Comments v c x e (s ++ t)
◌also◌ {x = x} {e = e} {s = s} {t = t} f g = record {
  same = g.same ∙ f.same;
  limit_is = g.limit_is ∙ f.limit_is;
  size = g.size ∙ f.size;
  go = λ u a m. subst (λ (y : Bytes). Commented u x e y) (append_assoc a s t) (g.go u (a ++ s) (f.go u a m));
}

-- the same piece, of bytes that are equal
pub text_says : {v w : Writer} {c d : Comment} {s t : Bytes} → s ≡ t → Comments v c w d s → Comments v c w d t
text_says {v} {w} {c} {d} e f = subst (λ (x : Bytes). Comments v c w d x) e f

-- pieces from the start are a comment's text
pub text_written : {v w : Writer} {c d : Comment} {s : Bytes} → c.points ≡ 0 → Comments v c w d s → Writes v w (one_line s)
unfolding one_line blanked cut_after
text_written {v} e f = (f.go v [] (record { wrote = nothing; counted = λ h r. ap (λ (n : ℕ). cut_after n r) (sym e) })).wrote

-- what is behind a reference, by its ghost name
pub reached : {A : Type 0} {y z : A} {m n : ℕ} → m ≡ n → (m ≡ n → y ≡ z) → y ≡ z
reached e f = f e

-- a comment's text after the bytes a and before the bytes b
pub comment_written : {u v w x : Writer} {c d : Comment} {a s b : Bytes} → Writes u v a → c.points ≡ 0 → Comments v c w d s → Writes w x b → Writes u x (a ++ (one_line s ++ b))
comment_written A e C B = A then text_written e C then B
