-- Laws of texts with commas between them: by recursion on the texts; and of a loop that goes on with a comment's text.
-- Assumes nothing.
use mathlib.Core.Path.{◌≡◌, sym, ap, ◌∙◌}
use mathlib.Core.Bool.{Bool, true}
use mathlib.Core.List.{List, [], ◌∷◌, ◌++◌, append-nil, append_assoc}
use Rattle.script_spec.specs.Base.{Bytes, bytes, joined, collect}
use Rattle.write_bytes.specs.declared.writer.Writer.{Writer}
use Rattle.write_text.specs.Comments.{Comments, over}
use Rattle.write_text.specs.declared.comment.Comment.{Comment}
use Rattle.write_text.proofs.CommentLaws.{◌also◌, text_says, comment_over}

-- texts, each after a comma
unfoldable pub led : List Bytes → Bytes
led xs = collect (λ x. bytes ", " ++ x) xs

-- texts with commas between them: the first, and the others after commas
joined_led : (x : Bytes) (xs : List Bytes) → joined (bytes ", ") (x ∷ xs) ≡ x ++ led xs
unfolding joined led collect bytes
joined_led x [] = sym (append-nil x)
joined_led x (y ∷ ys) = ap (λ (s : Bytes). x ++ (bytes ", " ++ s)) (joined_led y ys)

-- ---- loops

-- a writer with a comment went on from v and c to w and d, and `todo` is what is left of the whole
pub record Led (v : Writer) (c : Comment) (w : Writer) (d : Comment) (todo whole : Bytes) : Type 0 where
  pub done : Bytes
  pub wrote : Comments v c w d done
  pub rest : done ++ todo ≡ whole

pub led_start : {v w : Writer} {c d : Comment} {s x : Bytes} (xs : List Bytes) → s ≡ x → Comments v c w d s → Led v c w d (led xs) (joined (bytes ", ") (x ∷ xs))
led_start {s = s} {x = x} xs e A = record { done = s; wrote = A; rest = rw e (sym (joined_led x xs)) }

pub led_step : {v w y : Writer} {c d e : Comment} {s x whole : Bytes} (xs : List Bytes) → s ≡ x → Led v c w d (led (x ∷ xs)) whole → Comments w d y e (bytes ", " ++ s) → Led v c y e (led xs) whole
unfolding led collect
led_step {s = s} xs q l A = record { done = l.done ++ (bytes ", " ++ s); wrote = l.wrote also A; rest = append_assoc l.done (bytes ", " ++ s) (led xs) ∙ (rw (← q) at l.rest) }

pub led_end : {v w : Writer} {c d : Comment} {whole : Bytes} → Led v c w d (led []) whole → Comments v c w d whole
unfolding led collect
led_end l = text_says (sym (append-nil l.done) ∙ l.rest) l.wrote

pub led_over : {v w : Writer} {c d : Comment} {b : Bool} {todo whole : Bytes} → Led v c w d todo whole → b ≡ over w d → b ≡ true → Comments v c w d whole
led_over l e h = text_says l.rest (l.wrote also comment_over e h)
