-- How a comment's text is written piece by piece: what is written so far, and where its code points are counted.
-- Assumes nothing.
use Rattle.std.specs.Prelude.{◌≡◌, Bool, ◌||◌, ◌++◌, ℕ, ◌≤◌, ltb, length, take}
use Rattle.script_spec.specs.Base.{Bytes}
use Rattle.script_spec.specs.Text.{cut_after, one_line}
use Rattle.write_bytes.specs.declared.writer.Writer.{Writer}
use Rattle.write_bytes.specs.Writing.{ceiling}
use Rattle.write_bytes.specs.Writers.{Writes}
use Rattle.write_text.specs.declared.comment.Comment.{Comment}
use Rattle.write_text.specs.declared.comment.Cut.{Cut}

-- a text s of a comment that has n code points before it is cut at c: whatever text follows it is cut as after the code points of c
pub record Cuts (s : Bytes) (n : ℕ) (c : Cut) : Type 0 where
  pub inside : c.end ≤ length s
  pub kept : (r : Bytes) → cut_after n (s ++ r) ≡ take c.end s ++ cut_after c.points r

-- nothing is written of a comment's text any more
unfoldable pub over : Writer → Comment → Bool
over w c = ltb 200 c.points || ltb (ceiling w.limit) w.at

-- from the writer u to the writer v the text t of a comment is written; unless the place is past the limit, whatever text follows t is
-- cut as after the code points of c
pub record Commented (u v : Writer) (c : Comment) (t : Bytes) : Type 0 where
  pub wrote : Writes u v (one_line t)
  pub counted : v.at ≤ ceiling v.limit → (r : Bytes) → cut_after 0 (t ++ r) ≡ cut_after 0 t ++ cut_after c.points r

-- what going on with the text s does to a writer v with the comment c, whatever was written before it
pub record Comments (v : Writer) (c : Comment) (w : Writer) (d : Comment) (s : Bytes) : Type 0 where
  pub same : w.out.ghost_name ≡ v.out.ghost_name
  pub limit_is : w.limit ≡ v.limit
  pub size : length w.out.now ≡ length v.out.now
  pub go : (u : Writer) (t : Bytes) → Commented u v c t → Commented u w d (t ++ s)
