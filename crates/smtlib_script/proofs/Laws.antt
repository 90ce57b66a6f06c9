-- A command is written as document 01 has it where its texts are tested first; and how the tests of texts go together.
-- Assumes nothing.
use Prim.Native.Nat.{ℕ}
use mathlib.Core.Path.{◌≡◌, refl, sym, ap, ◌∙◌}
use mathlib.Core.Bool.{Bool, true, false, ◌&&◌, and_assoc}
use mathlib.Core.List.{List, [], ◌∷◌, ◌++◌, map, zip, zip_with}
use lib.ListN.{length}
use denote.Ref.{Bor}
use Rattle.script_spec.specs.Base.{Bytes, refused, all, collect}
use Rattle.script_spec.specs.Utf8.{is_utf8}
use Rattle.script_spec.specs.Command.{Command, given, line, fitting, command_written}
use Rattle.std.specs.Prelude.{Result}
use Rattle.std.specs.List as std
use Rattle.std.specs.List.{list_all}
use Rattle.refusal.specs.declared.Refusal.{Refusal}
use Rattle.write_bytes.specs.declared.writer.Writer.{Writer}
use Rattle.write_bytes.specs.Writing.{answer, Leaves}
use Rattle.write_bytes.specs.Writers.{Writes, Finishes}
use Rattle.write_bytes.proofs.Laws.{finished}
use Rattle.smtlib_script.specs.Alone.{WritesAlone}

-- ---- the two ways out

-- a text is not UTF-8
pub refuses : {c : Command} {x y : Bytes} {r : Result ℕ Refusal} {b : Bool} → b ≡ all is_utf8 (given c) → b ≡ false → Leaves x y (answer r) (refused 6 0 0) → WritesAlone c x y r
unfolding command_written
refuses {b = b} e h l = record { leaves = rw (sym e ∙ h, command_written) l }

-- all texts are UTF-8, and the command's line is written by a writer of the buffer; y is the buffer that the writer gives back
pub writes : {c : Command} {x y : Bytes} {u v w : Writer} {r : Result ℕ Refusal} {b : Bool} → b ≡ all is_utf8 (given c) → b ≡ true → u.out.now ≡ x → u.limit ≡ length x → u.at ≡ 0
    → Writes u v (line c) → Finishes v w r → y ≡ w.out.now → WritesAlone c x y r
unfolding command_written
writes {c} {x} {y} {u} {v} {w} {r} e h is limit start f g back =
    let ended : Leaves u.out.now w.out.now (answer r) (fitting (line c) (length u.out.now)) = finished (rw is limit) start f g in
    record { leaves = rw (sym e ∙ h, command_written, back) (rw is at ended) }

-- ---- the tests of a command's texts

pub all_append : (xs ys : List Bytes) → all is_utf8 (xs ++ ys) ≡ all is_utf8 xs && all is_utf8 ys
unfolding all
all_append [] ys = refl
all_append (x ∷ xs) ys = rw (all_append xs ys) (sym (and_assoc (is_utf8 x) (all is_utf8 xs) (all is_utf8 ys)))

-- ---- lent lists, whose texts are tested one by one

-- each text of a list
pub all_lent : (ts : List (Bor Bytes)) → list_all (λ t. is_utf8 t.now) ts ≡ all is_utf8 (map (λ x. x.now) ts)
unfolding all
all_lent [] = refl
all_lent (t ∷ ts) = ap (λ (b : Bool). is_utf8 t.now && b) (all_lent ts)

-- each text of the pairs of two lists
pub all_pairs : (xs ys : List (Bor Bytes))
    → list_all (λ p. is_utf8 p.0.now && is_utf8 p.1.now) (std.zip xs ys) ≡ all is_utf8 (collect (λ p. p.0 ∷ p.1 ∷ []) (zip (map (λ x. x.now) xs) (map (λ x. x.now) ys)))
unfolding zip zip_with all collect
all_pairs [] ys = refl
all_pairs (x ∷ xs) [] = refl
all_pairs (x ∷ xs) (y ∷ ys) = rw (← all_pairs xs ys) (and_assoc (is_utf8 x.now) (is_utf8 y.now) _)
