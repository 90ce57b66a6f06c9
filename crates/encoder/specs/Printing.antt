-- What printing promises: what `termscript` writes, in a buffer.
-- Assumes nothing.
use Rattle.std.specs.Prelude.{◌≡◌, true, false, ℕ, ◌≤◌, List, leb, length, take, replicate, Result}
use Rattle.std.specs.Result.{result_unwrap_or}
use Rattle.script_spec.specs.Base.{Bytes, Answer, accepted, refused}
use Rattle.script_spec.specs.Command.{fitting, left}
use Rattle.script_spec.specs.Walk.{encoded, printed, termscript}
use Rattle.refusal.specs.declared.Refusal.{Refusal}
use Rattle.write_bytes.specs.Writing.{answer, length_of, Leaves}

-- the answer to a file of at most 8,192 bytes; a longer one is refused by 1
unfoldable pub answered : Bytes → ℕ → ℕ → Answer Bytes
answered file work room = elim (leb (length file) 8192) [ true ↦ encoded file work room | false ↦ refused 1 0 0 ]

-- how many bytes are written: none where they do not fit
unfoldable pub written : Answer ℕ → ℕ
written (accepted n) = n
written (refused n p q) = 0

-- a buffer x has become y, with s and then zeros if s fits, and else zeros alone; r is the number of bytes written
pub record Shows (x : Bytes) (s y : Bytes) (r : ℕ) : Type 0 where
  pub holds : y ≡ left (fitting s (length x)) (length x)
  pub size : r ≡ written (length_of (fitting s (length x)))

-- the line of a refusal is printed, or does not fit; a buffer of 81 bytes has room for each
pub record PrintsRefusal (x : Bytes) (n p q : ℕ) (y : Bytes) (r : Result ℕ Refusal) : Type 0 where
  pub leaves : Leaves x y (answer r) (fitting (printed (refused n p q)) (length x))
  pub is : 81 ≤ length x → take (result_unwrap_or r 0) y ≡ printed (refused n p q)

-- The answer to a file is printed into the script's buffer, and the working memory is all zero afterwards. With 16,384 entries of
-- working memory and 65,536 bytes for the script that is what `termscript` writes.
pub record Prints (file : Bytes) (work : List ℕ) (x : Bytes) (work' : List ℕ) (y : Bytes) (r : ℕ) : Type 0 where
  pub shows : Shows x (printed (answered file (length work) (length x))) y r
  pub is : length work ≡ 16384 → length x ≡ 65536 → take r y ≡ termscript file
  pub cleared : work' ≡ replicate (length work) 0
