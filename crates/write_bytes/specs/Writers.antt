-- What a run of writes does to a writer: its buffer, its limit and its place; and how a run ends.
-- Assumes nothing.
use Rattle.std.specs.Prelude.{◌≡◌, ◌++◌, ℕ, ◌-◌, ◌<◌, ◌≤◌, min, length, take, drop, Result}
use Rattle.script_spec.specs.Base.{Bytes}
use Rattle.refusal.specs.declared.Refusal.{Refusal}
use Rattle.write_bytes.specs.declared.writer.Writer.{Writer}
use Rattle.write_bytes.specs.Writing.{longest, ceiling, moved, Wrote, answer, Leaves, ending}

-- the writes of s took a writer from v to w: the same buffer, limit and size, and s after whatever was written before
pub record Writes (v w : Writer) (s : Bytes) : Type 0 where
  pub same : w.out.ghost_name ≡ v.out.ghost_name
  pub limit_is : w.limit ≡ v.limit
  pub size : length w.out.now ≡ length v.out.now
  pub go : (o a : Bytes) → Wrote v.limit o v.out.now v.at a → Wrote v.limit o w.out.now w.at (a ++ s)

-- A line was written, as P says, by a writer over a buffer x, of which `room` bytes count; y is that buffer as the line left it, if it left it in
-- its place, and n is the place that it came to.
pub record InRest (P : Writer → Writer → Type 0) (room : ℕ) (x y : Bytes) (n : ℕ) : Type 0 where
  pub rest : Writer
  pub after : Writer
  pub lent : rest.out.now ≡ x
  pub room_is : rest.limit ≡ room
  pub starts : rest.at ≡ 0
  pub wrote : P rest after
  pub holds : after.out.ghost_name ≡ rest.out.ghost_name → y ≡ after.out.now
  pub size : length y ≡ length x
  pub place : n ≡ after.at

-- the unwritten part of v was lent to a line that was written, as P says, and w goes on after what was written there
pub record LendsRest (P : Writer → Writer → Type 0) (v w : Writer) : Type 0 where
  pub same : w.out.ghost_name ≡ v.out.ghost_name
  pub limit_is : w.limit ≡ v.limit
  pub rest : Bytes
  pub length_is : ℕ
  pub line : InRest P (ceiling v.limit - v.at) (drop (min v.at (length v.out.now)) v.out.now) rest length_is
  pub holds : w.out.now ≡ take (min v.at (length v.out.now)) v.out.now ++ rest
  pub moves : w.at ≡ moved v.at length_is (ceiling v.limit)

-- within its limit v lends its unwritten part; past it nothing is done
pub data Lends (P : Writer → Writer → Type 0) (v w : Writer) : Type 0 where
  past : ceiling v.limit < v.at → w ≡ v → Lends P v w
  within : v.at ≤ ceiling v.limit → LendsRest P v w → Lends P v w

-- a run of writes is ended at v with the answer r, and leaves w; no slice is longer than the longest
pub record Finishes (v w : Writer) (r : Result ℕ Refusal) : Type 0 where
  pub same : w.out.ghost_name ≡ v.out.ghost_name
  pub leaves : Leaves v.out.now w.out.now (answer r) (ending v.out.now v.at)
  pub small : length v.out.now ≤ longest
