-- What the parts of encode promise: the refusal of a walk, the walk with its assertions, and the script of an accepted file.
-- Assumes nothing.
use Rattle.std.specs.Prelude.{◌≡◌, ℕ, ◌<◌, List, ◌++◌, length, take, Result, Ok, Err}
use Rattle.script_spec.specs.Base.{Bytes, Answer, accepted, refused}
use Rattle.script_spec.specs.File.{TermFile, members, inputs, terms, term_at}
use Rattle.script_spec.specs.Command.{script, fitting}
use Rattle.script_spec.specs.Walk.{State, Step, went, stopped, start, names, encode_inputs, assertions, first_equal, encoded}
use Rattle.refusal.specs.Numbers.{number}
use Rattle.refusal.specs.declared.Refused.{Refused}
use Rattle.write_bytes.specs.Writing.{Wrote, length_of}
use Rattle.index.specs.Meaning.{CheckedIndex, Unnamed}
use Rattle.index.specs.declared.Records.{Records}
use Rattle.index.specs.declared.Sizes.{Sizes}
use Rattle.walk_names.specs.Naming.{IndexOf}
use Rattle.walk_names.specs.Progress.{Indexed, Went, Remains}
use Rattle.walk_names.specs.declared.walk.Stopped.{Stopped}
use Rattle.walk_names.specs.declared.walk.Walk.{Walk}
use Rattle.walk_queries.specs.Made.{Ascends}
use Rattle.check_file.specs.Promise.{Fills}
use Rattle.encoder.specs.Promise.{encoded_as}

-- a walk that stops at a term is refused at the first record that is equal to it, with its position
pub record RefusedAt (records : Records) (e : Stopped) (r : Refused) : Type 0 where
  pub refusal_is : r.refusal ≡ e.refusal
  pub position_is : r.position ≡ e.position
  pub go : (f : TermFile) → IndexOf f records → e.term < length (terms f) → r.place ≡ first_equal f (term_at f e.term)

-- what the walk w over the inputs of f has come to and what it answers, by its step: all commands are written, or the walk is refused
abbrev pub Ended : TermFile → ℕ → Bytes → Walk → Result (Unit {0}) Refused → Step → Type 0
Ended f limit o w (Ok u) (went S) = Wrote limit o w.script.now.out.now w.script.now.at (script (S.commands ++ assertions (members f) (names S) (inputs f)))
Ended f limit o w (Ok u) (stopped n t q) = ⊥
Ended f limit o w (Err e) (went S) = ⊥
Ended f limit o w (Err e) (stopped n t q) = (number e.refusal ≡ n) × (e.place ≡ first_equal f t) × (e.position ≡ q)

-- the inputs are encoded and their assertions written, whatever state the walk had come to
pub record WritesRecords (v w : Walk) (r : Result (Unit {0}) Refused) : Type 0 where
  pub remains : Remains v w
  pub go : (f : TermFile) (limit : ℕ) (o : Bytes) (S : State) → Indexed f v → Went f limit o v S → Ended f limit o w r (encode_inputs (members f) (inputs f) S)

-- r says an answer of document 01, and its script stands at the start of a buffer y
pub record Gives (y : Bytes) (r : Result ℕ Refused) (w : Answer Bytes) : Type 0 where
  pub says : encoded_as r ≡ length_of w
  pub starts : (s : Bytes) → w ≡ accepted s → take (length s) y ≡ s

-- the answer after the walk over the inputs of f
unfoldable pub walked : TermFile → ℕ → Step → Answer Bytes
walked f room (went S) = fitting (script (S.commands ++ assertions (members f) (names S) (inputs f))) room
walked f room (stopped n t q) = refused n (first_equal f t) q

-- the memory is the index of accepted records as check leaves it
abbrev pub Checked : TermFile → Walk → Type 0
Checked f v = CheckedIndex v.records.now.file.now f v.records.now.work.now v.records.now.sizes

-- a walk over accepted records is at its start: none of them has a name yet, and nothing is written into a buffer that counts as a whole
pub record Starts (f : TermFile) (v : Walk) : Type 0 where
  pub ascends : Ascends f
  pub unnamed : Unnamed v.records.now.file.now f v.records.now.work.now v.records.now.sizes.rows
  pub types_none : v.types ≡ 0
  pub funs_none : v.funs ≡ 0
  pub terms_none : v.terms ≡ 0
  pub limit_is : v.script.now.limit ≡ length v.script.now.out.now
  pub at_start : v.script.now.at ≡ 0

-- the script of accepted records is written by a walk at its start
pub record WritesScript (v w : Walk) (r : Result ℕ Refused) : Type 0 where
  pub script_lent : w.script.ghost_name ≡ v.script.ghost_name
  pub same : w.script.now.out.ghost_name ≡ v.script.now.out.ghost_name
  pub go : (f : TermFile) → Checked f v → Starts f v → Gives w.script.now.out.now r (walked f (length v.script.now.out.now) (encode_inputs (members f) (inputs f) start))

-- the script of a file that fill has accepted, with an index of these sizes, is written into a buffer x, or the file is refused
pub record Written (file : Bytes) (work : List ℕ) (sizes : Sizes) (x y : Bytes) (r : Result ℕ Refused) : Type 0 where
  pub go : (given : List ℕ) → Fills file given work (Ok sizes) → Gives y r (encoded file (length given) (length x))
