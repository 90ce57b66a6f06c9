-- What the records, the script and the counts of a walk hold after a step of it, and what a function that goes on with the walk promises.
-- Assumes nothing.
use Rattle.std.specs.Prelude.{ℕ, ◌+◌, ◌<◌, ◌≡◌, min, List, length, Result, Ok, Err}
use Rattle.script_spec.specs.Base.{Bytes}
use Rattle.script_spec.specs.Tree.{Tm}
use Rattle.script_spec.specs.File.{TermFile, terms, term_at}
use Rattle.script_spec.specs.Command.{script}
use Rattle.script_spec.specs.Walk.{State, Step, went, stopped}
use Rattle.script_spec.specs.Walk as walk
use Rattle.refusal.specs.Numbers.{number}
use Rattle.write_bytes.specs.Writing.{Wrote}
use Rattle.index.specs.Cells.{cell}
use Rattle.index.specs.Meaning.{Index}
use Rattle.index.specs.Held.{Becomes, Stays}
use Rattle.walk_names.specs.Script.{Continues}
use Rattle.walk_names.specs.Naming.{first_of, names_of, name_stored, Numbers, Kept}
use Rattle.walk_names.specs.declared.naming.Named.{Named}
use Rattle.walk_names.specs.declared.naming.Named.TheVariants as named
use Rattle.walk_names.specs.declared.walk.Walk.{Walk}
use Rattle.walk_names.specs.declared.walk.Stopped.{Stopped}

-- ---- what a walk has in memory

-- its working memory, and how many rows each column of it has
abbrev pub memory : Walk → List ℕ
memory w = w.records.now.work.now

abbrev pub rows : Walk → ℕ
rows w = w.records.now.sizes.rows

-- the index of the records f
abbrev pub Indexed : TermFile → Walk → Type 0
Indexed f w = Index w.records.now.file.now f w.records.now.work.now w.records.now.sizes

-- ---- what was reached

module _ (f : TermFile) (limit : ℕ) (o : Bytes) (w : Walk) where
  -- the memory has the tables of a state, the script, which was o at the start, its commands, and the walk the counts
  pub record Went (S : State) : Type 0 where
    pub numbers : Numbers f (memory w) (rows w) S
    pub types_are : w.types ≡ length S.types
    pub funs_are : w.funs ≡ length S.funs
    pub terms_are : w.terms ≡ length S.terms
    pub limit_is : w.script.now.limit ≡ limit
    pub wrote : Wrote w.script.now.limit o w.script.now.out.now w.script.now.at (script S.commands)

  -- the walk stops with the number of a refusal, the refused term, by its number in the file, and the position
  pub record StoppedAt (e : Stopped) (n : ℕ) (t : Tm) (q : ℕ) : Type 0 where
    pub refused_is : number e.refusal ≡ n
    pub term_below : e.term < length (terms f)
    pub term_is : term_at f e.term ≡ t
    pub position_is : e.position ≡ q
    pub size : length w.script.now.out.now ≡ length o

  -- what was reached by a step
  abbrev pub Holds : Result (Unit {0}) Stopped → Step → Type 0
  Holds (Ok u) (went S) = Went S
  Holds (Ok u) (stopped n t q) = ⊥
  Holds (Err e) (went S) = ⊥
  Holds (Err e) (stopped n t q) = StoppedAt e n t q

-- ---- steps

-- a walk has the same records and the same script, of the same sizes, and only names and notes of its memory have changed
pub record Remains (v w : Walk) : Type 0 where
  pub records_lent : w.records.ghost_name ≡ v.records.ghost_name
  pub records : Stays v.records.now w.records.now
  pub script_lent : w.script.ghost_name ≡ v.script.ghost_name
  pub script : Continues v.script.now w.script.now
  pub kept : Kept (memory v) (memory w) (rows v)

-- A walk goes on by a step, whatever file was accepted and whatever state it had come to, as long as that is ready for the step; where
-- it stops, it says so.
pub record Advances (ready : TermFile → State → Type 0) (step : TermFile → walk.Walk) (v w : Walk) (r : Result (Unit {0}) Stopped) : Type 0 where
  pub remains : Remains v w
  pub go : (f : TermFile) (limit : ℕ) (o : Bytes) (S : State) → Indexed f v → ready f S → Went f limit o v S → Holds f limit o w r (step f S)

-- it goes on by a step that can't stop
abbrev pub Passes : (TermFile → State → Type 0) → (TermFile → walk.Walk) → Walk → Walk → Type 0
Passes ready step v w = Advances ready step v w (Ok tt)

-- ---- names

-- how many have a name
abbrev pub count_of : Named → Walk → ℕ
count_of named.Types w = w.types
count_of named.Funs w = w.funs
count_of named.Terms w = w.terms

-- one more is counted, which makes r
pub record Counts (k : Named) (v w : Walk) (r : ℕ) : Type 0 where
  pub is : r ≡ min (count_of k v + 1) 4294967295
  pub counted : count_of k w ≡ r
  pub others : (l : Named) → (l ≡ k → ⊥) → count_of l w ≡ count_of l v
  pub records_are : w.records ≡ v.records
  pub script_is : w.script ≡ v.script

-- the record with number n has the next name, and the script is as it was
pub record Enters (k : Named) (n : ℕ) (v w : Walk) : Type 0 where
  pub records_lent : w.records.ghost_name ≡ v.records.ghost_name
  pub records : Becomes v.records.now w.records.now (name_stored (memory v) (rows v) (names_of k) (cell (memory v) (rows v) (first_of k) n) (min (count_of k v + 1) 4294967295))
  pub script_lent : w.script.ghost_name ≡ v.script.ghost_name
  pub script_is : w.script.now ≡ v.script.now
  pub counted : count_of k w ≡ min (count_of k v + 1) 4294967295
  pub others : (l : Named) → (l ≡ k → ⊥) → count_of l w ≡ count_of l v
