-- What a search among the records of one kind finds: a record equal to the one that is looked for, or that there is none.
-- Assumes nothing.
use Rattle.std.specs.Prelude.{◌≡◌, ◌⊎◌, ℕ, ◌<◌, Bool, true, List, length}
use Rattle.std.proofs.Math.Option.{some}
use Rattle.script_spec.specs.Base.{Bytes}
use Rattle.script_spec.specs.Fields.{Entry}
use Rattle.script_spec.specs.File.{TermFile, terms, earlier}
use Rattle.index.specs.Cells.{cell, note, hash}
use Rattle.index.specs.First.{canonical, InRange, NoSet}
use Rattle.index.specs.Rules.{differs}
use Rattle.index.specs.Standing.{entry_at}
use Rattle.index.specs.Meaning.{Rows}
use Rattle.index_compare.specs.View.{Decides}
use Rattle.index.specs.Names.{code_of, key_of, Reached}
use Rattle.index.specs.Empties.{empties}
use Rattle.index.specs.Held as Held
use Rattle.index.specs.declared.RecordsMut.{RecordsMut}
use Rattle.index_search.specs.Slots.{home_of}
use Rattle.index_search.specs.Storing.{Stored}

-- the entry x is read at an offset, and refers to records of f only, as a set to terms that differ
pub record At (file : Bytes) (f : TermFile) (o : ℕ) (x : Entry) : Type 0 where
  pub reads : entry_at file o ≡ some x
  pub in_range : InRange (earlier f) x
  pub differ : differs f x ≡ true

-- r is whether the entries at two offsets, the second no set, are equal with first equal numbers for their references
pub record SameAt (file : Bytes) (work : List ℕ) (rows o p : ℕ) (r : Bool) : Type 0 where
  pub go : (f : TermFile) → Rows file f work rows → (x y : Entry) → At file f o x → At file f p y → NoSet y → Decides r (canonical f x ≡ canonical f y)

-- what is looked for, and the entries ε among which it is, by their offsets in a column; each is reached in the slots, and no term has a note
pub record LooksFor (file : Bytes) (work : List ℕ) (rows offsets kind count o : ℕ) (f : TermFile) (x : Entry) (ε : ℕ → Entry) : Type 0 where
  pub index : Rows file f work rows
  pub sought : At file f o x
  pub stand : (n : ℕ) → n < count → At file f (cell work rows offsets n) (ε n)
  pub kind_is : kind < 4
  pub unnoted : (n : ℕ) → n < length (terms f) → cell work rows note n ≡ 0
  pub reached : (n : ℕ) → n < count → Reached (home_of (key_of work rows) rows) rows (cell work rows hash) kind count (λ m. canonical f (ε m)) n

module _ (f : TermFile) (x : Entry) (ε : ℕ → Entry) (count : ℕ) where
  -- an entry that is equal, with the number that its row has in the column of first numbers
  pub record Hit (first : ℕ → ℕ) (r : ℕ) : Type 0 where
    pub number : ℕ
    pub below : number < count
    pub equal : canonical f (ε number) ≡ canonical f x
    pub is : r ≡ first number

  -- no entry is equal
  pub record Miss (r : ℕ) : Type 0 where
    pub none : (n : ℕ) → n < count → canonical f (ε n) ≡ canonical f x → ⊥
    pub is : r ≡ count

-- an equal entry is found, and the memory is as it was
pub record KnownEntry (work work' : List ℕ) (rows firsts count r : ℕ) (f : TermFile) (x : Entry) (ε : ℕ → Entry) : Type 0 where
  pub hit : Hit f x ε count (cell work rows firsts) r
  pub unchanged : work' ≡ work

-- no entry is equal, and the one that was looked for is stored in a slot with `count` for its number
pub record NewEntry (work work' : List ℕ) (rows kind count r : ℕ) (f : TermFile) (x : Entry) (ε : ℕ → Entry) : Type 0 where
  pub miss : Miss f x ε count r
  pub stored : Stored work work' rows (home_of (key_of work rows) rows (canonical f x)) (code_of count kind)

-- one or the other
pub record Enrolled (work work' : List ℕ) (rows firsts kind count r : ℕ) (f : TermFile) (x : Entry) (ε : ℕ → Entry) : Type 0 where
  pub told : KnownEntry work work' rows firsts count r f x ε ⊎ NewEntry work work' rows kind count r f x ε

-- what the search answers that takes a slot
pub record Enrols (file : Bytes) (work work' : List ℕ) (rows offsets firsts kind count o r : ℕ) : Type 0 where
  pub go : (f : TermFile) (x : Entry) (ε : ℕ → Entry) → LooksFor file work rows offsets kind count o f x ε → count < 1048576 → 0 < empties (cell work rows hash) rows → Enrolled work work' rows firsts kind count r f x ε

-- the same of the records v before and w after it
pub record EnrolsIn (v w : RecordsMut) (offsets firsts kind count o r : ℕ) : Type 0 where
  pub stays : Held.Stays v w
  pub enrols : Enrols v.file.now v.work.now w.work.now v.sizes.rows offsets firsts kind count o r
