-- What the functions over slots promise: the home of a record, the first empty slot, and a record that is stored in it.
-- Assumes nothing.
use Rattle.std.specs.Prelude.{◌≡◌, ℕ, ◌≤◌, ◌<◌, List}
use Rattle.std.proofs.Math.Option.{some}
use Rattle.script_spec.specs.Base.{Bytes}
use Rattle.script_spec.specs.Fields.{Entry}
use Rattle.script_spec.specs.File.{TermFile, earlier}
use Rattle.index.specs.Cells.{cell, store, hash}
use Rattle.index.specs.First.{canonical, InRange, NoSet}
use Rattle.index.specs.Standing.{entry_at}
use Rattle.index.specs.Meaning.{Rows}
use Rattle.index.specs.Names.{slot, key_of, scaled, name_home}
use Rattle.index.specs.Empties.{empties}
use Rattle.index_search.specs.Slots.{home_of}

-- b is the home slot of a hash, of `rows` slots
pub record Scales (rows h b : ℕ) : Type 0 where
  pub is : b ≡ scaled rows h
  pub inside : 0 < rows → b < rows

-- b is the home slot of the entry at an offset, which is no set, of `rows` slots
pub record Home (file : Bytes) (work : List ℕ) (rows o b : ℕ) : Type 0 where
  pub inside : 0 < rows → b < rows
  pub is : (f : TermFile) (x : Entry) → Rows file f work rows → entry_at file o ≡ some x → NoSet x → InRange (earlier f) x → 0 < rows → b ≡ home_of (key_of work rows) rows (canonical f x)

-- b is the home slot of a name under a key, of `rows` slots
pub record NameHome (k rows : ℕ) (name : Bytes) (b : ℕ) : Type 0 where
  pub inside : 0 < rows → b < rows
  pub is : 0 < rows → b ≡ name_home k rows name

-- r is how many steps after slot b the first empty slot is, or `rows`
pub record FirstEmpty (rows : ℕ) (column : ℕ → ℕ) (b r : ℕ) : Type 0 where
  pub most : r ≤ rows
  pub taken : (d : ℕ) → d < r → column (slot rows b d) ≡ 0 → ⊥
  pub empty : r < rows → column (slot rows b r) ≡ 0

-- v is stored in the first empty slot from slot b on
pub record Stored (work work' : List ℕ) (rows b v : ℕ) : Type 0 where
  pub inside : b < rows
  pub distance : ℕ
  pub near : distance < rows
  pub first : FirstEmpty rows (cell work rows hash) b distance
  pub is : work' ≡ store work rows hash (slot rows b distance) v

-- v is stored from slot b on, if a slot is empty
pub record Stores (work work' : List ℕ) (rows b v : ℕ) : Type 0 where
  pub go : (0 < rows → b < rows) → 0 < empties (cell work rows hash) rows → Stored work work' rows b v
