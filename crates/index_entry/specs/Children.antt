-- What the children in a list are, and what the children at an offset are.
-- Assumes nothing.
use Rattle.std.specs.Prelude.{ℕ, ◌≡◌, Bool, true, false, List, drop}
use Rattle.std.proofs.Math.Option.{Option, some}
use Rattle.script_spec.specs.Base.{Bytes}
use Rattle.script_spec.specs.Tree.{TermMark}
use Rattle.script_spec.specs.Fields.{term}
use Rattle.index.specs.Standing.{entry_of, entry_at}
use Rattle.index.specs.Lists.{number_at, text_size}
use Rattle.index_entry.specs.Terms.{children_in}
use Rattle.index_entry.specs.declared.terms.Children.{Children}

-- what stands after a child's name, where it has one
unfoldable pub past_name : Bool → Bytes → Bytes
past_name true s = drop (text_size s) s
past_name false s = s

-- the children in a list at a place of a body
pub record ListedAt (body : Bytes) (at : ℕ) (named : Bool) (r : Children) : Type 0 where
  pub within : r.body.now ≡ body
  pub count : r.left ≡ number_at body at
  pub place : drop r.from body ≡ drop 4 (drop at body)
  pub bare : r.named ≡ named

-- a body that is a term under a mark has these children
pub record IsChildren (mark : Option Bytes) (body : Bytes) (r : Children) : Type 0 where
  pub go : (m : Bytes) (t : TermMark ℕ ℕ) (rs : List ℕ) → mark ≡ some m → entry_of m body ≡ some (term t rs) → children_in r ≡ rs

-- a record that is a term at an offset of a file has these children
pub record ChildrenAt (file : Bytes) (offset : ℕ) (r : Children) : Type 0 where
  pub go : (t : TermMark ℕ ℕ) (rs : List ℕ) → entry_at file offset ≡ some (term t rs) → children_in r ≡ rs
