-- Laws of operators and patterns: an operator without operand, and the elements of a pattern.
-- Assumes nothing.
use mathlib.Core.Path.{◌≡◌, refl, ◌∙◌}
use Prim.Native.Nat.{ℕ, zero, suc, ◌+◌, ◌*◌, ◌≤◌, ◌<◌}
use native.Mathlib.Omega.{arith}
use mathlib.Core.List.{List}
use mathlib.Core.Option.{some}
use lib.ListN.{take, drop}
use Rattle.script_spec.specs.Base.{Bytes, at}
use Rattle.script_spec.specs.Tree as tree
use Rattle.script_spec.specs.Fields.{Read, got, bad, Reader, ◌>>=◌, pure, element, times, plain, operators}
use Rattle.script_spec.proofs.Laws.{never}
use Rattle.read_field.specs.Reads.{as_read, Within, skim, repeat, chosen}
use Rattle.read_field.proofs.Laws.{takes, takes_pure}
use Rattle.read_field.proofs.Skims.{skim_times, skim_bad}
use Rattle.read_field.proofs.Coded.{reads_chosen}
use Rattle.read_field.proofs.Words.{elements_read}
use Rattle.read_field.specs.Words.{elements}
use Rattle.std.specs.Prelude.{Result, Ok, Err}
use Rattle.refusal.specs.declared.Refusal.{Refusal}
use Rattle.refusal.specs.Numbers.{number}
use Rattle.read_field.specs.declared.Cursor.{Cursor}
use Rattle.read_field.specs.Takes.{TakesTo, RefusesAt, Takes}
use Rattle.read_operator.specs.declared.Op.{Op}
use Rattle.read_operator.specs.Operators.{Operand, op_of}

-- the field of a code that a table of readers has
module _ {A : Type 0} (table : List (Reader A)) {n : ℕ} {r : Reader A} (k : ℕ) (e : n ≡ k) (f : at k table ≡ some r) where
  pub takes_chosen : {c d : Cursor} {a : A} → TakesTo r c d a → TakesTo (chosen table n) c d a
  takes_chosen h = record { body = h.body; reads = reads_chosen table k e f h.reads }

  pub chosen_by : (c : Cursor) (x : Result (A × Cursor) Refusal) → Takes r c x → Takes (chosen table n) c x
  chosen_by c (Ok v) h = takes_chosen h
  chosen_by c (Err q) h = record { reads = reads_chosen table k e f h.reads }

-- an operator without operand, by its code
pub operand_plain : {code : ℕ} {o : Op} (k : ℕ) (p : tree.PlainOp) → code ≡ k → ((funs : ℕ) → at k (operators funs) ≡ some (plain p)) → tree.Plain p ≡ op_of o → Operand code o
unfolding plain
operand_plain k p e f g = record { go = λ funs c. takes_chosen (operators funs) k e (f funs) (rw (← g) (takes_pure (tree.Plain p))) }

-- ---- the last arm of a match on the numbers from `low` on

-- x is none of n numbers
abbrev pub Past : ℕ → ℕ → ℕ → Type 0
Past low zero x = Unit {0}
Past low (suc n) x = Past low n x × (x ≡ low + n → ⊥)

pub past : (low n x : ℕ) → low ≤ x → Past low n x → low + n ≤ x
past low zero x l h = omega arith
past low (suc n) x l h = let k : low + n ≤ x = past low n x l h.0 in let d : x ≡ low + n → ⊥ = h.1 in omega arith

pub past_last : (low n x : ℕ) → low ≤ x → x < low + suc n → Past low n x → x ≡ low + n
past_last low n x l u h = let k : low + n ≤ x = past low n x l h in omega arith

-- ---- patterns

-- elements that were passed over are those of their bytes
times_elements : (n : ℕ) (s rest : Bytes) → repeat n (skim element) s ≡ got tt rest → times n element s ≡ got (elements (take (4 * n) s)) rest
unfolding skim ◌>>=◌ pure
times_elements n s rest h = go (times n element s) refl (skim_times element n s ∙ h)
  where
    go : (x : Read (List ℕ)) → times n element s ≡ x → skim (λ _. x) s ≡ got tt rest → x ≡ got (elements (take (4 * n) s)) rest
    go (got cs r) e k = let left : r ≡ rest = cc in rw (elements_read n s cs r e, left)
    go (bad m) e k = never cc

module _ (n : ℕ) {c : Cursor} where
  pub takes_elements : {d : Cursor} {s : Bytes} → s ≡ take (4 * n) (drop c.at c.body.now) → TakesTo (repeat n (skim element)) c d tt → TakesTo (times n element) c d (elements s)
  unfolding as_read Within
  takes_elements e h = let r = h.reads in rw e (takes h.body (record { is = times_elements n (drop c.at c.body.now) _ r.is; within = r.within }))

  pub elements_refused : {e : Refusal} → RefusesAt (repeat n (skim element)) c e → RefusesAt (times n element) c e
  unfolding as_read Within
  elements_refused {e} h =
      record { reads = record { is = skim_bad (times n element) (drop c.at c.body.now) (number e) (skim_times element n (drop c.at c.body.now) ∙ h.reads.is); within = λ w. tt } }
