-- A test of a list's items, one item at a time: what the first item and the test of the others say.
-- Assumes nothing.
use mathlib.Core.Path.{◌≡◌, sym, ◌∙◌}
use Prim.Native.Nat.{ℕ, zero, suc, ◌-◌, ◌<◌}
use native.Mathlib.Omega.{arith}
use mathlib.Core.Bool.{Bool}
use mathlib.Core.List.{List, [], ◌∷◌}
use lib.ListN.{drop}
use Rattle.script_spec.specs.Base.{Bytes}
use Rattle.script_spec.specs.Fields.{Reader, got, pure, times, u32, list}
use Rattle.script_spec.proofs.Laws.{never}
use Rattle.script_spec.proofs.Readers.{bind_inverse}
use Rattle.refusal.specs.declared.Refusal.{Refusal}
use Rattle.refusal.specs.Numbers.{number}
use Rattle.read_field.specs.Reads.{as_read}
use Rattle.read_field.specs.declared.Cursor.{Cursor}
use Rattle.read_field.specs.Takes.{TakesTo, RefusesAt}
use Rattle.index.specs.declared.RecordsMut.{RecordsMut}
use Rattle.check_rules.specs.Decided.{DecidesItems, DecidesList, LeavesMemory}
use Rattle.check_rules.proofs.Lists.{Items, times_next, times_bad}
use Rattle.check_rules.proofs.Held.{becomes_same}

-- something holds of the next `count` items, where there are so many
pub record Follows {A : Type 0} (item : Reader A) (c : Cursor) (count : ℕ) (P : List A → Type 0) : Type 0 where
  pub go : (xs : List A) (rest : Bytes) → times count item (drop c.at c.body.now) ≡ got xs rest → P xs

-- the items after the first
after_first : {A : Type 0} {item : Reader A} {c d : Cursor} (k : ℕ) {x : A} → TakesTo item c d x → (xs : List A) (rest : Bytes) → times (suc k) item (drop c.at c.body.now) ≡ got xs rest → Items item k x (drop d.at d.body.now) xs rest
unfolding as_read
after_first {item = item} {c} {d} k {x} h xs rest e = rw h.body (times_next item k (drop c.at c.body.now) xs rest x (drop d.at c.body.now) h.reads.is e)

module _ {A : Type 0} {item : Reader A} {test : List A → Bool} where
  pub decides_none : {body : Bytes} {at k : ℕ} {b : Bool} → k ≡ 0 → b ≡ test [] → DecidesItems item test body at k b
  unfolding times pure
  decides_none {k = zero} z q = record { go = λ xs rest e. let n : xs ≡ [] = cc in rw n q }
  decides_none {k = suc k} z q = absurd (omega arith)

  -- the first item leaves it to the others
  pub decides_next : {c d : Cursor} {k j : ℕ} {x : A} {others : List A → Bool} {b : Bool} → k ≡ suc j → TakesTo item c d x → Follows item d j (λ xs. test (x ∷ xs) ≡ others xs) → DecidesItems item others d.body.now d.at j b → DecidesItems item test c.body.now c.at k b
  decides_next {j = j} more h l D = rw more (record { go = λ xs rest e. let i = after_first j h xs rest e in rw i.is (D.go i.tail rest i.reads ∙ sym (l.go i.tail rest i.reads)) })

  -- the first item decides
  pub decides_first : {c d : Cursor} {k : ℕ} {x : A} {b : Bool} → 0 < k → TakesTo item c d x → Follows item d (k - 1) (λ xs. test (x ∷ xs) ≡ b) → DecidesItems item test c.body.now c.at k b
  decides_first {k = k} z h l = let more : k ≡ suc (k - 1) = omega arith in rw more (record { go = λ xs rest e. let i = after_first (k - 1) h xs rest e in rw i.is (sym (l.go i.tail rest i.reads)) })

  -- an item that is not there
  pub decides_bad : {c : Cursor} {k : ℕ} {x : Refusal} (b : Bool) → 0 < k → RefusesAt item c x → DecidesItems item test c.body.now c.at k b
  unfolding as_read
  decides_bad {c} {k = zero} b z h = absurd (omega arith)
  decides_bad {c} {k = suc k} {x} b z h = record { go = λ xs rest e. absurd (times_bad item k (drop c.at c.body.now) xs rest (number x) h.reads.is e) }

-- what a test says of the items that are left is what the test of all says
pub record Going {A : Type 0} (item : Reader A) (test : List A → Bool) (c : Cursor) (count : ℕ) (others : List A → Bool) (d : Cursor) (left : ℕ) : Type 0 where
  pub go : (b : Bool) → DecidesItems item others d.body.now d.at left b → DecidesItems item test c.body.now c.at count b

module _ {A : Type 0} {item : Reader A} {test : List A → Bool} {c : Cursor} {count : ℕ} where
  pub going_start : {left : ℕ} → left ≡ count → Going item test c count test c left
  going_start e = record { go = λ b h. rw (← e) h }

  pub going_on : {these : List A → Bool} {d e : Cursor} {left j : ℕ} {x : A} {others : List A → Bool} → left ≡ suc j → Going item test c count these d left → TakesTo item d e x
      → Follows item e j (λ xs. these (x ∷ xs) ≡ others xs) → Going item test c count others e j
  going_on more G h l = record { go = λ b D. G.go b (decides_next more h l D) }

-- ---- lists

module _ {A : Type 0} {item : Reader A} {test : List A → Bool} {c : Cursor} where
  pub decides_list : {d : Cursor} {n : ℕ} {b : Bool} → TakesTo u32 c d n → DecidesItems item test d.body.now d.at n b → DecidesList item test c.body.now c.at b
  unfolding as_read list
  decides_list {d} {n} h D =
      record {
        go = λ xs rest e.
            let x = bind_inverse u32 _ (drop c.at c.body.now) e in
            let r = h.reads.is in
            let count : x.value ≡ n = cc (x.first, r) in
            let left : x.mid ≡ drop d.at c.body.now = cc (x.first, r) in
            D.go xs rest (rw (← count, h.body, ← left) x.after);
      }

  -- a count that is not there
  pub list_bad : {x : Refusal} (b : Bool) → RefusesAt u32 c x → DecidesList item test c.body.now c.at b
  unfolding as_read list
  list_bad b h = record { go = λ xs rest e. let x = bind_inverse u32 _ (drop c.at c.body.now) e in let r = h.reads.is in never (cc (x.first, r)) }

-- ---- the memory

-- nothing was stored
pub leaves : {v : RecordsMut} {P : Type 0} → P → LeavesMemory v v P
leaves p = record { unchanged = becomes_same; told = p }

-- what was left as it was is so for what follows
pub leaves_so : {v w : RecordsMut} {P Q : Type 0} → LeavesMemory v w P → (P → Q) → LeavesMemory v w Q
leaves_so L f = record { unchanged = L.unchanged; told = f L.told }
