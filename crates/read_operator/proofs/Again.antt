-- Operators that are read again: their operands with no test, whatever number names a function.
-- Assumes nothing.
use mathlib.Core.Path.{◌≡◌, refl, sym, ap, ◌∙◌, subst}
use mathlib.Core.Bool.{Bool, true, false, not}
use borrow.Author.Tests.{ne_eqb}
use lib.Dec.{eqb}
use mathlib.Core.List.{List, [], ◌∷◌, ◌++◌}
use mathlib.Core.Option.{some}
use Prim.Native.Nat.{ℕ, zero, suc, ◌*◌, ◌^◌}
use denote.Ref.{Bor}
use lib.ListN.{length, take, drop}
use Rattle.script_spec.specs.Base.{Bytes, at}
use Rattle.script_spec.specs.Tree as tree
use Rattle.script_spec.specs.Fields.{got, bad, Reader, ◌>>=◌, pure, present, part, u32, text, list, element, times, ref, operators}
use Rattle.script_spec.proofs.Laws.{never}
use Rattle.script_spec.proofs.Readers.{bind_inverse, tested_inverse, bind_got}
use Rattle.std.specs.Prelude.{Result, Ok, Err}
use Rattle.refusal.specs.declared.Refusal.{Refusal}
use Rattle.read_field.specs.declared.Cursor.{Cursor}
use Rattle.read_field.specs.Reads.{as_read, chosen}
use Rattle.read_field.specs.Takes.{TakesTo, Takes}
use Rattle.read_field.proofs.Laws.{next}
use Rattle.read_field.proofs.Words.{elements_inverse, elements_read}
use Rattle.read_field.specs.Words.{elements}
use Rattle.read_operator.specs.Again.{Moves, Gives, TakesAgain, Taken, TakesBy, count}
use Rattle.read_operator.specs.Operators.{record_get_operand, string_like, uninterpreted, zero_extend}
use Rattle.read_operator.proofs.Laws.{chosen_by}

-- ---- readers without their tests

module _ {A : Type 0} {reader : Reader A} {c : Cursor} where
  -- another reader, which makes the same where this one refuses nothing
  again_by : (loose : Reader A) (x : Result (A × Cursor) Refusal) → ((s : Bytes) (a : A) (rest : Bytes) → reader s ≡ got a rest → loose s ≡ got a rest) → Takes loose c x → TakesAgain reader c x
  unfolding as_read
  again_by loose (Ok v) same h = record { body = h.body; go = λ a rest e. sym h.reads.is ∙ same (drop c.at c.body.now) a rest e }
  again_by loose (Err q) same h = record { body = tt; go = λ a rest e. let f : bad _ ≡ got a rest = sym h.reads.is ∙ same (drop c.at c.body.now) a rest e in never cc }

  -- the reader itself
  pub again : (x : Result (A × Cursor) Refusal) → Takes reader c x → TakesAgain reader c x
  again x h = again_by reader x (λ s a rest e. e) h

-- one field after the other
pub again_next : {A B : Type 0} {r : Reader A} (k : A → Reader B) {c d : Cursor} {a : A} (y : Result (B × Cursor) Refusal) → TakesTo r c d a → TakesAgain (k a) d y → TakesAgain (◌>>=◌ r k) c y
unfolding as_read
again_next {B = B} k {c} {d} {a} y h l = record { body = moves y l.body; go = λ z rest g. moved z rest y (l.go z rest (ap (λ (s : Bor Bytes). k a (drop d.at s.now)) h.body ∙ sym (bind_got _ k h.reads.is) ∙ g)) }
  where
    moves : (y : Result (B × Cursor) Refusal) → Moves d y → Moves c y
    moves (Ok v) w = w ∙ h.body
    moves (Err q) w = w

    moved : (z : B) (rest : Bytes) (y : Result (B × Cursor) Refusal) → Gives d z rest y → Gives c z rest y
    moved z rest (Ok v) w = subst (λ (s : Bor Bytes). got v.0 (drop v.1.at s.now) ≡ got z rest) h.body w
    moved z rest (Err q) w = w

-- ---- operands

-- a function's number
unfoldable pub any_function : Reader (tree.Op ℕ)
any_function = do n ← u32; pure (tree.Uuf n)

-- bytes as their count says
unfoldable pub counted : Reader Bytes
counted = do n ← u32; part n

-- a text
unfoldable pub any_attribute : Reader (tree.Op ℕ)
any_attribute = do a ← counted; pure (tree.RecordGet a)

-- elements as their count says, of four bytes each
unfoldable pub any_pattern : Reader (tree.Op ℕ)
any_pattern = do n ← u32; s ← part (4 * n); pure (tree.StringLike (elements s))

function_same : (count : ℕ) (s : Bytes) {o : tree.Op ℕ} {rest : Bytes} → uninterpreted count s ≡ got o rest → any_function s ≡ got o rest
unfolding uninterpreted ref any_function
function_same count s h = let x = bind_inverse (ref count) _ s h in bind_got u32 _ (tested_inverse u32 8 _ s x.first) ∙ x.after

text_same : (s : Bytes) {a rest : Bytes} → text s ≡ got a rest → counted s ≡ got a rest
unfolding text counted
text_same s h = let x = bind_inverse u32 _ s h in bind_got u32 _ x.first ∙ tested_inverse (part x.value) 6 _ x.mid x.after

attribute_same : (s : Bytes) {o : tree.Op ℕ} {rest : Bytes} → record_get_operand s ≡ got o rest → any_attribute s ≡ got o rest
unfolding record_get_operand any_attribute
attribute_same s h = let x = bind_inverse text _ s h in bind_got counted _ (text_same s x.first) ∙ x.after

pattern_same : (s : Bytes) {o : tree.Op ℕ} {rest : Bytes} → string_like s ≡ got o rest → any_pattern s ≡ got o rest
unfolding string_like any_pattern list part pure
pattern_same s {o} {rest} h =
    let x = bind_inverse (list element) _ s h in
    let y = bind_inverse u32 (λ n. times n element) s x.first in
    let w = elements_inverse y.value y.mid y.after in
    let cut : part (4 * y.value) y.mid ≡ got (take (4 * y.value) y.mid) x.mid = rw (part, w.took.fits, w.took.left) in
    let listed : elements (take (4 * y.value) y.mid) ≡ x.value = elements_read y.value y.mid x.value x.mid y.after in
    bind_got u32 _ y.first ∙ bind_got (part (4 * y.value)) _ cut ∙ ap (λ (p : List ℕ). got (tree.StringLike p) x.mid) listed ∙ x.after

module _ {c : Cursor} (x : Result (tree.Op ℕ × Cursor) Refusal) where
  pub function_again : (count : ℕ) → Takes any_function c x → TakesAgain (uninterpreted count) c x
  function_again count h = again_by any_function x (λ s o rest e. function_same count s e) h

  pub attribute_again : Takes any_attribute c x → TakesAgain record_get_operand c x
  attribute_again h = again_by any_attribute x (λ s o rest e. attribute_same s e) h

  pub pattern_again : Takes any_pattern c x → TakesAgain string_like c x
  pattern_again h = again_by any_pattern x (λ s o rest e. pattern_same s e) h

-- ---- the operator of a code

-- one whose operand is read again
chosen_again : {c : Cursor} {code : ℕ} {x : Result (tree.Op ℕ × Cursor) Refusal} (table : List (Reader (tree.Op ℕ))) (k : ℕ) (r : Reader (tree.Op ℕ)) → code ≡ k → at k table ≡ some r
    → TakesAgain r c x → TakesAgain (chosen table code) c x
unfolding chosen present ◌>>=◌
chosen_again {c} table k r e found h = record {
  body = h.body;
  go = λ o rest g.
      let s = drop c.at c.body.now in
      let here : chosen table k s ≡ r s = rw (chosen, found) in
      h.go o rest (sym (ap (λ (n : ℕ). chosen table n s) e ∙ here) ∙ g);
}

-- two tables that differ at one place
at_apart : {A : Type 0} (xs : List A) (y z : A) (zs : List A) (n : ℕ) → (n ≡ length xs → ⊥) → at n (xs ++ y ∷ zs) ≡ at n (xs ++ z ∷ zs)
unfolding at
at_apart [] y z zs zero h = absurd (h refl)
at_apart [] y z zs (suc n) h = refl
at_apart (x ∷ xs) y z zs zero h = refl
at_apart (x ∷ xs) y z zs (suc n) h = at_apart xs y z zs n (λ e. h (ap suc e))

operators_split : (n : ℕ) → operators n ≡ take 31 (operators 0) ++ (uninterpreted n ∷ zero_extend ∷ [])
unfolding operators uninterpreted zero_extend
operators_split n = refl

-- the number of functions matters only to the operator that names one
operators_apart : (n m code : ℕ) → (code ≡ 31 → ⊥) → at code (operators n) ≡ at code (operators m)
unfolding operators
operators_apart n m code h =
    ap (at code) (operators_split n) ∙ at_apart (take 31 (operators 0)) (uninterpreted n) (uninterpreted m) (zero_extend ∷ []) code h ∙ ap (at code) (sym (operators_split m))

-- one that names no function
other_again : {c : Cursor} {code : ℕ} (x : Result (tree.Op ℕ × Cursor) Refusal) (n m : ℕ) → (code ≡ 31 → ⊥) → Takes (chosen (operators n) code) c x → TakesAgain (chosen (operators m) code) c x
unfolding chosen
other_again {c} {code} x n m h r = record { body = (again x r).body; go = λ o rest g. (again x r).go o rest (ap (λ x. ◌>>=◌ (present 7 x) (λ r. r) (drop c.at c.body.now)) (operators_apart n m code h) ∙ g) }

-- ---- with or without the tests

module _ {A : Type 0} {r : Reader A} {c : Cursor} {x : Result (A × Cursor) Refusal} where
  pub tested : Takes r c x → TakesBy true r c x
  unfolding Taken
  tested h = record { is = h }

  pub untested : TakesAgain r c x → TakesBy false r c x
  unfolding Taken
  untested h = record { is = h }

pub by_any : {A : Type 0} {r : Reader A} {c : Cursor} (b : Bool) (x : Result (A × Cursor) Refusal) → Takes r c x → TakesBy b r c x
by_any true x h = tested h
by_any false x h = untested (again x h)

-- a field that is tested, by a parameter that is not 0
pub tested_if : {A : Type 0} {c : Cursor} (x : Result (A × Cursor) Refusal) (r : Bool → Reader A) (n : ℕ) → (n ≡ 0 → ⊥) → Takes (r true) c x → TakesBy (not (eqb n 0)) (r (not (eqb n 0))) c x
tested_if x r n h t = rw (ne_eqb n 0 h) (tested t)

pub by_next : {A B : Type 0} (b : Bool) {q : Reader B} (k : B → Reader A) {c d : Cursor} {a : B} (x : Result (A × Cursor) Refusal) → TakesTo q c d a → TakesBy b (k a) d x → TakesBy b (◌>>=◌ q k) c x
unfolding Taken
by_next true k x h l = tested (next k x h l.is)
by_next false k x h l = untested (again_next k x h l.is)

module _ {c : Cursor} {code : ℕ} (x : Result (tree.Op ℕ × Cursor) Refusal) where
  pub by_chosen : (b : Bool) (table : List (Reader (tree.Op ℕ))) (k : ℕ) {r : Reader (tree.Op ℕ)} → code ≡ k → at k table ≡ some r → TakesBy b r c x → TakesBy b (chosen table code) c x
  unfolding Taken
  by_chosen true table k e f h = tested (chosen_by table k e f c x h.is)
  by_chosen false table k {r} e f h = untested (chosen_again table k r e f h.is)

  pub by_other : (b : Bool) (n : ℕ) → (code ≡ 31 → ⊥) → Takes (chosen (operators n) code) c x → TakesBy b (chosen (operators (count b n)) code) c x
  unfolding count
  by_other true n h t = tested t
  by_other false n h t = untested (other_again x n (2 ^ 32) h t)
