-- Each extension value is what its record has after its code.
-- Assumes nothing.
use mathlib.Core.Path.{◌≡◌, refl, sym, ap, ◌∙◌}
use mathlib.Core.List.{[], ◌∷◌}
use mathlib.Core.Option.{some}
use Prim.Native.Nat.{ℕ, ◌+◌, ◌*◌, ◌^◌, ◌≤◌}
use native.Mathlib.Omega.{arith}
use native.Mathlib.Nat.{le_refl}
use lib.ListN.{length, take, drop, get_or, length-drop}
use lib.Seq.{take-take, get_or-drop, drop-drop}
use borrow.Author.Tests.{leb-true, le-leb}
use Rattle.script_spec.specs.Base.{Bytes, bytes, at, same, lookup}
use Rattle.script_spec.specs.Tree as tree
use Rattle.script_spec.specs.Fields as fields
use Rattle.script_spec.specs.Fields.{Entry, got, Reader, ◌>>=◌, pure, byte, number, address, prefix, low, high, part, leaf, marks}
use Rattle.script_spec.proofs.Readers.{bad_not_got, got_value, got_rest}
use Rattle.std.specs.Prelude as std
use Rattle.read_field.specs.Takes.{prefix_number}
use Rattle.read_field.proofs.Coded.{at_past}
use Rattle.read_record.specs.Fields.{values}
use Rattle.index.specs.Lists.{number_at}
use Rattle.index_entry.proofs.Inverse.{bind_inverse, ensure_inverse, part_inverse, coded_at, coded_none}
use Rattle.index_entry.specs.Terms.{value_of, term_said, IsTerm}
use Rattle.index_entry.specs.declared.terms.Value.{Value}
use Rattle.index_entry.specs.declared.terms.Value.TheVariants as val
use Rattle.index_entry.specs.declared.terms.TermEntry.TheVariants as entry
use Rattle.index_entry.proofs.LeafEntries.{is_term_lem}

-- ---- what was read

byte_inverse : {P : Type 0} (s : Bytes) {b : ℕ} {rest : Bytes} → byte s ≡ got b rest → (get_or s 0 0 ≡ b → drop 1 s ≡ rest → P) → P
unfolding byte
byte_inverse [] {b} {rest} h next = absurd (bad_not_got 5 b rest h)
byte_inverse (a ∷ s) {b} {rest} h next = next (got_value a b s rest h) (got_rest a b s rest h)

prefix_inverse : {P : Type 0} (bound : ℕ) (s : Bytes) {p : ℕ} {rest : Bytes} → prefix bound s ≡ got p rest → (get_or s 0 0 ≡ p → P) → P
unfolding prefix
prefix_inverse bound s h next = bind_inverse byte _ s h (λ b mid e g. byte_inverse s e (λ v d. ensure_inverse 7 _ b mid g (λ x y. next (v ∙ x))))

address_inverse : {P : Type 0} (k : ℕ) (s : Bytes) {a : ℕ} {rest : Bytes} → address k s ≡ got a rest → (k ≤ length s → high 0 (take k s) ≡ a → drop k s ≡ rest → P) → P
unfolding address pure
address_inverse k s {a} {rest} h next =
    bind_inverse (part k) _ s h (λ bs mid e g. part_inverse k s e (λ l t d.
    next (leb-true k (length s) l) (ap (high 0) t ∙ got_value (high 0 bs) a mid rest g) (d ∙ got_rest (high 0 bs) a mid rest g)))

number_inverse : {P : Type 0} (k : ℕ) (s : Bytes) {a : ℕ} {rest : Bytes} → number k s ≡ got a rest → (k ≤ length s → low (take k s) ≡ a → P) → P
unfolding number pure
number_inverse k s {a} {rest} h next =
    bind_inverse (part k) _ s h (λ bs mid e g. part_inverse k s e (λ l t d.
    next (leb-true k (length s) l) (ap low t ∙ got_value (low bs) a mid rest g)))

-- ---- numbers by their bytes

high_four : (s : Bytes) → 4 ≤ length s → high 0 (take 4 s) ≡ ((get_or s 0 0 * 256 + get_or s 1 0) * 256 + get_or s 2 0) * 256 + get_or s 3 0
unfolding high
high_four [] h = absurd (omega arith)
high_four (a ∷ []) h = absurd (omega arith)
high_four (a ∷ b ∷ []) h = absurd (omega arith)
high_four (a ∷ b ∷ c ∷ []) h = absurd (omega arith)
high_four (a ∷ b ∷ c ∷ d ∷ s) h = omega arith

low_eight : (s : Bytes) → 8 ≤ length s → low (take 8 s) ≡ low (take 4 s) + low (take 4 (drop 4 s)) * 2 ^ 32
unfolding low
low_eight [] h = absurd (omega arith)
low_eight (a ∷ []) h = absurd (omega arith)
low_eight (a ∷ b ∷ []) h = absurd (omega arith)
low_eight (a ∷ b ∷ c ∷ []) h = absurd (omega arith)
low_eight (a ∷ b ∷ c ∷ d ∷ []) h = absurd (omega arith)
low_eight (a ∷ b ∷ c ∷ d ∷ e ∷ []) h = absurd (omega arith)
low_eight (a ∷ b ∷ c ∷ d ∷ e ∷ f ∷ []) h = absurd (omega arith)
low_eight (a ∷ b ∷ c ∷ d ∷ e ∷ f ∷ g ∷ []) h = absurd (omega arith)
low_eight (a ∷ b ∷ c ∷ d ∷ e ∷ f ∷ g ∷ i ∷ s) h = omega arith

number_there : (s : Bytes) (at : ℕ) → 4 ≤ length (drop at s) → number_at s at ≡ low (take 4 (drop at s))
unfolding number_at
number_there s at h = rw (number_at, le-leb 4 (length (drop at s)) h)

-- the bytes after the first
module _ (body : Bytes) where
  four_after : 4 ≤ length (drop 1 body) → high 0 (take 4 (drop 1 body)) ≡ ((get_or body 1 0 * 256 + get_or body 2 0) * 256 + get_or body 3 0) * 256 + get_or body 4 0
  four_after h = simp get_or-drop at (high_four (drop 1 body) h)

  eight_after : 8 ≤ length (drop 1 body) → number_at body 1 + number_at body 5 * 2 ^ 32 ≡ low (take 8 (drop 1 body))
  eight_after h =
      let five : drop 4 (drop 1 body) ≡ drop 5 body = drop-drop 4 1 body in
      let long : 4 ≤ length (drop 5 body) = rw (← five, length-drop 4 (drop 1 body)) (omega arith) in
      let first : number_at body 1 ≡ low (take 4 (drop 1 body)) = number_there body 1 (omega arith) in
      let second : number_at body 5 ≡ low (take 4 (drop 4 (drop 1 body))) = number_there body 5 long ∙ ap (λ (s : Bytes). low (take 4 s)) (sym five) in
      let all = low_eight (drop 1 body) h in
      omega arith

-- ---- values by their codes

abbrev xx : Reader Entry
xx = ◌>>=◌ fields.value (λ v. pure (leaf (tree.ExtLit v)))

module _ {body : Bytes} {code : ℕ} (r : code ≡ get_or body 0 0) where
  value_known : (i : ℕ) (reader : Reader tree.Value) {v : Value} → code ≡ i → at i values ≡ some reader
      → ((x : tree.Value) (rest : Bytes) → reader (drop 1 body) ≡ got x rest → value_of v ≡ x) → IsTerm (some (bytes "XX")) body (entry.ExtLit v)
  unfolding marks lookup same bytes term_said pure values leaf fields.value
  value_known i reader {v} e h is =
      is_term_lem (bytes "XX") xx _ refl (λ y g.
      bind_inverse fields.value _ body g (λ x mid p q.
      let known : value_of v ≡ x = is x mid (coded_at values body p (sym e ∙ r) reader h) in
      ap (λ (x : tree.Value). some (leaf (tree.ExtLit x))) known ∙ ap some (got_value (leaf (tree.ExtLit x)) y mid [] q)))

  pub value_v4 : {a : ℕ} (p : std.Option ℕ) → code ≡ 0
      → a ≡ ((get_or body 1 0 * 256 + get_or body 2 0) * 256 + get_or body 3 0) * 256 + get_or body 4 0 → prefix_number p ≡ get_or body 5 0 → IsTerm (some (bytes "XX")) body (entry.ExtLit (val.V4 a p))
  unfolding values at value_of pure
  value_v4 {a} p e four short =
      value_known 0 _ e refl (λ x rest g.
      bind_inverse (address 4) _ (drop 1 body) g (λ n mid u w. address_inverse 4 (drop 1 body) u (λ l v d.
      bind_inverse (prefix 32) _ mid w (λ m left y z. prefix_inverse 32 mid y (λ b.
      let n-is : a ≡ n = four ∙ sym (four_after body l) ∙ v in
      let m-is : prefix_number p ≡ m = short ∙ sym (simp get_or-drop) ∙ ap (λ (s : Bytes). get_or s 0 0) d ∙ b in
      (λ i. tree.V4 (n-is i) (m-is i)) ∙ got_value (tree.V4 n m) x left rest z)))))

  pub value_v6 : {a : ℕ} (p : std.Option ℕ) {s : Bytes} → code ≡ 1 → s ≡ take 16 (drop 1 body) → a ≡ high 0 (take 16 s)
      → prefix_number p ≡ get_or body 17 0 → IsTerm (some (bytes "XX")) body (entry.ExtLit (val.V6 a p))
  unfolding values at value_of pure
  value_v6 {a} p e bs is short =
      value_known 1 _ e refl (λ x rest g.
      bind_inverse (address 16) _ (drop 1 body) g (λ n mid u w. address_inverse 16 (drop 1 body) u (λ l v d.
      bind_inverse (prefix 128) _ mid w (λ m left y z. prefix_inverse 128 mid y (λ b.
      let n-is : a ≡ n = is ∙ ap (λ (s : Bytes). high 0 (take 16 s)) bs ∙ ap (high 0) (take-take 16 16 (drop 1 body) (le_refl 16)) ∙ v in
      let m-is : prefix_number p ≡ m = short ∙ sym (simp get_or-drop) ∙ ap (λ (s : Bytes). get_or s 0 0) d ∙ b in
      (λ i. tree.V6 (n-is i) (m-is i)) ∙ got_value (tree.V6 n m) x left rest z)))))

  -- 64 bits
  pub value_bits : {n : ℕ} (i : ℕ) (k : ℕ → tree.Value) (v : Value) → code ≡ i → at i values ≡ some (◌>>=◌ (number 8) (λ n. pure (k n)))
      → value_of v ≡ k n → n ≡ number_at body 1 + number_at body 5 * 2 ^ 32 → IsTerm (some (bytes "XX")) body (entry.ExtLit v)
  unfolding pure
  value_bits i k v e h is bits =
      value_known i _ e h (λ x rest g.
      bind_inverse (number 8) _ (drop 1 body) g (λ m mid u w. number_inverse 8 (drop 1 body) u (λ l t.
      is ∙ ap k (bits ∙ eight_after body l ∙ t) ∙ got_value (k m) x mid rest w)))

  pub value_unknown : 5 ≤ code → IsTerm (some (bytes "XX")) body entry.Unreadable
  unfolding marks lookup same bytes values fields.value
  value_unknown h =
      is_term_lem (bytes "XX") xx _ refl (λ y g.
      bind_inverse fields.value _ body g (λ x mid p q. absurd (coded_none values body p r (at_past values code h))))
