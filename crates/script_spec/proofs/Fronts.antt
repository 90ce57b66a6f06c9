-- A reader reads from the front: what it takes stands first, and it takes the same before anything else. One law for each way of
-- making a reader. So a body with a written type is its fields and the four bytes behind them.
-- Assumes nothing.
use Prim.Native.Nat.{ℕ, zero, suc, ◌-◌, ◌≤◌, ◌<◌}
use native.Mathlib.Omega.{arith}
use mathlib.Core.Path.{◌≡◌, refl, sym, ap, ◌∙◌, subst}
use mathlib.Core.Bool.{Bool, true, false}
use mathlib.Core.List.{List, [], ◌∷◌, ◌++◌, append_assoc, append-nil}
use mathlib.Core.Option.{Option, none, some}
use lib.Dec.{T, leb, ltb, leb→le, ltb→lt}
use borrow.Author.Tests.{le-leb}
use lib.ListN.{length, take, drop, length-append, length-drop, take-append-drop}
use lib.Seq.{take_at, drop_at, take_all}
use Rattle.script_spec.specs.Base.{Bytes, at, lookup}
use Rattle.script_spec.specs.Fields.{got, Reader, ◌>>=◌, pure, ensure, present, times, part, byte, low, number, address, u32, text, list, ref, pair, width, element, prefix, coded, ext_type, ext_op, value, plain, operators, operator, Entry, Earlier, entity_ref, leaf, marks, Typed, final_type, with_type}
use Rattle.script_spec.specs.Faithful.{Every, every, also}
use Rattle.script_spec.proofs.Readers.{bad_not_got, got_value, got_rest, bind_got, bind_inverse, pure_inverse, ensure_inverse, part_inverse, took_length, ref_inverse}
use Rattle.script_spec.proofs.Tables.{lookup_every}

-- what a reader takes of s are its first bytes p, and it takes p before any other bytes
pub record Front {A : Type 0} (r : Reader A) : Type 0 where
  pub go : (s rest : Bytes) (a : A) → r s ≡ got a rest → (p : Bytes) × (s ≡ p ++ rest) × ((q : Bytes) → r (p ++ q) ≡ got a q)

-- ---- ways of making a reader

module _ {A : Type 0} where
  front_pure : (a : A) → Front (pure a)
  unfolding pure
  front_pure a = record { go = λ s rest b e. ([], got_rest a b s rest e, λ q. ap (λ (x : A). got x q) (got_value a b s rest e)) }

  front_ensure : (n : ℕ) (t : Bool) (a : A) → Front (ensure n t a)
  unfolding ensure pure
  front_ensure n true a = record { go = (front_pure a).go }
  front_ensure n false a = record { go = λ s rest b e. absurd (bad_not_got n b rest e) }

front_bind : {A B : Type 0} {r : Reader A} {k : A → Reader B} → Front r → ((a : A) → Front (k a)) → Front (◌>>=◌ r k)
front_bind {r = r} {k = k} R K = record {
  go = λ s rest b e.
      let x = bind_inverse r k s e in
      let f = R.go s x.mid x.value x.first in
      let g = (K x.value).go x.mid rest b x.after in (
        f.0 ++ g.0,
        f.1 ∙ ap (λ (t : Bytes). f.0 ++ t) g.1 ∙ sym (append_assoc f.0 g.0 rest),
        λ q. ap (◌>>=◌ r k) (append_assoc f.0 g.0 q) ∙ bind_got r k (f.2 (g.0 ++ q)) ∙ g.2 q,
      );
}

module _ {A : Type 0} where
  front_times : {r : Reader A} → Front r → (k : ℕ) → Front (times k r)
  unfolding times
  front_times R zero = front_pure []
  front_times R (suc k) = front_bind R (λ a. front_bind (front_times R k) (λ rest. front_pure (a ∷ rest)))

  -- the reader at a place of a table
  front_at : (n : ℕ) (rs : List (Reader A)) → Every Front rs → Front (◌>>=◌ (present 7 (at n rs)) (λ r. r))
  unfolding at present ◌>>=◌
  front_at n [] every = record { go = λ s rest b e. absurd (bad_not_got 7 b rest e) }
  front_at zero (r ∷ rs) (also R Rs) = record { go = R.go }
  front_at (suc n) (r ∷ rs) (also R Rs) = front_at n rs Rs

part_front : (k : ℕ) (p q : Bytes) → length p ≡ k → part k (p ++ q) ≡ got p q
unfolding part
part_front k p q e = rw (part, le-leb k (length (p ++ q)) (omega (arith, length-append p q)), take_at p q k e, drop_at p q k e)

front_part : (k : ℕ) → Front (part k)
front_part k = record {
  go = λ s rest p e.
      let t = part_inverse k s e in
      (p, sym (take-append-drop k s) ∙ (λ i. t.is i ++ t.left i), λ q. part_front k p q (took_length t));
}

front_byte : Front byte
unfolding byte
front_byte = record { go = from }
  where
    from : (s rest : Bytes) (b : ℕ) → byte s ≡ got b rest → (p : Bytes) × (s ≡ p ++ rest) × ((q : Bytes) → byte (p ++ q) ≡ got b q)
    from [] rest b e = absurd (bad_not_got 5 b rest e)
    from (c ∷ s) rest b e = (c ∷ [], ap (λ (t : Bytes). c ∷ t) (got_rest c b s rest e), λ q. ap (λ (x : ℕ). got x q) (got_value c b s rest e))

front_coded : {A : Type 0} {rs : List (Reader A)} → Every Front rs → Front (coded rs)
unfolding coded
front_coded {rs = rs} Rs = front_bind front_byte (λ b. front_at b rs Rs)

-- ---- fields

ruleset ways = (front_bind, front_pure, front_ensure, front_times, front_part, front_byte, front_coded, every, also)

front_number : (k : ℕ) → Front (number k)
unfolding number
front_number k = search ways

front_address : (k : ℕ) → Front (address k)
unfolding address
front_address k = search ways

front_u32 : Front u32
unfolding u32
front_u32 = front_number 4

ruleset numbers = (ways, front_number, front_address, front_u32)

front_text : Front text
unfolding text
front_text = search numbers

front_list : {A : Type 0} {r : Reader A} → Front r → Front (list r)
unfolding list
front_list R = search numbers

front_ref : (count : ℕ) → Front (ref count)
unfolding ref
front_ref count = search numbers

front_pair : {A B : Type 0} {r : Reader A} {q : Reader B} → Front r → Front q → Front (pair r q)
unfolding pair
front_pair R Q = search numbers

front_width : Front width
unfolding width
front_width = search numbers

front_element : Front element
unfolding element
front_element = search numbers

front_prefix : (bound : ℕ) → Front (prefix bound)
unfolding prefix
front_prefix bound = search numbers

front_ext_type : Front ext_type
unfolding ext_type
front_ext_type = search ways depth 10

front_ext_op : Front ext_op
unfolding ext_op
front_ext_op = search ways depth 20

front_value : Front value
unfolding value
front_value = search (numbers, front_prefix) depth 10

ruleset fields = (numbers, front_text, front_list, front_ref, front_pair, front_width, front_element, front_ext_type, front_ext_op, front_value)

front_operator : (funs : ℕ) → Front (operator funs)
unfolding operator operators plain
front_operator funs = search fields depth 40 fits 5000

front_entity_ref : (e : Earlier) → Front (entity_ref e)
unfolding entity_ref
front_entity_ref e = search fields

-- ---- marks

pub marks_front : (e : Earlier) → Every (λ (p : Bytes × Reader Entry). Front p.1) (marks e)
unfolding marks leaf
marks_front e = search (fields, front_operator, front_entity_ref) depth 40 fits 5000

-- the reader of a mark
pub reader_front : (e : Earlier) (m : Bytes) {r : Reader Entry} → lookup m (marks e) ≡ some r → Front r
reader_front e m h = lookup_every Front m (marks e) (marks_front e) h

-- ---- a written type

-- a test that was passed
ensure_passed : {A : Type 0} (n : ℕ) (t : Bool) (a : A) (s : Bytes) {b : A} {rest : Bytes} → ensure n t a s ≡ got b rest → T t
unfolding ensure
ensure_passed n true a s e = tt
ensure_passed n false a s {b} {rest} e = absurd (bad_not_got n b rest e)

-- a reference is below the count
ref_below : (count : ℕ) (s : Bytes) {n : ℕ} {rest : Bytes} → ref count s ≡ got n rest → n < count
unfolding ref
ref_below count s {n} {rest} e =
    let x = bind_inverse u32 (λ n. ensure 8 (ltb n count) n) s e in
    let same : x.value ≡ n = got_value x.value n x.mid rest (ensure_inverse 8 (ltb x.value count) x.value x.mid x.after) in
    subst (λ (m : ℕ). m < count) same (ltb→lt x.value count (ensure_passed 8 (ltb x.value count) x.value x.mid x.after))

-- a body with a written type: the fields, and in four bytes behind them the number of the type
pub record Behind (e : Earlier) (r : Reader Entry) (body : Bytes) (x : Entry) (ty : Option ℕ) : Type 0 where
  pub fits : 4 ≤ length body
  pub fields : r (take (length body - 4) body) ≡ got x []
  pub ty_is : ty ≡ some (low (drop (length body - 4) body))
  pub below : low (drop (length body - 4) body) < e.types

-- four bytes behind others
module _ (p four : Bytes) (size : length four ≡ 4) where
  before_is : length (p ++ four) - 4 ≡ length p
  before_is = omega (arith, length-append p four)

  take_before : take (length (p ++ four) - 4) (p ++ four) ≡ p
  take_before = rw before_is (take_at p four (length p) refl)

  drop_before : drop (length (p ++ four) - 4) (p ++ four) ≡ four
  drop_before = rw before_is (drop_at p four (length p) refl)

  behind : {e : Earlier} {r : Reader Entry} (x : Entry) → r p ≡ got x [] → low four < e.types → Behind e r (p ++ four) x (some (low four))
  behind x h l = record {
    fits = omega (arith, length-append p four, size);
    fields = rw take_before h;
    ty_is = ap (λ (s : Bytes). some (low s)) (sym drop_before);
    below = rw drop_before l;
  }

-- all of four bytes
only_four : (s : Bytes) → leb 4 (length s) ≡ true → drop 4 s ≡ [] → length s ≡ 4
only_four s fits left =
    let h : 4 ≤ length s = leb→le 4 (length s) (rw fits tt) in
    let k : length s - 4 ≡ 0 = sym (length-drop 4 s) ∙ ap length left in
    omega arith

pub typed_behind : {e : Earlier} {r : Reader Entry} → Front r → (body : Bytes) (x : Entry) (ty : Option ℕ) → with_type e true r body ≡ got (x, ty) [] → Behind e r body x ty
unfolding with_type final_type
typed_behind {e} {r} R body x ty h =
    let a = bind_inverse r (λ x. ◌>>=◌ (final_type e true) (λ t. pure (x, t))) body h in
    let b = bind_inverse (final_type e true) (λ t. pure (a.value, t)) a.mid a.after in
    let c = bind_inverse (ref e.types) (λ t. pure (some t)) a.mid b.first in
    let w = ref_inverse e.types a.mid c.first in
    let last = pure_inverse (a.value, b.value) b.mid b.after in
    let kept = pure_inverse (some c.value) c.mid c.after in
    let size : length a.mid ≡ 4 = only_four a.mid w.fits (w.left ∙ kept.1 ∙ last.1) in
    let n : low a.mid ≡ c.value = ap low (sym (take_all 4 a.mid (omega arith))) ∙ w.is in
    let f = R.go body a.mid a.value a.first in
    let own : r f.0 ≡ got x [] = sym (ap r (append-nil f.0)) ∙ f.2 [] ∙ ap (λ (y : Typed). got y.0 []) last.0 in
    let type_is : some (low a.mid) ≡ ty = ap some n ∙ kept.0 ∙ ap (λ (y : Typed). y.1) last.0 in
    subst (λ (s : Bytes). Behind e r s x ty) (sym f.1)
    (subst (Behind e r (f.0 ++ a.mid) x) type_is (behind f.0 a.mid size x own (rw n (ref_below e.types a.mid c.first))))

pub untyped_behind : (e : Earlier) (r : Reader Entry) (body : Bytes) (x : Entry) (ty : Option ℕ) → with_type e false r body ≡ got (x, ty) [] → (r body ≡ got x []) × (ty ≡ none)
unfolding with_type final_type
untyped_behind e r body x ty h =
    let a = bind_inverse r (λ x. ◌>>=◌ (pure none) (λ t. pure (x, t))) body h in
    let b = bind_inverse (pure none) (λ t. pure (a.value, t)) a.mid a.after in
    let none_is = pure_inverse none a.mid b.first in
    let last = pure_inverse (a.value, b.value) b.mid b.after in
    (a.first ∙ (λ i. got (last.0 i).0 ((none_is.1 ∙ last.1) i)), sym (none_is.0 ∙ ap (λ (y : Typed). y.1) last.0))
