-- The numbers by which readers refuse: every reader of the table of marks by 5 to 8. By the structure of the readers.
-- Assumes nothing.
use Prim.Native.Nat.{ℕ, zero, suc}
use mathlib.Core.Path.{◌≡◌}
use mathlib.Core.Bool.{Bool, true, false}
use mathlib.Core.List.{List, [], ◌∷◌}
use mathlib.Core.Option.{none, some}
use lib.Dec.{leb}
use lib.ListN.{length, take, drop}
use Rattle.script_spec.specs.Base.{Bytes, at, lookup}
use Rattle.script_spec.specs.Fields.{Read, got, bad, Reader, ◌>>=◌, pure, ensure, present, times, part, byte, number, address, u32, text, list, ref, pair, width, element, prefix, coded, ext_type, ext_op, value, plain, operators, operator, Entry, Earlier, entity_ref, leaf, marks, final_type, with_type, whole}
use Rattle.script_spec.specs.Faithful.{Every, every, also}
use Rattle.script_spec.proofs.Tables.{lookup_every}

-- the number of a field's refusal
pub data OfField : ℕ → Type 0 where
  five : OfField 5
  six : OfField 6
  seven : OfField 7
  eight : OfField 8

-- what is read, or a refusal whose number has P
pub data Reading {A : Type 0} (P : ℕ → Type 0) : Read A → Type 0 where
  read : {a : A} {rest : Bytes} → Reading P (got a rest)
  refusal : {n : ℕ} → P n → Reading P (bad n)

-- a reader refuses by the numbers of fields only
pub record Reads {A : Type 0} (r : Reader A) : Type 0 where
  pub go : (s : Bytes) → Reading OfField (r s)

-- ---- ways of making a reader

module _ {A : Type 0} where
  reads_pure : (a : A) → Reads (pure a)
  unfolding pure
  reads_pure a = record { go = λ s. read }

  reads_ensure : {n : ℕ} (b : Bool) (a : A) → OfField n → Reads (ensure n b a)
  unfolding ensure
  reads_ensure true a h = record { go = λ s. read }
  reads_ensure false a h = record { go = λ s. refusal h }

reads_bind : {A B : Type 0} {r : Reader A} {k : A → Reader B} → Reads r → ((a : A) → Reads (k a)) → Reads (◌>>=◌ r k)
unfolding ◌>>=◌
reads_bind {A} {B} {r} {k} R K = record { go = λ s. from (r s) (R.go s) }
  where
    from : (x : Read A) → Reading OfField x → Reading {A = B} OfField (elim x as (λ y. Read B) [ got a rest ↦ k a rest | bad n ↦ bad n ])
    from (got a rest) read = (K a).go rest
    from (bad n) (refusal h) = refusal h

module _ {A : Type 0} where
  reads_times : {r : Reader A} → Reads r → (k : ℕ) → Reads (times k r)
  unfolding times
  reads_times R zero = reads_pure []
  reads_times R (suc k) = reads_bind R (λ a. reads_bind (reads_times R k) (λ rest. reads_pure (a ∷ rest)))

  -- the reader at a place of a table
  reads_at : (n : ℕ) (rs : List (Reader A)) → Every Reads rs → Reads (◌>>=◌ (present 7 (at n rs)) (λ r. r))
  unfolding at present ◌>>=◌
  reads_at n [] every = record { go = λ s. refusal seven }
  reads_at zero (r ∷ rs) (also R Rs) = record { go = λ s. R.go s }
  reads_at (suc n) (r ∷ rs) (also R Rs) = reads_at n rs Rs

reads_part : (k : ℕ) → Reads (part k)
unfolding part
reads_part k = record { go = λ s. from s (leb k (length s)) }
  where
    from : (s : Bytes) (b : Bool) → Reading {A = Bytes} OfField (elim b as (λ y. Read Bytes) [ true ↦ got (take k s) (drop k s) | false ↦ bad 5 ])
    from s true = read
    from s false = refusal five

reads_byte : Reads byte
unfolding byte
reads_byte = record { go = from }
  where
    from : (s : Bytes) → Reading OfField (byte s)
    from [] = refusal five
    from (b ∷ s) = read

reads_coded : {A : Type 0} {rs : List (Reader A)} → Every Reads rs → Reads (coded rs)
unfolding coded
reads_coded {rs = rs} Rs = reads_bind reads_byte (λ b. reads_at b rs Rs)

-- ---- fields

ruleset ways = (reads_bind, reads_pure, reads_ensure, six, seven, eight, reads_times, reads_part, reads_byte, reads_coded, every, also)

reads_number : (k : ℕ) → Reads (number k)
unfolding number
reads_number k = search ways

reads_address : (k : ℕ) → Reads (address k)
unfolding address
reads_address k = search ways

reads_u32 : Reads u32
unfolding u32
reads_u32 = reads_number 4

ruleset numbers = (ways, reads_number, reads_address, reads_u32)

reads_text : Reads text
unfolding text
reads_text = search numbers

reads_list : {A : Type 0} {r : Reader A} → Reads r → Reads (list r)
unfolding list
reads_list R = search numbers

reads_ref : (count : ℕ) → Reads (ref count)
unfolding ref
reads_ref count = search numbers

reads_pair : {A B : Type 0} {r : Reader A} {q : Reader B} → Reads r → Reads q → Reads (pair r q)
unfolding pair
reads_pair R Q = search numbers

reads_width : Reads width
unfolding width
reads_width = search numbers

reads_element : Reads element
unfolding element
reads_element = search numbers

reads_prefix : (bound : ℕ) → Reads (prefix bound)
unfolding prefix
reads_prefix bound = search numbers

reads_ext_type : Reads ext_type
unfolding ext_type
reads_ext_type = search ways depth 10

reads_ext_op : Reads ext_op
unfolding ext_op
reads_ext_op = search ways depth 20

reads_value : Reads value
unfolding value
reads_value = search (numbers, reads_prefix) depth 10

ruleset fields = (numbers, reads_text, reads_list, reads_ref, reads_pair, reads_width, reads_element, reads_ext_type, reads_ext_op, reads_value)

reads_operator : (funs : ℕ) → Reads (operator funs)
unfolding operator operators plain
reads_operator funs = search fields depth 40 fits 5000

reads_entity_ref : (e : Earlier) → Reads (entity_ref e)
unfolding entity_ref
reads_entity_ref e = search fields

-- ---- marks

marks_read : (e : Earlier) → Every (λ (p : Bytes × Reader Entry). Reads p.1) (marks e)
unfolding marks leaf
marks_read e = search (fields, reads_operator, reads_entity_ref) depth 40 fits 5000

-- the reader of a mark
pub mark_reads : (e : Earlier) (s : Bytes) (r : Reader Entry) → lookup s (marks e) ≡ some r → Reads r
mark_reads e s r h = lookup_every Reads s (marks e) (marks_read e) h

-- with the type that is written behind the fields
reads_final : (e : Earlier) (b : Bool) → Reads (final_type e b)
unfolding final_type
reads_final e true = reads_bind (reads_ref e.types) (λ t. reads_pure (some t))
reads_final e false = reads_pure none

pub typed_reads : (e : Earlier) (b : Bool) {r : Reader Entry} → Reads r → Reads (with_type e b r)
unfolding with_type
typed_reads e b R = reads_bind R (λ x. reads_bind (reads_final e b) (λ t. reads_pure (x, t)))

-- a whole body
pub reading_whole : {A : Type 0} (x : Read A) → Reading OfField x → Reading OfField (whole x)
unfolding whole
reading_whole (got e []) read = read
reading_whole (got e (b ∷ rest)) read = refusal five
reading_whole (bad n) (refusal h) = refusal h
