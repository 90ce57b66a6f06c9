-- Laws of what reading a field tells: how readers compose, and what the primitive fields are. By cases on what is told.
-- Assumes nothing.
use mathlib.Core.Path.{◌≡◌, refl, sym, ap, ◌∙◌, subst}
use Prim.Native.Nat.{ℕ, suc, ◌≤◌, ◌<◌, ◌+◌, ◌-◌}
use native.Mathlib.Omega.{arith}
use native.Mathlib.Numerals.{add-one}
use mathlib.Core.Bool.{Bool, true, false, ◌||◌}
use mathlib.Core.List.{[], ◌∷◌}
use denote.Ref.{Bor}
use lib.Dec.{leb, eqb}
use lib.ListN.{length, take, drop, get_or, length-drop, drop_of_length-le}
use lib.Seq.{drop-cons, drop-drop, get_or-drop, take_all, take-nil}
use borrow.Author.Tests.{le-leb, lt-leb}
use Rattle.script_spec.specs.Base.{Bytes, between}
use Rattle.script_spec.specs.Fields.{got, bad, Reader, ◌>>=◌, pure, ensure, part, byte, low, u32}
use Rattle.script_spec.specs.Fields as fields
use Rattle.std.specs.Prelude.{Result, Ok, Err, IsErrAnd}
use Rattle.refusal.specs.declared.Refusal.{Refusal}
use Rattle.refusal.specs.Numbers.{number}
use Rattle.read_field.specs.declared.Cursor.{Cursor}
use Rattle.read_field.specs.Takes.{TakesTo, RefusesAt, Takes}
use Rattle.read_field.specs.Reads.{Told, value, refusal, as_read, Within, Reads, skim, repeat}

-- ---- composition

-- the cursor stays within over two fields
within_next : {A : Type 0} (at to size : ℕ) (t : Told A) → at ≤ to → Within to size t → Within at size t
unfolding Within
within_next at to size (value a end) h w = (omega arith, w.1)
within_next at to size (refusal n) h w = tt

module _ {A : Type 0} {body : Bytes} {at : ℕ} where
  -- an answer that is equal tells the same
  pub tells : {r : Reader A} {t u : Told A} → t ≡ u → Reads r body at t → Reads r body at u
  tells {r} e h = subst (λ t. Reads r body at t) e h

  -- a reader that makes the same of every body
  pub reads_alike : {r q : Reader A} {t : Told A} → ((s : Bytes) → q s ≡ r s) → Reads r body at t → Reads q body at t
  reads_alike e h = record { is = e (drop at body) ∙ h.is; within = h.within }

  -- the value, when it is taken as it is
  pub reads_pure : (a : A) → Reads (pure a) body at (value a at)
  unfolding pure as_read Within
  reads_pure a = record { is = refl; within = λ h. (omega arith, h) }

  -- a test that passes, or not
  pub reads_ensured : (n : ℕ) (b : Bool) (a : A) → b ≡ true → Reads (ensure n b a) body at (value a at)
  unfolding ensure as_read Within
  reads_ensured n b a e = record { is = rw (e, ensure); within = λ h. (omega arith, h) }

  pub reads_refused : (n : ℕ) (b : Bool) (a : A) → b ≡ false → Reads (ensure n b a) body at (refusal n)
  unfolding ensure as_read Within
  reads_refused n b a e = record { is = rw (e, ensure); within = λ h. tt }

module _ {A B : Type 0} {r : Reader A} (k : A → Reader B) {body : Bytes} {at : ℕ} where
  -- one field and then the next
  pub reads_next : {a : A} {to : ℕ} {t : Told B} → Reads r body at (value a to) → Reads (k a) body to t → Reads (◌>>=◌ r k) body at t
  unfolding ◌>>=◌ as_read Within
  reads_next {a} {to} {t} h l =
      record {
        is = rw (◌>>=◌, h.is) l.is;
        within = λ w. let v = h.within w in within_next at to (length body) t v.0 (l.within v.1);
      }

  -- a refusal, and no field after it
  pub reads_stop : {n : ℕ} → Reads r body at (refusal n) → Reads (◌>>=◌ r k) body at (refusal n)
  unfolding ◌>>=◌ as_read Within
  reads_stop h = record { is = rw (◌>>=◌, h.is); within = λ w. tt }

-- ---- what a cursor takes

-- a field that tells where the cursor stands after it
pub takes : {A : Type 0} {r : Reader A} {c d : Cursor} {a : A} → d.body ≡ c.body → Reads r c.body.now c.at (value a d.at) → TakesTo r c d a
takes b h = record { body = b; reads = h }

module _ {A B : Type 0} {r : Reader A} (k : A → Reader B) {c : Cursor} where
  -- one field and then the next, which is taken or refused
  pub takes_next : {a : A} {d e : Cursor} {b : B} → TakesTo r c d a → TakesTo (k a) d e b → TakesTo (◌>>=◌ r k) c e b
  takes_next {a} {d} {e} {b} h l = record { body = l.body ∙ h.body; reads = reads_next k h.reads (subst (λ (s : Bor Bytes). Reads (k a) s.now d.at (value b e.at)) h.body l.reads) }

  pub refuses_next : {a : A} {d : Cursor} {e : Refusal} → TakesTo r c d a → RefusesAt (k a) d e → RefusesAt (◌>>=◌ r k) c e
  refuses_next {a} {d} {e} h l = record { reads = reads_next k h.reads (subst (λ (s : Bor Bytes). Reads (k a) s.now d.at (refusal (number e))) h.body l.reads) }

  pub next : {a : A} {d : Cursor} (x : Result (B × Cursor) Refusal) → TakesTo r c d a → Takes (k a) d x → Takes (◌>>=◌ r k) c x
  next (Ok v) h l = takes_next h l
  next (Err e) h l = refuses_next h l

  -- a refusal, and no field after it
  pub refuses_stop : {e : Refusal} → RefusesAt r c e → RefusesAt (◌>>=◌ r k) c e
  refuses_stop h = record { reads = reads_stop k h.reads }

-- the value, when it is taken as it is
pub takes_pure : {A : Type 0} {c : Cursor} (a : A) → TakesTo (pure a) c c a
takes_pure a = takes refl (reads_pure a)

-- a test that passes, or not
pub takes_ensured : {A : Type 0} {c : Cursor} (n : ℕ) (b : Bool) (a : A) → b ≡ true → TakesTo (ensure n b a) c c a
takes_ensured n b a h = takes refl (reads_ensured n b a h)

pub takes_refused : {A : Type 0} {c : Cursor} (e : Refusal) (b : Bool) (a : A) → b ≡ false → RefusesAt (ensure (number e) b a) c e
takes_refused e b a h = record { reads = reads_refused (number e) b a h }

-- a reader that makes the same of every body
module _ {A : Type 0} {r q : Reader A} (h : (s : Bytes) → q s ≡ r s) where
  pub takes_alike : {c d : Cursor} {a : A} → TakesTo r c d a → TakesTo q c d a
  takes_alike l = record { body = l.body; reads = reads_alike h l.reads }

  pub refuses_alike : {c : Cursor} {e : Refusal} → RefusesAt r c e → RefusesAt q c e
  refuses_alike l = record { reads = reads_alike h l.reads }

  pub alike : (c : Cursor) (x : Result (A × Cursor) Refusal) → Takes r c x → Takes q c x
  alike c (Ok v) l = takes_alike l
  alike c (Err e) l = refuses_alike l

-- a field whose value is not kept, and a refusal of it
pub skims : {A : Type 0} {r : Reader A} {c d : Cursor} {a : A} → TakesTo r c d a → TakesTo (skim r) c d tt
unfolding skim
skims h = takes_next _ h (takes_pure tt)

pub skims_not : {A : Type 0} {r : Reader A} {c : Cursor} {e : Refusal} → RefusesAt r c e → RefusesAt (skim r) c e
unfolding skim
skims_not h = refuses_stop _ h

-- what a `?` hands on
pub handed_on : {A E : Type 0} (r : Result A E) {e : E} → IsErrAnd r (λ d. d ≡ e) → r ≡ Err e
handed_on (Ok a) h = absurd h
handed_on (Err d) h = ap Err h

-- ---- lists

-- what is left of a list, k of its n items, stands where the cursor b does
pub record Goes (r : Reader (Unit {0})) (n : ℕ) (c : Cursor) (k : ℕ) (b : Cursor) : Type 0 where
  pub go : (x : Result (Unit {0} × Cursor) Refusal) → Takes (repeat k r) b x → Takes (repeat n r) c x

module _ {r : Reader (Unit {0})} {n : ℕ} {c : Cursor} where
  pub goes_start : {k : ℕ} → k ≡ n → Goes r n c k c
  goes_start e = record { go = λ x h. rw (← e) h }

  module _ {k : ℕ} {b : Cursor} (g : Goes r n c k b) where
    pub goes_on : {j : ℕ} {d : Cursor} → k ≡ suc j → TakesTo r b d tt → Goes r n c j d
    unfolding repeat
    goes_on {j} e h = record { go = λ x l. g.go x (rw e (next _ x h l)) }

    pub goes_stop : {e : Refusal} → 0 < k → RefusesAt r b e → RefusesAt (repeat n r) c e
    unfolding repeat
    goes_stop {e} z h = let q : k ≡ suc (k - 1) = omega arith in g.go (Err e) (rw q (refuses_stop _ h))

  pub goes_end : {k : ℕ} {b : Cursor} → Goes r n c k b → k ≡ 0 → TakesTo (repeat n r) c b tt
  unfolding repeat
  goes_end {b = b} g e = g.go (Ok (tt, b)) (rw e (takes_pure tt))

-- ---- parts that are longer than the rest, or start past the end

module _ (s : Bytes) (start len : ℕ) where
  pub take_short : length s - start < len → take (length s - start) (drop start s) ≡ take len (drop start s)
  take_short h = let e = length-drop start s in take_all (length s - start) (drop start s) (omega arith) ∙ sym (take_all len (drop start s) (omega arith))

  pub take_past : length s < start → [] ≡ take len (drop start s)
  take_past h = rw (drop_of_length-le s {i = start} (omega arith)) (sym (take-nil len))

-- ---- ranges

pub between_low : (low high n : ℕ) → low ≤ n → leb n high ≡ between low high n
unfolding between
between_low low high n h = rw (le-leb low n h)

pub leb_between : (low high n : ℕ) → n < low → leb low n ≡ between low high n
unfolding between
leb_between low high n h = rw (lt-leb low n h)

-- a number that a test of its own lets pass
pub below_or : (b : Bool) → (b || eqb 255 255) ≡ true
below_or true = refl
below_or false = refl

-- ---- primitive fields

-- four bytes, low byte first
take_four : (s : Bytes) → 4 ≤ length s → get_or s 0 0 ∷ get_or s 1 0 ∷ get_or s 2 0 ∷ get_or s 3 0 ∷ [] ≡ take 4 s
take_four [] h = absurd (omega arith)
take_four (a ∷ []) h = absurd (omega arith)
take_four (a ∷ b ∷ []) h = absurd (omega arith)
take_four (a ∷ b ∷ c ∷ []) h = absurd (omega arith)
take_four (a ∷ b ∷ c ∷ d ∷ s) h = refl

module _ (body : Bytes) (at : ℕ) where
  -- n bytes that are there
  pub reads_part : (n : ℕ) → n ≤ length body - at → Reads (part n) body at (value (take n (drop at body)) (at + n))
  unfolding part as_read Within
  reads_part n h =
      record {
        is = rw (part, le-leb n (length (drop at body)) (rw length-drop h)) (ap (got (take n (drop at body))) (drop-drop n at body));
        within = λ w. (omega arith, omega arith);
      }

  pub part_short : (n : ℕ) → length body - at < n → Reads (part n) body at (refusal 5)
  unfolding part as_read Within
  part_short n h = record { is = rw (part, lt-leb n (length (drop at body)) (rw length-drop h)); within = λ w. tt }

  pub reads_byte : 1 ≤ length body - at → Reads byte body at (value (get_or body at 0) (at + 1))
  unfolding byte as_read Within
  reads_byte h = record { is = rw (add-one, drop-cons body at 0 (omega arith)); within = λ w. (omega arith, omega arith) }

  pub byte_short : length body - at < 1 → Reads byte body at (refusal 5)
  unfolding byte as_read Within
  byte_short h = record { is = go (drop at body) (rw length-drop (omega arith)); within = λ w. tt }
    where
      go : (s : Bytes) → length s ≡ 0 → byte s ≡ bad 5
      go [] e = refl
      go (b ∷ s) e = absurd (omega arith)

  pub four_at : 4 ≤ length body - at → get_or body at 0 ∷ get_or body (at + 1) 0 ∷ get_or body (at + 2) 0 ∷ get_or body (at + 3) 0 ∷ [] ≡ take 4 (drop at body)
  four_at h = let e : at + 0 ≡ at = omega arith in rw e at (simp get_or-drop at (take_four (drop at body) (rw length-drop h)))

  pub reads_u32 : {n : ℕ} → 4 ≤ length body - at → n ≡ low (get_or body at 0 ∷ get_or body (at + 1) 0 ∷ get_or body (at + 2) 0 ∷ get_or body (at + 3) 0 ∷ []) → Reads u32 body at (value n (at + 4))
  unfolding u32 fields.number
  reads_u32 h e = reads_next _ (reads_part 4 h) (tells (ap (λ n. value n (at + 4)) (sym (e ∙ ap low (four_at h)))) (reads_pure (low (take 4 (drop at body)))))

  pub u32_short : length body - at < 4 → Reads u32 body at (refusal 5)
  unfolding u32 fields.number
  u32_short h = reads_stop _ (part_short 4 h)
