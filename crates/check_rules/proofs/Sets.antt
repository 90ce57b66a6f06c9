-- The set at an offset: its mark, and in its body the element type, the count and the references of its elements, as two numbers that are read
-- from the start give them.
-- Assumes nothing.
use mathlib.Core.Path.{◌≡◌, refl, sym, ap, ◌∙◌, subst}
use Prim.Native.Nat.{ℕ, ◌<◌}
use native.Mathlib.Omega.{arith}
use mathlib.Core.List.{List, []}
use mathlib.Core.Option.{some}
use lib.Dec.{leb→le}
use lib.ListN.{length, drop}
use lib.Seq.{drop-drop}
use denote.Ref.{Bor}
use Rattle.script_spec.specs.Base.{Bytes, bytes}
use Rattle.script_spec.specs.Tree.{TypeMark, Bool·, String·, Option·, Set·, BitVec·, Declared, entity, extension, record_of}
use Rattle.script_spec.specs.Tree.{TermMark, Set}
use Rattle.script_spec.specs.Fields.{Entry, got, marks, list, u32, ref, times, type, enum, func, term, input}
use Rattle.script_spec.proofs.Computes
use Rattle.script_spec.proofs.Laws.{never}
use Rattle.script_spec.proofs.Readers.{bind_inverse, pure_inverse, ref_inverse, u32_inverse, u32_short, Numbered}
use Rattle.refusal.specs.declared.Refusal.{Refusal}
use Rattle.refusal.specs.Numbers.{number}
use Rattle.read_field.specs.Reads.{as_read}
use Rattle.read_field.specs.declared.Cursor.{Cursor}
use Rattle.read_field.specs.Takes.{TakesTo, RefusesAt}
use Rattle.index.specs.Standing.{loose, entry_of, entry_at, mark_at, body_at}
use Rattle.read_record.specs.Marks.{mark, MarkedAs}
use Rattle.read_record.specs.declared.mark.Kind.TheVariants as kind
use Rattle.check_rules.specs.Marks.{term_bytes, mark_of}
use Rattle.check_rules.proofs.Marks.{entry_mark}
use Rattle.check_rules.proofs.EntryKinds.{type_kind, kind_of, entry_kind}
use Rattle.check_rules.specs.Repeats.{References}
use Rattle.check_rules.proofs.Noted.{references_read}
use Rattle.check_rules.proofs.Shapes.{read_by, set_read}
use Rattle.check_rules.proofs.TermLaws.{shown}

-- a set's body: the element type, the count, and the references
pub record SetBody (body : Bytes) (t : ℕ) (rs : List ℕ) : Type 0 where
  pub type_is : Numbered 4 body t (drop 4 body)
  pub count_is : Numbered 4 (drop 4 body) (length rs) (drop 8 body)
  pub elements_are : times (length rs) u32 (drop 8 body) ≡ got rs []

-- two numbers that are read from its start, and the references after them
pub record SetTaken (t : ℕ) (rs : List ℕ) (n count : ℕ) (elements : Cursor) : Type 0 where
  pub type_is : n ≡ t
  pub count_is : count ≡ length rs
  pub references : References elements.body.now elements.at rs count

-- a number that was read, by what is left
numbered_left : {s rest : Bytes} {n : ℕ} → Numbered 4 s n rest → Numbered 4 s n (drop 4 s)
numbered_left w = record { fits = w.fits; is = w.is; left = refl }

module _ (mark body : Bytes) {t : ℕ} {rs : List ℕ} (e : entry_of mark body ≡ some (term (Set t) rs)) where
  set_type : Numbered 4 body t (drop 4 body)
  unfolding mark_of term_bytes Computes.base marks
  set_type =
      let h = read_by mark body {r = _} e refl in
      let b = bind_inverse (ref loose.types) _ body h in
      let c = bind_inverse (list (ref loose.terms)) _ b.mid b.after in
      let p = pure_inverse (term (Set b.value) c.value) c.mid c.after in
      let is : b.value ≡ t = cc in
      subst (λ (n : ℕ). Numbered 4 body n (drop 4 body)) is (numbered_left (ref_inverse loose.types body b.first))

  pub set_body : SetBody body t rs
  unfolding list
  set_body =
      let b = bind_inverse u32 _ (drop 4 body) (set_read mark body e) in
      let w = u32_inverse (drop 4 body) b.first in
      let left : drop 4 (drop 4 body) ≡ drop 8 body = drop-drop 4 4 body in
      let reads : times b.value u32 (drop 8 body) ≡ got rs [] = rw (← left, w.left) b.after in
      let size : length rs ≡ b.value = (references_read body b.value 8 rs [] reads).size in
      record { type_is = set_type; count_is = rw (size, ← left) (numbered_left w); elements_are = rw (size) reads }

-- ---- the kind

-- an entry is a set
pub record IsSet (x : Entry) : Type 0 where
  pub type : ℕ
  pub elements : List ℕ
  pub is : x ≡ term (Set type) elements

no_type : (m : TypeMark) → type_kind m ≡ kind.XC → ⊥
unfolding type_kind
no_type Bool· e = never cc
no_type String· e = never cc
no_type Option· e = never cc
no_type Set· e = never cc
no_type (BitVec· n) e = never cc
no_type (Declared (entity n)) e = never cc
no_type (Declared (extension x)) e = never cc
no_type (Declared (record_of names)) e = never cc

kind_shown : (x : Entry) → kind_of x ≡ kind.XC → IsSet x
unfolding kind_of
kind_shown (type m rs) e = absurd (no_type m e)
kind_shown (enum n ms) e = never cc
kind_shown (func id a r) e = never cc
kind_shown (term m rs) e = let s = (shown m).set e in record { type = s.0; elements = rs; is = ap (λ (m : TermMark ℕ ℕ). term m rs) s.1 }
kind_shown (input n) e = never cc

-- what is read under the mark of a set is a set
pub set_shown : (file : Bytes) (o : ℕ) {x : Entry} → mark_at file o ≡ bytes "XC" → entry_at file o ≡ some x → IsSet x
unfolding MarkedAs mark
set_shown file o {x} h e = kind_shown x (sym (entry_kind file o {k = kind.XC} (record { is = h }) e))

-- ---- at an offset

module _ (file : Bytes) (o : ℕ) {t : ℕ} {rs : List ℕ} (e : entry_at file o ≡ some (term (Set t) rs)) where
  pub set_at : SetBody (body_at file o) t rs
  unfolding entry_at
  set_at = set_body (mark_at file o) (body_at file o) e

  pub set_mark : mark_at file o ≡ bytes "XC"
  unfolding entry_at mark_of term_bytes
  set_mark = entry_mark (mark_at file o) (body_at file o) e

  -- by a cursor at the start of the body
  module _ {body : Bor Bytes} {c : Cursor} (is : body.now ≡ body_at file o) (starts : (c.body ≡ body) × (c.at ≡ 0)) where
    start : drop c.at c.body.now ≡ body_at file o
    start = ap (λ (n : ℕ). drop n c.body.now) starts.1 ∙ ap (λ (b : Bor Bytes). b.now) starts.0 ∙ is

    -- the first number is there
    pub set_type_there : {x : Refusal} → RefusesAt u32 c x → ⊥
    unfolding as_read
    set_type_there {x} r =
        let short : length (body_at file o) < 4 = u32_short (body_at file o) (number x) (rw start at r.reads.is) in
        omega (arith, short, leb→le 4 (length (body_at file o)) (rw set_at.type_is.fits tt))

    module _ {d : Cursor} {n : ℕ} (first : TakesTo u32 c d n) where
      first_read : Numbered 4 (body_at file o) n (drop d.at c.body.now)
      unfolding as_read
      first_read = u32_inverse (body_at file o) (rw start at first.reads.is)

      pub set_type_taken : n ≡ t
      set_type_taken = sym first_read.is ∙ set_at.type_is.is

      after : drop d.at d.body.now ≡ drop 4 (body_at file o)
      after = rw (first.body) (sym first_read.left)

      -- so is the second
      pub set_count_there : {x : Refusal} → RefusesAt u32 d x → ⊥
      unfolding as_read
      set_count_there {x} r =
          let short : length (drop 4 (body_at file o)) < 4 = u32_short (drop 4 (body_at file o)) (number x) (rw after at r.reads.is) in
          omega (arith, short, leb→le 4 (length (drop 4 (body_at file o))) (rw set_at.count_is.fits tt))

      -- and the references stand after it
      pub set_taken : {l : Cursor} {k : ℕ} → TakesTo u32 d l k → SetTaken t rs n k l
      unfolding as_read
      set_taken {l} {k} second =
          let w = u32_inverse (drop 4 (body_at file o)) (rw after at second.reads.is) in
          let count : k ≡ length rs = sym w.is ∙ set_at.count_is.is in
          let left : drop l.at l.body.now ≡ drop 8 (body_at file o) = rw (second.body) (sym w.left ∙ drop-drop 4 4 (body_at file o)) in
          record { type_is = set_type_taken; count_is = count; references = references_read l.body.now k l.at rs [] (rw (count, left) set_at.elements_are) }
