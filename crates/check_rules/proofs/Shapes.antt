-- Where the lists of a record stand in its body: by the mark's reader, field after field.
-- Assumes nothing.
use mathlib.Core.Path.{◌≡◌, refl, sym, ap, ◌∙◌}
use Prim.Native.Nat.{ℕ}
use mathlib.Core.List.{List, []}
use mathlib.Core.Option.{some}
use lib.ListN.{drop}
use Rattle.script_spec.specs.Base.{Bytes, lookup, firsts, seconds}
use Rattle.script_spec.specs.Tree.{Declared, record_of, Set, Record}
use Rattle.script_spec.specs.Fields.{Entry, Reader, got, marks, list, text, u32, ref, pair, type, enum, term}
use Rattle.script_spec.proofs.Computes
use Rattle.script_spec.proofs.Readers.{bind_inverse, pure_inverse, ref_inverse}
use Rattle.index.specs.Standing.{loose, entry_of}
use Rattle.index_compare.proofs.Standing.{entry_of_inverse}
use Rattle.check_rules.specs.Tests.{named_text}
use Rattle.check_rules.specs.Marks.{datatype_bytes, type_bytes, term_bytes, mark_of}
use Rattle.check_rules.proofs.Lists.{names_read, references_read}
use Rattle.check_rules.proofs.Marks.{entry_mark}

-- the reader that the table has for an entry's mark gave the entry
pub read_by : (mark body : Bytes) {x : Entry} {r : Reader Entry} → entry_of mark body ≡ some x → lookup (mark_of x) (marks loose) ≡ some r → r body ≡ got x []
read_by mark body {x} {r} e l =
    let h = entry_of_inverse mark body e in
    let same : some h.reader ≡ some r = sym h.found ∙ ap (λ (m : Bytes). lookup m (marks loose)) (entry_mark mark body e) ∙ l in
    let readers : h.reader ≡ r = cc in
    sym (ap (λ (q : Reader Entry). q body) readers) ∙ h.reads

-- the body of an enum: its name, and its members in what is left
pub record EnumBody (body name : Bytes) (members : List Bytes) : Type 0 where
  pub left : Bytes
  pub name_is_read : text body ≡ got name left
  pub members_read : list text left ≡ got members []

module _ (mark body : Bytes) where
  -- the attributes of a record type
  pub record_type_read : {names : List Bytes} {rs : List ℕ} → entry_of mark body ≡ some (type (Declared (record_of names)) rs) → list named_text body ≡ got names []
  unfolding mark_of type_bytes datatype_bytes Computes.base marks
  record_type_read {names} {rs} e =
      let h = read_by mark body {r = _} e refl in
      let b = bind_inverse (list (pair text (ref loose.types))) _ body h in
      let p = pure_inverse (type (Declared (record_of (firsts b.value))) (seconds b.value)) b.mid b.after in
      let is : firsts b.value ≡ names = cc in
      names_read loose.types body b.mid b.value b.first ∙ (λ i. got (is i) (p.1 i))

  -- the attributes of a record
  pub record_read : {names : List Bytes} {rs : List ℕ} → entry_of mark body ≡ some (term (Record names) rs) → list named_text body ≡ got names []
  unfolding mark_of term_bytes Computes.base marks
  record_read {names} {rs} e =
      let h = read_by mark body {r = _} e refl in
      let b = bind_inverse (list (pair text (ref loose.terms))) _ body h in
      let p = pure_inverse (term (Record (firsts b.value)) (seconds b.value)) b.mid b.after in
      let is : firsts b.value ≡ names = cc in
      names_read loose.terms body b.mid b.value b.first ∙ (λ i. got (is i) (p.1 i))

  -- the elements of a set, after the element type
  pub set_read : {n : ℕ} {rs : List ℕ} → entry_of mark body ≡ some (term (Set n) rs) → list u32 (drop 4 body) ≡ got rs []
  unfolding mark_of term_bytes Computes.base marks
  set_read {n} {rs} e =
      let h = read_by mark body {r = _} e refl in
      let b = bind_inverse (ref loose.types) _ body h in
      let c = bind_inverse (list (ref loose.terms)) _ b.mid b.after in
      let p = pure_inverse (term (Set b.value) c.value) c.mid c.after in
      let is : c.value ≡ rs = cc in
      let left = (ref_inverse loose.types body b.first).left in
      rw left (references_read loose.terms b.mid c.mid c.value c.first ∙ (λ i. got (is i) (p.1 i)))

  -- the name of an enum, and its members after it
  pub enum_read : {name : Bytes} {members : List Bytes} → entry_of mark body ≡ some (enum name members) → EnumBody body name members
  unfolding mark_of Computes.base marks
  enum_read {name} {members} e =
      let h = read_by mark body {r = _} e refl in
      let b = bind_inverse text _ body h in
      let c = bind_inverse (list text) _ b.mid b.after in
      let p = pure_inverse (enum b.value c.value) c.mid c.after in
      let first : b.value ≡ name = cc in
      let is : c.value ≡ members = cc in
      record { left = b.mid; name_is_read = b.first ∙ (λ i. got (first i) b.mid); members_read = c.first ∙ (λ i. got (is i) (p.1 i)) }
