-- The home slot of a record by the hash of the record at its offset, that of a name, and a store from a home slot on.
-- Assumes nothing.
use mathlib.Core.Path.{◌≡◌, refl, sym, ap, ◌∙◌}
use Prim.Native.Nat.{ℕ, ◌+◌, ◌*◌, ◌≤◌, ◌<◌}
use native.Mathlib.Nat.{mul-le-mul_right}
use native.Mathlib.Omega.{arith}
use mathlib.Core.List.{List, map}
use mathlib.Core.Option.{some}
use Rattle.script_spec.specs.Base.{Bytes}
use Rattle.script_spec.specs.Tree.{Var, BoolLit, BitVecLit, StringLit, Entity, ExtLit, None, Some, Set, Record, App}
use Rattle.script_spec.specs.Fields.{Entry, type, enum, func, term, input}
use Rattle.script_spec.specs.File.{TermFile, earlier}
use Rattle.index.specs.Cells.{cell, type_first, fun_first, term_first}
use Rattle.index.specs.First.{renamed, renumbered, settled, canonical, InRange, NoSet}
use Rattle.index.specs.Standing.{mark_at, body_at, entry_at}
use Rattle.index.specs.Meaning.{Rows}
use Rattle.index.proofs.Plain.{canonical_plain}
use Rattle.index_compare.specs.Printed.{segments_of}
use Rattle.index_compare.proofs.Prints.{Octets}
use Rattle.index_compare.proofs.Equal.{segments_of_renumbered}
use Rattle.index_compare.proofs.Canonical.{index_firsts, renumbered_firsts}
use Rattle.index_compare.specs.View.{viewed, segments_at}
use Rattle.index_compare.specs.declared.compare.View.TheVariants.{First}
use Rattle.index_compare.proofs.Views.{viewed_first}
use Rattle.index_compare.proofs.Listed.{segments_at_shown}
use Rattle.check_rules.specs.Marks.{term_bytes, mark_of}
use Rattle.check_rules.proofs.Marks.{entry_mark}
use Rattle.index.specs.Names.{mixed_bytes}
use Rattle.index_search.specs.Hash.{record_hash}
use Rattle.index.specs.Names.{folded, key_of, scaled, name_home}
use Rattle.index_search.specs.Slots.{plain_hash, term_hash, entry_hash, home_of}
use Rattle.index_search.specs.Storing.{Scales, Home, NameHome}
use Rattle.index_search.proofs.Mixed.{high_half}

pub mark_canonical : (f : TermFile) (x : Entry) → mark_of (canonical f x) ≡ mark_of x
unfolding mark_of term_bytes canonical settled renumbered renamed
mark_canonical f (type m rs) = refl
mark_canonical f (enum n ms) = refl
mark_canonical f (func id a r) = refl
mark_canonical f (term (Var id n) rs) = refl
mark_canonical f (term (BoolLit b) rs) = refl
mark_canonical f (term (BitVecLit n v) rs) = refl
mark_canonical f (term (StringLit s) rs) = refl
mark_canonical f (term (Entity n id) rs) = refl
mark_canonical f (term (ExtLit v) rs) = refl
mark_canonical f (term (None n) rs) = refl
mark_canonical f (term Some rs) = refl
mark_canonical f (term (Set n) rs) = refl
mark_canonical f (term (Record names) rs) = refl
mark_canonical f (term (App n op) rs) = refl
mark_canonical f (input n) = refl

-- the hash of an entry that is no set
canonical_hash : (k : ℕ) (f : TermFile) (x : Entry) → NoSet x → entry_hash k (canonical f x) ≡ plain_hash k (canonical f x)
unfolding entry_hash term_hash canonical settled renumbered renamed
canonical_hash k f (type m rs) N = refl
canonical_hash k f (enum n ms) N = refl
canonical_hash k f (func id a r) N = refl
canonical_hash k f (term (Var id n) rs) N = refl
canonical_hash k f (term (BoolLit b) rs) N = refl
canonical_hash k f (term (BitVecLit n v) rs) N = refl
canonical_hash k f (term (StringLit s) rs) N = refl
canonical_hash k f (term (Entity n id) rs) N = refl
canonical_hash k f (term (ExtLit v) rs) N = refl
canonical_hash k f (term (None n) rs) N = refl
canonical_hash k f (term Some rs) N = refl
canonical_hash k f (term (Set n) rs) N = absurd (N.no n rs refl)
canonical_hash k f (term (Record names) rs) N = refl
canonical_hash k f (term (App n op) rs) N = refl
canonical_hash k f (input n) N = refl

module _ {file : Bytes} {work : List ℕ} {k : ℕ} (o : ℕ) (octets : Octets file) {f : TermFile} {x : Entry} (I : Rows file f work k) (reads : entry_at file o ≡ some x) (no_set : NoSet x) (in_range : InRange (earlier f) x) where
  mark_is : mark_at file o ≡ mark_of (canonical f x)
  unfolding entry_at
  mark_is = entry_mark (mark_at file o) (body_at file o) reads ∙ sym (mark_canonical f x)

  numbers_are : renumbered (cell work k type_first) (cell work k fun_first) (cell work k term_first) x ≡ canonical f x
  numbers_are = renumbered_firsts (index_firsts I) x in_range ∙ sym (canonical_plain f x no_set)

  segments_are : map (viewed work k First) (segments_at file o) ≡ segments_of (canonical f x)
  segments_are =
      ap (map (viewed work k First)) (segments_at_shown file o octets reads) ∙ viewed_first work k (segments_of x)
      ∙ segments_of_renumbered (cell work k type_first) (cell work k fun_first) (cell work k term_first) x ∙ ap segments_of numbers_are

  home_is : scaled k (record_hash file work k o) ≡ home_of (key_of work k) k (canonical f x)
  unfolding record_hash home_of plain_hash
  home_is = rw (mark_is, segments_are) (ap (scaled k) (sym (canonical_hash (key_of work k) f x no_set)))

-- ---- what the functions return

-- the high half of the product of the folded square and the number of slots
pub scales : (k h square low : ℕ) {high : ℕ} → square ≡ folded (h * h) → square < 18446744073709551616 → low < 18446744073709551616 → low + high * 18446744073709551616 ≡ square * k + 0 → Scales k h high
unfolding scaled
scales k h square low {high} e square-small small halves =
    let product : low + high * 18446744073709551616 ≡ square * k = omega (arith, halves) in
    let most : square * k ≤ 18446744073709551615 * k = mul-le-mul_right {m = square} {n = 18446744073709551615} k (omega arith) in
    record { is = sym (high_half low high small (product ∙ ap (λ (n : ℕ). n * k) e)); inside = λ p. omega (arith, most, product) }

pub home_found : {file : Bytes} (work : List ℕ) {k : ℕ} (o : ℕ) {h b : ℕ} → Octets file → h ≡ record_hash file work k o → Scales k h b → Home file work k o b
home_found work {k} o octets e S = record { inside = S.inside; is = λ f x I reads no_set in_range p. S.is ∙ ap (scaled k) e ∙ home_is o octets I reads no_set in_range }

pub name_home_found : {key k : ℕ} {name : Bytes} {h b : ℕ} → h ≡ mixed_bytes key key name → Scales k h b → NameHome key k name b
unfolding name_home
name_home_found {k = k} e S = record { inside = S.inside; is = λ p. S.is ∙ ap (scaled k) e }
