-- Records of one mark have segments that agree by the index exactly where their first equal numbers do, and where the one is no set, their
-- canonical entries.
-- Assumes nothing.
use Prim.Native.Nat.{ℕ, ◌+◌, ◌<◌}
use mathlib.Core.Path.{◌≡◌, sym, ap, ◌∙◌}
use mathlib.Core.List.{List}
use mathlib.Core.Option.{some}
use lib.ListN.{length, drop}
use Rattle.script_spec.specs.Base.{Bytes}
use Rattle.script_spec.specs.Fields.{Entry}
use Rattle.script_spec.specs.File.{TermFile, types, funs, terms, earlier}
use Rattle.index.specs.Cells.{cell, type_first, fun_first, term_first}
use Rattle.index.specs.First.{first_type, first_fun, first_term, renumbered, settled, canonical, InRange, NoSet}
use Rattle.index.specs.Standing.{mark_at, size_at, body_at, entry_of, entry_at}
use Rattle.index.specs.Meaning.{Rows}
use Rattle.index.proofs.Renamed.{renumbered_agree}
use Rattle.index.proofs.Plain.{firsts, same_plain}
use Rattle.index_compare.proofs.Prints.{Octets, octets_take, octets_drop}
use Rattle.index_compare.proofs.Agreement.{segments_tell}
use Rattle.index_compare.proofs.Equal.{segments_agree}
use Rattle.index_compare.specs.View.{viewed, segments_at, SameSegments}
use Rattle.index_compare.specs.declared.compare.View.TheVariants.{First}
use Rattle.index_compare.proofs.Views.{viewed_first}
use Rattle.index_compare.proofs.Compared.{Same}

-- the working memory has the numbers of first equal records
pub record Firsts (f : TermFile) (work : List ℕ) (k : ℕ) : Type 0 where
  pub type_first_is : (n : ℕ) → n < length (types f) → cell work k type_first n ≡ first_type f n
  pub fun_first_is : (n : ℕ) → n < length (funs f) → cell work k fun_first n ≡ first_fun f n
  pub term_first_is : (n : ℕ) → n < length (terms f) → cell work k term_first n ≡ first_term f n

pub index_firsts : {file : Bytes} {f : TermFile} {work : List ℕ} {k : ℕ} → Rows file f work k → Firsts f work k
index_firsts I =
    record {
      type_first_is = λ n h. (I.type_row n h).first;
      fun_first_is = λ n h. (I.fun_row n h).first;
      term_first_is = λ n h. (I.term_row n h).first;
    }

module _ {f : TermFile} {work : List ℕ} {k : ℕ} (F : Firsts f work k) where
  -- the numbers that it has are those of an entry
  pub renumbered_firsts : (x : Entry) → InRange (earlier f) x → renumbered (cell work k type_first) (cell work k fun_first) (cell work k term_first) x ≡ firsts f x
  unfolding earlier
  renumbered_firsts x h =
      renumbered_agree (earlier f) F.type_first_is F.fun_first_is F.term_first_is x h

  pub same_firsts : (file : Bytes) (o p : ℕ) {x y : Entry} → Octets file → mark_at file o ≡ mark_at file p → entry_at file o ≡ some x → entry_at file p ≡ some y
      → InRange (earlier f) x → InRange (earlier f) y → Same (SameSegments file (viewed work k First) o (viewed work k First) p) (firsts f x ≡ firsts f y)
  unfolding segments_at entry_at body_at
  same_firsts file o p {x} {y} octets marks e e' h h' =
      let body_octets : (q : ℕ) → Octets (body_at file q) = λ q. octets_take (size_at file q) (drop (q + 6) file) (octets_drop (q + 6) file octets) in
      let e'' : entry_of (mark_at file o) (body_at file p) ≡ some y = rw marks e' in
      record {
        to = λ same.
            let agree = sym (viewed_first work k (segments_at file o)) ∙ same ∙ viewed_first work k (segments_at file p) in
            sym (renumbered_firsts x h)
            ∙ segments_tell (cell work k type_first) (cell work k fun_first) (cell work k term_first) (mark_at file o) (body_at file o) (body_at file p) e e'' (rw (← marks) at agree)
            ∙ renumbered_firsts y h';
        from = λ same.
            let agree = segments_agree (cell work k type_first) (cell work k fun_first) (cell work k term_first) (mark_at file o) (body_at file o) (body_at file p) (body_octets o) (body_octets p) e e''
            (renumbered_firsts x h ∙ same ∙ sym (renumbered_firsts y h')) in
            viewed_first work k (segments_at file o) ∙ (rw (← marks) agree) ∙ sym (viewed_first work k (segments_at file p));
      }

  pub same_canonical : (file : Bytes) (o p : ℕ) {x y : Entry} → Octets file → mark_at file o ≡ mark_at file p → entry_at file o ≡ some x → entry_at file p ≡ some y
      → InRange (earlier f) x → InRange (earlier f) y → NoSet x → Same (SameSegments file (viewed work k First) o (viewed work k First) p) (canonical f x ≡ canonical f y)
  unfolding canonical
  same_canonical file o p {x} {y} octets marks e e' h h' n =
      let S = same_firsts file o p octets marks e e' h h' in
      record { to = λ t. ap settled (S.to t); from = λ q. S.from (same_plain f x y n q) }
