-- A type, a function or a term that is entered gets a name in memory, the next number of its table; and a term gets a note after a step.
-- Assumes nothing.
use Prim.Native.Nat.{ℕ, ◌+◌, ◌<◌, min}
use mathlib.Core.Path.{◌≡◌, refl, sym, ap, ◌∙◌}
use mathlib.Core.Bool.{true, false}
use native.Mathlib.Omega.{arith}
use borrow.Author.Tests.{eqb-true, not-false}
use lib.ListN.{length, length-append}
use Rattle.std.specs.Prelude.{Ok}
use Rattle.script_spec.specs.Base.{Bytes, any}
use Rattle.script_spec.specs.Tree.{eq_ty, eq_fun, eq_tm}
use Rattle.script_spec.specs.File.{TermFile, types, funs, terms, members, type_at, fun_at, term_at}
use Rattle.script_spec.specs.Walk.{State, enter_type, enter_fun, enter_term}
use Rattle.script_spec.specs.Walk as walk
use Rattle.script_spec.proofs.Laws.{never}
use Rattle.write_bytes.specs.Writing.{Wrote}
use Rattle.write_bytes.specs.declared.writer.Writer.{Writer}
use Rattle.index.specs.Cells.{cell, store, note}
use Rattle.index.specs.First.{first_type, first_fun, first_term}
use Rattle.index.specs.Held.{Becomes}
use Rattle.index.specs.declared.Sizes.{Sizes}
use Rattle.index.specs.declared.RecordsMut.{RecordsMut}
use Rattle.index.proofs.Held.{stays_becomes}
use Rattle.index.proofs.Rows.{types_fit, funs_fit, terms_fit}
use Rattle.walk_names.specs.Naming.{type_names, fun_names, term_names, first_of, names_of, is_name, name_in, NoteSays}
use Rattle.walk_names.specs.declared.naming.Named.{Named}
use Rattle.walk_names.specs.declared.naming.Named.TheVariants as named
use Rattle.walk_names.specs.Progress.{memory, rows, Indexed, Went, Remains, Advances, count_of, Enters}
use Rattle.walk_names.specs.declared.walk.Walk.{Walk}
use Rattle.walk_names.proofs.Names.{kept_store, kept_note, numbers_type, numbers_fun, numbers_term, numbers_note}
use Rattle.walk_names.proofs.Tables.{table_known}
use Rattle.walk_names.proofs.Advancing.{continues_refl, remains_trans, indexed_remains, went_on}

-- the column of each name is one of names
names_named : (k : Named) → is_name (names_of k) ≡ true
unfolding is_name
names_named named.Types = refl
names_named named.Funs = refl
names_named named.Terms = refl

module _ {k : Named} {n : ℕ} {v w : Walk} (E : Enters k n v w) where
  -- what a name leaves
  pub remains_enters : Remains v w
  remains_enters =
      let b = E.records in
      let K = kept_store (memory v) (rows v) (names_of k) (cell (memory v) (rows v) (first_of k) n) (min (count_of k v + 1) 4294967295) (names_named k) in
      record {
        records_lent = E.records_lent;
        records = stays_becomes b K.size;
        script_lent = E.script_lent;
        script = rw E.script_is continues_refl;
        kept = rw b.memory K;
      }

  -- the script is as it was
  wrote_still : {o a : Bytes} → Wrote v.script.now.limit o v.script.now.out.now v.script.now.at a → Wrote w.script.now.limit o w.script.now.out.now w.script.now.at a
  wrote_still W = rw E.script_is W

module _ {f : TermFile} {limit : ℕ} {o : Bytes} {S : State} {n : ℕ} {v w : Walk} (I : Indexed f v) (W : Went f limit o v S) where
  -- a type gets the next name
  pub enters_type : Enters named.Types n v w → n < length (types f) → any (eq_ty (type_at f n)) S.types ≡ false → Went f limit o w (enter_type (type_at f n) S)
  unfolding enter_type
  enters_type E l new =
      let N = W.numbers in
      let b = E.records in
      let taken = N.type_table.taken in
      let fit = types_fit I.rows in
      let small = I.small in
      let same = W.types_are in
      let z : name_in (memory v) (rows v) type_names (first_type f n) ≡ 0 = eqb-true _ 0 (not-false _ (sym (table_known N.type_table n l) ∙ new)) in
      let e : min (v.types + 1) 4294967295 ≡ length S.types + 1 = omega arith in
      record {
        numbers = rw (b.memory, ap (λ (s : Sizes). s.rows) b.sizes_are, (I.rows.type_row n l).first) (numbers_type I.rows N n (min (v.types + 1) 4294967295) l z e (omega arith));
        types_are = E.counted ∙ e ∙ sym (length-append S.types _);
        funs_are = E.others named.Funs (λ q. never cc) ∙ W.funs_are;
        terms_are = E.others named.Terms (λ q. never cc) ∙ W.terms_are;
        limit_is = ap (λ (x : Writer). x.limit) E.script_is ∙ W.limit_is;
        wrote = wrote_still E W.wrote;
      }

  -- a function gets the next name
  pub enters_fun : Enters named.Funs n v w → n < length (funs f) → any (eq_fun (fun_at f n)) S.funs ≡ false → Went f limit o w (enter_fun (fun_at f n) S)
  unfolding enter_fun
  enters_fun E l new =
      let N = W.numbers in
      let b = E.records in
      let taken = N.fun_table.taken in
      let fit = funs_fit I.rows in
      let small = I.small in
      let same = W.funs_are in
      let z : name_in (memory v) (rows v) fun_names (first_fun f n) ≡ 0 = eqb-true _ 0 (not-false _ (sym (table_known N.fun_table n l) ∙ new)) in
      let e : min (v.funs + 1) 4294967295 ≡ length S.funs + 1 = omega arith in
      record {
        numbers = rw (b.memory, ap (λ (s : Sizes). s.rows) b.sizes_are, (I.rows.fun_row n l).first) (numbers_fun I.rows N n (min (v.funs + 1) 4294967295) l z e (omega arith));
        types_are = E.others named.Types (λ q. never cc) ∙ W.types_are;
        funs_are = E.counted ∙ e ∙ sym (length-append S.funs _);
        terms_are = E.others named.Terms (λ q. never cc) ∙ W.terms_are;
        limit_is = ap (λ (x : Writer). x.limit) E.script_is ∙ W.limit_is;
        wrote = wrote_still E W.wrote;
      }

  -- a term gets the next name
  pub enters_term : Enters named.Terms n v w → n < length (terms f) → any (eq_tm (term_at f n)) S.terms ≡ false → Went f limit o w (enter_term (term_at f n) S)
  unfolding enter_term
  enters_term E l new =
      let N = W.numbers in
      let b = E.records in
      let taken = N.term_table.taken in
      let fit = terms_fit I.rows in
      let small = I.small in
      let same = W.terms_are in
      let z : name_in (memory v) (rows v) term_names (first_term f n) ≡ 0 = eqb-true _ 0 (not-false _ (sym (table_known N.term_table n l) ∙ new)) in
      let e : min (v.terms + 1) 4294967295 ≡ length S.terms + 1 = omega arith in
      record {
        numbers = rw (b.memory, ap (λ (s : Sizes). s.rows) b.sizes_are, (I.rows.term_row n l).first) (numbers_term I.rows N n (min (v.terms + 1) 4294967295) l z e (omega arith));
        types_are = E.others named.Types (λ q. never cc) ∙ W.types_are;
        funs_are = E.others named.Funs (λ q. never cc) ∙ W.funs_are;
        terms_are = E.counted ∙ e ∙ sym (length-append S.terms _);
        limit_is = ap (λ (x : Writer). x.limit) E.script_is ∙ W.limit_is;
        wrote = wrote_still E W.wrote;
      }

-- ---- notes

-- a walk whose records are others
abbrev pub held : Walk → RecordsMut → Walk
held v x = record { records = record { ref_ptr = v.records.ref_ptr; ghost_name = v.records.ghost_name; now = x }; script = v.script; types = v.types; funs = v.funs; terms = v.terms }

module _ (n m : ℕ) {w : Walk} {x : RecordsMut} (B : Becomes w.records.now x (store (memory w) (rows w) note n m)) where
  -- a note leaves all else
  remains_notes : Remains w (held w x)
  remains_notes =
      let K = kept_note (memory w) (rows w) n m in
      record { records_lent = refl; records = stays_becomes B K.size; script_lent = refl; script = continues_refl; kept = rw B.memory K }

  -- a note that holds
  went_notes : {f : TermFile} {limit : ℕ} {o : Bytes} {S : State} → Indexed f w → Went f limit o w S → n < length (terms f) → ((m ≡ 0 → ⊥) → NoteSays (members f) (term_at f n) m) → Went f limit o (held w x) S
  went_notes I W l holds =
      record {
        numbers = rw (B.memory, ap (λ (s : Sizes). s.rows) B.sizes_are) (numbers_note I.rows W.numbers n m l holds);
        types_are = W.types_are;
        funs_are = W.funs_are;
        terms_are = W.terms_are;
        limit_is = W.limit_is;
        wrote = W.wrote;
      }

  -- a step, and a note after it
  pub advances_noted : {ready : TermFile → State → Type 0} (step : TermFile → walk.Walk) {v : Walk} → Advances ready step v w (Ok tt)
      → ((f : TermFile) (S : State) → Indexed f v → Indexed f w → ready f S → (n < length (terms f)) × ((m ≡ 0 → ⊥) → NoteSays (members f) (term_at f n) m))
      → Advances ready step v (held w x) (Ok tt)
  advances_noted step A h =
      record {
        remains = remains_trans A.remains remains_notes;
        go = λ f limit o S I r W.
            let J = indexed_remains A.remains I in
            let g = h f S I J r in
            went_on (step f S) (A.go f limit o S I r W) (λ S' e W'. rw e (went_notes J W' g.0 g.1));
      }
