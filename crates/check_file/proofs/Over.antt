-- A record that was read is entered by its kind: the step over it from what entering it promises.
-- Assumes nothing.
use mathlib.Core.Path.{◌≡◌, sym, ap, ◌∙◌, subst}
use Prim.Native.Nat.{ℕ, suc, ◌≤◌, ◌<◌}
use native.Mathlib.Omega.{arith}
use mathlib.Core.List.{map}
use mathlib.Core.Option.{some}
use lib.ListN.{length, take, drop}
use Rattle.std.specs.Prelude.{Result, Ok, Err, Some}
use Rattle.script_spec.specs.Tree.{uuf, node, forest}
use Rattle.script_spec.specs.Fields.{got, Entry, untyped_mark}
use Rattle.script_spec.specs.File.{TermFile, Named, type, func, term, input, type_at, term_at, named_mark, named, written, earlier, rules, broken}
use Rattle.index.specs.Standing.{mark_at, body_at, entry_at}
use Rattle.index.specs.Meaning.{Stands}
use Rattle.index.specs.declared.RecordsMut.{RecordsMut}
use Rattle.index.proofs.Cells.{below_capacity}
use Rattle.index.proofs.Growth.{counts_fewer}
use Rattle.refusal.specs.declared.Refusal.{Refusal}
use Rattle.read_record.specs.Marks.{MarkedAs, Marked}
use Rattle.read_record.specs.declared.mark.Kind.{Kind}
use Rattle.check_rules.specs.Marks.{mark_of}
use Rattle.check_rules.proofs.Marks.{entry_mark}
use Rattle.check_enter.specs.Entering.{Keeps, written_at, Outcome, Enters}
use Rattle.check_enter.specs.Enums.{enum_named}
use Rattle.check_file.specs.Stepping.{Before, ReadUpTo, TypeRecord, EnumRecord, FunRecord, TermOf, InputRecord, EnterTells, StepsOver}
use Rattle.check_file.proofs.Reading.{mark_read, read_written, written_below, read_entry, read_stands}
use Rattle.check_file.proofs.Kept.{next_kept, next_broken}

-- ---- a record that was read

module _ {f : TermFile} {v : RecordsMut} {at to : ℕ} {x : Entry} (B : Before f v at) (R : ReadUpTo v.file.now f at to x) where
  -- its row is in the columns
  next_room : suc (length f) ≤ v.sizes.rows
  next_room = rw B.rows_are (below_capacity (length v.file.now) (length f) (omega (arith, B.places, R.further, R.within)))

  few : length f < 200000
  few = omega (arith, B.short, B.places, R.further, R.within)

  at_low : at < 4294967296
  at_low = omega (arith, B.short, R.further, R.within)

  -- the entry stands there, and its mark
  next_entry : entry_at v.file.now at ≡ some x
  next_entry = let C = counts_fewer f in read_entry v.file.now f at x R.ty (drop to v.file.now) R.read (omega (arith, few, C.types_fewer)) (omega (arith, few, C.funs_fewer)) (omega (arith, few, C.terms_fewer))

  next_stands : {n : Named} → named f x ≡ n → Stands v.file.now f (earlier f) at n
  next_stands e =
      let C = counts_fewer f in
      subst (λ (n : Named). Stands v.file.now f (earlier f) at n) e
      (read_stands v.file.now f at x R.ty (drop to v.file.now) R.read (omega (arith, few, C.types_fewer)) (omega (arith, few, C.funs_fewer)) (omega (arith, few, C.terms_fewer)))

  next_mark : mark_at v.file.now at ≡ mark_of x
  unfolding entry_at
  next_mark = entry_mark (mark_at v.file.now at) (body_at v.file.now at) next_entry

  -- as it was read
  pub mark_as_read : untyped_mark (take 2 (drop at v.file.now)) ≡ mark_of x
  mark_as_read = sym (mark_read v.file.now at (omega (arith, R.further, R.within))) ∙ next_mark

  -- it is judged with the type that is written there
  judged_there : {n : Named} → named f x ≡ n → broken (rules f (written f R.ty) (named f x)) ≡ broken (rules f (written f (written_at v.file.now at)) n)
  judged_there e = rw (read_written v.file.now f at x R.ty (drop to v.file.now) R.read, e)

  -- what entering the record that was read comes to
  entered : {w : RecordsMut} {n : Named} → named f x ≡ n → (r : Result (Unit {0}) Refusal) → Outcome f v w (written f (written_at v.file.now at)) n r → EnterTells f v w at to r
  entered {n = n} e (Ok u) K =
      record {
        record_got = n;
        next = next_kept f (drop at v.file.now) R.read (judged_there e ∙ K.rule) ∙ ap (λ (n : Named). got n (drop to v.file.now)) e;
        further = R.further;
        within = R.within;
        counted = K.memory;
      }
  entered e (Err x) K = record { next = next_broken f (drop at v.file.now) R.read (judged_there e ∙ K.rule); unchanged = K.memory }

-- ---- each kind

module _ {v w : RecordsMut} {at o : ℕ} {r : Result (Unit {0}) Refusal} (low : at < 4294967296 → o ≡ at) where
  -- the record that was read is entered as what it names
  over : {A : Type 0} {wrap : A → Named} → Enters wrap v w o r → {f : TermFile} {to : ℕ} {x : Entry} (B : Before f v at) (R : ReadUpTo v.file.now f at to x) (a : A) → named f x ≡ wrap a → EnterTells f v w at to r
  over E {f} {to} {x} B R a e =
      let same = low (at_low B R) in
      let below = written_below v.file.now f at x R.ty (drop to v.file.now) R.read in
      entered B R e r (rw same at (E.go f B.counted (next_room B R) a (rw same (next_stands B R e)) (rw same below)))

  pub type_over : Enters type v w o r → StepsOver TypeRecord v w at r
  unfolding named
  type_over E = record { kept = E.kept; go = λ f B to x R K. over E B R (node K.0 (forest (map (type_at f) K.1))) (ap (named f) K.2) }

  pub enum_over : Enters enum_named v w o r → StepsOver EnumRecord v w at r
  unfolding named enum_named
  enum_over E = record { kept = E.kept; go = λ f B to x R K. over E B R (K.0, K.1) (ap (named f) K.2) }

  pub fun_over : Enters func v w o r → StepsOver FunRecord v w at r
  unfolding named
  fun_over E = record { kept = E.kept; go = λ f B to x R K. over E B R (uuf K.0 (type_at f K.1) (type_at f K.2)) (ap (named f) K.3) }

  pub input_over : Enters input v w o r → StepsOver InputRecord v w at r
  unfolding named
  input_over E = record { kept = E.kept; go = λ f B to x R K. over E B R (term_at f K.0) (ap (named f) K.1) }

  pub term_over : (kind : Kind) → Keeps v w → (Marked (mark_at v.file.now o) (Some kind) → Enters term v w o r) → StepsOver (TermOf kind) v w at r
  unfolding named MarkedAs
  term_over kind kept E =
      record {
        kept = kept;
        go = λ f B to x R K.
            let M : Marked (mark_at v.file.now o) (Some kind) = record { is = rw (low (at_low B R), K.1) (next_mark B R) } in
            over (E M) B R (node (named_mark f K.0.0) (forest (map (term_at f) K.0.1))) (ap (named f) K.0.2);
      }
