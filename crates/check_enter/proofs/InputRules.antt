-- An input is entered: its body is the number of its term, which is stored.
-- Assumes nothing.
use mathlib.Core.Path.{◌≡◌, refl, sym, ap, ◌∙◌, subst}
use Prim.Native.Nat.{ℕ, suc, ◌+◌, ◌≤◌, ◌<◌, min}
use native.Mathlib.Omega.{arith}
use Rattle.std.specs.Prelude.{Ok}
use mathlib.Core.List.{[], ◌∷◌, ◌++◌}
use mathlib.Core.Option.{some}
use lib.ListN.{length}
use Rattle.script_spec.specs.Base.{Bytes, bytes, same, lookup, and_then}
use Rattle.script_spec.specs.Tree.{Tm}
use Rattle.script_spec.specs.Fields.{Entry, pure, ref, marks}
use Rattle.script_spec.specs.Fields as fields
use Rattle.script_spec.specs.File.{TermFile, input, terms, inputs, term_at, named, earlier, rules, broken}
use Rattle.script_spec.proofs.Laws.{never}
use Rattle.script_spec.proofs.Readers.{got_value}
use Rattle.index_compare.proofs.Standing.{entry_whole}
use Rattle.index.specs.Cells.{store, input_term}
use Rattle.index.specs.First.{InRange}
use Rattle.index.specs.Standing.{loose, mark_at, body_at, entry_of, entry_at}
use Rattle.index.specs.Meaning.{Stands, SizesOf}
use Rattle.index.specs.declared.Sizes.{Sizes}
use Rattle.index.specs.declared.RecordsMut.{RecordsMut}
use Rattle.index.proofs.Growth.{counts_together}
use Rattle.check_rules.specs.Marks.{mark_of}
use Rattle.check_rules.proofs.Marks.{entry_mark}
use Rattle.index_search.specs.Searchable.{Indexed}
use Rattle.index_search.proofs.Entered.{indexed_input}
use Rattle.index.specs.Lists.{number_at}
use Rattle.index_entry.proofs.Inverse.{bind_inverse, tested_inverse}
use Rattle.check_enter.specs.Entering.{Enters}
use Rattle.check_enter.proofs.Rewritten.{Rewritten, keeps_counted, indexed_as, sizes_as, one_more}
use Rattle.check_enter.proofs.Sizes.{sizes_input}

-- the number in an input's body
input_number : (body : Bytes) (n : ℕ) → entry_of (bytes "IN") body ≡ some (fields.input n) → number_at body 0 ≡ n
unfolding entry_of and_then marks lookup same bytes ref pure
input_number body n h =
    let read = entry_whole _ (fields.input n) h in
    bind_inverse (ref loose.terms) (λ t. pure (fields.input t)) body read (λ t mid e g.
    tested_inverse 8 _ body e (λ v d. v ∙ (let q : t ≡ n = inner (got_value (fields.input t) (fields.input n) mid [] g) in q)))
  where
    inner : {a b : ℕ} → fields.input a ≡ fields.input b → a ≡ b
    inner e = cc

-- the entry of an input, by the number of its term
record ByNumber (f : TermFile) (x : Entry) (t : Tm) : Type 0 where
  number : ℕ
  is : x ≡ fields.input number
  below : number < length (terms f)
  names : term_at f number ≡ t

by_number : (f : TermFile) (x : Entry) (t : Tm) → named f x ≡ input t → InRange (earlier f) x → ByNumber f x t
unfolding named InRange earlier
by_number f (fields.type m rs) t e l = never cc
by_number f (fields.enum n ms) t e l = never cc
by_number f (fields.func id a r) t e l = never cc
by_number f (fields.term m rs) t e l = never cc
by_number f (fields.input n) t e l = record { number = n; is = refl; below = l; names = cc }

-- the number that is read from the body
number_read : (file : Bytes) (o n : ℕ) → entry_at file o ≡ some (fields.input n) → number_at (body_at file o) 0 ≡ n
unfolding entry_at mark_of
number_read file o n e =
    let mark_is : mark_at file o ≡ bytes "IN" = entry_mark (mark_at file o) (body_at file o) e in
    input_number (body_at file o) n (ap (λ (s : Bytes). entry_of s (body_at file o)) (sym mark_is) ∙ e)

pub input_entered : (v : RecordsMut) (o : ℕ) {n m : ℕ} {body : Bytes} {w : RecordsMut} → body ≡ body_at v.file.now o → n ≡ number_at body 0
    → Rewritten v w (store v.work.now v.sizes.rows input_term v.sizes.inputs n) → m ≡ min (v.sizes.inputs + 1) 4294967295
    → Enters input v (record { file = w.file; work = w.work; sizes = record { rows = w.sizes.rows; types = w.sizes.types; funs = w.sizes.funs; terms = w.sizes.terms; enums = w.sizes.enums; inputs = m } }) o (Ok tt)
unfolding rules broken
input_entered v o {n} {m} {body} {w} hb hn R more =
    record {
      kept = keeps_counted R _ refl;
      go = λ f C room t s below.
          let c = C.sizes_are in
          record {
            rule = refl;
            memory = record {
              indexed = indexed_as R (stored f C.indexed c room t s);
              sizes_are = sizes_input (sizes_as R c) t (one_more more (ap (λ (s : Sizes). s.inputs) R.becomes.sizes_are) (omega (arith, c.inputs_are, counts_together f, room, C.indexed.searchable.small)));
            };
          };
    }
  where
    k : ℕ
    k = v.sizes.rows

    stored : (f : TermFile) → Indexed v.file.now f v.work.now k → SizesOf f v.sizes → suc (length f) ≤ k → (t : Tm) → Stands v.file.now f (earlier f) o (input t)
        → Indexed v.file.now (f ++ (input t ∷ [])) (store v.work.now k input_term v.sizes.inputs n) k
    stored f I c room t s =
        let B = by_number f s.entry t s.names s.in_range in
        let reads : entry_at v.file.now o ≡ some (fields.input B.number) = s.reads ∙ ap some B.is in
        let n-is : n ≡ B.number = hn ∙ ap (λ (b : Bytes). number_at b 0) hb ∙ number_read v.file.now o B.number reads in
        let i = length (inputs f) in
        let row = store v.work.now k input_term i B.number in
        let K : Indexed v.file.now (f ++ (input t ∷ [])) row k = subst (λ (u : Tm). Indexed v.file.now (f ++ (input u ∷ [])) row k) B.names (indexed_input I room B.below) in
        rw (c.inputs_are, n-is) K
