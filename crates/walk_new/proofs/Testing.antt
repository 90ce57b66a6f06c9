-- Tests of a text: one that passes does nothing but note a string literal, another refuses.
-- Assumes nothing.
use Prim.Native.Nat.{ℕ}
use mathlib.Core.Path.{◌≡◌, refl, sym, ap, ◌∙◌}
use mathlib.Core.List.{List}
use mathlib.Core.Option.{none, some}
use Rattle.std.specs.Prelude.{Option as Optional, None, Some, Result, Ok, Err}
use Rattle.script_spec.specs.Base.{Bytes}
use Rattle.script_spec.specs.Utf8.{code_points}
use Rattle.script_spec.specs.Tree.{Tm, Forest, Mark, node, StringLit, Enums}
use Rattle.script_spec.specs.File.{TermFile, members, term_at}
use Rattle.script_spec.specs.Walk.{State, went, stopped, first_high, refuse_high, encode_new}
use Rattle.script_spec.proofs.Laws.{never}
use Rattle.refusal.specs.declared.Refusal.{Refusal}
use Rattle.refusal.specs.declared.Refusal.TheVariants as refusal
use Rattle.refusal.specs.Numbers.{number, option_of}
use Rattle.read_utf8.specs.Decoding.{points}
use Rattle.read_utf8.proofs.Laws.{utf8_points}
use Rattle.index.specs.Cells.{cell, store, note}
use Rattle.index.specs.Held.{Becomes}
use Rattle.index.specs.declared.RecordsMut.{RecordsMut}
use Rattle.walk_names.specs.Naming.{NoteSays}
use Rattle.walk_names.specs.Progress.{memory, rows, Advances}
use Rattle.walk_names.specs.declared.walk.Walk.{Walk}
use Rattle.walk_names.specs.declared.walk.Stopped.{Stopped}
use Rattle.walk_names.proofs.Advancing.{advances_passed, advances_stopped}
use Rattle.walk_names.proofs.Entering.{held, advances_noted}
use Rattle.walk_new.specs.Steps.{term_ready, LiteralAt, high_walk, new_walk, high_told}

-- ---- texts

-- a text that has no high code point, and one that has
not_high : (c : ℕ) (t : Tm) (cs : List ℕ) (S : State) → none ≡ first_high cs → refuse_high c t cs S ≡ went S
unfolding refuse_high
not_high c t cs S e = rw (sym e, refuse_high)

high_at : (c : ℕ) (t : Tm) (cs : List ℕ) (S : State) {q : ℕ} → some q ≡ first_high cs → refuse_high c t cs S ≡ stopped c t q
unfolding refuse_high
high_at c t cs S e = rw (sym e, refuse_high)

-- what an answer tells of the test
pub told_low : (o : Optional ℕ) (e : Refusal) (n : ℕ) {r : Result (Unit {0}) Stopped} → r ≡ high_told o e n → r ≡ Ok tt → o ≡ None
told_low None e n h q = refl
told_low (Some i) e n h q = never cc

pub told_high : (o : Optional ℕ) (e : Refusal) (n : ℕ) {s : Stopped} {r : Result (Unit {0}) Stopped} → r ≡ high_told o e n → r ≡ Err s → (i : ℕ) × (o ≡ Some i) × (s ≡ record { refusal = e; term = n; position = i })
told_high None e n h q = never cc
told_high (Some i) e n h q = (i, refl, cc)

-- the walk goes on by a test
pub advances_high : {v : Walk} (cs : List ℕ) (o : Optional ℕ) (e : Refusal) (n : ℕ) → option_of o ≡ first_high cs → Advances (term_ready n) (high_walk (number e) cs n) v v (high_told o e n)
unfolding high_walk term_ready
advances_high cs None e n h = advances_passed (λ f limit o S I r W. not_high (number e) (term_at f n) cs S h)
advances_high cs (Some i) e n h = advances_stopped _ (λ f limit o S I r W. (r, high_at (number e) (term_at f n) cs S h))

-- ---- string literals

-- the step of a string literal is the test of its text
literal_test : (n : ℕ) (s : Bytes) (f : TermFile) (S T : State) → LiteralAt n s f S → new_walk n f T ≡ refuse_high 24 (term_at f n) (points s) T
unfolding new_walk encode_new
literal_test n s f S T r = (rw r.is refl) ∙ ap (λ (l : List ℕ). refuse_high 24 (term_at f n) l T) (sym (utf8_points s r.utf8))

-- what a note says of one that has passed
note_of_literal : (e : Enums) (s : Bytes) (ts : Forest Mark) {m : ℕ} → first_high (code_points s) ≡ none → NoteSays e (node (StringLit s) ts) m
note_of_literal e s ts h = record { literal = λ s' ts' is. let same_text : s ≡ s' = cc in rw (← same_text) h; entity = λ ty id ts' is. never cc }

module _ {n : ℕ} {s : Bytes} {v : Walk} where
  -- one that has passed before
  pub literal_again : {m : ℕ} → m ≡ cell (memory v) (rows v) note n → (m ≡ 0 → ⊥) → Advances (LiteralAt n s) (new_walk n) v v (Ok tt)
  unfolding new_walk
  literal_again e h =
      advances_passed (λ f limit o S I r W.
      let low = (W.numbers.notes.says n r.below (λ q. h (e ∙ q))).literal s r.rest r.is in
      literal_test n s f S S r ∙ not_high 24 (term_at f n) (points s) S (sym low ∙ ap first_high (sym (utf8_points s r.utf8))))

  module _ (o : Optional ℕ) (e : option_of o ≡ first_high (points s)) where
    pub literal_stopped : {i : ℕ} → o ≡ Some i → Advances (LiteralAt n s) (new_walk n) v v (Err (record { refusal = refusal.HighString; term = n; position = i }))
    unfolding number
    literal_stopped h = advances_stopped _ (λ f limit p S I r W. (r.below, literal_test n s f S S r ∙ high_at 24 (term_at f n) (points s) S (sym (ap option_of h) ∙ e)))

    pub literal_passed : (m : ℕ) {x : RecordsMut} → o ≡ None → Becomes v.records.now x (store (memory v) (rows v) note n m) → Advances (LiteralAt n s) (new_walk n) v (held v x) (Ok tt)
    unfolding new_walk
    literal_passed m h B =
        let low : none ≡ first_high (points s) = sym (ap option_of h) ∙ e in
        advances_noted n m B (new_walk n) (advances_passed (λ f limit p S I r W. literal_test n s f S S r ∙ not_high 24 (term_at f n) (points s) S low))
        (λ f S I J r. (r.below, λ q. rw r.is (note_of_literal (members f) s r.rest (ap first_high (sym (utf8_points s r.utf8)) ∙ sym low))))
