-- The assertions of the inputs, one after the other: those of the first of them are written.
-- Assumes nothing.
use mathlib.Core.Path.{◌≡◌, refl, sym, ap, ◌∙◌}
use mathlib.Core.Bool.{Bool, true}
use Prim.Native.Nat.{ℕ, ◌+◌, ◌<◌, ◌≤◌}
use native.Mathlib.Omega.{arith}
use mathlib.Core.List.{List, [], ◌∷◌, ◌++◌, append-nil, append_assoc}
use lib.Dec.{ltb}
use lib.ListN.{take, drop, take-append-drop}
use lib.Seq.{take_all}
use Rattle.script_spec.specs.Base.{Bytes, collect}
use Rattle.script_spec.specs.Tree.{Tm, Enums}
use Rattle.script_spec.specs.File.{TermFile, members, inputs, term_at}
use Rattle.script_spec.specs.Command.{line, script, assert_that}
use Rattle.script_spec.specs.Spelling.{Names, atom}
use Rattle.script_spec.specs.Walk.{State, names, assertions}
use Rattle.write_bytes.specs.Writing.{ceiling}
use Rattle.write_bytes.specs.Writers.{Writes}
use Rattle.write_bytes.specs.declared.writer.Writer.{Writer}
use Rattle.write_bytes.proofs.Laws.{◌then◌, says, nothing, stops_past}
use Rattle.index.specs.Cells.{cell, input_term}
use Rattle.index.specs.Meaning.{input_at}
use Rattle.index.specs.declared.Records.{Records}
use Rattle.walk_names.specs.Naming.{IndexOf, NumbersOf}
use Rattle.walk_names.specs.Script.{Continues}
use Rattle.walk_names.proofs.Advancing.{continues_refl, ◌further◌}
use Rattle.write_terms.specs.Lines.{SpellsAssertion}
use Rattle.encoder.specs.Inputs.{SpellsAssertions}
use Rattle.encoder.proofs.InputLaws.{inputs_more}

-- ---- inputs one after the other

-- inputs in two parts
assertions_append : (e : Enums) (ν : Names) (ts us : List Tm) → script (assertions e ν (ts ++ us)) ≡ script (assertions e ν ts) ++ script (assertions e ν us)
unfolding assertions script collect
assertions_append e ν [] us = refl
assertions_append e ν (t ∷ ts) us =
    ap (λ (s : Bytes). line (assert_that (atom e ν t)) ++ s) (assertions_append e ν ts us)
    ∙ sym (append_assoc (line (assert_that (atom e ν t))) (script (assertions e ν ts)) (script (assertions e ν us)))

assertions_one : (e : Enums) (ν : Names) (t : Tm) → script (assertions e ν (t ∷ [])) ≡ line (assert_that (atom e ν t))
unfolding assertions script collect
assertions_one e ν t = append-nil (line (assert_that (atom e ν t)))

-- ---- all inputs

module _ (c : Records) where
  -- the loop's invariant: the assertions of the first inputs are written
  pub record Asserting (v : Writer) (i : ℕ) (w : Writer) : Type 0 where
    pub same : Continues v w
    pub go : (f : TermFile) (S : State) → IndexOf f c → NumbersOf f c S → Writes v w (script (assertions (members f) (names S) (take i (inputs f))))

  pub asserting_start : (v : Writer) → Asserting v 0 v
  unfolding assertions script collect
  asserting_start v = record { same = continues_refl; go = λ f S I N. nothing }

  pub asserting_on : {v w x : Writer} {i n : ℕ} → Asserting v i w → i < c.sizes.inputs → n ≡ cell c.work.now c.sizes.rows input_term i → SpellsAssertion c n w x → Asserting v (i + 1) x
  asserting_on {i = i} {n = n} A l e W =
      record {
        same = A.same further W.same;
        go = λ f S I N.
            let count = I.sizes_are.inputs_are in
            let row = I.rows.input_row i (omega arith) in
            let ν = names S in
            let term_is : term_at f n ≡ input_at f i = ap (term_at f) e ∙ row.is in
            let written : script (assertions (members f) ν (take i (inputs f))) ++ line (assert_that (atom (members f) ν (term_at f n))) ≡ script (assertions (members f) ν (take (i + 1) (inputs f)))
            = ap (λ (t : Tm). script (assertions (members f) ν (take i (inputs f))) ++ line (assert_that (atom (members f) ν t))) term_is
            ∙ ap (λ (b : Bytes). script (assertions (members f) ν (take i (inputs f))) ++ b) (sym (assertions_one (members f) ν (input_at f i)))
            ∙ sym (assertions_append (members f) ν (take i (inputs f)) (input_at f i ∷ []))
            ∙ ap (λ (ts : List Tm). script (assertions (members f) ν ts)) (sym (inputs_more f i (omega arith))) in
            says written (A.go f S I N then W.go f S I N (rw e row.below));
      }

  -- past the limit the other assertions change nothing
  pub asserting_past : {v w : Writer} {i : ℕ} {p : Bool} → Asserting v i w → p ≡ ltb (ceiling w.limit) w.at → p ≡ true → SpellsAssertions c v w
  asserting_past {i = i} A e h = record {
    same = A.same;
    go = λ f S I N.
        let whole : script (assertions (members f) (names S) (take i (inputs f))) ++ script (assertions (members f) (names S) (drop i (inputs f))) ≡ script (assertions (members f) (names S) (inputs f))
        = sym (assertions_append (members f) (names S) (take i (inputs f)) (drop i (inputs f))) ∙ ap (λ (ts : List Tm). script (assertions (members f) (names S) ts)) (take-append-drop i (inputs f)) in
        says whole (A.go f S I N then stops_past e h);
  }

  pub asserting_end : {v w : Writer} {i : ℕ} → Asserting v i w → c.sizes.inputs ≤ i → SpellsAssertions c v w
  asserting_end {i = i} A l = record {
    same = A.same;
    go = λ f S I N.
        let all : take i (inputs f) ≡ inputs f = take_all i (inputs f) (omega (arith, I.sizes_are.inputs_are)) in
        says (ap (λ (ts : List Tm). script (assertions (members f) (names S) ts)) all) (A.go f S I N);
  }
