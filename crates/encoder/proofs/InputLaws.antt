-- The walk over the inputs, one after the other: the first of them are encoded.
-- Assumes nothing.
use mathlib.Core.Path.{◌≡◌, refl, sym, ap, ◌∙◌}
use Prim.Native.Nat.{ℕ, ◌+◌, ◌<◌, ◌≤◌}
use native.Mathlib.Numerals.{add-one}
use native.Mathlib.Omega.{arith}
use mathlib.Core.List.{List, [], ◌∷◌, ◌++◌}
use lib.ListN.{length, take, drop, take-append-drop}
use lib.Seq.{take-suc, take_all}
use Rattle.std.specs.Prelude.{Result, Ok, Err}
use Rattle.script_spec.specs.Base.{Bytes}
use Rattle.script_spec.specs.Tree.{Tm, Enums}
use Rattle.script_spec.specs.File.{TermFile, members, inputs, term_at}
use Rattle.script_spec.specs.Walk.{State, Step, went, stopped, encode_term, encode_inputs, ◌>>◌}
use Rattle.index.specs.Cells.{cell, input_term}
use Rattle.index.specs.Meaning.{input_at}
use Rattle.walk_names.specs.Progress.{memory, rows, Indexed, Went, Holds, Remains, Advances}
use Rattle.walk_names.specs.declared.walk.Walk.{Walk}
use Rattle.walk_names.specs.declared.walk.Stopped.{Stopped}
use Rattle.walk_names.proofs.Advancing.{remains_refl, remains_trans, indexed_remains}
use Rattle.walk_new.specs.Steps.{term_ready}
use Rattle.walk_terms.specs.Terms.{term_walk}
use Rattle.encoder.specs.Inputs.{any_ready, inputs_walk}

-- ---- inputs one after the other

-- inputs in two parts
encode_append : (e : Enums) (ts us : List Tm) (S : State) → encode_inputs e (ts ++ us) S ≡ ◌>>◌ (encode_inputs e ts) (encode_inputs e us) S
unfolding encode_inputs ◌>>◌
encode_append e [] us S = refl
encode_append e (t ∷ ts) us S = go (λ s. encode_append e ts us s) (encode_term e t S)
  where
    go : ((s : State) → encode_inputs e (ts ++ us) s ≡ elim (encode_inputs e ts s) as (λ y. Step) [ went r ↦ encode_inputs e us r | stopped n u q ↦ stopped n u q ]) → (x : Step) → elim x as (λ y. Step) [ went s ↦ encode_inputs e (ts ++ us) s | stopped n u q ↦ stopped n u q ]
        ≡ elim (elim x as (λ y. Step) [ went s ↦ encode_inputs e ts s | stopped n u q ↦ stopped n u q ]) as (λ y. Step) [ went s ↦ encode_inputs e us s | stopped n u q ↦ stopped n u q ]
    go more (went s) = more s
    go more (stopped n u q) = refl

-- a step that stopped is not gone on with
append_stopped : (e : Enums) (ts us : List Tm) (S : State) {n q : ℕ} {t : Tm} → encode_inputs e ts S ≡ stopped n t q → encode_inputs e (ts ++ us) S ≡ stopped n t q
unfolding ◌>>◌
append_stopped e ts us S h = rw (encode_append e ts us S, ◌>>◌, h)

append_went : (e : Enums) (ts us : List Tm) (S : State) {S' : State} → encode_inputs e ts S ≡ went S' → encode_inputs e (ts ++ us) S ≡ encode_inputs e us S'
unfolding ◌>>◌
append_went e ts us S h = rw (encode_append e ts us S, ◌>>◌, h)

encode_one : (e : Enums) (t : Tm) (S : State) → encode_inputs e (t ∷ []) S ≡ encode_term e t S
unfolding encode_inputs ◌>>◌
encode_one e t S = go (encode_term e t S)
  where
    go : (x : Step) → elim x as (λ y. Step) [ went s ↦ went s | stopped n u q ↦ stopped n u q ] ≡ x
    go (went s) = refl
    go (stopped n u q) = refl

-- the first inputs with one more
pub inputs_more : (f : TermFile) (i : ℕ) → i < length (inputs f) → take (i + 1) (inputs f) ≡ take i (inputs f) ++ (input_at f i ∷ [])
unfolding input_at
inputs_more f i l = rw add-one (take-suc (inputs f) i _ l)

-- ---- the walk

-- what was reached after the first inputs
pub record Encoding (v : Walk) (i : ℕ) (w : Walk) (r : Result (Unit {0}) Stopped) : Type 0 where
  pub remains : Remains v w
  pub go : (f : TermFile) (limit : ℕ) (o : Bytes) (S : State) → Indexed f v → Went f limit o v S → Holds f limit o w r (encode_inputs (members f) (take i (inputs f)) S)

pub encoding_start : (v : Walk) → Encoding v 0 v (Ok tt)
unfolding encode_inputs
encoding_start v = record { remains = remains_refl; go = λ f limit o S I W. W }

module _ {v w : Walk} {i : ℕ} where
  -- one input more
  pub encoding_on : {n : ℕ} {x : Walk} {r : Result (Unit {0}) Stopped} → Encoding v i w (Ok tt) → i < v.records.now.sizes.inputs → n ≡ cell (memory w) (rows w) input_term i
      → Advances (term_ready n) (term_walk n) w x r → Encoding v (i + 1) x r
  unfolding term_ready term_walk
  encoding_on {n} {x} {r} E l e A = record { remains = remains_trans E.remains A.remains; go = on }
    where
      on : (f : TermFile) (limit : ℕ) (o : Bytes) (S : State) → Indexed f v → Went f limit o v S → Holds f limit o x r (encode_inputs (members f) (take (i + 1) (inputs f)) S)
      on f limit o S I W = by (encode_inputs (members f) (take i (inputs f)) S) refl (E.go f limit o S I W)
        where
          J : Indexed f w
          J = indexed_remains E.remains I

          more : take (i + 1) (inputs f) ≡ take i (inputs f) ++ (input_at f i ∷ [])
          more = inputs_more f i (omega (arith, I.sizes_are.inputs_are))

          by : (y : Step) → encode_inputs (members f) (take i (inputs f)) S ≡ y → Holds f limit o w (Ok tt) y → Holds f limit o x r (encode_inputs (members f) (take (i + 1) (inputs f)) S)
          by (went S') h H =
              let row = J.rows.input_row i (omega (arith, I.sizes_are.inputs_are)) in
              let walks : encode_inputs (members f) (take (i + 1) (inputs f)) S ≡ encode_term (members f) (term_at f n) S'
              = ap (λ (ts : List Tm). encode_inputs (members f) ts S) more ∙ append_went (members f) (take i (inputs f)) (input_at f i ∷ []) S h
              ∙ encode_one (members f) (input_at f i) S' ∙ ap (λ (t : Tm). encode_term (members f) t S') (sym (ap (term_at f) e ∙ row.is)) in
              rw walks (A.go f limit o S' J (rw e row.below) H)
          by (stopped m t q) h H = absurd H

  -- a refusal ends the walk over all of them
  pub encoding_stopped : {e : Stopped} → Encoding v i w (Err e) → i ≤ v.records.now.sizes.inputs → Advances any_ready inputs_walk v w (Err e)
  unfolding inputs_walk
  encoding_stopped {e} E l = record { remains = E.remains; go = λ f limit o S I a W. by f limit o S (encode_inputs (members f) (take i (inputs f)) S) refl (E.go f limit o S I W) }
    where
      by : (f : TermFile) (limit : ℕ) (o : Bytes) (S : State) (y : Step) → encode_inputs (members f) (take i (inputs f)) S ≡ y → Holds f limit o w (Err e) y → Holds f limit o w (Err e) (encode_inputs (members f) (inputs f) S)
      by f limit o S (went S') h H = absurd H
      by f limit o S (stopped m t q) h H =
          let all : encode_inputs (members f) (inputs f) S ≡ stopped m t q
          = ap (λ (ts : List Tm). encode_inputs (members f) ts S) (sym (take-append-drop i (inputs f))) ∙ append_stopped (members f) (take i (inputs f)) (drop i (inputs f)) S h in
          rw all H

  pub encoding_end : Encoding v i w (Ok tt) → v.records.now.sizes.inputs ≤ i → Advances any_ready inputs_walk v w (Ok tt)
  unfolding inputs_walk
  encoding_end E l = record {
    remains = E.remains;
    go = λ f limit o S I a W. rw (take_all i (inputs f) (omega (arith, I.sizes_are.inputs_are))) at (E.go f limit o S I W);
  }
