-- Steps of the walk: one that does nothing, one that stops, two one after the other, one that only writes, and one that only names.
-- Assumes nothing.
use Prim.Native.Nat.{ℕ, ◌<◌}
use mathlib.Core.Path.{◌≡◌, refl, sym, ap, ◌∙◌, subst}
use mathlib.Core.List.{List, [], ◌∷◌, ◌++◌, append-nil}
use lib.ListN.{length}
use Rattle.std.specs.Prelude.{Result, Ok, Err}
use Rattle.script_spec.specs.Base.{Bytes, collect}
use Rattle.script_spec.specs.File.{TermFile, terms, term_at}
use Rattle.script_spec.specs.Command.{Command, line, script}
use Rattle.script_spec.specs.Walk.{State, Step, went, stopped, ◌>>◌, write}
use Rattle.script_spec.specs.Walk as walk
use Rattle.script_spec.proofs.Laws.{collect_append}
use Rattle.refusal.specs.Numbers.{number}
use Rattle.write_bytes.specs.Writing.{ceiling}
use Rattle.write_bytes.specs.Writers.{Writes, Lends, past, within}
use Rattle.write_bytes.proofs.Rest.{lent_size}
use Rattle.write_bytes.specs.declared.writer.Writer.{Writer}
use Rattle.write_bytes.proofs.Laws.{length_laid}
use Rattle.index.specs.declared.Sizes.{Sizes}
use Rattle.index.proofs.Held.{stays_same, stays_then}
use Rattle.walk_names.specs.Naming.{Kept}
use Rattle.walk_names.specs.Script.{Continues}
use Rattle.walk_names.specs.Progress.{memory, rows, Indexed, Went, StoppedAt, Holds, Remains, Advances}
use Rattle.walk_names.specs.declared.walk.Walk.{Walk}
use Rattle.walk_names.specs.declared.walk.Stopped.{Stopped}
use Rattle.walk_names.proofs.Names.{kept_refl, kept_trans, index_kept, numbers_write}
use Rattle.walk_names.proofs.Steps.{then_went, then_stopped}

-- ---- the script

-- one command
pub script_one : (c : Command) → line c ≡ script (c ∷ [])
unfolding script collect
script_one c = sym (append-nil (line c))

-- commands after commands
pub script_append : (cs ds : List Command) → script (cs ++ ds) ≡ script cs ++ script ds
unfolding script
script_append cs ds = collect_append line cs ds

-- ---- what remains

pub continues_refl : {v : Writer} → Continues v v
continues_refl = record { same = refl; limit_is = refl; size = refl }

infixr 5 ◌further◌
pub ◌further◌ : {u v w : Writer} → Continues u v → Continues v w → Continues u w
a further b = record { same = b.same ∙ a.same; limit_is = b.limit_is ∙ a.limit_is; size = b.size ∙ a.size }

-- a text that is written
pub continues : {v w : Writer} {s : Bytes} → Writes v w s → Continues v w
continues a = record { same = a.same; limit_is = a.limit_is; size = a.size }

-- a line in the rest of it
pub continues_lent : {v w : Writer} {P : Writer → Writer → Type 0} → Lends P v w → Continues v w
continues_lent {v} (past far e) = subst (λ (w : Writer). Continues v w) (sym e) continues_refl
continues_lent (within fits L) = record { same = L.same; limit_is = L.limit_is; size = lent_size L }

pub remains_refl : {v : Walk} → Remains v v
remains_refl {v} =
    record {
      records_lent = refl;
      records = stays_same v.records.now;
      script_lent = refl;
      script = continues_refl;
      kept = kept_refl (memory v) (rows v);
    }

pub remains_trans : {u v w : Walk} → Remains u v → Remains v w → Remains u w
remains_trans {u} {v} {w} p q =
    record {
      records_lent = q.records_lent ∙ p.records_lent;
      records = stays_then p.records q.records;
      script_lent = q.script_lent ∙ p.script_lent;
      script = p.script further q.script;
      kept = kept_trans p.kept (subst (λ (k : Sizes). Kept (memory v) (memory w) k.rows) p.records.sizes_are q.kept);
    }

-- so does the index
pub indexed_remains : {f : TermFile} {v w : Walk} → Remains v w → Indexed f v → Indexed f w
indexed_remains r I = let s = r.records in rw (s.file_is, s.sizes_are) (index_kept r.kept I)

-- ---- steps

module _ {ready : TermFile → State → Type 0} {step : TermFile → walk.Walk} {v : Walk} where
  -- the walk goes on with nothing done
  pub advances_passed : ((f : TermFile) (limit : ℕ) (o : Bytes) (S : State) → Indexed f v → ready f S → Went f limit o v S → step f S ≡ went S) → Advances ready step v v (Ok tt)
  advances_passed h = record { remains = remains_refl; go = λ f limit o S I r W. rw (h f limit o S I r W) W }

  -- the walk stops at a term
  pub advances_stopped : (e : Stopped)
      → ((f : TermFile) (limit : ℕ) (o : Bytes) (S : State) → Indexed f v → ready f S → Went f limit o v S → (e.term < length (terms f)) × (step f S ≡ stopped (number e.refusal) (term_at f e.term) e.position))
      → Advances ready step v v (Err e)
  advances_stopped e h = record { remains = remains_refl; go = λ f limit o S I r W. let g = h f limit o S I r W in rw g.1 (record { refused_is = refl; term_below = g.0; term_is = refl; position_is = refl; size = ap length W.wrote.holds ∙ length_laid (ceiling v.script.now.limit) o (script S.commands) }) }

  -- a step in other words, for what is ready for it
  pub advances_by : {ready' : TermFile → State → Type 0} {step' : TermFile → walk.Walk} {w : Walk} {r : Result (Unit {0}) Stopped}
      → ((f : TermFile) (S : State) → Indexed f v → ready' f S → ready f S × (step' f S ≡ step f S))
      → Advances ready step v w r → Advances ready' step' v w r
  advances_by h A = record { remains = A.remains; go = λ f limit o S I r W. let g = h f S I r in rw g.1 (A.go f limit o S I g.0 W) }

-- what was reached after a step that went
pub went_on : {f : TermFile} {limit : ℕ} {o : Bytes} {w : Walk} {P : Type 0} (x : Step) → Holds f limit o w (Ok tt) x → ((S : State) → x ≡ went S → Went f limit o w S → P) → P
went_on (went S) H next = next S refl H
went_on (stopped n t q) H next = absurd H

-- after one that stopped
stayed : {f : TermFile} {limit : ℕ} {o : Bytes} {w : Walk} {e : Stopped} (x : Step) → Holds f limit o w (Err e) x → {P : Type 0} → ((n : ℕ) → (t : _) → (q : ℕ) → x ≡ stopped n t q → StoppedAt f limit o w e n t q → P) → P
stayed (went S) H next = absurd H
stayed (stopped n t q) H next = next n t q refl H

module _ {ready : TermFile → State → Type 0} {u v : Walk} where
  -- two steps in a row
  pub advances_then : {ready' : TermFile → State → Type 0} (step step' : TermFile → walk.Walk) {w : Walk} {r : Result (Unit {0}) Stopped} → Advances ready step u v (Ok tt) → Advances ready' step' v w r
      → ((f : TermFile) (S S' : State) → Indexed f u → ready f S → step f S ≡ went S' → ready' f S')
      → Advances ready (λ f. ◌>>◌ (step f) (step' f)) u w r
  advances_then step step' A B h =
      record {
        remains = remains_trans A.remains B.remains;
        go = λ f limit o S I a W.
            went_on (step f S) (A.go f limit o S I a W) (λ S' e W'.
            rw (then_went (step f) (step' f) S S' e) (B.go f limit o S' (indexed_remains A.remains I) (h f S S' I a e) W'));
      }

  -- a step that stopped, and nothing after it
  pub advances_stays : (step step' : TermFile → walk.Walk) {e : Stopped} → Advances ready step u v (Err e) → Advances ready (λ f. ◌>>◌ (step f) (step' f)) u v (Err e)
  advances_stays step step' A =
      record {
        remains = A.remains;
        go = λ f limit o S I a W. stayed (step f S) (A.go f limit o S I a W) (λ n t q e H. rw (then_stopped (step f) (step' f) S n t q e) H);
      }

-- ---- writing

-- a walk whose script is another
abbrev pub rewritten : Walk → Writer → Walk
rewritten v x = record { records = v.records; script = record { ref_ptr = v.script.ref_ptr; ghost_name = v.script.ghost_name; now = x }; types = v.types; funs = v.funs; terms = v.terms }

module _ {v : Walk} {x : Writer} where
  -- only its script has gone on
  pub remains_writes : Continues v.script.now x → Remains v (rewritten v x)
  remains_writes c =
      record {
        records_lent = refl;
        records = stays_same v.records.now;
        script_lent = refl;
        script = c;
        kept = kept_refl (memory v) (rows v);
      }

  -- commands that are written
  pub went_writes : {f : TermFile} {limit : ℕ} {o : Bytes} {S : State} (cs : List Command) → Went f limit o v S → Writes v.script.now x (script cs) → Went f limit o (rewritten v x) (write cs S)
  unfolding write
  went_writes {f} {limit} {o} {S} cs W A =
      record {
        numbers = numbers_write cs W.numbers;
        types_are = W.types_are;
        funs_are = W.funs_are;
        terms_are = W.terms_are;
        limit_is = A.limit_is ∙ W.limit_is;
        wrote = rw (A.limit_is, script_append S.commands cs) (A.go o (script S.commands) W.wrote);
      }

  -- a step that only writes
  pub advances_writes : {ready : TermFile → State → Type 0} {step : TermFile → walk.Walk} (cs : TermFile → State → List Command) → Continues v.script.now x
      → ((f : TermFile) (limit : ℕ) (o : Bytes) (S : State) → Indexed f v → ready f S → Went f limit o v S → Writes v.script.now x (script (cs f S)) × (step f S ≡ went (write (cs f S) S)))
      → Advances ready step v (rewritten v x) (Ok tt)
  advances_writes cs c h = record { remains = remains_writes c; go = λ f limit o S I r W. let g = h f limit o S I r W in rw g.1 (went_writes (cs f S) W g.0) }
