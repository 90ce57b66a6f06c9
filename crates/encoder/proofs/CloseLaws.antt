-- Encode from its parts: the end of the walk, the script of an accepted file, and the whole.
-- Assumes nothing.
use mathlib.Core.Path.{◌≡◌, refl, sym, ap, ◌∙◌}
use Prim.Native.Nat.{ℕ, ◌<◌, ◌≤◌}
use mathlib.Core.List.{List}
use lib.ListN.{length}
use Rattle.std.specs.Prelude.{Result, Ok, Err}
use Rattle.script_spec.specs.Base.{Bytes}
use Rattle.script_spec.specs.File.{TermFile, members, inputs, terms, term_at}
use Rattle.script_spec.specs.Command.{script}
use Rattle.script_spec.specs.Walk.{Step, went, stopped, start, names, encode_inputs, assertions, first_equal, encoded}
use Rattle.script_spec.proofs.Classes.{eq_tm_first_equal}
use Rattle.refusal.specs.Numbers.{number, answered}
use Rattle.refusal.specs.declared.Refused.{Refused}
use Rattle.write_bytes.specs.Writing.{longest, Wrote}
use Rattle.write_bytes.specs.Writers.{Writes}
use Rattle.write_bytes.specs.declared.writer.Writer.{Writer}
use Rattle.write_bytes.proofs.Laws.{from_start}
use Rattle.index.specs.Cells.{cell, term_first, term_place}
use Rattle.index.specs.First.{first_term}
use Rattle.index.specs.Meaning.{Unnamed}
use Rattle.index.specs.declared.Records.{Records}
use Rattle.index.specs.Held.{Stays}
use Rattle.index.proofs.Firsts.{first_terms, first_below, first_first}
use Rattle.index.proofs.Places.{place_first_equal}
use Rattle.walk_names.specs.Naming.{IndexOf}
use Rattle.walk_names.specs.Progress.{Indexed, Went, Holds, Advances}
use Rattle.walk_names.specs.declared.walk.Stopped.{Stopped}
use Rattle.walk_names.specs.declared.walk.Walk.{Walk}
use Rattle.walk_names.proofs.Names.{numbers_start}
use Rattle.walk_names.proofs.Advancing.{script_append, remains_trans, remains_writes, indexed_remains, rewritten}
use Rattle.walk_queries.specs.Made.{MakesLists}
use Rattle.walk_queries.proofs.Ascending.{accepted_ascends}
use Rattle.check_file.specs.Promise.{Fills}
use Rattle.encoder.specs.Inputs.{any_ready, inputs_walk, SpellsAssertions}
use Rattle.encoder.specs.Ending.{RefusedAt, Ended, WritesRecords, Gives, walked, Checked, Starts, WritesScript}
use Rattle.encoder.proofs.EndLaws.{gives_length, gives_no_room, gives_refused, encoded_walked}

-- ---- the end of the walk

-- the place of the first equal term
pub refused_at : {c : Records} {e : Stopped} {r : Refused} {first : ℕ} → first ≡ cell c.work.now c.sizes.rows term_first e.term → r.refusal ≡ e.refusal → r.position ≡ e.position
    → r.place ≡ cell c.work.now c.sizes.rows term_place first → RefusedAt c e r
refused_at {c} {e} {r} {first} h k q p = record { refusal_is = k; position_is = q; go = on }
  where
    on : (f : TermFile) → IndexOf f c → e.term < length (terms f) → r.place ≡ first_equal f (term_at f e.term)
    on f I below =
        let F = first_terms f in
        let is : first ≡ first_term f e.term = h ∙ (I.rows.term_row e.term below).first in
        let first-below : first < length (terms f) = rw is (first_below F e.term below) in
        let own : first_term f first ≡ first = ap (first_term f) is ∙ first_first F e.term below ∙ sym is in
        p ∙ (I.rows.term_row first first-below).place_is ∙ place_first_equal f first first-below own
        ∙ rw is (eq_tm_first_equal f (term_at f (first_term f e.term)) (term_at f e.term) (F.names e.term below))

module _ {v w : Walk} where
  -- a refusal of the walk
  pub records_refused : {c : Records} {e : Stopped} {r : Refused} → c.file.now ≡ w.records.now.file.now → c.work.now ≡ w.records.now.work.now → c.sizes ≡ w.records.now.sizes
      → Advances any_ready inputs_walk v w (Err e) → RefusedAt c e r → WritesRecords v w (Err r)
  unfolding any_ready inputs_walk
  records_refused {c} {e} {r} hf hw hs A R = record { remains = A.remains; go = λ f limit o S I W. by f limit o (encode_inputs (members f) (inputs f) S) (indexed_remains A.remains I) (A.go f limit o S I tt W) }
    where
      by : (f : TermFile) (limit : ℕ) (o : Bytes) (x : Step) → Indexed f w → Holds f limit o w (Err e) x → Ended f limit o w (Err r) x
      by f limit o (went S) J H = absurd H
      by f limit o (stopped n t q) J H = (ap number R.refusal_is ∙ H.refused_is, R.go f (rw (hf, hw, hs) J) H.term_below ∙ ap (first_equal f) H.term_is, R.position_is ∙ H.position_is)

  -- the assertions after it
  pub records_written : {c : Records} {x : Writer} → c.file.now ≡ w.records.now.file.now → c.work.now ≡ w.records.now.work.now → c.sizes ≡ w.records.now.sizes
      → Advances any_ready inputs_walk v w (Ok tt) → SpellsAssertions c w.script.now x → WritesRecords v (rewritten w x) (Ok tt)
  unfolding any_ready inputs_walk
  records_written {c} {x} hf hw hs A P = record { remains = remains_trans A.remains (remains_writes P.same); go = λ f limit o S I W. by f limit o (encode_inputs (members f) (inputs f) S) (indexed_remains A.remains I) (A.go f limit o S I tt W) }
    where
      by : (f : TermFile) (limit : ℕ) (o : Bytes) (y : Step) → Indexed f w → Holds f limit o w (Ok tt) y → Ended f limit o (rewritten w x) (Ok tt) y
      by f limit o (went S) J H =
          let W = (P.go f S (rw (hf, hw, hs) J) (rw (hw, hs) H.numbers)).go o (script S.commands) H.wrote in
          rw (script_append S.commands (assertions (members f) (names S) (inputs f))) (rw H.limit_is at W)
      by f limit o (stopped n t q) J H = absurd H

-- ---- the script of an accepted file

-- the walk at its start
pub went_start : {f : TermFile} {v : Walk} {o : Bytes} → Unnamed v.records.now.file.now f v.records.now.work.now v.records.now.sizes.rows → v.types ≡ 0 → v.funs ≡ 0 → v.terms ≡ 0
    → Wrote v.script.now.limit o v.script.now.out.now v.script.now.at (script start.commands) → Went f v.script.now.limit o v start
unfolding start
went_start {f} {v} N a b c W =
    record {
      numbers = numbers_start f v.records.now.work.now v.records.now.sizes.rows N;
      types_are = a;
      funs_are = b;
      terms_are = c;
      limit_is = refl;
      wrote = W;
    }

-- the answer of a walk whose script was the whole buffer
pub ended_refused : (f : TermFile) (o y : Bytes) (w : Walk) (S : Step) {r : Refused} → Ended f (length o) o w (Err r) S → Gives y (Err r) (walked f (length o) S)
unfolding walked
ended_refused f o y w (went T) E = absurd E
ended_refused f o y w (stopped n t q) E = gives_refused E.0 E.1 E.2

pub ended_length : (f : TermFile) (o : Bytes) (w : Walk) (S : Step) → length o ≤ longest → Ended f (length o) o w (Ok tt) S → w.script.now.at ≤ length o
    → Gives w.script.now.out.now (Ok w.script.now.at) (walked f (length o) S)
unfolding walked
ended_length f o w (went T) small E l = gives_length small E l
ended_length f o w (stopped n t q) small E l = absurd E

pub ended_no_room : (f : TermFile) (o : Bytes) (w : Walk) (S : Step) {r : Refused} → length o ≤ longest → Ended f (length o) o w (Ok tt) S → length o < w.script.now.at
    → number r.refusal ≡ 20 → r.place ≡ 0 → r.position ≡ 0 → Gives w.script.now.out.now (Err r) (walked f (length o) S)
unfolding walked
ended_no_room f o w (went T) small E l e p q = gives_no_room small E l e p q
ended_no_room f o w (stopped n t k) small E l e p q = absurd E

-- the walk of an accepted file from its start to its end: v at its start, u with its lists and the start of its script, w at the end
module _ {v u w : Walk} {r : Result (Unit {0}) Refused} (held : Stays v.records.now u.records.now)
    (M : MakesLists v.records.now.file.now v.records.now.sizes v.records.now.work.now u.records.now.work.now) (lent : u.script.ghost_name ≡ v.script.ghost_name)
    (S : Writes v.script.now u.script.now (script start.commands)) (types : u.types ≡ v.types) (funs : u.funs ≡ v.funs) (terms : u.terms ≡ v.terms) (W : WritesRecords u w r) where
  end_reached : (f : TermFile) → Checked f v → Starts f v → Ended f (length v.script.now.out.now) v.script.now.out.now w r (encode_inputs (members f) (inputs f) start)
  end_reached f I B =
      let L = M.go f I B.ascends in
      let wrote : Wrote u.script.now.limit v.script.now.out.now u.script.now.out.now u.script.now.at (script start.commands) = rw S.limit_is (from_start B.at_start S) in
      let hf = held.file_is in
      let hs = held.sizes_are in
      let J : Indexed f u = rw (hf, hs) L.index in
      let N : Unnamed u.records.now.file.now f u.records.now.work.now u.records.now.sizes.rows = rw (hf, hs) (L.unnamed B.unnamed) in
      let limit_is : u.script.now.limit ≡ length v.script.now.out.now = S.limit_is ∙ B.limit_is in
      rw limit_is at (W.go f u.script.now.limit v.script.now.out.now start J (went_start N (types ∙ B.types_none) (funs ∙ B.funs_none) (terms ∙ B.terms_none) wrote))

  pub script_refused : {e : Refused} → r ≡ Err e → WritesScript v w (Err e)
  script_refused e =
      record {
        script_lent = W.remains.script_lent ∙ lent;
        same = W.remains.script.same ∙ S.same;
        go = λ f I B. ended_refused f v.script.now.out.now w.script.now.out.now w (encode_inputs (members f) (inputs f) start) (rw e at (end_reached f I B));
      }

  pub script_written : r ≡ Ok tt → length w.script.now.out.now ≤ longest → w.script.now.at ≤ length w.script.now.out.now → WritesScript v w (Ok w.script.now.at)
  script_written e small l =
      let size = W.remains.script.size ∙ S.size in
      record {
        script_lent = W.remains.script_lent ∙ lent;
        same = W.remains.script.same ∙ S.same;
        go = λ f I B. ended_length f v.script.now.out.now w (encode_inputs (members f) (inputs f) start) (rw size at small) (rw e at (end_reached f I B)) (rw size at l);
      }

  pub script_past : {e : Refused} → r ≡ Ok tt → length w.script.now.out.now ≤ longest → length w.script.now.out.now < w.script.now.at → number e.refusal ≡ 20 → e.place ≡ 0 → e.position ≡ 0 → WritesScript v w (Err e)
  script_past h small l e p q =
      let size = W.remains.script.size ∙ S.size in
      record {
        script_lent = W.remains.script_lent ∙ lent;
        same = W.remains.script.same ∙ S.same;
        go = λ f I B. ended_no_room f v.script.now.out.now w (encode_inputs (members f) (inputs f) start) (rw size at small) (rw h at (end_reached f I B)) (rw size at l) e p q;
      }

-- ---- the whole

-- the script of an accepted file after a walk from its start
pub script_given : {file : Bytes} (work : List ℕ) {work₁ : List ℕ} {x y : Bytes} {r : Result ℕ Refused} {v w : Walk} → WritesScript v w r → Fills file work work₁ (Ok v.records.now.sizes) → v.records.now.file.now ≡ file
    → v.records.now.work.now ≡ work₁ → v.types ≡ 0 → v.funs ≡ 0 → v.terms ≡ 0 → v.script.now.limit ≡ length x → v.script.now.at ≡ 0 → v.script.now.out.now ≡ x → y ≡ w.script.now.out.now
    → Gives y r (encoded file (length work) (length x))
unfolding answered
script_given {file} work {x = x} {v = v} W F hf hw a b c hl ha hx hy =
    let B : Starts F.records v =
    record {
      ascends = accepted_ascends file (length work) F.records F.accepts;
      unnamed = rw (hf, hw) F.unnamed;
      types_none = a;
      funs_none = b;
      terms_none = c;
      limit_is = hl ∙ ap length (sym hx);
      at_start = ha;
    } in
    rw (encoded_walked file (length work) F.records F.accepts (length x), hy) (rw hx at (W.go F.records (rw (hf, hw) F.index) B))
