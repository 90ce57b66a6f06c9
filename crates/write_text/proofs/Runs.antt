-- Laws of runs: how a scan extends one, and what is written of a text up to the end of one.
-- Assumes nothing.
use mathlib.Core.Path.{◌≡◌, refl, sym, ap, ◌∙◌}
use mathlib.Core.Bool.{Bool, true, false, not, ◌||◌}
use mathlib.Core.List.{List, [], ◌∷◌, ◌++◌}
use Prim.Native.Nat.{ℕ, zero, suc, ◌+◌, ◌-◌, ◌≤◌, ◌<◌}
use native.Mathlib.Numerals.{add-one}
use native.Mathlib.Omega.{arith}
use lib.Dec.{T, eqb}
use borrow.Author.Tests.{eqb-false, not-false}
use lib.ListN.{length, take, drop, get_or, length-drop, take-append-drop, drop_of_length-le}
use lib.Seq.{take-suc, take_all, drop-drop, drop-cons}
use Rattle.std.specs.Prelude.{Option, None, Some}
use Rattle.std.specs.List.{AllWithin, HoldsAt}
use Rattle.std.specs.Option.{MatchOption, unwrap_or}
use Rattle.script_spec.specs.Base.{Bytes, between, all, collect}
use Rattle.script_spec.specs.Text.{literal, escaped, is_control, space_if, blanked}
use Rattle.script_spec.proofs.Laws.{all_append, and_parts, is_false, or_false}
use Rattle.write_bytes.specs.declared.writer.Writer.{Writer}
use Rattle.write_bytes.specs.Writers.{Writes}
use Rattle.write_bytes.proofs.Loop.{Along, along_step}
use Rattle.read_utf8.specs.declared.CodePoints.{CodePoints}
use Rattle.read_utf8.specs.Decoding.{points}
use Rattle.read_utf8.proofs.Laws.{points_ascii, PointAt}
use Rattle.write_text.specs.declared.Quotes.{Quotes}
use Rattle.write_text.specs.declared.Quotes.TheVariants.{Literal, Debug}
use Rattle.write_text.specs.declared.Place.TheVariants.{Comment}
use Rattle.write_text.specs.declared.Place.TheVariants as place
use Rattle.write_text.specs.Written.{spelling, quoted, stops, Passed}
use Rattle.write_text.proofs.Laws.{printable_small, printable_large, shown_plain, escape_shown, debug_shown}

keeps_one : (stop : ℕ → Bool) (b : ℕ) → stop b ≡ false → T (all (λ c. not (stop c)) (b ∷ []))
unfolding all
keeps_one stop b h = rw h tt

module _ {stop : ℕ → Bool} {s : Bytes} where
  passed_none : Passed stop s 0
  unfolding all
  passed_none = record { inside = omega arith; keeps = tt }

  passed_more : {i : ℕ} → i < length s → stop (get_or s i 0) ≡ false → Passed stop s i → Passed stop s (suc i)
  passed_more {i} h k p = record {
    inside = omega arith;
    keeps = rw (take-suc s i 0 h) (all_append (λ c. not (stop c)) (take i s) (get_or s i 0 ∷ []) p.keeps (keeps_one stop (get_or s i 0) k));
  }

  -- as far as each byte is no stop
  passed_until : (n : ℕ) → n ≤ length s → AllWithin (λ b. stop b ≡ false) s 0 n → Passed stop s n
  passed_until zero h k = passed_none
  passed_until (suc n) h k = passed_more (omega arith) (k n 0 (omega arith) (omega arith)) (passed_until n (omega arith) (λ i d l m. k i d l (omega arith)))

  -- up to the first stop, as an iterator's `position` finds it
  pub passed_first : (r : Option ℕ) {n : ℕ} → n ≡ unwrap_or r (length s)
      → MatchOption r (AllWithin (λ b. stop b ≡ false) s 0 (length s)) (λ i. (i < length s) × HoldsAt (λ b. stop b ≡ true) s i × AllWithin (λ b. stop b ≡ false) s 0 i) → Passed stop s n
  passed_first None e k = rw e (passed_until (length s) (omega arith) k)
  passed_first (Some i) e k = rw e (passed_until i (omega (arith, k.0)) k.2)

-- the part of a text from a place on, as it is lent
lent : (s : Bytes) (at : ℕ) → take (length s - at) (drop at s) ≡ drop at s
lent s at = take_all (length s - at) (drop at s) (simp length-drop (omega arith))

-- it is its run and the rest
run_split : (s : Bytes) (at n : ℕ) → drop at s ≡ take n (drop at s) ++ drop (at + n) s
run_split s at n = sym (take-append-drop n (drop at s)) ∙ (rw drop-drop)

-- ---- quoted texts

-- a byte that is no stop is printable, and neither a quote nor a backslash
plain_parts : (b : ℕ) → stops place.Quotes b ≡ false → (b ≡ 34 → ⊥) × (b ≡ 92 → ⊥) × (between 32 126 b ≡ true)
unfolding stops
plain_parts b h =
    let p = or_false (eqb b 34) (eqb b 92 || not (between 32 126 b)) h in
    let q = or_false (eqb b 92) (not (between 32 126 b)) p.1 in
    (eqb-false b 34 p.0, eqb-false b 92 q.0, not-false (between 32 126 b) q.1)

spelling_plain : (quotes : Quotes) (b : ℕ) → stops place.Quotes b ≡ false → ◌≡◌ {A = Bytes} (b ∷ []) (spelling quotes b)
unfolding spelling
spelling_plain Debug b h =
    let p = plain_parts b h in
    let l : 32 ≤ b = printable_large b p.2 in
    shown_plain b p.2 ∙ debug_shown b p.0 p.1 (λ e. omega arith) (λ e. omega arith) (λ e. omega arith) (λ e. omega arith)
spelling_plain Literal b h = let p = plain_parts b h in shown_plain b p.2 ∙ escape_shown b p.0 p.1

-- what is written of the code points of a run and of what follows it
points_run : (quotes : Quotes) (r s : Bytes) → T (all (λ b. not (stops place.Quotes b)) r) → collect (spelling quotes) (points (r ++ s)) ≡ r ++ collect (spelling quotes) (points s)
unfolding all collect
points_run quotes [] s h = refl
points_run quotes (b ∷ r) s h =
    let q = and_parts (not (stops place.Quotes b)) (all (λ c. not (stops place.Quotes c)) r) h in
    let e : stops place.Quotes b ≡ false = is_false (stops place.Quotes b) q.0 in
    let l : b ≤ 126 = printable_small b (plain_parts b e).2 in
    rw (points_ascii b (r ++ s) (omega arith), ← spelling_plain quotes b e) (ap (λ (t : Bytes). b ∷ t) (points_run quotes r s q.1))

points_passed : (s : Bytes) (at : ℕ) {n : ℕ} (quotes : Quotes) → Passed (stops place.Quotes) (take (length s - at) (drop at s)) n
    → collect (spelling quotes) (points (drop at s)) ≡ take n (take (length s - at) (drop at s)) ++ collect (spelling quotes) (points (drop (at + n) s))
points_passed s at {n} quotes p =
    let run = rw (lent s at) at p in
    rw (lent s at) (ap (λ (t : Bytes). collect (spelling quotes) (points t)) (run_split s at n) ∙ points_run quotes (take n (drop at s)) (drop (at + n) s) run.keeps)

-- a run of the rest is written
pub points_on : {v w x : Writer} (quotes : Quotes) (c : CodePoints) {n : ℕ} {whole : Bytes} → Along v w (collect (spelling quotes) (points (drop c.at c.text.now))) whole
    → Passed (stops place.Quotes) (take (length c.text.now - c.at) (drop c.at c.text.now)) n → Writes w x (take n (take (length c.text.now - c.at) (drop c.at c.text.now)))
    → Along v x (collect (spelling quotes) (points (drop (c.at + n) c.text.now))) whole
points_on quotes c l p f = along_step l (points_passed c.text.now c.at quotes p) f

pub points_next : {v : ℕ} {c d : CodePoints} (quotes : Quotes) → PointAt c d v
    → collect (spelling quotes) (points (drop c.at c.text.now)) ≡ spelling quotes v ++ collect (spelling quotes) (points (drop d.at d.text.now))
unfolding collect
points_next quotes p = rw p.value

pub points_none : (quotes : Quotes) (cs : List ℕ) → cs ≡ [] → collect (spelling quotes) cs ≡ []
unfolding collect
points_none quotes cs h = rw h

pub quoted_literal : (cs : List ℕ) → quoted Literal cs ≡ literal cs
unfolding quoted spelling literal escaped
quoted_literal cs = refl

-- ---- texts with spaces for control characters

blanked_run : (r s : Bytes) → T (all (λ b. not (stops Comment b)) r) → blanked (r ++ s) ≡ r ++ blanked s
unfolding all blanked stops space_if
blanked_run [] s h = refl
blanked_run (b ∷ r) s h =
    let q = and_parts (not (stops Comment b)) (all (λ c. not (stops Comment c)) r) h in
    rw (is_false (stops Comment b) q.0) (ap (λ (t : Bytes). b ∷ t) (blanked_run r s q.1))

blanked_passed : (s : Bytes) (at : ℕ) {n : ℕ} → Passed (stops Comment) (take (length s - at) (drop at s)) n → blanked (drop at s) ≡ take n (take (length s - at) (drop at s)) ++ blanked (drop (at + n) s)
blanked_passed s at {n} p =
    let run = rw (lent s at) at p in
    rw (lent s at) (ap blanked (run_split s at n) ∙ blanked_run (take n (drop at s)) (drop (at + n) s) run.keeps)

-- a run of the rest is written
pub blanked_on : {v w x : Writer} (s : Bytes) (from : ℕ) {n : ℕ} {whole : Bytes} → Along v w (blanked (drop from s)) whole → Passed (stops Comment) (take (length s - from) (drop from s)) n
    → Writes w x (take n (take (length s - from) (drop from s))) → Along v x (blanked (drop (from + n) s)) whole
blanked_on s from l p f = along_step l (blanked_passed s from p) f

pub blanked_byte : (s : Bytes) (to : ℕ) {b : ℕ} → b ≡ space_if (is_control (get_or s to 0)) (get_or s to 0) → to < length s → blanked (drop to s) ≡ (b ∷ []) ++ blanked (drop (to + 1) s)
unfolding blanked
blanked_byte s to e h = rw (drop-cons s to 0 h, add-one, e)

pub blanked_end : (s : Bytes) (to : ℕ) → length s ≤ to → blanked (drop to s) ≡ []
unfolding blanked
blanked_end s to h = rw (drop_of_length-le s h)
