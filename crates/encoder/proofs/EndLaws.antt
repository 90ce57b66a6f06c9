-- The end of a script: one that fits is given by its length, one that does not is refused, and encode's answer is that of the walk.
-- Assumes nothing.
use mathlib.Core.Path.{◌≡◌, refl, sym, ap, ◌∙◌}
use Prim.Native.Nat.{ℕ, ◌≤◌, ◌<◌}
use native.Mathlib.Numerals.{unary_clauses}
use native.Mathlib.Omega.{arith}
use mathlib.Core.List.{List, ◌++◌}
use lib.ListN.{length, take, replicate, length-take}
use lib.Seq.{take_at}
use Rattle.std.specs.Prelude.{Result, Ok, Err}
use Rattle.std.specs.Result.{result_unwrap_or}
use Rattle.script_spec.specs.Base.{Bytes, Answer, accepted, refused}
use Rattle.script_spec.specs.File.{TermFile, members, inputs, checked}
use Rattle.script_spec.specs.Command.{Command, script, fitting, left}
use Rattle.script_spec.specs.Walk.{Step, went, stopped, start, names, encode_inputs, assertions, first_equal, encoding, encoded}
use Rattle.script_spec.proofs.Demand.{encoded_faithful}
use Rattle.script_spec.proofs.Laws.{never}
use Rattle.refusal.specs.Numbers.{answered, number}
use Rattle.refusal.specs.declared.Refused.{Refused}
use Rattle.write_bytes.specs.Writing.{cleared, longest, Wrote, length_of}
use Rattle.write_bytes.proofs.Laws.{wrote_within, wrote_fits, wrote_past, fitting_within, fitting_past}
use Rattle.check_file.specs.Promise.{Fills}
use Rattle.encoder.specs.Promise.{encoded_as, Encodes}
use Rattle.encoder.specs.Ending.{Gives, walked}

-- ---- the end of a script

module _ {x y : Bytes} {at : ℕ} {s : Bytes} (small : length x ≤ longest) (W : Wrote (length x) x y at s) where
  -- a script that fits
  pub gives_length : at ≤ length x → Gives y (Ok at) (fitting s (length x))
  unfolding answered length_of
  gives_length l =
      let size : at ≡ length s = wrote_within W (omega (arith, l, small)) in
      let room : length s ≤ length x = omega (arith, size, l) in
      rw (fitting_within s (length x) room)
      (record {
        says = ap accepted size;
        starts = λ t e. let is : s ≡ t = cc in rw (sym is) (rw (wrote_fits W room (omega (arith, size, l, small))) (take_at s _ (length s) refl));
      })

  -- one that does not
  pub gives_no_room : {r : Refused} → length x < at → number r.refusal ≡ 20 → r.place ≡ 0 → r.position ≡ 0 → Gives y (Err r) (fitting s (length x))
  unfolding answered length_of
  gives_no_room l e p q = rw (fitting_past s (length x) (omega (arith, wrote_past W (omega (arith, l, small)), small))) (record { says = rw (e, p, q) refl; starts = λ t h. never cc })

-- a refusal
pub gives_refused : {y : Bytes} {r : Refused} {n p q : ℕ} → number r.refusal ≡ n → r.place ≡ p → r.position ≡ q → Gives y (Err r) (refused n p q)
unfolding answered length_of
gives_refused e p q = record { says = rw (e, p, q) refl; starts = λ t h. never cc }

-- ---- encode's answer

-- the answer of an accepted file
module _ (file : Bytes) (w : ℕ) (f : TermFile) (e : checked file w ≡ accepted f) (room : ℕ) where
  pub encoded_walked : encoded file w room ≡ walked f room (encode_inputs (members f) (inputs f) start)
  unfolding encoded encoding walked
  encoded_walked =
      ap (λ (a : Answer TermFile). elim a as (λ y. Answer Bytes) [ refused n p q ↦ refused n p q | accepted g ↦ elim (encoding g) as (λ y. Answer Bytes) [ refused n p q ↦ refused n p q | accepted cs ↦ fitting (script cs) room ] ]) e
      ∙ go (encode_inputs (members f) (inputs f) start)
    where
      go : (x : Step)
          → ◌≡◌ {A = Answer Bytes} (elim (elim x as (λ y. Answer (List Command)) [ stopped n t q ↦ refused n (first_equal f t) q | went s ↦ accepted (s.commands ++ assertions (members f) (names s) (inputs f)) ]) as (λ y. Answer Bytes) [ refused n p q ↦ refused n p q | accepted cs ↦ fitting (script cs) room ])
          (walked f room x)
      go (went s) = refl
      go (stopped n t q) = refl

-- the answer of a file that is refused
encoded_refused : (file : Bytes) (w n p q room : ℕ) → checked file w ≡ refused n p q → encoded file w room ≡ refused n p q
unfolding encoded
encoded_refused file w n p q room e = rw (e, encoded)

-- ---- the whole

-- a script that is given, with zeros past it
given_script : {y : Bytes} (w : Answer Bytes) {n : ℕ} → Gives y (Ok n) w → w ≡ accepted (take n y)
unfolding answered length_of
given_script (accepted s) {n} G = let size : n ≡ length s = (let e : accepted n ≡ accepted (length s) = G.says in cc) in ap accepted (sym (rw size (G.starts s refl)))
given_script (refused m p q) G = let e : accepted _ ≡ refused m p q = G.says in never cc

given_size : {y : Bytes} (w : Answer Bytes) {n : ℕ} → Gives y (Ok n) w → n ≤ length y
unfolding answered length_of
given_size (accepted s) {n} G =
    let size : n ≡ length s = (let e : accepted n ≡ accepted (length s) = G.says in cc) in
    omega (arith, size, simp length-take at (ap length (G.starts s refl)))
given_size (refused m p q) G = let e : accepted _ ≡ refused m p q = G.says in never cc

module _ (file : Bytes) (work work₁ : List ℕ) (x : Bytes) {work' : List ℕ} {y z : Bytes} (same : length y ≡ length x) (c : work' ≡ replicate (length work₁) 0) (kept : length work₁ ≡ length work) where
  -- zeros stand past a script
  encodes_script : {n : ℕ} → Gives y (Ok n) (encoded file (length work) (length x)) → z ≡ cleared y n → Encodes file work x work' z (Ok n)
  unfolding left cleared
  encodes_script {n} G e =
      let w = encoded file (length work) (length x) in
      let is : w ≡ accepted (take n y) = given_script w G in
      let whole : length (take n y) ≡ n = simp length-take (omega (arith, given_size w G)) in
      let starts : take n z ≡ take n y = rw e (take_at (take n y) _ n whole) in
      record {
        answer = G.says;
        script_is = rw (is, left, whole, e, same) refl;
        cleared = rw kept at c;
        faithful = λ f m d q. let n-is : n ≡ m = cc in rw (sym n-is) (encoded_faithful file (length work) (length x) f (take n z) d (rw starts is));
      }

  -- a refusal leaves zeros alone
  encodes_refusal : {r : Refused} → Gives y (Err r) (encoded file (length work) (length x)) → z ≡ cleared y 0 → Encodes file work x work' z (Err r)
  unfolding answered length_of left cleared
  encodes_refusal {r} G e = record { answer = G.says; script_is = zeros (encoded file (length work) (length x)) G.says; cleared = rw kept at c; faithful = λ f m d q. never cc }
    where
      zeros : (w : Answer Bytes) → encoded_as (Err r) ≡ length_of w → z ≡ left w (length x)
      zeros (accepted s) h = never cc
      zeros (refused n p q) h = rw (sym same) (simp unary_clauses at e)

  -- what follows the script is cleared, or all of the buffer
  pub encodes : (r : Result ℕ Refused) → Gives y r (encoded file (length work) (length x)) → z ≡ cleared y (result_unwrap_or r 0) → Encodes file work x work' z r
  encodes (Ok n) G e = encodes_script G e
  encodes (Err r) G e = encodes_refusal G e

-- a file that is refused before its script is written, when the memory has been cleared
pub encodes_refused : (file : Bytes) (work : List ℕ) (x : Bytes) {work' : List ℕ} {z : Bytes} {r : Refused} → Fills file work work' (Err r) → z ≡ cleared x 0 → Encodes file work x work' z (Err r)
unfolding answered
encodes_refused file work x {r = r} F e = encodes file work work x refl F.cleared refl (Err r) (rw (encoded_refused file (length work) (number r.refusal) r.place r.position (length x) F.refuses) (gives_refused refl refl refl)) e
